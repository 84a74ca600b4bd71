-- The ranges that an allocator state keeps.
use Rattle.std.specs.Prelude.{◌≡◌, ⊤, ℕ, ◌<◌, ◌≤◌, ◌^◌, slice_index}
use Rattle.can_frame.specs.declared.identifier.Kind.{Kind}
use Rattle.can_frame.specs.declared.identifier.Kind.TheVariants.{Anonymous, Message as Broadcast, Request, Response}
use Rattle.can_frame.specs.Sizes.{most_members}
use Rattle.alloc_spec.specs.StepState.{StepState}
use Rattle.alloc_spec.specs.Step.{Event, step}
use Rattle.alloc_spec.specs.Step.Event.{Rx, Tick}
use Rattle.alloc_spec.specs.AllocatorState.{AllocatorState}
use Rattle.alloc_spec.specs.Transfers.{Ids, Offer, kind_of}

-- transfer IDs are below 32
pub record AreIds (ids : Ids) : Type 0 where
  pub alloc : ids.alloc < 32
  pub disc : ids.disc < 32
  pub stat : ids.stat < 32
  pub info : (node : ℕ) → slice_index ids.info node < 32
  pub vote : (node : ℕ) → slice_index ids.vote node < 32
  pub append : (node : ℕ) → slice_index ids.append node < 32

-- a cluster has at most five members
pub record IsSound (t : AllocatorState) : Type 0 where
  pub size : t.size ≤ most_members
  pub ids : AreIds t.ids

-- the frames of a bus have identifiers of 29 bits
abbrev pub IsOnTheBus : Event → Type 0
IsOnTheBus (Tick now word) = ⊤
IsOnTheBus (Rx arrival) = arrival.id < 2 ^ 29

-- a message goes to 0, a request or a response to a node
abbrev pub IsDestination : Kind → ℕ → Type 0
IsDestination Broadcast to = to ≡ 0
IsDestination Anonymous to = ⊥
IsDestination Request to = (1 ≤ to) × (to ≤ 127)
IsDestination Response to = (1 ≤ to) × (to ≤ 127)

pub record IsInRange (offer : Offer) : Type 0 where
  pub id : offer.id < 32
  pub to : IsDestination (kind_of offer.what) offer.to

-- of every step of a sound server, at an event of the bus
abbrev pub FromSound : (StepState → Type 0) → Type 0
FromSound Fact = (t : AllocatorState) (number : ℕ) (event : Event) → IsSound t → IsOnTheBus event →
    Fact (step t number event).step_state
