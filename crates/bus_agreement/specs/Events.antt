-- The events that rows are at a running member.
use Rattle.std.specs.Prelude.{◌≡◌, ℕ, List, Some}
use Rattle.can_frame.specs.declared.step.What.TheVariants.{Disc}
use Rattle.dsdl_codec.specs.declared.discovery.Discovery.{Discovery}
use Rattle.dsdl_codec.specs.Discovery.{discovery_of}
use Rattle.raft_model.specs.Lists.{In}
use Rattle.transfer_rx.specs.Reassembly.{Arrival}
use Rattle.transfer_tx.specs.Queue.{Queued}
use Rattle.alloc_spec.specs.Judging.{IsHarmless}
use Rattle.alloc_spec.specs.Step.{Event}
use Rattle.alloc_spec.specs.Step.Event.{Rx}
use Rattle.alloc_spec.specs.AllocatorState.{AllocatorState, members_of}
use Rattle.alloc_spec.specs.Transfers.{Offer}
use Rattle.bus_agreement.specs.Frames.{CameFrom}

-- a tick, or a frame of the bus that does the server no harm
pub record MayHappen (frames : List Queued) (t : AllocatorState) (event : Event) : Type 0 where
  pub came : (arrival : Arrival) → event ≡ Rx arrival → CameFrom frames arrival
  pub harmless : (arrival : Arrival) → event ≡ Rx arrival → IsHarmless t arrival

-- a Discovery lists members that the server knows
abbrev pub TellsMembers : AllocatorState → List Offer → Type 0
TellsMembers t offers = (offer : Offer) → In offer offers → offer.what ≡ Disc → (message : Discovery) →
    discovery_of offer.payload ≡ Some message
    → (peer : ℕ) → In peer message.known.items → In peer (members_of t)
