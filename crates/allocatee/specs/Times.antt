-- When a device asks, over all that happens at it, in the words of uavcan.protocol.dynamic_node_id.Allocation.
use Rattle.std.specs.Prelude.{◌≡◌, ◌⊎◌, ⊤, ℕ, ◌%◌, ◌<◌, ◌≤◌, Bool, true, false, nat_eq, List, [], ◌∷◌, ◌++◌, length, take, drop, Some}
use Rattle.dsdl_codec.specs.declared.allocation.Allocation.{Allocation}
use Rattle.dsdl_codec.specs.Allocation.{allocation_of}
use Rattle.can_frame.specs.Kinds.{is_anonymous}
use Rattle.transfer_rx.specs.Reassembly.{Arrival, Delivery, Gives}
use Rattle.transfer_tx.specs.Queue.{Queued}
use Rattle.allocatee.specs.Allocatee.{Device, Event, after_pop, answer_to, opening, step}
use Rattle.allocatee.specs.Allocatee.Event.{Rx}

-- ---- what happens

-- it takes a step, or its next frame goes out
pub data Happening : Type 0 where
  Steps : (number : ℕ) (event : Event) → Happening
  Sends : Happening

abbrev pub after_one : Device → Happening → Device
after_one d (Steps number event) = (step d number event).device
after_one d Sends = after_pop d

-- the device after all that happened; what happened last stands first
abbrev pub after_all : Device → List Happening → Device
after_all d [] = d
after_all d (last ∷ earlier) = after_one (after_all d earlier) last

-- the device at its opening
pub record Opening : Type 0 where
  pub uid : List ℕ
  pub preferred : ℕ
  pub now : ℕ
  pub word : ℕ

abbrev pub opened : Opening → Device
opened o = opening o.uid o.preferred o.now o.word

-- its moment: the greatest that it was given
abbrev pub clock : Device → ℕ
clock d = d.asking.moment

-- ---- what it takes

-- the event completes an Allocation: a request of some device, or an answer of an allocator
pub record TakesAllocation (d : Device) (event : Event) : Type 0 where
  pub arrival : Arrival
  pub word : ℕ
  pub comes : event ≡ Rx arrival word
  pub delivery : Delivery
  pub gives : answer_to d arrival ≡ Gives delivery
  pub message : Allocation
  pub reads : allocation_of delivery.payload ≡ Some message

-- it completes an answer with so many bytes of its unique ID, one at least and not all
pub record TakesAnswer (d : Device) (event : Event) (known : ℕ) : Type 0 where
  pub taken : TakesAllocation d event
  pub source : is_anonymous taken.delivery.ident.kind ≡ false
  pub some : 1 ≤ known
  pub part : known < length d.asking.uid
  pub bytes : taken.message.uid.items ≡ take known d.asking.uid

-- ---- what it asks

-- the frame has a part of a unique ID behind its first byte, whose lowest bit says whether that is the first part
pub record HasPart (first : Bool) (part : List ℕ) (frame : Queued) : Type 0 where
  pub head : ℕ
  pub tail : ℕ
  pub bytes : frame.bytes ≡ head ∷ part ++ tail ∷ []
  pub stage : nat_eq (head % 2) 1 ≡ first

-- the step puts such a frame behind those that wait
pub record Asks (first : Bool) (part : List ℕ) (d : Device) (number : ℕ) (event : Event) : Type 0 where
  pub frame : Queued
  pub behind : (step d number event).device.asking.queue ≡ d.asking.queue ++ frame ∷ []
  pub has : HasPart first part frame

abbrev pub AsksFirst : Device → ℕ → Event → Type 0
AsksFirst d number event = Asks true (take 6 d.asking.uid) d number event

-- the 6 bytes behind the known ones, or as many as are left
abbrev pub FollowsUp : ℕ → Device → ℕ → Event → Type 0
FollowsUp known d number event = Asks false (take 6 (drop known d.asking.uid)) d number event

-- ---- what was last

-- it completes no Allocation and offers no request
abbrev pub IsQuiet : Device → Happening → Type 0
IsQuiet d (Steps number event) = ((step d number event).sent ≡ []) × (TakesAllocation d event → ⊥)
IsQuiet d Sends = ⊤

-- a step at this moment takes an answer with so many bytes
abbrev pub IsAnswer : Device → Happening → ℕ → ℕ → Type 0
IsAnswer d (Steps number event) known moment =
    TakesAnswer d event known × (clock (step d number event).device ≡ moment)
IsAnswer d Sends known moment = ⊥

-- the last Allocation was such an answer, and nothing was offered since
abbrev pub WasAnswered : Device → List Happening → ℕ → ℕ → Type 0
WasAnswered d [] known moment = ⊥
WasAnswered d (last ∷ earlier) known moment = IsAnswer (after_all d earlier) last known moment
    ⊎ (IsQuiet (after_all d earlier) last × WasAnswered d earlier known moment)

-- ---- its request timer

-- it completes no Allocation, and offers nothing but a follow-up
abbrev pub LeavesTimer : Device → Happening → Type 0
LeavesTimer d (Steps number event) =
    (TakesAllocation d event → ⊥) × (((step d number event).sent ≡ []) ⊎ ((part : List ℕ) × Asks false part d number event))
LeavesTimer d Sends = ⊤

abbrev pub LeaveTimer : Device → List Happening → Type 0
LeaveTimer d [] = ⊤
LeaveTimer d (last ∷ earlier) = LeavesTimer (after_all d earlier) last × LeaveTimer d earlier
