-- What a device does that hears its answers in time, and what its requests are on the bus.
use Rattle.std.specs.Prelude.{◌≡◌, ◌<◌, ◌≤◌, ◌++◌, ℕ, Bool, false, true, max, take, drop, length, List, [], ◌∷◌, None, Some}
use Rattle.can_frame.specs.declared.step.What.TheVariants.{Alloc}
use Rattle.can_frame.specs.Kinds.{is_anonymous}
use Rattle.dsdl_codec.specs.declared.allocation.Allocation.{Allocation}
use Rattle.dsdl_codec.specs.Allocation.{allocation_bytes, allocation_of}
use Rattle.transfer_rx.specs.Reassembly.{Arrival, Delivery, Gives}
use Rattle.transfer_tx.specs.Queue.{Queued, queued_frames}
use Rattle.allocatee.specs.Allocatee.{Device, Rx, StepResult, Tick, answer_to, step}
use Rattle.allocatee.specs.Asking.{due, follow_up_wait, has_passed, has_room, outgoing, request_bytes, timer_from}
use Rattle.allocatee.specs.declared.timer.FollowUp.{FollowUp}
use Rattle.service_steps.specs.Requests.{IsRequest}

-- the frame completes an answer of an allocator, with these fields
pub record HearsAnswer (d : Device) (arrival : Arrival) (message : Allocation) : Type 0 where
  pub delivery : Delivery
  pub gives : answer_to d arrival ≡ Gives delivery
  pub known : is_anonymous delivery.ident.kind ≡ false
  pub reads : allocation_of delivery.payload ≡ Some message

-- the answer to its whole unique ID gives it the node ID
abbrev pub HoldsWhatIsGiven : Type 0
HoldsWhatIsGiven = (d : Device) (number word : ℕ) (arrival : Arrival) (message : Allocation) →
    d.asking.holds ≡ None → HearsAnswer d arrival message → message.uid.items ≡ d.asking.uid →
    1 ≤ message.node → message.node ≤ 125 →
    (step d number (Rx arrival word)).device.asking.holds ≡ Some message.node

-- behind an answer to a first part a follow-up waits
abbrev pub WaitsToFollowUp : Type 0
WaitsToFollowUp = (d : Device) (number word : ℕ) (arrival : Arrival) (message : Allocation) →
    d.asking.holds ≡ None → HearsAnswer d arrival message → 1 ≤ length message.uid.items →
    length message.uid.items < length d.asking.uid →
    message.uid.items ≡ take (length message.uid.items) d.asking.uid →
    (step d number (Rx arrival word)).device.asking.follow_up
    ≡ Some (record {
      timer = timer_from (max d.asking.moment arrival.moment) (follow_up_wait word);
      known = length message.uid.items;
    })

-- what a tick offers, where the queue has room for it
pub record Offers (d : Device) (number word : ℕ) (first : Bool) (part : List ℕ) (result : StepResult) : Type 0 where
  pub sent : result.sent ≡ record { what = Alloc; to = 0; fitted = true } ∷ []
  pub queue : result.device.asking.queue
      ≡ d.asking.queue ++ queued_frames (outgoing word d.asking.id (request_bytes d.asking first part)) number 0

-- a follow-up whose wait has passed is offered: the next 6 bytes, or as many as are left
abbrev pub OffersFollowUps : Type 0
OffersFollowUps = (d : Device) (number now word : ℕ) (follow_up : FollowUp) → d.asking.holds ≡ None →
    d.asking.follow_up ≡ Some follow_up → has_passed (max d.asking.moment now) follow_up.timer ≡ true →
    has_room d.asking.queue (request_bytes d.asking false (take 6 (drop follow_up.known d.asking.uid))) ≡ true →
    Offers d number word false (take 6 (drop follow_up.known d.asking.uid)) (step d number (Tick now word))

-- else a request of the first stage, where its timer has passed
abbrev pub OffersFirst : Type 0
OffersFirst = (d : Device) (number now word : ℕ) → d.asking.holds ≡ None →
    due (max d.asking.moment now) d.asking.follow_up ≡ None →
    has_passed (max d.asking.moment now) d.asking.request ≡ true →
    has_room d.asking.queue (request_bytes d.asking true (take 6 d.asking.uid)) ≡ true →
    Offers d number word true (take 6 d.asking.uid) (step d number (Tick now word))

-- a frame as it comes at a moment
abbrev pub comes_at : Queued → ℕ → Arrival
comes_at frame moment = record { id = frame.id; bytes = frame.bytes; mark = frame.mark; moment = moment }

-- what a device offers is one frame, and a request to every allocator that it reaches
abbrev pub RequestsAreRequests : Type 0
RequestsAreRequests = (word id number moment : ℕ) (message : Allocation) → id < 32 → message.node < 128 →
    length message.uid.items ≤ 6 →
    (frame : Queued) × (queued_frames (outgoing word id (allocation_bytes message)) number 0 ≡ frame ∷ [])
    × IsRequest (comes_at frame moment) message
