-- A device goes on, and its requests are requests.
use Rattle.std.proofs.Common.{◌≡◌, ℕ, ◌<◌, ◌≤◌, true, false, List, [], ◌∷◌, length, take, drop, refl, ◌∙◌, ap, arith, max, Some, None}
use Rattle.std.proofs.lemmas.Slice.Eq.{bytes_eq-Decides}
use Rattle.can_frame.specs.declared.identifier.Ident.{Ident}
use Rattle.can_frame.specs.Cutting.{Piece, frame_bytes, piece_from, tail_at}
use Rattle.can_frame.specs.DataTypes.{allocation}
use Rattle.can_frame.specs.Identifier.{IsIdentifier, identifier_number, identifier_of}
use Rattle.dsdl_codec.specs.declared.allocation.Allocation.{Allocation}
use Rattle.dsdl_codec.specs.Allocation.{IsAllocation, allocation_bytes, allocation_of}
use Rattle.transfer_rx.specs.Reassembly.{Answer, Arrival}
use Rattle.transfer_tx.specs.Queue.{Queued, marked, queued_frames}
use Rattle.allocatee.specs.Allocatee.{Device, Rx, Tick, after_receiver_answer, step}
use Rattle.allocatee.specs.Asking.{Asking, after_allocation, at_moment, clock_phase, due, follow_up_wait, has_passed, has_room, ident_of, outgoing, request_bytes, timer_from}
use Rattle.allocatee.specs.declared.timer.FollowUp.{FollowUp}
use Rattle.allocatee.proofs.Requests.{hears, le_is, one_piece}
use Rattle.service_steps.specs.Devices.{HearsAnswer, Offers, comes_at}
use Rattle.service_steps.specs.Requests.{IsRequest}

-- ---- what it hears

heard : (d : Device) (number word : ℕ) (arrival : Arrival) (message : Allocation) → HearsAnswer d arrival message
    → (step d number (Rx arrival word)).device.asking ≡ after_allocation word false message (at_moment arrival.moment d.asking)
unfolding step
heard d number word arrival message h =
    ap (λ (a : Answer). after_receiver_answer word a (at_moment arrival.moment d.asking)) h.gives ∙ rw (h.known) (rw (h.reads) refl)

given : (word : ℕ) (a : Asking) (message : Allocation) → a.holds ≡ None → message.uid.items ≡ a.uid → 1 ≤ message.node → message.node ≤ 125
    → (after_allocation word false message a).holds ≡ Some message.node
unfolding after_allocation
given word a message free uid low high =
    rw (free) (rw ((bytes_eq-Decides message.uid.items a.uid).1 uid) (rw (le_is 1 message.node low) (rw (le_is message.node 125 high) refl)))

pub holds : (d : Device) (number word : ℕ) (arrival : Arrival) (message : Allocation) → d.asking.holds ≡ None → HearsAnswer d arrival message
    → message.uid.items ≡ d.asking.uid → 1 ≤ message.node → message.node ≤ 125
    → (step d number (Rx arrival word)).device.asking.holds ≡ Some message.node
holds d number word arrival message free h uid low high =
    ap (λ (a : Asking). a.holds) (heard d number word arrival message h) ∙ given word (at_moment arrival.moment d.asking) message free uid low high

pub waits : (d : Device) (number word : ℕ) (arrival : Arrival) (message : Allocation) → d.asking.holds ≡ None → HearsAnswer d arrival message
    → 1 ≤ length message.uid.items → length message.uid.items < length d.asking.uid
    → message.uid.items ≡ take (length message.uid.items) d.asking.uid
    → (step d number (Rx arrival word)).device.asking.follow_up
    ≡ Some (record { timer = timer_from (max d.asking.moment arrival.moment) (follow_up_wait word); known = length message.uid.items })
waits d number word arrival message free h some short front =
    ap (λ (a : Asking). a.follow_up) (heard d number word arrival message h) ∙ (hears word message false (at_moment arrival.moment d.asking) free).answered refl some short front

-- ---- what it offers

pub follows_up : (d : Device) (number now word : ℕ) (follow_up : FollowUp) → d.asking.holds ≡ None → d.asking.follow_up ≡ Some follow_up
    → has_passed (max d.asking.moment now) follow_up.timer ≡ true
    → has_room d.asking.queue (request_bytes d.asking false (take 6 (drop follow_up.known d.asking.uid))) ≡ true
    → Offers d number word false (take 6 (drop follow_up.known d.asking.uid)) (step d number (Tick now word))
unfolding step clock_phase
follows_up d number now word follow_up free waiting passed room =
    rw (free) (rw (waiting) (rw (passed) (rw (room) (record { sent = refl; queue = refl }))))

pub begins : (d : Device) (number now word : ℕ) → d.asking.holds ≡ None → due (max d.asking.moment now) d.asking.follow_up ≡ None
    → has_passed (max d.asking.moment now) d.asking.request ≡ true
    → has_room d.asking.queue (request_bytes d.asking true (take 6 d.asking.uid)) ≡ true
    → Offers d number word true (take 6 d.asking.uid) (step d number (Tick now word))
unfolding step clock_phase
begins d number now word free none passed room =
    rw (free) (rw (none) (rw (passed) (rw (room) (record { sent = refl; queue = refl }))))

-- ---- what its requests are

pub is_request : ((ident : Ident) → IsIdentifier ident → identifier_of (identifier_number ident) ≡ Some ident)
    → ((piece : Piece) → piece.tail.id < 32 → piece_from (frame_bytes piece) ≡ piece)
    → ((value : Allocation) → IsAllocation value → allocation_of (allocation_bytes value) ≡ Some value)
    → (word id number moment : ℕ) (message : Allocation) → id < 32 → message.node < 128 → length message.uid.items ≤ 6
    → (frame : Queued) × (queued_frames (outgoing word id (allocation_bytes message)) number 0 ≡ frame ∷ []) × IsRequest (comes_at frame moment) message
unfolding queued_frames
is_request read_ident read_piece read_value word id number moment message few small short = (
  frame,
  ap (λ (pieces : List Piece). marked (identifier_number (ident_of word)) number 0 0 pieces)
      (one_piece allocation.signature id (allocation_bytes message) (omega (arith, short))),
  record {
    ident = ident_of word;
    read = read_ident (ident_of word) (record { priority = omega arith; source = omega arith; dest = omega arith; by_kind = (omega arith, refl, refl, omega arith) });
    kind = refl;
    number = refl;
    source = refl;
    first = ap (λ (p : Piece). p.tail.start) again;
    last = ap (λ (p : Piece). p.tail.end) again;
    toggle = ap (λ (p : Piece). p.tail.toggle) again;
    says = ap (λ (p : Piece). allocation_of p.bytes) again ∙ read_value message (record { node = small; uid = omega (arith, short) });
  },
)
  where
    piece : Piece
    piece = record { bytes = allocation_bytes message; tail = tail_at id 0 true }

    frame : Queued
    frame = record { id = identifier_number (ident_of word); bytes = frame_bytes piece; mark = record { step = number; re = 0; place = 0 } }

    again : piece_from (frame_bytes piece) ≡ piece
    again = read_piece piece few
