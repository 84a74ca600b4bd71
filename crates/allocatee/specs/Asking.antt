-- A device that asks for a node ID, by the rules A to E of an allocatee in uavcan.protocol.dynamic_node_id.Allocation:
-- what a reading of its clock makes it send, and what it does with an Allocation that it receives. Its receiver stands
-- apart (`Allocatee`).
use Rattle.std.specs.Prelude.{ℕ, ◌+◌, ◌-◌, ◌%◌, Bool, true, false, not, ◌&&◌, max, nat_eq, nat_le, List, [], ◌∷◌, ◌++◌, length, take, drop, Option, None, Some, is_some, if◌then◌else◌}
use Rattle.std.specs.Str.{bytes_eq}
use Rattle.can_frame.specs.declared.identifier.Ident.{Ident}
use Rattle.can_frame.specs.declared.identifier.Kind.TheVariants.{Anonymous}
use Rattle.can_frame.specs.declared.step.Sent.{Sent}
use Rattle.can_frame.specs.declared.step.What.TheVariants.{Alloc}
use Rattle.can_frame.specs.Cutting.{frame_count}
use Rattle.can_frame.specs.DataTypes.{allocation}
use Rattle.dsdl_codec.specs.Allocation.{allocation_bytes}
use Rattle.dsdl_codec.specs.declared.allocation.Allocation.{Allocation}
use Rattle.transfer_tx.specs.declared.outgoing.Outgoing.{Outgoing}
use Rattle.transfer_tx.specs.Queue.{Queued, left_behind, queued_frames}
use Rattle.allocatee.specs.declared.timer.Timer.{Timer}
use Rattle.allocatee.specs.declared.timer.FollowUp.{FollowUp}

pub record Asking : Type 0 where
  -- the device's unique ID, and the node ID that it prefers, 0 for any
  pub uid : List ℕ
  pub preferred : ℕ
  -- the frames that wait for the bus, in the order of offering, and the transfer ID that comes next
  pub queue : List Queued
  pub id : ℕ
  -- the greatest moment given so far, that of the opening among them
  pub moment : ℕ
  -- the request timer: the next first-stage request is due when it has passed
  pub request : Timer
  -- the follow-up request that waits for its moment, if any
  pub follow_up : Option FollowUp
  -- the node ID that it was given, if any
  pub holds : Option ℕ

-- ---- time

-- the request timer runs 600 to 1,000 ms, drawn anew at each restart
abbrev pub request_wait : ℕ → ℕ
request_wait word = 600 + word % 401

-- a follow-up request waits 0 to 400 ms behind the answer that it follows
abbrev pub follow_up_wait : ℕ → ℕ
follow_up_wait word = word % 401

abbrev pub timer_from : ℕ → ℕ → Timer
timer_from now length = record { since = now; length = length }

abbrev pub has_passed : ℕ → Timer → Bool
has_passed now timer = nat_le timer.length (now - timer.since)

abbrev pub at_moment : ℕ → Asking → Asking
at_moment now a = record a { moment = max a.moment now }

-- the request timer restarts at this moment
abbrev pub with_timer_restarted : ℕ → Asking → Asking
with_timer_restarted word a = record a { request = timer_from a.moment (request_wait word) }

-- rule A: at its opening the request timer starts
abbrev pub asking_from : List ℕ → ℕ → ℕ → ℕ → Asking
asking_from uid preferred now word = record {
  uid = uid;
  preferred = preferred;
  queue = [];
  id = 0;
  moment = now;
  request = timer_from now (request_wait word);
  follow_up = None;
  holds = None;
}

-- ---- what it sends: anonymous messages of one frame

-- the discriminator is drawn with each request

abbrev pub ident_of : ℕ → Ident
ident_of word = record {
  priority = 30;
  kind = Anonymous;
  number = allocation.number;
  source = 0;
  dest = 0;
  discriminator = word % 16384;
}

abbrev pub outgoing : ℕ → ℕ → List ℕ → Outgoing
outgoing word id payload = record {
  ident = ident_of word;
  signature = allocation.signature;
  id = id;
  payload = record { items = payload };
}

-- the node ID that it prefers, and a part of its unique ID
abbrev pub request_bytes : Asking → Bool → List ℕ → List ℕ
request_bytes a first part =
    allocation_bytes (record { node = a.preferred; first_part = first; uid = record { items = part } })

abbrev pub has_room : List Queued → List ℕ → Bool
has_room queue payload = nat_le (length queue + frame_count (length payload)) 8

-- what a tick offered, and what it leaves
pub record Ticking : Type 0 where
  pub sent : List Sent
  pub asking : Asking

abbrev pub nothing_offered : Asking → Ticking
nothing_offered a = record { sent = []; asking = a }

-- a payload that fits goes into the queue, and the transfer ID goes on; one that does not fit changes nothing
abbrev pub with_queued : ℕ → ℕ → List ℕ → Bool → Asking → Asking
with_queued step word payload fits a = if fits
    then record a { queue = a.queue ++ queued_frames (outgoing word a.id payload) step 0; id = (a.id + 1) % 32 }
    else a

abbrev pub payload_offer : ℕ → ℕ → List ℕ → Asking → Ticking
payload_offer step word payload a = record {
  sent = record { what = Alloc; to = 0; fitted = has_room a.queue payload } ∷ [];
  asking = with_queued step word payload (has_room a.queue payload) a;
}

abbrev pub request_offer : ℕ → ℕ → Bool → List ℕ → Asking → Ticking
request_offer step word first part a = payload_offer step word (request_bytes a first part) a

-- ---- its clock

-- rule B, the first stage: where the request timer has passed it restarts, and the first 6 bytes are offered
abbrev pub first_stage : ℕ → ℕ → Asking → Ticking
first_stage step word a =
    if has_passed a.moment a.request then request_offer step word true (take 6 a.uid) (with_timer_restarted word a)
    else nothing_offered a

-- how many bytes of its unique ID the answer had that the follow-up follows, where its wait has passed
abbrev pub due : ℕ → Option FollowUp → Option ℕ
due now None = None
due now (Some follow_up) = if has_passed now follow_up.timer then Some follow_up.known else None

-- the second and third stage: the next 6 bytes behind those, or as many as are left, and then no follow-up waits;
-- where none is due, the first stage
abbrev pub next_stage : ℕ → ℕ → Option ℕ → Asking → Ticking
next_stage step word None a = first_stage step word a
next_stage step word (Some known) a =
    request_offer step word false (take 6 (drop known a.uid)) (record a { follow_up = None })

-- a device that holds a node ID sends no more requests
unfoldable pub clock_phase : ℕ → ℕ → Asking → Ticking
clock_phase step word a =
    if is_some a.holds then nothing_offered a else next_stage step word (due a.moment a.follow_up) a

-- ---- Allocations that it receives

-- rule E: the answer to its whole unique ID gives it a node ID of 1 to 125
abbrev pub with_node_id : ℕ → Asking → Asking
with_node_id node a = if nat_le 1 node && nat_le node 125 then record a { holds = Some node } else a

-- the unique ID begins with these bytes, one at least
abbrev pub begins_with : List ℕ → List ℕ → Bool
begins_with uid bytes = not (nat_eq (length bytes) 0) && bytes_eq bytes (take (length bytes) uid)

-- rule D: the answer has so many bytes of its unique ID; a follow-up with the next ones waits
abbrev pub with_follow_up : ℕ → ℕ → Asking → Asking
with_follow_up word known a =
    record a { follow_up = Some (record { timer = timer_from a.moment (follow_up_wait word); known = known }) }

-- an answer of an allocator: to its whole unique ID, to bytes that it begins with, or to another device
abbrev pub after_answer : ℕ → Allocation → Asking → Asking
after_answer word message a =
    if bytes_eq message.uid.items a.uid then with_node_id message.node a
    else if begins_with a.uid message.uid.items then with_follow_up word (length message.uid.items) a
    else a

-- rule C: after any Allocation the request timer restarts, and no follow-up waits
abbrev pub after_interruption : ℕ → Asking → Asking
after_interruption word a = record (with_timer_restarted word a) { follow_up = None }

-- a device that holds a node ID does nothing with it; an anonymous one is a request of some device, and no answer
unfoldable pub after_allocation : ℕ → Bool → Allocation → Asking → Asking
after_allocation word anonymous message a =
    if is_some a.holds then a
    else if anonymous then after_interruption word a
    else after_answer word message (after_interruption word a)

-- ---- between steps

-- the next frame has gone out
abbrev pub without_first_frame : Asking → Asking
without_first_frame a = record a { queue = left_behind a.queue }
