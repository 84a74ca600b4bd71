-- What is computed of the rows of `ServedExample`: each passes the tests of `ServedTests`; and the members when the calm
-- begins.
use Rattle.std.proofs.Common.{◌≡◌, ℕ, ◌+◌, ◌≤◌, arith, Bool, true, List, [], ◌∷◌, refl, sym, ap, subst, inl, inr, None}
use Rattle.std.specs.Prelude.{◌==◌, ◌&&◌, ◌||◌, not, slice_index_or}
use Rattle.alloc_exchange.specs.Exchange.{after as exchange_after, answer as exchange_answer}
use Rattle.can_frame.specs.declared.step.What.TheVariants.{Alloc, App, AppQ}
use Rattle.can_frame.specs.Cutting.{frames_of, payload_of}
use Rattle.can_frame.specs.Identifier.{identifier_number, identifier_of}
use Rattle.can_frame.specs.TransferCrc.{bits_of, crc_of, divide, number_of}
use Rattle.id_selector.specs.Choice.{candidates}
use Rattle.node_discovery.specs.Watch.{next_query, some_unknown}
use Rattle.raft_model.specs.Lists.{In}
use Rattle.transfer_rx.specs.Acceptance.{wanted}
use Rattle.transfer_rx.specs.declared.key.Key.{Key}
use Rattle.transfer_rx.specs.Keys.{key_of}
use Rattle.transfer_rx.specs.Outcome.{blocks_used, fits_no_part, fits_no_payload, outcome}
use Rattle.transfer_rx.specs.Reassembly.{session_step, step as frame_step}
use Rattle.transfer_rx.specs.Sessions.{Session, session_for}
use Rattle.transfer_tx.specs.Queue.{left_behind, next_out, queued_frames}
use Rattle.transfer_tx.specs.Run.{of_identifier}
use Rattle.alloc_spec.specs.Accepted.{rows}
use Rattle.alloc_spec.specs.AllocatorState.{members_of}
use Rattle.alloc_spec.specs.Delivered.{delivery_phase}
use Rattle.alloc_spec.specs.Judging.{arrival_judgement, brings_void}
use Rattle.alloc_spec.specs.Step.{all_nodes, step}
use Rattle.alloc_spec.specs.Transfers.{id_of, ident_of}
use Rattle.alloc_spec_laws.proofs.Choices.{and_left, and_right, eq_false, eq_true, not_true}
use Rattle.allocatee.specs.Accepted.{rows as device_rows}
use Rattle.allocatee.specs.Allocatee.{step as device_step}
use Rattle.allocatee.specs.Asking.{after_allocation, clock_phase as device_clock}
use Rattle.allocatee.specs.Judging.{arrival_judgement as device_judgement}
use Rattle.service_alone.specs.Calm.{HasSettled}
use Rattle.service_calm.specs.Calm.{AreRunning, Device, IsRunning, Member, Party, no_traffic}
use Rattle.service_calm.specs.CalmExample.{group, some_uid, two}
use Rattle.service_calm.specs.Calls.{Lists}
use Rattle.service_calm.specs.Comes.{AreReady, MayComeFirst}
use Rattle.service_calm.specs.Sessions.{Admits, AllAdmit}
use Rattle.service_calm.proofs.Examples.{of_server, server_in, up_is}
use Rattle.service_leader.specs.Entries.{AreInStep, NoCallPends}
use Rattle.service_device.specs.Dialog.{HasNothingToSay}
use Rattle.service_device.specs.Served.{HasPlaceFor}
use Rattle.service_device.specs.ServedExample.{before_rows, before_world, first_log, served_pace, served_rows, served_start}
use Rattle.service_device.proofs.CalmTested.{nil_is, number_in, or_true}
use Rattle.service_device.proofs.CalmTests.{all_lawful, all_pass, is_nil}
use Rattle.service_device.proofs.ServedTests.{receipt_test, world_test}
use Rattle.bus_spec.specs.Cluster.{cluster}
use Rattle.bus_spec.specs.Members.MemberStatus.{Up}

-- ---- the rows

-- each row of the calm passes
pub passed : all_pass group served_pace world_test receipt_test (no_traffic served_start) before_world served_rows ≡ true
unfolding step all_nodes next_query some_unknown candidates queued_frames next_out left_behind frames_of frame_step outcome fits_no_payload fits_no_part payload_of delivery_phase session_step session_for wanted identifier_of rows blocks_used bits_of crc_of divide number_of device_step device_rows device_clock after_allocation arrival_judgement brings_void device_judgement exchange_answer exchange_after
passed = refl

-- each row before it is lawful
pub lawful_before : all_lawful (cluster two) before_rows ≡ true
unfolding step all_nodes next_query some_unknown candidates queued_frames next_out left_behind frames_of frame_step outcome fits_no_payload fits_no_part payload_of delivery_phase session_step session_for wanted identifier_of rows blocks_used bits_of crc_of divide number_of device_step device_rows device_clock after_allocation arrival_judgement brings_void device_judgement exchange_answer exchange_after
lawful_before = refl

-- ---- both members run

-- as it was computed
pub up_1 : (before_world.member 1).status ≡ Up (server_in (before_world.member 1).status)
unfolding step all_nodes next_query some_unknown candidates queued_frames next_out left_behind frames_of frame_step outcome fits_no_payload fits_no_part payload_of delivery_phase session_step session_for wanted identifier_of rows blocks_used bits_of crc_of divide number_of device_step device_rows device_clock after_allocation arrival_judgement brings_void device_judgement exchange_answer exchange_after
up_1 = up_is (before_world.member 1).status refl

pub up_2 : (before_world.member 2).status ≡ Up (server_in (before_world.member 2).status)
unfolding step all_nodes next_query some_unknown candidates queued_frames next_out left_behind frames_of frame_step outcome fits_no_payload fits_no_part payload_of delivery_phase session_step session_for wanted identifier_of rows blocks_used bits_of crc_of divide number_of device_step device_rows device_clock after_allocation arrival_judgement brings_void device_judgement exchange_answer exchange_after
up_2 = up_is (before_world.member 2).status refl

-- no call of their disks is set to fail
running_1 : IsRunning 1 before_world
unfolding step all_nodes next_query some_unknown candidates queued_frames next_out left_behind frames_of frame_step outcome fits_no_payload fits_no_part payload_of delivery_phase session_step session_for wanted identifier_of rows blocks_used bits_of crc_of divide number_of device_step device_rows device_clock after_allocation arrival_judgement brings_void device_judgement exchange_answer exchange_after
running_1 = record { server = server_in (before_world.member 1).status; runs = up_1; faults = 0; disk = refl }

running_2 : IsRunning 2 before_world
unfolding step all_nodes next_query some_unknown candidates queued_frames next_out left_behind frames_of frame_step outcome fits_no_payload fits_no_part payload_of delivery_phase session_step session_for wanted identifier_of rows blocks_used bits_of crc_of divide number_of device_step device_rows device_clock after_allocation arrival_judgement brings_void device_judgement exchange_answer exchange_after
running_2 = record { server = server_in (before_world.member 2).status; runs = up_2; faults = 0; disk = refl }

-- what holds of 1 and 2 holds of each member
pub of_members : (Holds : ℕ → Type 0) → Holds 1 → Holds 2 → (n : ℕ) → In (Member n) group → Holds n
of_members Holds first second n (inl i) = subst Holds (sym (ap number_in i)) first
of_members Holds first second n (inr (inl i)) = subst Holds (sym (ap number_in i)) second
of_members Holds first second n (inr (inr (inl i))) = absurd (cc i)
of_members Holds first second n (inr (inr (inr i))) = absurd i

-- so each member of the group runs
pub running : AreRunning group before_world
running = of_members (λ n. IsRunning n before_world) running_1 running_2

-- ---- member 1 has settled, and member 2 has nothing to say

-- it leads with an empty log
pub settled : HasSettled 1 first_log 2110 before_world
unfolding step all_nodes next_query some_unknown candidates queued_frames next_out left_behind frames_of frame_step outcome fits_no_payload fits_no_part payload_of delivery_phase session_step session_for wanted identifier_of rows blocks_used bits_of crc_of divide number_of device_step device_rows device_clock after_allocation arrival_judgement brings_void device_judgement exchange_answer exchange_after
settled = record {
  server = server_in (before_world.member 1).status;
  runs = up_1;
  faults = 0;
  disk = refl;
  leads = refl;
  log_is = refl;
  committed = refl;
  told = refl;
  clock = omega arith;
  status = omega arith;
  requests = omega arith;
  known = λ other unknown. refl;
  discovery = refl;
}

-- no frame of an Allocation waits at it
pub none_waits : of_identifier (identifier_number (ident_of 1 Alloc 0)) settled.server.queue ≡ []
unfolding step all_nodes next_query some_unknown candidates queued_frames next_out left_behind frames_of frame_step outcome fits_no_payload fits_no_part payload_of delivery_phase session_step session_for wanted identifier_of rows blocks_used bits_of crc_of divide number_of device_step device_rows device_clock after_allocation arrival_judgement brings_void device_judgement exchange_answer exchange_after settled
none_waits = refl

-- member 2 has accepted no request
pub nothing_to_say : HasNothingToSay 2 2210 before_world
unfolding step all_nodes next_query some_unknown candidates queued_frames next_out left_behind frames_of frame_step outcome fits_no_payload fits_no_part payload_of delivery_phase session_step session_for wanted identifier_of rows blocks_used bits_of crc_of divide number_of device_step device_rows device_clock after_allocation arrival_judgement brings_void device_judgement exchange_answer exchange_after
nothing_to_say = record { server = server_in (before_world.member 2).status; runs = up_2; none_waits = refl; old = refl }

-- ---- both know each other

-- what holds of 1 and 2 holds of each node ID of the cluster
of_two_ids : (Holds : ℕ → Type 0) → Holds 1 → Holds 2 → (n : ℕ) → In n two → Holds n
of_two_ids Holds first second n (inl i) = subst Holds (sym i) first
of_two_ids Holds first second n (inr (inl i)) = subst Holds (sym i) second
of_two_ids Holds first second n (inr (inr i)) = absurd i

-- member 1 lists both, and member 2 lists it
pub lists_1 : (p : ℕ) → In p two → Lists 1 p before_world
unfolding step all_nodes next_query some_unknown candidates queued_frames next_out left_behind frames_of frame_step outcome fits_no_payload fits_no_part payload_of delivery_phase session_step session_for wanted identifier_of rows blocks_used bits_of crc_of divide number_of device_step device_rows device_clock after_allocation arrival_judgement brings_void device_judgement exchange_answer exchange_after
lists_1 = of_two_ids (λ p. Lists 1 p before_world) (of_server (λ t. In 1 (members_of t)) (before_world.member 1).status (inl refl))
    (of_server (λ t. In 2 (members_of t)) (before_world.member 1).status (inr (inl refl)))

pub lists_2 : Lists 2 1 before_world
unfolding step all_nodes next_query some_unknown candidates queued_frames next_out left_behind frames_of frame_step outcome fits_no_payload fits_no_part payload_of delivery_phase session_step session_for wanted identifier_of rows blocks_used bits_of crc_of divide number_of device_step device_rows device_clock after_allocation arrival_judgement brings_void device_judgement exchange_answer exchange_after
lists_2 = of_server (λ t. In 1 (members_of t)) (before_world.member 2).status (inr (inl refl))

-- ---- calls and answers may begin

-- in each session of this data type a transfer with this ID may begin
abbrev admits : ℕ → ℕ → Session → Bool
admits number id s = ((s.expected == id) && (is_nil s.taken && is_nil s.marks)) || not (s.key.number == number)

-- so it is in all of these
abbrev admits_all : ℕ → ℕ → List Session → Bool
admits_all number id [] = true
admits_all number id (s ∷ sessions) = admits number id s && admits_all number id sessions

-- such a session admits it, and so do all
admits_is : (key : Key) (id : ℕ) (s : Session) → admits key.number id s ≡ true → s.key ≡ key → Admits id s
admits_is key id s e same = elim (or_true ((s.expected == id) && (is_nil s.taken && is_nil s.marks)) (not (s.key.number == key.number)) e) [
  | inl z ↦
      let empty = and_right (s.expected == id) (is_nil s.taken && is_nil s.marks) z in
      inl (
        eq_true s.expected id (and_left (s.expected == id) (is_nil s.taken && is_nil s.marks) z),
        nil_is s.taken (and_left (is_nil s.taken) (is_nil s.marks) empty),
        nil_is s.marks (and_right (is_nil s.taken) (is_nil s.marks) empty),
      )
  | inr z ↦ absurd (eq_false s.key.number key.number (not_true (s.key.number == key.number) z) (ap (λ (k : Key). k.number) same))
]

admits_all_is : (now : ℕ) (key : Key) (id : ℕ) (sessions : List Session) → admits_all key.number id sessions ≡ true → AllAdmit now key id sessions
admits_all_is now key id [] e = tt
admits_all_is now key id (s ∷ sessions) e = (
  λ same recent. admits_is key id s (and_left (admits key.number id s) (admits_all key.number id sessions) e) same,
  admits_all_is now key id sessions (and_right (admits key.number id s) (admits_all key.number id sessions) e),
)

-- no frame of a call waits, nor one of an answer
pub ready_calls : AreReady 1 2 AppQ 2 before_world
unfolding step all_nodes next_query some_unknown candidates queued_frames next_out left_behind frames_of frame_step outcome fits_no_payload fits_no_part payload_of delivery_phase session_step session_for wanted identifier_of rows blocks_used bits_of crc_of divide number_of device_step device_rows device_clock after_allocation arrival_judgement brings_void device_judgement exchange_answer exchange_after
ready_calls = record {
  sender = server_in (before_world.member 1).status;
  sends = up_1;
  none_waits = refl;
  receiver = server_in (before_world.member 2).status;
  receives = up_2;
}

pub ready_answers : AreReady 2 1 App 1 before_world
unfolding step all_nodes next_query some_unknown candidates queued_frames next_out left_behind frames_of frame_step outcome fits_no_payload fits_no_part payload_of delivery_phase session_step session_for wanted identifier_of rows blocks_used bits_of crc_of divide number_of device_step device_rows device_clock after_allocation arrival_judgement brings_void device_judgement exchange_answer exchange_after
ready_answers = record {
  sender = server_in (before_world.member 2).status;
  sends = up_2;
  none_waits = refl;
  receiver = server_in (before_world.member 1).status;
  receives = up_1;
}

-- the next call may begin, and the answer to it
pub first_call : MayComeFirst 1 AppQ 2 ready_calls.receiver (id_of ready_calls.sender.ids AppQ 2)
unfolding step all_nodes next_query some_unknown candidates queued_frames next_out left_behind frames_of frame_step outcome fits_no_payload fits_no_part payload_of delivery_phase session_step session_for wanted identifier_of rows blocks_used bits_of crc_of divide number_of device_step device_rows device_clock after_allocation arrival_judgement brings_void device_judgement exchange_answer exchange_after ready_calls
first_call = admits_all_is ready_calls.receiver.now (key_of (ident_of 1 AppQ 2)) (id_of ready_calls.sender.ids AppQ 2)
    ready_calls.receiver.sessions refl

pub first_answer : MayComeFirst 2 App 1 ready_answers.receiver (id_of ready_calls.sender.ids AppQ 2)
unfolding step all_nodes next_query some_unknown candidates queued_frames next_out left_behind frames_of frame_step outcome fits_no_payload fits_no_part payload_of delivery_phase session_step session_for wanted identifier_of rows blocks_used bits_of crc_of divide number_of device_step device_rows device_clock after_allocation arrival_judgement brings_void device_judgement exchange_answer exchange_after ready_calls ready_answers
first_answer = admits_all_is ready_answers.receiver.now (key_of (ident_of 2 App 1)) (id_of ready_calls.sender.ids AppQ 2)
    ready_answers.receiver.sessions refl

-- member 1 is in step with member 2, and no call pends
pub in_step : AreInStep 1 2 before_world
unfolding step all_nodes next_query some_unknown candidates queued_frames next_out left_behind frames_of frame_step outcome fits_no_payload fits_no_part payload_of delivery_phase session_step session_for wanted identifier_of rows blocks_used bits_of crc_of divide number_of device_step device_rows device_clock after_allocation arrival_judgement brings_void device_judgement exchange_answer exchange_after
in_step = of_server (λ t. t.raft_server.memory.next 2 ≤ t.raft_server.memory.matched 2 + 1) (before_world.member 1).status (omega arith)

pub none_pends : NoCallPends 1 2 before_world
unfolding step all_nodes next_query some_unknown candidates queued_frames next_out left_behind frames_of frame_step outcome fits_no_payload fits_no_part payload_of delivery_phase session_step session_for wanted identifier_of rows blocks_used bits_of crc_of divide number_of device_step device_rows device_clock after_allocation arrival_judgement brings_void device_judgement exchange_answer exchange_after
none_pends = of_server (λ t. t.raft_server.memory.pending 2 ≡ None) (before_world.member 1).status refl

-- ---- the device

-- the number of a device
abbrev device_of : Party → ℕ
device_of (Member n) = 0
device_of (Device a) = a

-- device 1 is the only one of the group
pub one_device : (b : ℕ) → In (Device b) group → b ≡ 1
one_device b (inl i) = absurd (cc i)
one_device b (inr (inl i)) = absurd (cc i)
one_device b (inr (inr (inl i))) = ap device_of i
one_device b (inr (inr (inr i))) = absurd i

-- node ID 125 is left
not_listed : In 125 two → ⊥
not_listed (inl i) = omega (arith, i)
not_listed (inr (inl i)) = omega (arith, i)
not_listed (inr (inr i)) = i

-- there is a place for the device in an empty log
pub place : HasPlaceFor two first_log some_uid
place = record {
  whole = refl;
  device = λ same. absurd (omega (arith, ap (λ (l : List ℕ). slice_index_or l 0 0) same));
  new = λ has. absurd (omega (arith, has.within));
  left = (
    125,
    record { least = omega arith; most = omega arith; other = not_listed; free = λ has. absurd (omega (arith, has.within)) },
  );
  room = omega arith;
}
