-- What each row of a trace leaves, in a world where nothing is set to fail.
use Rattle.std.proofs.Common.{◌≡◌, ℕ, ◌+◌, ◌≤◌, Bool, true, false, List, [], ◌∷◌, ◌++◌, length, refl, ap, ◌∙◌, arith, inl, inr, Option, None, Some}
use Rattle.std.specs.Prelude.{◌-◌, ◌==◌, ◌||◌, nat_lt, not}
use Rattle.std.proofs.lemmas.List.{get_or_at, length-append}
use Rattle.can_frame.specs.declared.frame.Frame.{Frame}
use Rattle.can_frame.specs.Identifier.{identifier_of}
use Rattle.outside.specs.declared.pattern.Pattern.TheVariants.{Old}
use Rattle.bus_rows.specs.declared.row.Row.TheVariants.{Crash, Ext, Open, Rx, Send, Tick}
use Rattle.transfer_tx.specs.Queue.{Queued, next_out}
use Rattle.alloc_spec.specs.StepState.{StepState}
use Rattle.alloc_spec.specs.Step.{Event, after_pop, step}
use Rattle.alloc_spec.specs.AllocatorState.{AllocatorState}
use Rattle.bus_spec.specs.declared.unlawful.Unlawful.{Unlawful}
use Rattle.bus_spec.specs.declared.unlawful.Unlawful.TheVariants.{Forged, NoFrame, NoNode, Running, Stopped}
use Rattle.bus_spec.specs.declared.unlawful.Unlawful.TheVariants as unlawful
use Rattle.bus_spec.specs.Cluster.{Cluster, arrival_at, frame_at, from_outside, in_list, is_member, after_row, no_frame, rules_of, with_member}
use Rattle.bus_spec.specs.Lawful.{DoesNoHarm, IsHarmlessAt, because, cause, is_forged, arrival_refusal, no_such_frame, nothing_to_send, or_else}
use Rattle.bus_spec.specs.Members.{MemberStatus, Member, after_sending, is_running, next_frame, member_after_step, puts_of, stopped_with}
use Rattle.bus_spec.specs.Members.MemberStatus.{Down, Failed, Up}
use Rattle.cmd_node_laws.specs.Traces.{MayTurn}
use Rattle.cmd_node_laws.specs.Mirrored.{AreCalm, HasWorked}
use Rattle.cmd_node_laws.proofs.Calm.{opened_calm, opened_member, opening_done, puts_left, step_calm, step_done, stop_calm, written}
use Rattle.cmd_node_laws.proofs.Places.{calm_with, own_is}
use Rattle.cmd_node_laws.proofs.Stored.{after_noted}

-- a member of the cluster, which runs this server
pub record Runs (n : ℕ) (w : Cluster) (server : AllocatorState) : Type 0 where
  pub member : is_member w.ids n ≡ true
  pub up : (w.member n).status ≡ Up server

-- what runs and has not failed is a server
pub server_of : (status : MemberStatus) → HasWorked status → is_running status ≡ true → (server : AllocatorState) × (status ≡ Up server)
server_of Down works e = absurd (cc (e))
server_of (Up server) works e = (server, refl)
server_of (Failed failure) works e = absurd works

pub runs_it : (n : ℕ) (w : Cluster) → AreCalm w → MayTurn n w → (server : AllocatorState) × Runs n w server
runs_it n w calm may = let s = server_of (w.member n).status (calm n).works may.runs in (s.0, record { member = may.member; up = s.1 })

pub running : (n : ℕ) (w : Cluster) (server : AllocatorState) → Runs n w server → is_running (w.member n).status ≡ true
running n w server runs = ap is_running runs.up

-- ---- a step

-- of this member, in the next row
abbrev pub step_state_of : Cluster → AllocatorState → Event → StepState
step_state_of w server event = (step server (w.rows + 1) event).step_state

step_member : (w : Cluster) (n : ℕ) (server : AllocatorState) (event : Event) → AreCalm w → Runs n w server
    → member_after_step (w.rows + 1) event (w.member n).status (w.member n) ≡ written (w.member n) (step_state_of w server event)
step_member w n server event calm runs =
    ap (λ (status : MemberStatus). member_after_step (w.rows + 1) event status (w.member n)) runs.up
    ∙ step_done (w.member n) (w.rows + 1) server (step_state_of w server event) (calm n)

-- the world after it
abbrev pub after_step : Cluster → ℕ → AllocatorState → Event → Cluster
after_step w n server event = record (with_member w n (written (w.member n) (step_state_of w server event))) { rows = w.rows + 1 }

abbrev pub after_event : ℕ → Cluster → Event → Cluster
after_event n w event = record (with_member w n (member_after_step (w.rows + 1) event (w.member n).status (w.member n))) { rows = w.rows + 1 }

pub step_world : (w : Cluster) (n : ℕ) (server : AllocatorState) (event : Event) → AreCalm w → Runs n w server → after_event n w event ≡ after_step w n server event
step_world w n server event calm runs = ap (λ (x : Member). record (with_member w n x) { rows = w.rows + 1 }) (step_member w n server event calm runs)

pub step_leaves : (w : Cluster) (n : ℕ) (server : AllocatorState) (event : Event) → AreCalm w → Runs n w server
    → AreCalm (after_step w n server event) × Runs n (after_step w n server event) (step_state_of w server event).allocator
step_leaves w n server event calm runs = (
  calm_with w n (written (w.member n) (step_state_of w server event)) calm (step_calm (w.member n) (step_state_of w server event) (calm n)),
  record { member = runs.member; up = ap (λ (x : Member). x.status) (own_is w n (written (w.member n) (step_state_of w server event))) },
)

-- what its disk has stored
pub step_stored : (w : Cluster) (n : ℕ) (server : AllocatorState) (event : Event) → AreCalm w → Runs n w server
    → ((after_event n w event).member n).disk.store ≡ after_noted (step_state_of w server event).puts (w.member n).disk.store
step_stored w n server event calm runs =
    ap (λ (v : Cluster). (v.member n).disk.store) (step_world w n server event calm runs)
    ∙ ap (λ (x : Member). x.disk.store) (own_is w n (written (w.member n) (step_state_of w server event)))
    ∙ (puts_left (puts_of (w.member n) (step_state_of w server event)) (w.member n).disk (w.member n).disk.calls.faults (calm n).calls (calm n).nothing_unsynced).store

pub tick_lawful : (w : Cluster) (n moment word : ℕ) (server : AllocatorState) → Runs n w server → cause w (Tick n moment word) ≡ None
tick_lawful w n moment word server runs = λ i. or_else (because NoNode (not (runs.member i))) (because Stopped (not (running n w server runs i)))

-- a frame of the bus is refused at a member that runs as what it would deliver is
rx_cause : (w : Cluster) (n k moment : ℕ) (server : AllocatorState) → Runs n w server → no_such_frame w k ≡ None → (why : Option Unlawful)
    → arrival_refusal (w.member n).status (arrival_at (frame_at w.frames k) moment) ≡ why → cause w (Rx n k moment) ≡ why
rx_cause w n k moment server runs there why is =
    λ i. or_else (because NoNode (not (runs.member i))) (or_else (because Stopped (not (running n w server runs i))) (or_else (there i) (is i)))

pub rx_harmless : (w : Cluster) (n k moment : ℕ) (server : AllocatorState) → Runs n w server → no_such_frame w k ≡ None
    → IsHarmlessAt (w.member n).status (arrival_at (frame_at w.frames k) moment) → DoesNoHarm w (Rx n k moment)
rx_harmless w n k moment server runs there (inl fine) = inl (rx_cause w n k moment server runs there None fine)
rx_harmless w n k moment server runs there (inr late) = inr (rx_cause w n k moment server runs there (Some unlawful.Stale) late.0, late.1)

-- ---- its next frame

abbrev pub after_send : Cluster → ℕ → AllocatorState → Queued → Cluster
after_send w n server frame = record (with_member w n (record (w.member n) { status = Up (after_pop server) })) { frames = w.frames ++ frame ∷ []; rows = w.rows + 1 }

pub send_lawful : (w : Cluster) (n : ℕ) (server : AllocatorState) (frame : Queued) → Runs n w server → next_out server.queue ≡ Some frame → cause w (Send n) ≡ None
send_lawful w n server frame runs e =
    let next : next_frame (w.member n).status ≡ Some frame = ap next_frame runs.up ∙ e in
    λ i. or_else (because NoNode (not (runs.member i))) (or_else (because Stopped (not (running n w server runs i))) (nothing_to_send (next i)))

pub send_world : (w : Cluster) (n : ℕ) (server : AllocatorState) (frame : Queued) → Runs n w server → next_out server.queue ≡ Some frame → after_row w (Send n) ≡ after_send w n server frame
send_world w n server frame runs e =
    let out : next_frame (w.member n).status ≡ Some frame = ap next_frame runs.up ∙ e in
    let left : after_sending (w.member n).status ≡ Up (after_pop server) = ap after_sending runs.up in
    λ i. record (with_member w n (record (w.member n) { status = left i })) { frames = w.frames ++ in_list (out i); rows = w.rows + 1 }

pub send_leaves : (w : Cluster) (n : ℕ) (server : AllocatorState) (frame : Queued) → AreCalm w → Runs n w server
    → AreCalm (after_send w n server frame) × Runs n (after_send w n server frame) (after_pop server)
send_leaves w n server frame calm runs = (
  calm_with w n sent calm (record { calls = (calm n).calls; nothing_unsynced = (calm n).nothing_unsynced; works = tt }),
  record { member = runs.member; up = ap (λ (x : Member). x.status) (own_is w n sent) },
)
  where
    sent : Member
    sent = record (w.member n) { status = Up (after_pop server) }

-- ---- a frame from elsewhere

pub ext_lawful : (w : Cluster) (frame : Frame) → is_forged w.ids (identifier_of frame.id) ≡ false → cause w (Ext frame) ≡ None
ext_lawful w frame e = ap (because Forged) e

pub ext_frame : (frames : List Queued) (frame : Queued) → frame_at (frames ++ frame ∷ []) (length frames + 1) ≡ frame
ext_frame frames frame = get_or_at frames frame [] no_frame (length frames + 1 - 1) (omega arith)

pub ext_there : (w : Cluster) (frame : Frame) → no_such_frame (after_row w (Ext frame)) (length w.frames + 1) ≡ None
ext_there w frame = ap (because NoFrame) (none (length w.frames + 1) (length (w.frames ++ from_outside frame.id frame.bytes.items ∷ [])) (omega arith) (omega (arith, length-append w.frames (from_outside frame.id frame.bytes.items ∷ []))))
  where
    none : (k n : ℕ) → 1 ≤ k → k ≤ n → ((k == 0) || nat_lt n k) ≡ false
    none k n low high = grind arith

-- ---- an opening

pub open_lawful : (w : Cluster) (n : ℕ) (told : Bool) (moment word : ℕ) → is_member w.ids n ≡ true → is_running (w.member n).status ≡ false → cause w (Open n told moment word) ≡ None
open_lawful w n told moment word member down = λ i. or_else (because NoNode (not (member i))) (because Running (down i))

abbrev pub after_open : Cluster → ℕ → Bool → ℕ → ℕ → Cluster
after_open w n told moment word = record (with_member w n (opened_member n (rules_of w.ids told) moment word (w.member n))) { rows = w.rows + 1 }

pub open_world : (w : Cluster) (n : ℕ) (told : Bool) (moment word : ℕ) → AreCalm w → after_row w (Open n told moment word) ≡ after_open w n told moment word
open_world w n told moment word calm = ap (λ (x : Member). record (with_member w n x) { rows = w.rows + 1 }) (opening_done n (rules_of w.ids told) moment word (w.member n) (calm n))

pub open_leaves : (w : Cluster) (n : ℕ) (told : Bool) (moment word : ℕ) → AreCalm w → AreCalm (after_open w n told moment word)
open_leaves w n told moment word calm =
    calm_with w n (opened_member n (rules_of w.ids told) moment word (w.member n)) calm (opened_calm n (rules_of w.ids told) moment word (w.member n) (calm n))

-- ---- a stop

pub stop_lawful : (w : Cluster) (n : ℕ) → is_member w.ids n ≡ true → is_running (w.member n).status ≡ true → cause w (Crash n 0 Old) ≡ None
stop_lawful w n member up = λ i. or_else (because NoNode (not (member i))) (because Stopped (not (up i)))

pub stop_leaves : (w : Cluster) (n : ℕ) → AreCalm w → AreCalm (after_row w (Crash n 0 Old))
stop_leaves w n calm = calm_with w n (stopped_with Old (w.member n).disk (w.member n)) calm (stop_calm Old (w.member n).disk (w.member n))
