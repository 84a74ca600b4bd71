-- What each row tells, and what a member shows.
use Rattle.std.specs.Prelude.{ℕ, ◌+◌, ◌==◌, nat_lt, List, length, if◌then◌else◌, Option, Some, None}
use Rattle.std.specs.Option.{option_and_then, option_map}
use Rattle.can_frame.specs.declared.entry.Entry.{Entry}
use Rattle.can_frame.specs.declared.step.Seen.{Seen}
use Rattle.can_frame.specs.declared.step.Sent.{Sent}
use Rattle.kv_store.specs.KeyDisk.{KeyDisk}
use Rattle.raft_log.specs.KeyDisk.{are_put, is_open_on, opening_on, puts_on}
use Rattle.raft_log.specs.Stored.{Stored}
use Rattle.bus_rows.specs.declared.row.Row.{Row}
use Rattle.bus_rows.specs.declared.row.Row.TheVariants.{Open, Tick, Rx, Send, Ext, Crash, Fault, AOpen, ATick, ARx, ASend, AEnd}
use Rattle.bus_rows.specs.ReportLine.{ReportLine}
use Rattle.bus_rows.specs.ReportLine.ReportLine.{HasOpened, HasStepped, HasFailed, HasStopped, WasArmed, HasSent, CameFromOutside, HasCome, HasAsked, HasPut, HasLeft}
use Rattle.allocatee.specs.Allocatee as device
use Rattle.allocatee.specs.Allocatee.{Device}
use Rattle.transfer_tx.specs.Queue.{Queued}
use Rattle.alloc_spec.specs.declared.event.View.{View}
use Rattle.alloc_spec.specs.Delivered.{StepResult}
use Rattle.alloc_spec.specs.StepState.{listing_of}
use Rattle.alloc_spec.specs.Step.{Event, step}
use Rattle.alloc_spec.specs.AllocatorState.{AllocatorState, entry_of as allocator_entry, view_of}
use Rattle.bus_spec.specs.Allocatees.{next_from}
use Rattle.bus_spec.specs.Cluster.{Cluster, is_member, receipt_at, receipt_of, tick_of}
use Rattle.bus_spec.specs.Members.{MemberStatus, Member, next_frame, puts_of, server_of}
use Rattle.bus_spec.specs.Members.MemberStatus.{Down, Up, Failed}

-- ---- a row

-- a disk that failed in the row stopped in it, or not
abbrev pub line_of_failure : ℕ → KeyDisk Stored → ReportLine
line_of_failure n disk = if disk.calls.stopped then HasStopped n else HasFailed n

abbrev pub line_of_stored : ℕ → Stored → ReportLine
line_of_stored n state = HasOpened n state.term state.vote (length state.log) state.commit

abbrev pub line_of_opening : ℕ → KeyDisk Stored → ReportLine
line_of_opening n disk =
    if is_open_on disk then line_of_stored n (opening_on disk).store else line_of_failure n (opening_on disk)

-- a step: the numbers after it, what it saw, and what it offered
abbrev pub line_of_outcome : ℕ → View → Seen → List Sent → ReportLine
line_of_outcome n view seen sent =
    HasStepped n view.role view.term view.last view.commit view.queued seen sent

abbrev pub line_of_view : ℕ → View → StepResult → ReportLine
line_of_view n view step_result =
    line_of_outcome n view step_result.seen (listing_of step_result.step_state)

abbrev pub line_of_result : ℕ → Member → StepResult → ReportLine
line_of_result n x step_result =
    if are_put (puts_of x step_result.step_state) x.disk.calls
    then line_of_view n (view_of step_result.step_state.allocator) step_result
    else line_of_failure n (puts_on (puts_of x step_result.step_state) x.disk)

-- a member that failed fails again; no step of a stopped one is lawful
abbrev pub line_of_step : ℕ → ℕ → Event → MemberStatus → Member → ReportLine
line_of_step n row event Down x = HasStopped n
line_of_step n row event (Up server) x = line_of_result n x (step server row event)
line_of_step n row event (Failed failure) x = HasFailed n

-- frame k of the bus; without a frame no sending is lawful
abbrev pub line_of_sending : ℕ → ℕ → Option Queued → ReportLine
line_of_sending n k None = HasStopped n
line_of_sending n k (Some frame) = HasSent n k frame.id frame.bytes

-- a step of an allocatee: what it holds and how many frames wait after it, what it saw, and what it offered
abbrev pub line_of_asking : ℕ → device.StepResult → ReportLine
line_of_asking a step_result =
    HasAsked a step_result.device.asking.holds (length step_result.device.asking.queue)
    step_result.seen step_result.sent

-- no step of one that is not there is lawful
abbrev pub line_of_step_at : ℕ → ℕ → device.Event → Option Device → ReportLine
line_of_step_at a row event None = HasLeft a
line_of_step_at a row event (Some x) = line_of_asking a (device.step x row event)

-- an allocatee's frame, which is frame k of the bus; without a frame no sending is lawful
abbrev pub line_of_putting : ℕ → ℕ → Option Queued → ReportLine
line_of_putting a k None = HasLeft a
line_of_putting a k (Some frame) = HasPut a k frame.id frame.bytes

-- what a lawful row tells
abbrev pub line_of_row : Cluster → Row → ReportLine
line_of_row w (Open n told ms word) = line_of_opening n (w.member n).disk
line_of_row w (Tick n ms word) = line_of_step n (w.rows + 1) (tick_of ms word) (w.member n).status (w.member n)
line_of_row w (Rx n k ms) = line_of_step n (w.rows + 1) (receipt_of w k ms) (w.member n).status (w.member n)
line_of_row w (Send n) = line_of_sending n (length w.frames + 1) (next_frame (w.member n).status)
line_of_row w (Ext frame) = CameFromOutside (length w.frames + 1)
line_of_row w (Crash n calls pattern) = if calls == 0 then HasStopped n else WasArmed n
line_of_row w (Fault n call) = WasArmed n
line_of_row w (AOpen a uid pref ms word) = HasCome a
line_of_row w (ATick a ms word) = line_of_step_at a (w.rows + 1) (device.Tick ms word) (w.allocatee a)
line_of_row w (ARx a k ms word) = line_of_step_at a (w.rows + 1) (receipt_at w k ms word) (w.allocatee a)
line_of_row w (ASend a) = line_of_putting a (length w.frames + 1) (next_from (w.allocatee a))
line_of_row w (AEnd a) = HasLeft a

-- ---- what a member shows

-- of a member that runs and has not failed
abbrev pub running_view : MemberStatus → Option View
running_view status = option_map view_of (server_of status)

abbrev pub view_at : Cluster → ℕ → Option View
view_at w n = if is_member w.ids n then running_view (w.member n).status else None

-- at place 0 the blank of term 0, and none above the last
abbrev pub entry_in : AllocatorState → ℕ → Option Entry
entry_in server place =
    if nat_lt (length server.raft_server.store.log) place then None else Some (allocator_entry server place)

abbrev pub running_entry : MemberStatus → ℕ → Option Entry
running_entry status place = option_and_then (λ server. entry_in server place) (server_of status)

abbrev pub entry_of : Cluster → ℕ → ℕ → Option Entry
entry_of w n place = if is_member w.ids n then running_entry (w.member n).status place else None
