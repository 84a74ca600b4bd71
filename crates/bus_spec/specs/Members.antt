-- A member of a cluster: a disk, and where it runs, an allocator state over it. It opens, takes steps, and stops.
--
-- The disk is the one by states (`raft_log`): what is stored, the copy that each selector chooses, the one selector
-- that was written and not synced, and which of its calls fail.
use Rattle.std.specs.Prelude.{ℕ, ◌+◌, ◌==◌, Bool, true, false, [], Option, None, Some, take, if◌then◌else◌, List}
use Rattle.std.specs.Option.{option_and_then}
use Rattle.disk_model.specs.Memory.{nothing_set}
use Rattle.kv_store.specs.KeyDisk.{KeyDisk, restarted_on}
use Rattle.outside.specs.declared.pattern.Pattern.{Pattern}
use Rattle.outside.specs.declared.pattern.Pattern.TheVariants.{Old}
use Rattle.raft_core.specs.StoredPuts.{puts_alone, store_of, stored_puts}
use Rattle.raft_log.specs.KeyDisk.{are_put, done_on, is_open_on, opening_on, puts_on}
use Rattle.raft_log.specs.Stored.{Put, Stored}
use Rattle.raft_model.specs.Server.{Store, put_all}
use Rattle.transfer_tx.specs.Queue.{Queued, next_out}
use Rattle.alloc_spec.specs.StepState.{StepState}
use Rattle.alloc_spec.specs.Step.{Event, after_pop, step}
use Rattle.alloc_spec.specs.AllocatorState.{AllocatorState}
use Rattle.alloc_spec.specs.Rules.{Rules, opening_by}

-- A step that failed, as it is known until its member stops: its row, the server before it, what it set out to do,
-- and how many of its puts are done for sure. Whether the next one is, a stop finds.
pub record Failure : Type 0 where
  pub row : ℕ
  pub before : AllocatorState
  pub step_state : StepState
  pub done : ℕ

pub data MemberStatus : Type 0 where
  Down : MemberStatus
  Up : (server : AllocatorState) → MemberStatus
  -- the member runs, and takes no step any more
  Failed : (failure : Failure) → MemberStatus

pub record Member : Type 0 where
  pub status : MemberStatus
  pub disk : KeyDisk Stored
  -- of the stop that was armed last
  pub pattern : Pattern

abbrev pub is_running : MemberStatus → Bool
is_running Down = false
is_running (Up server) = true
is_running (Failed failure) = true

-- the allocator of a member that runs and has not failed
abbrev pub server_of : MemberStatus → Option AllocatorState
server_of Down = None
server_of (Up server) = Some server
server_of (Failed failure) = None

-- what is stored after a failed step, where so many more of its puts are done as are for sure
abbrev pub stored_after : Failure → ℕ → Store
stored_after failure more =
    put_all failure.before.raft_server.store (take (failure.done + more) (puts_alone failure.step_state.puts))

-- ---- a member at the beginning: stopped, on a disk of zeros

abbrev pub zeros_stored : Stored
zeros_stored = record { term = 0; vote = 0; log = []; commit = 0; origins = []; version = 0 }

abbrev pub fresh_disk : KeyDisk Stored
fresh_disk = record { store = zeros_stored; copies = λ key. 0; unsynced = None; calls = nothing_set 0 }

abbrev pub fresh_member : Member
fresh_member = record { status = Down; disk = fresh_disk; pattern = Old }

-- ---- a stop: what the server knew is lost, and the disk starts again

abbrev pub stopped_with : Pattern → KeyDisk Stored → Member → Member
stopped_with pattern disk x = record { status = Down; disk = restarted_on pattern disk; pattern = pattern }

-- ---- an opening

-- an opening that failed leaves the member stopped; where its disk stopped, it starts again
abbrev pub after_failed_opening : Member → KeyDisk Stored → Member
after_failed_opening x disk =
    if disk.calls.stopped then stopped_with x.pattern disk x else record x { status = Down; disk = disk }

-- as node n, by these rules
abbrev pub after_opening : ℕ → Rules → ℕ → ℕ → Member → Member
after_opening n rules moment word x =
    if is_open_on x.disk
    then record x {
      status = Up (opening_by n rules (store_of (opening_on x.disk).store) moment word);
      disk = opening_on x.disk;
    }
    else after_failed_opening x (opening_on x.disk)

-- ---- a step

-- the puts of a step, as the disk makes them
abbrev pub puts_of : Member → StepState → List Put
puts_of x step_state = stored_puts step_state.puts x.disk.store

-- a step was cut off by the disk: the member stops with it, or stays as one that failed
abbrev pub after_cut_off : Member → ℕ → AllocatorState → StepState → KeyDisk Stored → Member
after_cut_off x row before step_state disk =
    if disk.calls.stopped
    then stopped_with x.pattern disk x
    else record x {
      status = Failed
          (record {
            row = row;
            before = before;
            step_state = step_state;
            done =
                done_on (puts_of x step_state) x.disk.calls;
          });
      disk = disk;
    }

abbrev pub after_writing : Member → ℕ → AllocatorState → StepState → Member
after_writing x row before step_state =
    if are_put (puts_of x step_state) x.disk.calls
    then record x { status = Up step_state.allocator; disk = puts_on (puts_of x step_state) x.disk }
    else after_cut_off x row before step_state (puts_on (puts_of x step_state) x.disk)

-- a stopped member takes no step, nor does one that failed
abbrev pub member_after_step : ℕ → Event → MemberStatus → Member → Member
member_after_step row event Down x = x
member_after_step row event (Up server) x = after_writing x row server (step server row event).step_state
member_after_step row event (Failed failure) x = x

-- ---- its queue

-- the frame that goes out next
abbrev pub next_frame : MemberStatus → Option Queued
next_frame status = option_and_then (λ server. next_out server.queue) (server_of status)

abbrev pub after_sending : MemberStatus → MemberStatus
after_sending Down = Down
after_sending (Up server) = Up (after_pop server)
after_sending (Failed failure) = Failed failure

-- ---- what is armed: calls of the disk are counted from here on

-- a stop in place of that call; it takes the place of an earlier one
abbrev pub with_stop_armed : ℕ → Pattern → Member → Member
with_stop_armed call pattern x =
    record x { disk = record x.disk { calls = record x.disk.calls { stop_in = call } }; pattern = pattern }

-- a failure of that call; it takes the place of an earlier one
abbrev pub with_failure_armed : ℕ → Member → Member
with_failure_armed call x = record x { disk = record x.disk { calls = record x.disk.calls { fail_in = call } } }

-- a stop at once, where the number is 0, or in place of that later call
abbrev pub after_crash : ℕ → Pattern → Member → Member
after_crash calls pattern x = if calls == 0 then stopped_with pattern x.disk x else with_stop_armed calls pattern x
