-- What a cluster of processes and a world have in common.
use Rattle.std.specs.Prelude.{◌≡◌, ⊤, ℕ, ◌==◌, true, false, List, [], ◌∷◌, ◌++◌, map, take, None, if◌then◌else◌}
use Rattle.disk_model.specs.Memory.{nothing_set}
use Rattle.outside.specs.declared.received.RawFrame.{RawFrame}
use Rattle.outside.specs.declared.received.Received.{Received}
use Rattle.outside.specs.declared.received.Received.TheVariants.{Frame, Junk, Nothing}
use Rattle.bus_rows.specs.declared.row.Row.{Row}
use Rattle.bus_rows.specs.declared.row.Row.TheVariants.{Send}
use Rattle.alloc_spec.specs.AllocatorState.{AllocatorState}
use Rattle.transfer_tx.specs.Queue.{Queued}
use Rattle.alloc_ghost_erasure.specs.Unmarked.{unmarked_server}
use Rattle.bus_spec.specs.Cluster.{Cluster, frame_at, in_list, after_row}
use Rattle.bus_spec.specs.Members.{MemberStatus, Member, next_frame}
use Rattle.bus_spec.specs.Members.MemberStatus.{Down, Failed, Up}
use Rattle.cmd_node.specs.Frames.{is_frame, raw_of}
use Rattle.cmd_node.specs.Turn.{Running}
use Rattle.cmd_node_laws.specs.Traces.{Came, FromElsewhere, Silence, WasSent}

-- ---- between events: no call of a disk is set to fail, nothing waits for a sync, and no step failed

abbrev pub HasWorked : MemberStatus → Type 0
HasWorked Down = ⊤
HasWorked (Up server) = ⊤
HasWorked (Failed failure) = ⊥

pub record IsCalm (x : Member) : Type 0 where
  pub calls : x.disk.calls ≡ nothing_set x.disk.calls.faults
  pub nothing_unsynced : x.disk.unsynced ≡ None
  pub works : HasWorked x.status

abbrev pub AreCalm : Cluster → Type 0
AreCalm w = (m : ℕ) → IsCalm (w.member m)

-- ---- an allocator of a process and a member of the world: the same server, but for marks and the numbers of steps

pub record IsMirrored (w : Cluster) (r : Running) : Type 0 where
  pub server : AllocatorState
  pub runs : (w.member r.id).status ≡ Up server
  pub same : unmarked_server server ≡ unmarked_server r.allocator

-- ---- frames

-- the frame as a link has it
pub record IsOnLink (raw : RawFrame) (id : ℕ) (bytes : List ℕ) : Type 0 where
  pub frame : is_frame raw ≡ true
  pub id_is : raw.id ≡ id
  pub bytes_are : take raw.len raw.bytes ≡ bytes

-- what came is what the link gave
abbrev pub Carries : List Queued → Received → Came → Type 0
Carries frames (Frame raw) Silence = is_frame raw ≡ false
Carries frames (Frame raw) (WasSent k) = IsOnLink raw (frame_at frames k).id (frame_at frames k).bytes
Carries frames (Frame raw) (FromElsewhere frame) = IsOnLink raw frame.id frame.bytes.items
Carries frames Junk Silence = ⊤
Carries frames Junk (WasSent k) = ⊥
Carries frames Junk (FromElsewhere frame) = ⊥
Carries frames Nothing Silence = ⊤
Carries frames Nothing (WasSent k) = ⊥
Carries frames Nothing (FromElsewhere frame) = ⊥

-- the frames that a member sends in a row, and in all of these
abbrev pub sent_in : ℕ → Cluster → Row → List Queued
sent_in n w (Send m) = if m == n then in_list (next_frame (w.member m).status) else []
sent_in n w row = []

abbrev pub sent_by : ℕ → Cluster → List Row → List Queued
sent_by n w [] = []
sent_by n w (row ∷ rows) = sent_in n w row ++ sent_by n (after_row w row) rows

-- as its link is sent them
abbrev pub raw_by : ℕ → Cluster → List Row → List RawFrame
raw_by n w rows = map raw_of (sent_by n w rows)
