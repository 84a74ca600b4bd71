-- The disk by keys, with the stored state in place of the map.
use Rattle.std.specs.Prelude.{◌≡◌, ⊤, ℕ, ◌+◌, ◌<◌, ◌&&◌, Bool, true, List, [], ◌∷◌, Option, None, Some, if◌then◌else◌}
use Rattle.disk_model.specs.declared.calls.Calls.{Calls}
use Rattle.disk_model.specs.declared.disk.Disk.{Ghosts}
use Rattle.disk_model.specs.declared.memory.MemoryDisk.{MemoryDisk}
use Rattle.disk_model.specs.Contents.{IsSettled}
use Rattle.disk_model.specs.Memory.{memory_contents}
use Rattle.kv_store.specs.Image.{key_count}
use Rattle.kv_store.specs.KeyDisk.{IsOn as IsOnKeys, Unsynced, KeyDisk, after_calls, is_opened, is_put, keeps, opened_on, put_on}
use Rattle.outside.specs.declared.pattern.Pattern.{Pattern}
use Rattle.raft_log.specs.declared.durable.Durable.{Durable}
use Rattle.raft_log.specs.DeviceCalls.{key_of}
use Rattle.raft_log.specs.DurableViews.{durable_copies, durable_disk, durable_fault, durable_state}
use Rattle.raft_log.specs.Rules.{Stores}
use Rattle.raft_log.specs.Stored.{Put, Stored, after_put, opening_puts}

-- a put of the state
abbrev pub put_state_on : Put → KeyDisk Stored → KeyDisk Stored
put_state_on put key_disk = put_on (key_of put key_disk.store) (after_put put key_disk.store) key_disk

-- puts, in order, up to the first that fails
abbrev pub puts_on : List Put → KeyDisk Stored → KeyDisk Stored
puts_on [] key_disk = key_disk
puts_on (put ∷ puts) key_disk =
    if is_put key_disk.calls then puts_on puts (put_state_on put key_disk) else put_state_on put key_disk

-- whether all of them are done
abbrev pub are_put : List Put → Calls → Bool
are_put [] calls = true
are_put (put ∷ puts) calls = is_put calls && are_put puts (after_calls 4 calls)

-- how many of them are done: those before the first that fails
abbrev pub done_on : List Put → Calls → ℕ
done_on [] calls = 0
done_on (put ∷ puts) calls = if is_put calls then 1 + done_on puts (after_calls 4 calls) else 0

-- an opening: where the disk is read, its puts follow
abbrev pub opening_on : KeyDisk Stored → KeyDisk Stored
opening_on key_disk =
    if is_opened key_disk.calls then puts_on (opening_puts key_disk.store) (opened_on key_disk) else opened_on key_disk

-- whether all of it is done
abbrev pub is_open_on : KeyDisk Stored → Bool
is_open_on key_disk = is_opened key_disk.calls && are_put (opening_puts key_disk.store) (after_calls 2 key_disk.calls)

-- how many of its puts are done
abbrev pub opening_done : KeyDisk Stored → ℕ
opening_done key_disk =
    if is_opened key_disk.calls then done_on (opening_puts key_disk.store) (after_calls 2 key_disk.calls) else 0

-- whether a restart with this pattern finds the put done that failed: 1 where its selector was written and
-- is kept, else 0
abbrev pub kept_by : Pattern → Option (Unsynced Stored) → KeyDisk Stored → ℕ
kept_by pattern None key_disk = 0
kept_by pattern (Some unsynced) key_disk = if keeps pattern (key_disk.copies unsynced.key) then 1 else 0

abbrev pub found_by : Pattern → KeyDisk Stored → ℕ
found_by pattern key_disk = kept_by pattern key_disk.unsynced key_disk

-- what a lost selector leaves
abbrev pub SameUnsynced : Option (Unsynced (ℕ → List ℕ)) → Option (Unsynced Stored) → Type 0
SameUnsynced None None = ⊤
SameUnsynced None (Some state) = ⊥
SameUnsynced (Some map) None = ⊥
SameUnsynced (Some map) (Some state) = (map.key ≡ state.key) × Stores map.before state.before

-- the disk in memory is the one that the disk by keys tells of: it stores maps of these states
pub record IsOn (disk : MemoryDisk) (key_disk : KeyDisk Stored) : Type 0 where
  pub map : ℕ → List ℕ
  pub before : Option (Unsynced (ℕ → List ℕ))
  pub on : IsOnKeys disk (record { store = map; copies = key_disk.copies; unsynced = before; calls = key_disk.calls })
  pub stores : Stores map key_disk.store
  pub unsynced : SameUnsynced before key_disk.unsynced

-- and nothing waits for a sync
pub record IsReady (disk : MemoryDisk) (key_disk : KeyDisk Stored) : Type 0 where
  pub on : IsOn disk key_disk
  pub settled : IsSettled (memory_contents disk)
  pub nothing_unsynced : key_disk.unsynced ≡ None

-- the stored state of a running member is that of the disk by keys, and its disk the one that this tells of
pub record IsKeyDisk {ghosts : Ghosts MemoryDisk} (durable : Durable MemoryDisk ghosts)
    (key_disk : KeyDisk Stored) : Type 0 where
  pub works : durable_fault durable ≡ None
  pub disk : IsReady (durable_disk durable) key_disk
  pub state : durable_state durable ≡ key_disk.store
  pub copies : (key : ℕ) → key < key_count → durable_copies durable key ≡ key_disk.copies key
