-- The disk by keys: in place of the bytes of a disk in memory what its reads store, the copy that each
-- selector chooses, the one selector that was written and not synced, and which device calls fail. It says
-- exactly what each put, opening and restart makes of it.
use Rattle.std.specs.Prelude.{◌≡◌, ℕ, zero, suc, ◌-◌, ◌*◌, ◌%◌, ◌<◌, ◌==◌, ◌&&◌, Bool, true, false, List, Option, None, Some, IfSome, slice_index, if◌then◌else◌}
use Rattle.disk_model.specs.declared.calls.Calls.{Calls}
use Rattle.disk_model.specs.declared.memory.MemoryDisk.{MemoryDisk}
use Rattle.disk_model.specs.Calls.{acts, after_call}
use Rattle.disk_model.specs.Contents.{Contents, IsSettled, MayLeave}
use Rattle.disk_model.specs.Memory.{memory_calls, memory_contents, nothing_set}
use Rattle.disk_model.specs.Restart.{run_start}
use Rattle.kv_store.specs.Image.{StandsFor, chosen_copy, key_count, turned}
use Rattle.outside.specs.declared.pattern.Pattern.{Pattern}
use Rattle.outside.specs.declared.pattern.Pattern.TheVariants.{Old, New, Bytes}

-- a selector that was written and not synced: its key, and what the disk stores where it is lost
pub record Unsynced (S : Type 0) : Type 0 where
  pub key : ℕ
  pub before : S

-- S is what is stored: here the map, in a crate above the state that a map stands for
pub record KeyDisk (S : Type 0) : Type 0 where
  pub store : S
  pub copies : ℕ → ℕ
  pub unsynced : Option (Unsynced S)
  pub calls : Calls

-- the settings after so many device calls
abbrev pub after_calls : ℕ → Calls → Calls
after_calls zero calls = calls
after_calls (suc count) calls = after_calls count (after_call calls)

-- whether all four device calls of a put act
abbrev pub is_put : Calls → Bool
is_put calls = acts calls && (acts (after_calls 1 calls) && (acts (after_calls 2 calls) && acts (after_calls 3 calls)))

-- whether both device calls of an opening act
abbrev pub is_opened : Calls → Bool
is_opened calls = acts calls && acts (after_calls 1 calls)

-- whether a restart leaves a selector that was written and not synced, and chooses this copy, as it was
-- written: it is a run of its own, so a pattern of bytes gives it the first
abbrev pub keeps : Pattern → ℕ → Bool
keeps Old copy = false
keeps New copy = true
keeps (Bytes bytes) copy = (slice_index bytes.items 0 % 2) == copy

module _ {S : Type 0} where
  -- the disk after a selector was turned
  abbrev pub turned_to : ℕ → S → KeyDisk S → Option (Unsynced S) → Calls → KeyDisk S
  turned_to key store key_disk unsynced calls =
      record { store = store; copies = turned key key_disk.copies; unsynced = unsynced; calls = calls }

  -- what follows so many device calls, unless one of them fails: then the settings alone have changed
  abbrev pub unless_one_fails : ℕ → (KeyDisk S → KeyDisk S) → KeyDisk S → KeyDisk S
  unless_one_fails zero follows key_disk = follows key_disk
  unless_one_fails (suc count) follows key_disk =
      let called : KeyDisk S = record key_disk { calls = after_call key_disk.calls } in
      if acts key_disk.calls then unless_one_fails count follows called else called

  -- a put at a key, after which this is stored. It writes the copy, syncs and writes the selector: where these three
  -- device calls act, the selector is turned, and it is synced where the fourth acts
  abbrev pub put_on : ℕ → S → KeyDisk S → KeyDisk S
  put_on key after = unless_one_fails 3 (λ disk. turned_to key after disk
      (if acts disk.calls then None else Some (record { key = key; before = disk.store })) (after_call disk.calls))

  -- an opening: it syncs and reads
  abbrev pub opened_on : KeyDisk S → KeyDisk S
  opened_on = unless_one_fails 1 (λ disk. record disk { unsynced = None; calls = after_call disk.calls })

  -- what a restart with this pattern makes of a selector that was written and not synced
  abbrev pub settled_by : Pattern → Option (Unsynced S) → KeyDisk S → KeyDisk S
  settled_by pattern None key_disk = record key_disk { unsynced = None }
  settled_by pattern (Some unsynced) key_disk =
      if keeps pattern (key_disk.copies unsynced.key) then record key_disk { unsynced = None }
      else turned_to unsynced.key unsynced.before key_disk None key_disk.calls

  -- a restart: nothing is set to fail, and a selector that was not synced is kept or lost
  abbrev pub restarted_on : Pattern → KeyDisk S → KeyDisk S
  restarted_on pattern key_disk =
      record (settled_by pattern key_disk.unsynced key_disk) { calls = nothing_set key_disk.calls.faults }

-- the image stands for the map, and its selectors choose these copies
pub record Shows (image : List ℕ) (map : ℕ → List ℕ) (copies : ℕ → ℕ) : Type 0 where
  pub shown : StandsFor image map
  pub chosen : (key : ℕ) → key < key_count → chosen_copy image key ≡ copies key

-- of what was written and not synced the selector of this key alone matters: an image that a stop may
-- leave stands for the one map or for the other, as that selector says
pub record IsUnsynced (disk : Contents) (map : ℕ → List ℕ) (copies : ℕ → ℕ)
    (unsynced : Unsynced (ℕ → List ℕ)) : Type 0 where
  pub exists : unsynced.key < key_count
  pub kept : (image : List ℕ) → MayLeave disk image → chosen_copy image unsynced.key ≡ copies unsynced.key →
      Shows image map copies
  pub lost : (image : List ℕ) → MayLeave disk image →
      chosen_copy image unsynced.key ≡ 1 - copies unsynced.key →
      Shows image unsynced.before (turned unsynced.key copies)
  pub stable : chosen_copy disk.stable unsynced.key ≡ 1 - copies unsynced.key
  pub written : disk.written (67 * unsynced.key) ≡ true
  pub alone : run_start disk.written (67 * unsynced.key) ≡ 67 * unsynced.key

-- the disk in memory is the one that the disk by keys tells of
pub record IsOn (disk : MemoryDisk) (key_disk : KeyDisk (ℕ → List ℕ)) : Type 0 where
  pub calls : memory_calls disk ≡ key_disk.calls
  pub bits : (key : ℕ) → key_disk.copies key < 2
  pub seen : Shows (memory_contents disk).seen key_disk.store key_disk.copies
  pub nothing_unsynced : key_disk.unsynced ≡ None → (image : List ℕ) → MayLeave (memory_contents disk) image →
      Shows image key_disk.store key_disk.copies
  pub unsynced : IfSome key_disk.unsynced
      (λ unsynced. IsUnsynced (memory_contents disk) key_disk.store key_disk.copies unsynced)

-- and nothing waits for a sync
pub record IsReady (disk : MemoryDisk) (key_disk : KeyDisk (ℕ → List ℕ)) : Type 0 where
  pub on : IsOn disk key_disk
  pub settled : IsSettled (memory_contents disk)
  pub nothing_unsynced : key_disk.unsynced ≡ None
