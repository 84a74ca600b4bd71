-- A disk in memory: what it holds, and exactly what each device call and a restart make of it.
use Rattle.std.specs.Prelude.{◌≡◌, ℕ, ◌<◌, Bool, true, false, slice_index, slice_index_or}
use Rattle.disk_model.specs.declared.memory.MemoryDisk.{MemoryDisk}
use Rattle.disk_model.specs.declared.calls.Calls.{Calls}
use Rattle.disk_model.specs.Contents.{Contents, MayLeave, IsSettled, image_size}
use Rattle.disk_model.specs.Device.{DeviceCall, Overwrites, IsSynced}
use Rattle.disk_model.specs.Device.DeviceCall.{Read, Write, Sync}
use Rattle.disk_model.specs.Calls.{acts, after_call}
use Rattle.disk_model.specs.Restart.{restarted_byte}
use Rattle.outside.specs.declared.pattern.Pattern.{Pattern}

abbrev pub memory_contents : MemoryDisk → Contents
memory_contents disk =
    record { seen = disk.seen; stable = disk.stable; written = λ i. slice_index_or disk.touched i false }

abbrev pub memory_calls : MemoryDisk → Calls
memory_calls disk = disk.calls

-- no device call is set to fail, and so many did
abbrev pub nothing_set : ℕ → Calls
nothing_set faults = record { stop_in = 0; fail_in = 0; stopped = false; faults = faults }

-- what a device call that acts makes of the contents
abbrev pub ActsOn : DeviceCall → Contents → Contents → Type 0
ActsOn (Read at size) old new = new ≡ old
ActsOn (Write at bytes) old new = Overwrites at bytes old new
ActsOn Sync old new = IsSynced old new

-- a device call fails exactly where it is set to, and then leaves the contents as they are
pub record DoesInMemory (old : MemoryDisk) (call : DeviceCall) (ok : Bool) (new : MemoryDisk) : Type 0 where
  pub answer : ok ≡ acts (memory_calls old)
  pub calls : memory_calls new ≡ after_call (memory_calls old)
  pub acted : ok ≡ true → ActsOn call (memory_contents old) (memory_contents new)
  pub failed : ok ≡ false → memory_contents new ≡ memory_contents old

-- a restart leaves the image that the pattern makes, all of it stable, with nothing set to fail
pub record Restarts (pattern : Pattern) (old new : MemoryDisk) : Type 0 where
  pub bytes : (i : ℕ) → i < image_size →
      slice_index (memory_contents new).seen i ≡ restarted_byte pattern (memory_contents old) i
  pub image : MayLeave (memory_contents old) (memory_contents new).seen
  pub stable : (memory_contents new).stable ≡ (memory_contents new).seen
  pub settled : IsSettled (memory_contents new)
  pub calls : memory_calls new ≡ nothing_set (memory_calls old).faults
