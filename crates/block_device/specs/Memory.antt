-- Exactly what each device call makes of a device in memory.
use Rattle.std.specs.Prelude.{◌≡◌, ℕ, ◌-◌, Bool, true, false, not, ◌||◌, ◌==◌, if◌then◌else◌}
use Rattle.block_device.specs.declared.memory.MemoryDevice.{MemoryDevice}
use Rattle.disk_model.specs.Device.{DeviceCall}
use Rattle.outside.specs.Faults.{one_more}

-- whether the next device call stops the device, or finds it stopped
abbrev pub stops_device : MemoryDevice → Bool
stops_device device = device.stopped || (device.stop_in == 1)

-- a device call fails exactly where the device is stopped, and is counted then
pub record DoesToBlocks (old : MemoryDevice) (call : DeviceCall) (ok : Bool) (new : MemoryDevice) : Type 0 where
  pub answer : ok ≡ not (stops_device old)
  pub stopped : new.stopped ≡ stops_device old
  pub stop_in : new.stop_in ≡ old.stop_in - 1
  pub faults : new.faults ≡ (if ok then old.faults else one_more old.faults)
