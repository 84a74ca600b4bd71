-- Which device calls on a disk in memory fail.
use Rattle.std.specs.Prelude.{◌-◌, Bool, not, ◌||◌, ◌==◌, if◌then◌else◌}
use Rattle.disk_model.specs.declared.calls.Calls.{Calls}
use Rattle.outside.specs.Faults.{one_more}

-- whether the next device call stops the disk, or finds it stopped
abbrev pub stops : Calls → Bool
stops calls = calls.stopped || (calls.stop_in == 1)

-- whether the next device call acts
abbrev pub acts : Calls → Bool
acts calls = not (stops calls || (calls.fail_in == 1))

-- what a device call makes of the settings and of the count of faults
abbrev pub after_call : Calls → Calls
after_call calls = record {
  stop_in = calls.stop_in - 1;
  fail_in = calls.fail_in - 1;
  stopped = stops calls;
  faults = if acts calls then calls.faults else one_more calls.faults;
}
