-- The numbers that are stated for a vehicle, in milliseconds.
use Rattle.std.specs.Prelude.{ℕ, ◌+◌, ◌*◌, ◌-◌, ◌≤◌, true}
use Rattle.host_pace.specs.Timely.{longest_wait}
use Rattle.bus_physics.specs.Physics.{Limits}
use Rattle.allocator_app.specs.declared.told.Told.{Told}
use Rattle.allocator_app.specs.Told.{rest_of}

-- for how long a frame is on its way at most: in the link of each process, in the bridge of each, and on the bus
abbrev pub longest_hold : ℕ
longest_hold = 2 * longest_wait + 2 * 500 + 500

-- what a clock gains or loses within a minute at most
abbrev pub most_drift : ℕ
most_drift = 499

-- how long a turn takes at most, from its reading of the clock to the frame that it takes
abbrev pub longest_turn : ℕ
longest_turn = 1000

-- what a bus, a clock and a process that was told this keep, where the process ran one of its members before
abbrev pub vehicle_limits : Told → Limits
vehicle_limits told = record {
  hold = longest_hold;
  drift = most_drift;
  rest = rest_of told true;
  turn = longest_turn;
  since = 0;
}

-- ---- two Allocations of a member that is told the list

-- When one was made, when its first frame went out to the link below, and what the member's clock read then. It went
-- out behind its making. It waited no longer than a link lets a frame wait, by a clock that may be wrong.
pub record GoneOut : Type 0 where
  pub made : ℕ
  pub out : ℕ
  pub reading : ℕ
  pub after : made ≤ out
  pub soon : out ≤ made + longest_wait + most_drift

-- the clock of the member does not run fast from the first one to the second
abbrev pub KeepsPace : GoneOut → GoneOut → Type 0
KeepsPace x y = (x.out ≤ y.out) × (y.out ≤ x.out + 60000 → y.reading ≤ x.reading + (y.out - x.out) + most_drift)
