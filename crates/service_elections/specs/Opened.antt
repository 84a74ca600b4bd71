-- What it is that members that have just been opened go on calmly, as the laws of this crate ask for it.
use Rattle.std.specs.Prelude.{ℕ, ◌+◌, ◌*◌, ◌<◌, List}
use Rattle.can_frame.specs.Timing.{election_wait}
use Rattle.raft_model.specs.Lists.{In}
use Rattle.bus_rows.specs.declared.row.Row.{Row}
use Rattle.bus_rows.specs.Timed.{Timed}
use Rattle.service_alone.specs.Calm.{Pace}
use Rattle.service_candidate.specs.Elections.{IsCalmRestart, StandApart}
use Rattle.service_leader.specs.NoElection.{CallsFit, greatest_wait}
use Rattle.service_elections.specs.Running.{IsCalmOf}
use Rattle.service_calm.specs.Calm.{Member, Party}
use Rattle.bus_spec.specs.Cluster.{world_of}

-- A calm in which the members of a group have just been opened, and were told the members of the cluster, is one of
-- members that go on calmly, where the queue of each has room for its calls, no two stand for election within eight
-- delays of each other, and calls come before the least wait is over, also where eight delays of it are over before.
-- What terms, votes and logs the members have stored is not asked.
abbrev pub OpenedMembersGoOn : List ℕ → List Row → Type 0
OpenedMembersGoOn ids rows = (group : List Party) (clocks : Party → ℕ) (pace : Pace) (start : ℕ) (whole : List Timed) →
    IsCalmRestart ids rows group clocks pace start whole →
    ((m : ℕ) → In (Member m) group → CallsFit m (world_of ids rows) whole) →
    StandApart group (8 * pace.delay) (world_of ids rows) whole →
    8 * pace.delay + greatest_wait pace < election_wait → IsCalmOf ids rows group clocks pace start whole
