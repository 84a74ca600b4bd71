-- That no calm comes to an end by itself.
use Rattle.std.specs.Prelude.{ℕ, ◌+◌, ◌≤◌, List, ◌++◌}
use Rattle.raft_model.specs.Lists.{In}
use Rattle.bus_rows.specs.Timed.{Timed}
use Rattle.service_alone.specs.Calm.{Pace, end_of}
use Rattle.service_calm.specs.Calm.{AreCalm, Party, no_traffic}
use Rattle.bus_spec.specs.Cluster.{Cluster}

-- Whatever the world in which a calm began, and however it went on by now, rows of the same pace can go on, for as long
-- as one wants, where there is a party in the group, and a period and the delay are a millisecond at least. So what is
-- said of all calm rows is said of some.
abbrev pub CalmGoesOn : Type 0
CalmGoesOn = (group : List Party) (clocks : Party → ℕ) (pace : Pace) (party : Party) (start more : ℕ) (w : Cluster)
    (whole : List Timed) → In party group → 1 ≤ pace.period → 1 ≤ pace.delay →
    AreCalm group clocks pace (no_traffic start) w whole →
    (rest : List Timed) × AreCalm group clocks pace (no_traffic start) w (whole ++ rest)
    × (end_of start whole + more ≤ end_of start (whole ++ rest))
