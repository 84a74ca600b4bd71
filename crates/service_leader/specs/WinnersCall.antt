-- What it is that who comes to lead in a calm goes on calling.
use Rattle.std.specs.Prelude.{◌≢◌, ℕ, List, ◌∷◌, ◌++◌}
use Rattle.raft_model.specs.Lists.{In}
use Rattle.bus_rows.specs.declared.row.Row.{Row}
use Rattle.bus_rows.specs.Timed.{Timed, rows_in}
use Rattle.service_alone.specs.Calm.{Pace}
use Rattle.service_leader.specs.CallsComeBack.{LeadsNotIfUp}
use Rattle.service_leader.specs.Entries.{GoesOnCalling, PendsSince}
use Rattle.service_leader.specs.NoElection.{CallsFit}
use Rattle.service_calm.specs.Calls.{Lists}
use Rattle.service_calm.specs.CallsInTime.{Leads}
use Rattle.service_calm.specs.Calm.{AreCalm, AreRunning, Member, Party, no_traffic}
use Rattle.bus_spec.specs.Cluster.{after_row, after_rows, world_of}

-- In each calm from the world of these rows on, in which the calls of member n of the group find room in its queue, in
-- a row before which it does not lead, and behind which it leads: it calls each other node that it lists. So behind the
-- row each call of it to that node that waits for its answer was made in the calm, and it goes on calling it.
abbrev pub WinnersCall : List ℕ → List Row → Type 0
WinnersCall ids rows = (group : List Party) (clocks : Party → ℕ) (pace : Pace) (start n m : ℕ)
    (front rest : List Timed) (timed : Timed) → let w = world_of ids rows in
    let there = after_rows w (rows_in front) in let then = after_row there timed.row in
    let whole = front ++ timed ∷ rest in
    ((p : ℕ) → In (Member p) group → In p ids) → AreRunning group w → In (Member n) group → m ≢ n →
    AreCalm group clocks pace (no_traffic start) w whole → CallsFit n w whole → Lists n m w →
    LeadsNotIfUp n there → Leads n then → PendsSince n m w.rows then × GoesOnCalling n m then
