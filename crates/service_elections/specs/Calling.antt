-- What it is that a leader goes on calling, where no election comes any more, and that its calls come back.
use Rattle.std.specs.Prelude.{◌≢◌, ℕ, ◌+◌, ◌*◌, ◌<◌, List, ◌++◌}
use Rattle.raft_model.specs.Lists.{In}
use Rattle.bus_rows.specs.declared.row.Row.{Row}
use Rattle.bus_rows.specs.Timed.{Timed, rows_in}
use Rattle.service_alone.specs.Calm.{Pace, end_of}
use Rattle.service_leader.specs.CallsComeBack.{CallsReturn}
use Rattle.service_leader.specs.Entries.{GoesOnCalling, PendsSince}
use Rattle.service_leader.specs.LeadsOn.{IsLedThroughout}
use Rattle.service_leader.specs.NoElection.{NoElection, heard_within}
use Rattle.service_elections.specs.Running.{IsCalmOf}
use Rattle.service_calm.specs.Calm.{Member, Party}
use Rattle.bus_spec.specs.Cluster.{after_rows, world_of}

-- In each such calm, from any front on from which on member n leads and no election comes: a call and its answer later,
-- each call of n that waits for its answer was made behind that front, and n goes on calling each other member of the
-- group.
abbrev pub LeadersGoOnCalling : List ℕ → List Row → Type 0
LeadersGoOnCalling ids rows = (group : List Party) (clocks : Party → ℕ) (pace : Pace) (start n m term : ℕ)
    (first few rest : List Timed) → let w = world_of ids rows in let there = after_rows w (rows_in first) in
    let from = end_of start first in let then = after_rows there (rows_in few) in
    IsCalmOf ids rows group clocks pace start (first ++ (few ++ rest)) → In (Member n) group → In (Member m) group →
    m ≢ n → NoElection group clocks pace from n term there (few ++ rest) →
    from + heard_within pace + 2 * pace.delay < end_of from few →
    PendsSince n m there.rows then × GoesOnCalling n m then

-- ---- calls come back

-- In each such calm, from any front on from which a member of the group leads on in one term and the others follow:
-- each of its calls to another member of the group comes back, or the calm is over by then. What was before is not
-- asked: it may have led in an earlier term of the same calm, and calls of that term may be under way.
abbrev pub CallsReturnInRounds : List ℕ → List Row → Type 0
CallsReturnInRounds ids rows = (group : List Party) (clocks : Party → ℕ) (pace : Pace) (start n m term : ℕ)
    (first later : List Timed) → let there = after_rows (world_of ids rows) (rows_in first) in
    IsCalmOf ids rows group clocks pace start (first ++ later) → In (Member n) group → In (Member m) group → m ≢ n →
    IsLedThroughout group n term there later → CallsReturn n m pace.delay there later
