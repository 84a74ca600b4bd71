use Rattle.std.proofs.Common.{subst}
use Rattle.std.specs.Prelude.{◌++◌}
use Rattle.raft_model.specs.Invariants.{Invariants}
use Rattle.raft_model.specs.Runs.{initial_world, run}
use Rattle.raft_model.specs.Safety.{IsSafe}
use Rattle.bus_agreement.proofs.HeadlineOfRuns.{headline}
use Rattle.bus_agreement.proofs.Concatenations.{lawful_joined, run_joined}
use Rattle.bus_agreement.proofs.headline.what_is_mirrored_has_the_headline.Goals as goal

pub returns : goal.returns
returns c = λ choice members first rest now later early late ids mirrors mirrored.
    let whole = lawful_joined (initial_world members) first rest early late in
    let joined = run_joined (initial_world members) first rest in
    headline choice now later (run (initial_world members) first) rest ids mirrors mirrored
    (c.law_every_run.ensures.safe members first early) (c.law_every_run.ensures.invariants members first early)
    (subst IsSafe joined (c.law_every_run.ensures.safe members (first ++ rest) whole))
    (subst Invariants joined (c.law_every_run.ensures.invariants members (first ++ rest) whole))
    (c.law_every_run.ensures.lasts members first rest early late) (c.law_commit.ensures.settled members first rest early late)
