use Rattle.raft_model.specs.Runs.{initial_world, run}
use Rattle.raft_model.proofs.OneLog.{one_log, one_past}
use Rattle.raft_model.proofs.laws.law_one_log.Goals as goal

pub returns-clause-log : goal.returns-clause-log
returns-clause-log c = λ members events lawful.
    one_log (run (initial_world members) events) (c.law_stored.ensures.stores members events lawful) (c.law_matching.ensures.logs members events lawful)
    (c.law_commit.ensures.commits members events lawful) (c.law_commit.ensures.complete members events lawful)

pub returns-clause-past : goal.returns-clause-past
returns-clause-past c = λ members events lawful.
    one_past (run (initial_world members) events) (c.law_stored.ensures.stores members events lawful) (c.law_matching.ensures.logs members events lawful)
    (c.law_commit.ensures.commits members events lawful) (c.law_commit.ensures.complete members events lawful)
