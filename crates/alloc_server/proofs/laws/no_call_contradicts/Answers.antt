use Rattle.raft_model.specs.Runs.{initial_world, run}
use Rattle.alloc_server.proofs.OneLog.{contradicts_nothing, repeats_nothing}
use Rattle.alloc_server.proofs.laws.no_call_contradicts.Goals as goal

pub returns-clause-repeats : goal.returns-clause-repeats
returns-clause-repeats c = λ members events lawful.
    repeats_nothing (run (initial_world members) events) (c.law_stored.ensures.stores members events lawful) (c.law_votes.ensures.leaders members events lawful)
    (c.law_matching.ensures.logs members events lawful) (c.law_commit.ensures.commits members events lawful) (c.law_commit.ensures.complete members events lawful)

pub returns-clause-contradicts : goal.returns-clause-contradicts
returns-clause-contradicts c = λ members events lawful.
    contradicts_nothing (run (initial_world members) events) (c.law_one_log.ensures.log members events lawful) (c.law_one_log.ensures.past members events lawful)
    (returns-clause-repeats c members events lawful)
