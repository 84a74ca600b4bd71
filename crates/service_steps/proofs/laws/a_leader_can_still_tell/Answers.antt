use Rattle.std.proofs.Common.{refl}
use Rattle.raft_model.specs.Runs.{initial_world, run}
use Rattle.service_steps.proofs.Telling.{still_tells}
use Rattle.service_steps.proofs.laws.a_leader_can_still_tell.Goals as goal

pub returns : goal.returns
returns c = λ members events lawful group leader entry majority back may pair.
    still_tells
    (record {
      invariants = c.law_every_run.ensures.invariants;
      fit = λ ms es legal member. c.law_fit.ensures.run ms es member legal;
      one_verdict = c.law_decisions.ensures.one_verdict;
    })
    (run (initial_world members) events) (record { members = members; past = events; lawful = lawful; is = refl }) group leader entry majority back may pair
