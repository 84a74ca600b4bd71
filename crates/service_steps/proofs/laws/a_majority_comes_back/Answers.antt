use Rattle.std.proofs.Common.{ℕ, List, refl, sym, subst}
use Rattle.raft_model.specs.Duty.{WinDuty}
use Rattle.raft_model.specs.Runs.{initial_world, run}
use Rattle.service_steps.proofs.Coming.{members_stay}
use Rattle.service_steps.proofs.ComingBack.{comes_back}
use Rattle.service_steps.proofs.laws.a_majority_comes_back.Goals as goal

pub returns : goal.returns
returns c = λ members events lawful group once majority room.
    comes_back
    (record {
      invariants = c.law_every_run.ensures.invariants;
      fit = λ ms es legal member. c.law_fit.ensures.run ms es member legal;
      one_verdict = c.law_decisions.ensures.one_verdict;
    })
    (λ ms es legal member. subst (λ (l : List ℕ). WinDuty l ((run (initial_world ms) es).server member)) (sym (members_stay (initial_world ms) es))
    (c.law_duty.ensures.win ms es member legal))
    (λ log entry blank. (c.logs_stay_injective.ensures.blank log entry blank).1)
    (run (initial_world members) events) (record { members = members; past = events; lawful = lawful; is = refl }) group once majority room
