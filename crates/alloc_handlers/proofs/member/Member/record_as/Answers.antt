use Rattle.std.proofs.Common.{subst, sym, Option, List, ℕ}
use Rattle.alloc_handlers.proofs.Words.{GoesTo, records_as, result_err}
use Rattle.alloc_handlers.proofs.member.Member.record_as.Goals as goal

pub returns-in-Some-clause-goes : goal.returns-in-Some-clause-goes
returns-in-Some-clause-goes g c step start step_state h =
    subst (λ (uid : Option (List ℕ)). GoesTo start c.propose.new.self (records_as step c.args.node uid step_state) (result_err c.propose.result)) (sym c.in-Some.is)
    (c.propose.ensures.goes step start step_state h)

pub returns-in-None-clause-goes : goal.returns-in-None-clause-goes
returns-in-None-clause-goes g c step start step_state h =
    subst (λ (uid : Option (List ℕ)). GoesTo start c.reserve.new.self (records_as step c.args.node uid step_state) (result_err c.reserve.result)) (sym c.in-None.is)
    (c.reserve.ensures.goes step start step_state h)
