use Rattle.std.proofs.Common.{refl, subst, ◌∙◌, ℕ}
use Rattle.alloc_handlers.proofs.Words.{IsInStep, call_phase, commit_phase, tell_phase}
use Rattle.alloc_handlers.proofs.Taking.{cut_off, goes_failed, is_step_state}
use Rattle.alloc_handlers.proofs.member.Member.end.Goals as goal

pub returns-in_err-commit-clause-goes : goal.returns-in_err-commit-clause-goes
returns-in_err-commit-clause-goes g c start step_state h =
    let s = c.args.self.now.offered.step in
    goes_failed _ c.from_residual.ensures.0 c.from_residual.ensures.1
    (cut_off c.puts_go_on.ensures (c.in_err-commit.ensures.goes s start step_state h) (c.phases_add_puts.ensures.tell s (commit_phase s step_state)))

pub returns-clause-goes : goal.returns-clause-goes
returns-clause-goes g c start step_state h =
    let s = c.args.self.now.offered.step in
    let committed = (c.in_ok-commit.ensures.goes s start step_state h).step_state refl in
    let same = c.in_ok-commit.ensures.leaves.lists.step in
    let told = subst (λ (n : ℕ). IsInStep start c.tell.new.self (tell_phase n (commit_phase s step_state))) same (c.tell.ensures.step_state start _ committed) in
    is_step_state
    (subst (λ (n : ℕ). IsInStep start c.call_all.new.self (call_phase n (tell_phase s (commit_phase s step_state)))) (c.tell.ensures.leaves.lists.step ∙ same)
    (c.call_all.ensures.step_state start _ told))
