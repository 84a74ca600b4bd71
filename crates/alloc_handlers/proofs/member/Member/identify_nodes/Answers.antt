use Rattle.std.proofs.Common.{refl, subst, sym, ◌∙◌, ℕ, None}
use Rattle.alloc_handlers.proofs.Words.{GoesTo, IsInStep, StepState, query_phase, record_phase}
use Rattle.alloc_handlers.proofs.Strangers.{nothing_led, nothing_unknown}
use Rattle.alloc_handlers.proofs.Taking.{cut_off, goes_failed, is_step_state}
use Rattle.alloc_handlers.proofs.member.Member.identify_nodes.Goals as goal

pub returns-then-not-leads-clause-goes : goal.returns-then-not-leads-clause-goes
returns-then-not-leads-clause-goes g c start step_state h =
    let same = nothing_led c.args.self.now.offered.step step_state (sym (c.leads.ensures.stands step_state.allocator h.stands) ∙ c.if-not-leads.true) in
    subst (λ (x : StepState). GoesTo start c.args.self.now x None) (sym same) (is_step_state h)

pub returns-then-not-sees_strangers-clause-goes : goal.returns-then-not-sees_strangers-clause-goes
returns-then-not-sees_strangers-clause-goes g c start step_state h =
    let same = nothing_unknown c.args.self.now.offered.step step_state (c.sees_strangers.ensures.none c.if-not-sees_strangers.true step_state.allocator h.stands) in
    subst (λ (x : StepState). GoesTo start c.args.self.now x None) (sym same) (is_step_state h)

pub returns-in_err-record_node-clause-goes : goal.returns-in_err-record_node-clause-goes
returns-in_err-record_node-clause-goes g c start step_state h =
    let s = c.args.self.now.offered.step in
    goes_failed _ c.from_residual.ensures.0 c.from_residual.ensures.1
    (cut_off c.puts_go_on.ensures (c.in_err-record_node.ensures.goes s start step_state h) (c.phases_add_puts.ensures.query s (record_phase s step_state)))

pub returns-clause-goes : goal.returns-clause-goes
returns-clause-goes g c start step_state h =
    let s = c.args.self.now.offered.step in
    is_step_state
    (subst (λ (n : ℕ). IsInStep start c.ask_node.new.self (query_phase n (record_phase s step_state))) c.in_ok-record_node.ensures.leaves.lists.step
    (c.ask_node.ensures.step_state start _ ((c.in_ok-record_node.ensures.goes s start step_state h).step_state refl)))
