use Rattle.std.proofs.Common.{Bool, List, Option, ℕ, sym, ap, subst, ◌∙◌}
use Rattle.alloc_handlers.proofs.Words.{IsInStep, StepState, asks, known, next_query}
use Rattle.alloc_handlers.proofs.Choosing.{otherwise, then_}
use Rattle.alloc_handlers.proofs.member.Member.ask_node.Goals as goal

pub returns-then-not-leads-clause-step_state : goal.returns-then-not-leads-clause-step_state
returns-then-not-leads-clause-step_state g c start step_state h =
    otherwise (λ (x : StepState). IsInStep start c.args.self.now x) _ _ _ (sym (c.leads.ensures.stands step_state.allocator h.stands) ∙ c.if-not-leads.true) h

pub returns-in-Some-clause-step_state : goal.returns-in-Some-clause-step_state
returns-in-Some-clause-step_state g c start step_state h =
    let t = step_state.allocator in
    let s = c.args.self.now.offered.step in
    let next = sym c.in-Some.is ∙ c.next_query.ensures.computed t.watch h.stands.watch
    ∙ ap (λ (list : List Bool). next_query t.watch list c.args.self.now.latest) (c.known-known.ensures.known t h.stands) ∙ ap (λ (now : ℕ). next_query t.watch (known t) now) h.stands.now in
    then_ (λ (x : StepState). IsInStep start c.ask.new.self x) _ _ _ (sym (c.leads.ensures.stands step_state.allocator h.stands) ∙ c.if-not-leads.false)
    (subst (λ (node : Option ℕ). IsInStep start c.ask.new.self (asks s node step_state)) next (c.ask.ensures.step_state start step_state h))

pub returns-in_default-clause-step_state : goal.returns-in_default-clause-step_state
returns-in_default-clause-step_state g c start step_state h =
    let t = step_state.allocator in
    let s = c.args.self.now.offered.step in
    let next = sym c.in_default.is ∙ c.next_query.ensures.computed t.watch h.stands.watch
    ∙ ap (λ (list : List Bool). next_query t.watch list c.args.self.now.latest) (c.known-known.ensures.known t h.stands) ∙ ap (λ (now : ℕ). next_query t.watch (known t) now) h.stands.now in
    then_ (λ (x : StepState). IsInStep start c.args.self.now x) _ _ _ (sym (c.leads.ensures.stands step_state.allocator h.stands) ∙ c.if-not-leads.false)
    (subst (λ (node : Option ℕ). IsInStep start c.args.self.now (asks s node step_state)) next h)
