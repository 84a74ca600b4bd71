use Rattle.std.proofs.Common.{sym, subst, Ok}
use Rattle.alloc_handlers.proofs.Words.{SeesTo, by_kind, delivery_of}
use Rattle.can_frame.specs.declared.identifier.Kind.{Kind}
use Rattle.alloc_spec.specs.Delivered.{delivery_phase}
use Rattle.alloc_handlers.proofs.Sights.{sees}
use Rattle.alloc_handlers.proofs.member.Member.deliver.Goals as goal

pub returns-in-Anonymous-clause-sees : goal.returns-in-Anonymous-clause-sees
unfolding delivery_phase
returns-in-Anonymous-clause-sees g c start step_state h =
    subst (λ (kind : Kind). SeesTo start c.hear_allocation.new.self (by_kind c.args.self.now.offered.step (delivery_of c.args.transfer.now) kind step_state) c.hear_allocation.result) (sym c.in-Anonymous.is)
    (c.hear_allocation.ensures.sees start step_state h)

pub returns-in-Message-clause-sees : goal.returns-in-Message-clause-sees
unfolding delivery_phase
returns-in-Message-clause-sees g c start step_state h =
    let d = delivery_of c.args.transfer.now in
    let heard = c.hear_message.ensures.sees start step_state h in
    subst (λ (kind : Kind). SeesTo start c.hear_message.new.self (by_kind c.args.self.now.offered.step d kind step_state) (Ok c.hear_message.result)) (sym c.in-Message.is)
    (sees heard.1 heard.0)

pub returns-in-Request-clause-sees : goal.returns-in-Request-clause-sees
unfolding delivery_phase
returns-in-Request-clause-sees g c start step_state h =
    subst (λ (kind : Kind). SeesTo start c.take_request.new.self (by_kind c.args.self.now.offered.step (delivery_of c.args.transfer.now) kind step_state) c.take_request.result) (sym c.in-Request.is)
    (c.take_request.ensures.sees start step_state h)

pub returns-in-Response-clause-sees : goal.returns-in-Response-clause-sees
unfolding delivery_phase
returns-in-Response-clause-sees g c start step_state h =
    subst (λ (kind : Kind). SeesTo start c.take_response.new.self (by_kind c.args.self.now.offered.step (delivery_of c.args.transfer.now) kind step_state) c.take_response.result) (sym c.in-Response.is)
    (c.take_response.ensures.sees c.args.self.now.offered.step start step_state h)
