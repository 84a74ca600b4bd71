use Rattle.std.proofs.Common.{ap, subst, ◌∙◌, Bool, ℕ}
use Rattle.alloc_handlers.proofs.Words.{after, answer, may_follow}
use Rattle.alloc_exchange.specs.Stands as exchange
use Rattle.alloc_handlers.proofs.Noting.{noted_request}
use Rattle.alloc_handlers.proofs.member.Member.hear.Goals as goal

pub returns-clause-answer : goal.returns-clause-answer
returns-clause-answer g c t h =
    c.heard.ensures.answer t.accepted h.exchange
    ∙ ap (λ (now : ℕ). answer t.accepted c.args.message.now now c.may_follow-may_follow.result) h.now
    ∙ ap (λ (may : Bool). answer t.accepted c.args.message.now t.now may) (c.may_follow-may_follow.ensures t h)

pub returns-clause-step_state : goal.returns-clause-step_state
returns-clause-step_state g c start step_state h =
    let t = step_state.allocator in
    noted_request start c.args.self.now step_state h c.heard.new.self (after t.accepted c.args.message.now t.now (may_follow t))
    (subst (λ (may : Bool). exchange.StandsFor c.heard.new.self (after t.accepted c.args.message.now t.now may)) (c.may_follow-may_follow.ensures t h.stands)
    (subst (λ (now : ℕ). exchange.StandsFor c.heard.new.self (after t.accepted c.args.message.now now c.may_follow-may_follow.result)) h.stands.now
    (c.heard.ensures.after t.accepted h.stands.exchange)))
