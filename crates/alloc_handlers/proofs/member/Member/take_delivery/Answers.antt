use Rattle.std.proofs.Common.{refl, sym, subst, Ok}
use Rattle.alloc_handlers.proofs.Words.{Dropped, Part, SeesTo, told_with, with_answer}
use Rattle.transfer_rx.specs.declared.transfer.Heard.{Heard}
use Rattle.alloc_handlers.proofs.Sights.{sees}
use Rattle.alloc_handlers.proofs.member.Member.take_delivery.Goals as goal

pub returns-in-Delivered-clause-sees : goal.returns-in-Delivered-clause-sees
returns-in-Delivered-clause-sees g c start step_state h =
    subst (λ (heard : Heard). SeesTo start c.deliver.new.self (with_answer c.args.self.now.offered.step (told_with c.args.transfer.now heard) step_state) c.deliver.result) (sym c.in-Delivered.is) (c.deliver.ensures.sees start step_state h)

pub returns-in-Part-clause-sees : goal.returns-in-Part-clause-sees
returns-in-Part-clause-sees g c start step_state h =
    subst (λ (heard : Heard). SeesTo start c.args.self.now (with_answer c.args.self.now.offered.step (told_with c.args.transfer.now heard) step_state) (Ok Part)) (sym c.in-Part.is)
    (sees refl h)

pub returns-in-Dropped-clause-sees : goal.returns-in-Dropped-clause-sees
returns-in-Dropped-clause-sees g c start step_state h =
    subst (λ (heard : Heard). SeesTo start c.args.self.now (with_answer c.args.self.now.offered.step (told_with c.args.transfer.now heard) step_state) (Ok (Dropped c.in-Dropped.why))) (sym c.in-Dropped.is)
    (sees refl h)
