use Rattle.std.proofs.Common.{◌≡◌}
use Rattle.alloc_handlers.proofs.Words.{IsInStep, StepResult}
use Rattle.alloc_handlers.proofs.Choosing.{other_number, otherwise, same_number, then_}
use Rattle.alloc_handlers.proofs.member.Member.hear_message.Goals as goal

pub returns-then-transfer-clause-sees : goal.returns-then-transfer-clause-sees
returns-then-transfer-clause-sees g c start step_state h =
    then_ (λ (step_result : StepResult). IsInStep start c.hear_status.new.self step_result.step_state × (c.hear_status.result ≡ step_result.seen)) _ _ _
    (same_number c.args.transfer.now.ident.number 341 c.if-transfer.true) (c.hear_status.ensures.sees start step_state h)

pub returns-else-transfer-clause-sees : goal.returns-else-transfer-clause-sees
returns-else-transfer-clause-sees g c start step_state h =
    otherwise (λ (step_result : StepResult). IsInStep start c.hear_discovery.new.self step_result.step_state × (c.hear_discovery.result ≡ step_result.seen)) _ _ _
    (other_number c.args.transfer.now.ident.number 341 c.if-transfer.false) (c.hear_discovery.ensures.sees start step_state h)
