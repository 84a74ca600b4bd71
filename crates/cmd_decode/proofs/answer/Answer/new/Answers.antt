use Rattle.std.proofs.Common.{subst}
use Rattle.cmd_decode.specs.Taking.{TextEndsAs}
use Rattle.cmd_decode.proofs.answer.Answer.new.Goals as goal

pub returns-in-Whole : goal.returns-in-Whole
returns-in-Whole c = λ now count rest ends.
    let whole = subst (λ end. TextEndsAs end now count rest) c.in-Whole.is ends in
    c.of_whole.ensures now count rest whole.0 whole.1
