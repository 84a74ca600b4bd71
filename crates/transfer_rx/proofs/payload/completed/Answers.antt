use Rattle.std.proofs.Common.{subst}
use Rattle.can_frame.specs.Piece.{piece_of}
use Rattle.transfer_rx.specs.Turns.{Completes}
use Rattle.transfer_rx.specs.Verdicts.{IfWhole}
use Rattle.transfer_rx.proofs.payload.completed.Goals as goal

pub returns-in-Whole-clause-front : goal.returns-in-Whole-clause-front
returns-in-Whole-clause-front c = λ places chains there filled within.
    c.completed.ensures.front places chains there filled (subst (λ v. IfWhole v (Completes c.args.found (piece_of c.args.frame.now))) c.in-Whole.is within)
