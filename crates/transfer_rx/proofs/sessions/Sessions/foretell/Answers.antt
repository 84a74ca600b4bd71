use Rattle.std.proofs.Common.{◌++◌, ◌∷◌, [], sym, ◌∙◌, ap, subst}
use Rattle.can_frame.specs.Cutting.{payload_of}
use Rattle.can_frame.specs.Piece.{piece_of}
use Rattle.transfer_rx.specs.Keys.{key_of}
use Rattle.transfer_rx.specs.Reassembly.{Step, delivered}
use Rattle.transfer_rx.specs.Turns.{IsRoomy, IsTurn}
use Rattle.transfer_rx.specs.Verdicts.{says}
use Rattle.transfer_rx.proofs.Steps.{next, out, refused}
use Rattle.transfer_rx.proofs.sessions.Sessions.foretell.Goals as goal

pub returns-in-Refused-clause-delivery : goal.returns-in-Refused-clause-delivery
returns-in-Refused-clause-delivery g c = λ most blocks signature now places sessions h.
    let t = subst (λ t. IsTurn most c.args.self.now.pool blocks (key_of c.args.ident) signature (piece_of c.args.frame.now) now places sessions t) c.in-Refused.is h in
    ap (λ (x : Step). delivered x.answer) (sym (refused most blocks (record { ident = c.args.ident; signature = signature }) (piece_of c.args.frame.now) c.args.mark now sessions c.in-Refused.field-0 t))

pub returns-in-Out-clause-delivery : goal.returns-in-Out-clause-delivery
returns-in-Out-clause-delivery g c = λ most blocks signature now places sessions h.
    let t = subst (λ t. IsTurn most c.args.self.now.pool blocks (key_of c.args.ident) signature (piece_of c.args.frame.now) now places sessions t) c.in-Out.is h in
    ap (λ (x : Step). delivered x.answer) (sym (out most blocks (record { ident = c.args.ident; signature = signature }) (piece_of c.args.frame.now) c.args.mark now sessions t.0.session c.in-Out.field-1 t.0.there t.1))

pub returns-in-Next-clause-front : goal.returns-in-Next-clause-front
returns-in-Next-clause-front g c =
    let room = subst (λ t. IsRoomy g.row.S c.args.self.now.pool (piece_of c.args.frame.now) t) c.in-Next.is c.requires.room in
    c.completed.ensures.front g.row.S c.args.self.now.pool room.0 room.1 room.3

pub returns-in-Next-clause-delivery : goal.returns-in-Next-clause-delivery
returns-in-Next-clause-delivery g c = λ most blocks signature now places sessions h.
    let room = subst (λ t. IsRoomy g.row.S c.args.self.now.pool (piece_of c.args.frame.now) t) c.in-Next.is c.requires.room in
    let t = subst (λ t. IsTurn most c.args.self.now.pool blocks (key_of c.args.ident) signature (piece_of c.args.frame.now) now places sessions t) c.in-Next.is h in
    c.completed.ensures.delivery c.args.self.now.pool t.0.session room.1 t.0.finds.keeps
    ∙ ap (λ (x : Step). delivered x.answer) (sym (next most blocks (record { ident = c.args.ident; signature = signature }) (piece_of c.args.frame.now) c.args.mark now sessions
    t.0.session (says (payload_of (t.0.session.taken ++ piece_of c.args.frame.now ∷ [])) c.in-Next.verdict) t.0.there t.1 t.2))
