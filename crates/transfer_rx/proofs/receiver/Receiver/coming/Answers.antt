use Rattle.std.proofs.Common.{ℕ, ◌++◌, List, Option, Some, Result, sym, ◌∙◌, ap, rules}
use Rattle.can_frame.specs.Piece.{piece_of}
use Rattle.can_frame.specs.declared.step.Why.{Why}
use Rattle.transfer_rx.specs.declared.turn.Coming.{Coming}
use Rattle.transfer_rx.specs.Fronts.{front_bytes}
use Rattle.transfer_rx.specs.Heard.{delivery_with, told_alone}
use Rattle.std.proofs.lemmas.Bool.{not-true}
use Rattle.can_frame.specs.declared.tail.Tail.{Tail}
use Rattle.transfer_rx.specs.Crcs.{signature_in}
use Rattle.transfer_rx.specs.Keys.{key_of}
use Rattle.transfer_rx.specs.Sessions.{recent_sessions}
use Rattle.transfer_rx.specs.Places.{left}
use Rattle.transfer_rx.specs.Reassembly.{Step, arrival_of, delivered}
use Rattle.transfer_rx.proofs.Arrangement.{forget}
use Rattle.transfer_rx.proofs.Crcs.{of_key}
use Rattle.transfer_rx.specs.Views.{setting_of}
use Rattle.transfer_rx.proofs.OpenEnds.{gives_none}
use Rattle.transfer_rx.proofs.Steps.{anonymous, of_session, unwanted}
use Rattle.transfer_rx.proofs.receiver.Receiver.coming.Goals as goal

pub returns-then-not-tail-clause-delivery : goal.returns-then-not-tail-clause-delivery
returns-then-not-tail-clause-delivery g c = λ sessions s.
    let open_end = not-true c.tail.result.end c.if-not-tail.true in
    sym (gives_none (setting_of c.args.self.now) sessions (arrival_of c.args.frame.now c.args.mark c.args.now)
    (sym (ap (λ (t : Tail). t.end) c.tail.ensures.tail) ∙ open_end))

pub returns-in-Err-clause-delivery : goal.returns-in-Err-clause-delivery
returns-in-Err-clause-delivery g c = λ sessions s.
    ap (λ (x : Step). delivered x.answer) (sym (unwanted (record { rows = c.args.self.now.rows.items; me = c.args.self.now.me; sessions = g.row.S; blocks = g.row.N }) sessions (arrival_of c.args.frame.now c.args.mark c.args.now) c.in-Err.field-0 (sym c.wanted.ensures.wanted ∙ c.in-Err.is)))

pub returns-in-Ok-alone-clause-delivery : goal.returns-in-Ok-alone-clause-delivery
returns-in-Ok-alone-clause-delivery g c = λ sessions s.
    let bytes : List ℕ = (piece_of c.args.frame.now).bytes in
    ap (λ (front : Option ℕ). Some (delivery_with c.in-Ok-alone.coming.heading (front_bytes c.args.self.now.sessions.pool front ++ bytes))) c.in-Ok-alone.ensures.none
    ∙ ap (λ (r : Result Coming Why). delivered (told_alone bytes r)) (sym c.in-Ok-alone.is) ∙ ap delivered c.alone.ensures.answer
    ∙ ap (λ (x : Step). delivered x.answer) (sym (anonymous (record { rows = c.args.self.now.rows.items; me = c.args.self.now.me; sessions = g.row.S; blocks = g.row.N }) sessions (arrival_of c.args.frame.now c.args.mark c.args.now) c.in-Ok.wanted (sym c.wanted.ensures.wanted ∙ c.in-Ok.is) (sym c.is_anonymous.ensures ∙ c.if-is_anonymous.true)))

pub returns-in-Err-alone-clause-delivery : goal.returns-in-Err-alone-clause-delivery
returns-in-Err-alone-clause-delivery g c = λ sessions s.
    let bytes : List ℕ = (piece_of c.args.frame.now).bytes in
    ap (λ (r : Result Coming Why). delivered (told_alone bytes r)) (sym c.in-Err-alone.is) ∙ ap delivered c.alone.ensures.answer
    ∙ ap (λ (x : Step). delivered x.answer) (sym (anonymous (record { rows = c.args.self.now.rows.items; me = c.args.self.now.me; sessions = g.row.S; blocks = g.row.N }) sessions (arrival_of c.args.frame.now c.args.mark c.args.now) c.in-Ok.wanted (sym c.wanted.ensures.wanted ∙ c.in-Ok.is) (sym c.is_anonymous.ensures ∙ c.if-is_anonymous.true)))

pub returns-clause-delivery : goal.returns-clause-delivery
returns-clause-delivery g c = λ sessions s.
    c.foretell.ensures.delivery g.row.S g.row.N c.in-Ok.wanted.signature c.args.now (left c.args.now s.places) (recent_sessions c.args.now sessions)
    (c.turn-turn.ensures.turn s.places (recent_sessions c.args.now sessions) s.stand (forget c.args.now s.places sessions s.arranged) (c.free_without_old-free.ensures.free s.places s.stand))
    ∙ ap (λ (x : Step). delivered x.answer) (sym (of_session (record { rows = c.args.self.now.rows.items; me = c.args.self.now.me; sessions = g.row.S; blocks = g.row.N }) sessions (arrival_of c.args.frame.now c.args.mark c.args.now) c.in-Ok.wanted (sym c.wanted.ensures.wanted ∙ c.in-Ok.is) (sym c.is_anonymous.ensures ∙ c.if-is_anonymous.false)))

pub turn-turn-requires : goal.turn-turn-requires
turn-turn-requires g c =
    let signatures = signature_in c.args.self.now.rows.items in (
      search rules,
      (
        c.free_without_old-free.ensures.few,
        of_key signatures (key_of c.in-Ok.wanted.ident) c.in-Ok.wanted.signature c.args.self.now.sessions.progress c.args.self.now.sessions.pool
            c.in-Ok.ensures.signature c.args.self.now.crcs,
      ),
    )
