use Rattle.std.proofs.Common.{sym, ◌∙◌, ap, subst, rules}
use Rattle.can_frame.specs.Piece.{piece_of}
use Rattle.transfer_rx.specs.Crcs.{signature_in}
use Rattle.transfer_rx.specs.Filled.{IsFree}
use Rattle.transfer_rx.specs.Keys.{key_of}
use Rattle.transfer_rx.specs.Sessions.{recent_sessions}
use Rattle.transfer_rx.specs.Places.{Arranged, Places, KeepSessions, left}
use Rattle.transfer_rx.specs.Reassembly.{Step, arrival_of}
use Rattle.transfer_rx.specs.Turns.{IsTurn}
use Rattle.transfer_rx.proofs.Arrangement.{forget}
use Rattle.transfer_rx.proofs.Crcs.{of_key}
use Rattle.transfer_rx.proofs.Places.{left_twice}
use Rattle.transfer_rx.proofs.Steps.{anonymous, of_session, unwanted}
use Rattle.transfer_rx.proofs.receiver.Receiver.hear_by.Goals as goal

pub returns-in-Err-clause-answer : goal.returns-in-Err-clause-answer
returns-in-Err-clause-answer g c = λ sessions s.
    ap (λ (x : Step). x.answer) (sym (unwanted (record { rows = c.args.self.now.rows.items; me = c.args.self.now.me; sessions = g.row.S; blocks = g.row.N }) sessions (arrival_of c.args.frame.now c.args.mark c.args.now) c.in-Err.why (sym c.wanted.ensures.wanted ∙ c.in-Err.is)))

pub returns-in-Err-clause-sessions : goal.returns-in-Err-clause-sessions
returns-in-Err-clause-sessions g c = λ sessions s.
    subst (λ (x : Step). KeepSessions c.args.self.now.sessions.progress c.args.self.now.sessions.pool x.sessions)
    (sym (unwanted (record { rows = c.args.self.now.rows.items; me = c.args.self.now.me; sessions = g.row.S; blocks = g.row.N }) sessions (arrival_of c.args.frame.now c.args.mark c.args.now) c.in-Err.why (sym c.wanted.ensures.wanted ∙ c.in-Err.is))) s

pub returns-then-is_anonymous-clause-answer : goal.returns-then-is_anonymous-clause-answer
returns-then-is_anonymous-clause-answer g c = λ sessions s.
    c.hear_alone.ensures.answer
    ∙ ap (λ (x : Step). x.answer) (sym (anonymous (record { rows = c.args.self.now.rows.items; me = c.args.self.now.me; sessions = g.row.S; blocks = g.row.N }) sessions (arrival_of c.args.frame.now c.args.mark c.args.now) c.in-Ok.wanted (sym c.wanted.ensures.wanted ∙ c.in-Ok.is) (sym c.is_anonymous.ensures ∙ c.if-is_anonymous.true)))

pub returns-then-is_anonymous-clause-sessions : goal.returns-then-is_anonymous-clause-sessions
returns-then-is_anonymous-clause-sessions g c = λ sessions s.
    subst (λ (x : Step). KeepSessions c.args.self.now.sessions.progress c.args.self.now.sessions.pool x.sessions)
    (sym (anonymous (record { rows = c.args.self.now.rows.items; me = c.args.self.now.me; sessions = g.row.S; blocks = g.row.N }) sessions (arrival_of c.args.frame.now c.args.mark c.args.now) c.in-Ok.wanted (sym c.wanted.ensures.wanted ∙ c.in-Ok.is) (sym c.is_anonymous.ensures ∙ c.if-is_anonymous.true))) s

pub returns-clause-answer : goal.returns-clause-answer
returns-clause-answer g c = λ sessions s.
    let places = left c.args.now s.places in
    let recent = recent_sessions c.args.now sessions in
    let twice = left_twice c.args.now s.places in
    let stand = c.forget.ensures.places s.places s.stand in
    let arranged = forget c.args.now s.places sessions s.arranged in
    c.settle.ensures.answer g.row.S places recent stand arranged
    (subst (λ (p : Places). IsTurn g.row.S c.forget.new.self.pool g.row.N (key_of c.in-Ok.wanted.ident) c.in-Ok.wanted.signature (piece_of c.args.frame.now) c.args.now p recent c.turn-turn.result)
    twice (c.turn-turn.ensures.turn places recent stand (subst (λ (p : Places). Arranged p recent) (sym twice) arranged)
    (subst (λ (p : Places). IsFree g.row.N p c.free_blocks-free.result) (sym twice) (c.free_blocks-free.ensures.free places stand))))
    ∙ ap (λ (x : Step). x.answer) (sym (of_session (record { rows = c.args.self.now.rows.items; me = c.args.self.now.me; sessions = g.row.S; blocks = g.row.N }) sessions (arrival_of c.args.frame.now c.args.mark c.args.now) c.in-Ok.wanted (sym c.wanted.ensures.wanted ∙ c.in-Ok.is) (sym c.is_anonymous.ensures ∙ c.if-is_anonymous.false)))

pub returns-clause-sessions : goal.returns-clause-sessions
returns-clause-sessions g c = λ sessions s.
    let places = left c.args.now s.places in
    let recent = recent_sessions c.args.now sessions in
    let twice = left_twice c.args.now s.places in
    let stand = c.forget.ensures.places s.places s.stand in
    let arranged = forget c.args.now s.places sessions s.arranged in
    subst (λ (x : Step). KeepSessions c.settle.new.self.progress c.settle.new.self.pool x.sessions)
    (sym (of_session (record { rows = c.args.self.now.rows.items; me = c.args.self.now.me; sessions = g.row.S; blocks = g.row.N }) sessions (arrival_of c.args.frame.now c.args.mark c.args.now) c.in-Ok.wanted (sym c.wanted.ensures.wanted ∙ c.in-Ok.is) (sym c.is_anonymous.ensures ∙ c.if-is_anonymous.false)))
    (c.settle.ensures.sessions g.row.S places recent stand arranged
    (subst (λ (p : Places). IsTurn g.row.S c.forget.new.self.pool g.row.N (key_of c.in-Ok.wanted.ident) c.in-Ok.wanted.signature (piece_of c.args.frame.now) c.args.now p recent c.turn-turn.result)
    twice (c.turn-turn.ensures.turn places recent stand (subst (λ (p : Places). Arranged p recent) (sym twice) arranged)
    (subst (λ (p : Places). IsFree g.row.N p c.free_blocks-free.result) (sym twice) (c.free_blocks-free.ensures.free places stand)))))

pub turn-turn-requires : goal.turn-turn-requires
turn-turn-requires g c =
    let signatures = signature_in c.args.self.now.rows.items in (
      search rules,
      (
        c.free_blocks-free.ensures.few,
        of_key signatures (key_of c.in-Ok.wanted.ident) c.in-Ok.wanted.signature c.forget.new.self.progress c.forget.new.self.pool
            c.in-Ok.ensures.signature (c.forget.ensures.crcs signatures c.args.self.now.crcs),
      ),
    )

pub invariant_of-self : goal.invariant_of-self
invariant_of-self g c = record { crcs = c.args.self.now.crcs }

pub invariant_of-self-2 : goal.invariant_of-self-2
invariant_of-self-2 g c =
    let signatures = signature_in c.args.self.now.rows.items in
    record { crcs = c.settle.ensures.crcs signatures c.in-Ok.ensures.signature (c.forget.ensures.crcs signatures c.args.self.now.crcs) }
