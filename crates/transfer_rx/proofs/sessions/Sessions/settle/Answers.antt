use Rattle.std.proofs.Common.{◌++◌, ◌∷◌, [], Some, get_or, set, sym, ◌∙◌, ap, subst}
use Rattle.can_frame.specs.Cutting.{payload_of}
use Rattle.can_frame.specs.Piece.{piece_of}
use Rattle.transfer_rx.specs.Crcs.{IsTurnUnder}
use Rattle.transfer_rx.specs.Keys.{key_of}
use Rattle.transfer_rx.specs.Places.{KeepSessions}
use Rattle.transfer_rx.specs.Reassembly.{Step, session_after}
use Rattle.transfer_rx.specs.Turns.{IsRoomy, IsTurn}
use Rattle.transfer_rx.specs.Verdicts.{says}
use Rattle.transfer_rx.proofs.Arrangement.{put}
use Rattle.transfer_rx.proofs.Comes.{for-key}
use Rattle.transfer_rx.proofs.Crcs.{of_one}
use Rattle.transfer_rx.proofs.Room.{part_room}
use Rattle.transfer_rx.proofs.Steps.{key-after, next, out, refused}
use Rattle.transfer_rx.proofs.sessions.Sessions.settle.Goals as goal

pub returns-in-Refused-clause-answer : goal.returns-in-Refused-clause-answer
returns-in-Refused-clause-answer g c = λ most places sessions s a h.
    let t = subst (λ t. IsTurn most c.args.self.now.pool g.row.N (key_of c.args.wanted.now.ident) c.args.wanted.now.signature (piece_of c.args.frame.now) c.args.now places sessions t) c.in-Refused.is h in
    ap (λ (x : Step). x.answer) (sym (refused most g.row.N c.args.wanted.now (piece_of c.args.frame.now) c.args.mark c.args.now sessions c.in-Refused.why t))

pub returns-in-Refused-clause-sessions : goal.returns-in-Refused-clause-sessions
returns-in-Refused-clause-sessions g c = λ most places sessions s a h.
    let t = subst (λ t. IsTurn most c.args.self.now.pool g.row.N (key_of c.args.wanted.now.ident) c.args.wanted.now.signature (piece_of c.args.frame.now) c.args.now places sessions t) c.in-Refused.is h in
    subst (λ (x : Step). KeepSessions c.args.self.now.progress c.args.self.now.pool x.sessions)
    (sym (refused most g.row.N c.args.wanted.now (piece_of c.args.frame.now) c.args.mark c.args.now sessions c.in-Refused.why t))
    (record { places = places; stand = s; arranged = a })

pub returns-in-Out-clause-answer : goal.returns-in-Out-clause-answer
returns-in-Out-clause-answer g c = λ most places sessions s a h.
    let t = subst (λ t. IsTurn most c.args.self.now.pool g.row.N (key_of c.args.wanted.now.ident) c.args.wanted.now.signature (piece_of c.args.frame.now) c.args.now places sessions t) c.in-Out.is h in
    ap (λ (x : Step). x.answer) (sym (out most g.row.N c.args.wanted.now (piece_of c.args.frame.now) c.args.mark c.args.now sessions t.0.session c.in-Out.why t.0.there t.1))

pub returns-in-Out-clause-sessions : goal.returns-in-Out-clause-sessions
returns-in-Out-clause-sessions g c = λ most places sessions s a h.
    let t = subst (λ t. IsTurn most c.args.self.now.pool g.row.N (key_of c.args.wanted.now.ident) c.args.wanted.now.signature (piece_of c.args.frame.now) c.args.now places sessions t) c.in-Out.is h in
    subst (λ (x : Step). KeepSessions c.put.new.self.progress c.put.new.self.pool x.sessions)
    (sym (out most g.row.N c.args.wanted.now (piece_of c.args.frame.now) c.args.mark c.args.now sessions t.0.session c.in-Out.why t.0.there t.1))
    (record {
      places = set places c.in-Out.found.place (Some t.0.session);
      stand = c.put.ensures.session places t.0.session s t.0.finds.keeps;
      arranged = put places sessions (key_of c.args.wanted.now.ident) t.0.session c.in-Out.found.place a
          (for-key most (key_of c.args.wanted.now.ident) (piece_of c.args.frame.now).tail c.args.now sessions t.0.session t.0.there) t.0.finds.place;
    })

pub returns-in-Next-clause-answer : goal.returns-in-Next-clause-answer
returns-in-Next-clause-answer g c = λ most places sessions s a h.
    let t = subst (λ t. IsTurn most c.args.self.now.pool g.row.N (key_of c.args.wanted.now.ident) c.args.wanted.now.signature (piece_of c.args.frame.now) c.args.now places sessions t) c.in-Next.is h in
    c.apply.ensures.answer places t.0.session s
    (part_room c.in-Next.verdict g.row.N c.args.wanted.now.signature (piece_of c.args.frame.now) places sessions (key_of c.args.wanted.now.ident) c.in-Next.found t.0.session _ _
    (subst (λ t. IsRoomy g.row.S c.args.self.now.pool (piece_of c.args.frame.now) t) c.in-Next.is c.requires.room).2 t.2 a t.0.finds.place t.0.finds.keeps) t.0.finds.keeps
    ∙ ap (λ (x : Step). x.answer) (sym (next most g.row.N c.args.wanted.now (piece_of c.args.frame.now) c.args.mark c.args.now sessions
    t.0.session (says (payload_of (t.0.session.taken ++ piece_of c.args.frame.now ∷ [])) c.in-Next.verdict) t.0.there t.1 t.2))

pub returns-in-Next-clause-sessions : goal.returns-in-Next-clause-sessions
returns-in-Next-clause-sessions g c = λ most places sessions s a h.
    let t = subst (λ t. IsTurn most c.args.self.now.pool g.row.N (key_of c.args.wanted.now.ident) c.args.wanted.now.signature (piece_of c.args.frame.now) c.args.now places sessions t) c.in-Next.is h in
    let after = session_after (piece_of c.args.frame.now) c.args.mark c.args.now t.0.session (says (payload_of (t.0.session.taken ++ piece_of c.args.frame.now ∷ [])) c.in-Next.verdict) in
    subst (λ (x : Step). KeepSessions c.apply.new.self.progress c.apply.new.self.pool x.sessions)
    (sym (next most g.row.N c.args.wanted.now (piece_of c.args.frame.now) c.args.mark c.args.now sessions
    t.0.session (says (payload_of (t.0.session.taken ++ piece_of c.args.frame.now ∷ [])) c.in-Next.verdict) t.0.there t.1 t.2))
    (record {
      places = set places c.in-Next.found.place (Some after);
      stand = c.apply.ensures.session places t.0.session s
          (part_room c.in-Next.verdict g.row.N c.args.wanted.now.signature (piece_of c.args.frame.now) places sessions (key_of c.args.wanted.now.ident) c.in-Next.found t.0.session _ _
          (subst (λ t. IsRoomy g.row.S c.args.self.now.pool (piece_of c.args.frame.now) t) c.in-Next.is c.requires.room).2 t.2 a t.0.finds.place t.0.finds.keeps) t.0.finds.keeps t.1;
      arranged = put places sessions (key_of c.args.wanted.now.ident) after c.in-Next.found.place a
          (key-after (piece_of c.args.frame.now) c.args.mark c.args.now t.0.session (says (payload_of (t.0.session.taken ++ piece_of c.args.frame.now ∷ [])) c.in-Next.verdict)
          ∙ for-key most (key_of c.args.wanted.now.ident) (piece_of c.args.frame.now).tail c.args.now sessions t.0.session t.0.there) t.0.finds.place;
    })

pub returns-in-Out-clause-crcs : goal.returns-in-Out-clause-crcs
returns-in-Out-clause-crcs g c = λ signature_of is h.
    let under = subst (λ t. IsTurnUnder (key_of c.args.wanted.now.ident) c.args.wanted.now.signature c.args.self.now.pool t) c.in-Out.is c.requires.crc in
    c.put.ensures.crcs signature_of
    (of_one signature_of (key_of c.args.wanted.now.ident) c.args.wanted.now.signature c.in-Out.found.progress (get_or c.args.self.now.pool c.in-Out.found.place [])
    is under.own under.crc) h
