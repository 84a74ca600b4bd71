use Rattle.std.proofs.Common.{ℕ, List, ◌++◌, ◌∷◌, [], Some, ap, get_or, length, rules, set, subst, sym, ◌∙◌}
use Rattle.can_frame.specs.Cutting.{payload_of, tail_at}
use Rattle.can_frame.specs.Piece.{piece_of}
use Rattle.transfer_rx.specs.Fronts.{HasFront}
use Rattle.transfer_rx.specs.Places.{KeepPlaces}
use Rattle.transfer_rx.specs.Reassembly.{session_after}
use Rattle.transfer_rx.specs.Turns.{Completes, GoesOn}
use Rattle.transfer_rx.specs.Verdicts.{IfPart, IfWhole, says}
use Rattle.transfer_rx.proofs.Crcs.{nothing_taken}
use Rattle.transfer_rx.proofs.InTurn.{in_turn_tail}
use Rattle.transfer_rx.proofs.sessions.Sessions.apply.Goals as goal

pub returns-in-Ok-clause-session : goal.returns-in-Ok-clause-session
returns-in-Ok-clause-session g c = λ places session s room k t.
    let on = subst (λ v. IfPart v (GoesOn c.args.found (piece_of c.args.frame.now))) c.in-Open.is c.requires.room in
    subst (λ v. KeepPlaces c.grow.new.self.progress c.grow.new.self.pool
    (set places c.args.found.place (Some (session_after (piece_of c.args.frame.now) c.args.mark c.args.now session (says (payload_of (session.taken ++ piece_of c.args.frame.now ∷ [])) v))))) (sym c.in-Open.is)
    (c.in-Ok.ensures.grown places session (piece_of c.args.frame.now) s k (sym c.data-more.ensures.bytes)
    (in_turn_tail (piece_of c.args.frame.now).tail session t ∙ ap (λ end. tail_at session.expected (length session.taken) end) on.open_end))

pub returns-in-Whole-clause-crcs : goal.returns-in-Whole-clause-crcs
returns-in-Whole-clause-crcs g c = λ signature_of is h.
    c.put.ensures.crcs signature_of (nothing_taken signature_of c.cut_off.result (get_or c.args.self.now.pool c.args.found.place []) c.cut_off.ensures.none) h

pub returns-in-Spoiled-clause-crcs : goal.returns-in-Spoiled-clause-crcs
returns-in-Spoiled-clause-crcs g c = λ signature_of is h.
    c.put-in-Spoiled.ensures.crcs signature_of
    (nothing_taken signature_of c.cut_off-in-Spoiled.result (get_or c.args.self.now.pool c.args.found.place []) c.cut_off-in-Spoiled.ensures.none) h

pub returns-in-Ok-clause-crcs : goal.returns-in-Ok-clause-crcs
returns-in-Ok-clause-crcs g c = λ signature_of is h.
    c.grow.ensures.crcs signature_of (ap signature_of c.requires.crc.own ∙ is) c.requires.crc.crc h

pub returns-in-Err-clause-crcs : goal.returns-in-Err-clause-crcs
returns-in-Err-clause-crcs g c = λ signature_of is h.
    c.grow.ensures.crcs signature_of (ap signature_of c.requires.crc.own ∙ is) c.requires.crc.crc h

pub fill-requires : goal.fill-requires
fill-requires g c = (
  search rules,
  subst (λ (bytes : List ℕ). HasFront g.row.S c.args.self.now.pool c.completed.result.front (length bytes)) (sym c.data.ensures.bytes)
      (c.completed.ensures.front g.row.S c.args.self.now.pool c.requires.place c.requires.filled
      (subst (λ v. IfWhole v (Completes c.args.found (piece_of c.args.frame.now))) c.in-Whole.is c.requires.within)),
)
