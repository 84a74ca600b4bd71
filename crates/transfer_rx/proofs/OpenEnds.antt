-- A frame that ends no transfer delivers none.
use Rattle.std.proofs.Common.{◌≡◌, ℕ, Bool, true, false, cond, List, [], ◌∷◌, ◌++◌, Option, Some, None, Result, Ok, Err, refl, inl, inr}
use Rattle.std.proofs.lemmas.Bool.{cases_Bool}
use Rattle.can_frame.specs.declared.mark.Mark.{Mark}
use Rattle.can_frame.specs.declared.step.Why.{Why}
use Rattle.can_frame.specs.declared.step.Why.TheVariants.{Length, NoBlock}
use Rattle.can_frame.specs.Cutting.{Piece}
use Rattle.can_frame.specs.Kinds.{is_anonymous}
use Rattle.transfer_rx.specs.declared.accept.Wanted.{Wanted}
use Rattle.transfer_rx.specs.Acceptance.{wanted}
use Rattle.transfer_rx.specs.Keys.{key_of}
use Rattle.transfer_rx.specs.Sessions.{Session, others, recent_sessions, session_for}
use Rattle.transfer_rx.specs.Outcome.{Outcome, Grows, Spoils, assembled, is_wrong_length, lacks_blocks, out_of_turn, outcome}
use Rattle.transfer_rx.specs.Reassembly.{Arrival, Setting, alone, answer_of, at_session, by_kind, delivered, in_turn, of_wanted, piece_in, session_step, step}

module _ (most blocks : ℕ) (w : Wanted) (piece : Piece) (mark : Mark) (now : ℕ) (open_end : piece.tail.end ≡ false) where
  alone_gives_none : delivered (alone w.ident piece mark) ≡ None
  alone_gives_none = elim (cases_Bool piece.tail.start) [
    | inl t ↦ let t' : piece.tail.start ≡ true = t in rw (t', open_end) refl
    | inr f ↦ let f' : piece.tail.start ≡ false = f in rw f' refl
  ]

  outcome_gives_none : (session : Session) (wrong lacks : Bool) (ended : Outcome) →
      delivered (answer_of w.ident piece mark session
      (cond wrong (Spoils Length) (cond lacks (Spoils NoBlock) (cond piece.tail.end ended Grows)))) ≡ None
  outcome_gives_none session true lacks ended = refl
  outcome_gives_none session false true ended = refl
  outcome_gives_none session false false ended = rw open_end refl

  in_turn_gives_none : (rest : List Session) (session : Session) (why : Option Why) →
      delivered (in_turn blocks w piece mark now rest session why).answer ≡ None
  unfolding outcome
  in_turn_gives_none rest session None =
      let pieces : List Piece = session.taken ++ piece ∷ [] in
      outcome_gives_none session (is_wrong_length w.signature piece pieces) (lacks_blocks blocks piece session.taken rest)
      (assembled w.signature piece.tail.id pieces)
  in_turn_gives_none rest session (Some why) = refl

  at_session_gives_none : (sessions : List Session) (found : Result Session Why) →
      delivered (at_session blocks w piece mark now sessions found).answer ≡ None
  at_session_gives_none sessions (Err why) = refl
  at_session_gives_none sessions (Ok session) =
      in_turn_gives_none (others (key_of w.ident) sessions) session (out_of_turn piece.tail session)

  session_gives_none : (sessions : List Session) → delivered (session_step most blocks w piece mark now sessions).answer ≡ None
  unfolding session_step
  session_gives_none sessions = at_session_gives_none sessions (session_for most (key_of w.ident) piece.tail now sessions)

module _ (setting : Setting) (sessions : List Session) (arrival : Arrival) (open_end : (piece_in arrival).tail.end ≡ false) where
  kind_gives_none : (w : Wanted) (is : Bool) → delivered (by_kind setting w arrival sessions is).answer ≡ None
  kind_gives_none w true = alone_gives_none setting.sessions setting.blocks w (piece_in arrival) arrival.mark arrival.moment open_end
  kind_gives_none w false =
      session_gives_none setting.sessions setting.blocks w (piece_in arrival) arrival.mark arrival.moment open_end
      (recent_sessions arrival.moment sessions)

  of_wanted_gives_none : (w : Result Wanted Why) → delivered (of_wanted setting arrival sessions w).answer ≡ None
  of_wanted_gives_none (Err why) = refl
  of_wanted_gives_none (Ok w) = kind_gives_none w (is_anonymous w.ident.kind)

  pub gives_none : delivered (step setting sessions arrival).answer ≡ None
  unfolding step
  gives_none = of_wanted_gives_none (wanted setting.rows setting.me arrival.id)
