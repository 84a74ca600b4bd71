-- What a frame does, case by case.
use Rattle.std.proofs.Common.{◌≡◌, ℕ, true, false, List, ◌∷◌, Some, None, Ok, Err, refl}
use Rattle.can_frame.specs.declared.mark.Mark.{Mark}
use Rattle.can_frame.specs.declared.step.Why.{Why}
use Rattle.can_frame.specs.Cutting.{Piece}
use Rattle.can_frame.specs.Kinds.{is_anonymous}
use Rattle.transfer_rx.specs.declared.accept.Wanted.{Wanted}
use Rattle.transfer_rx.specs.Acceptance.{wanted}
use Rattle.transfer_rx.specs.Keys.{key_of}
use Rattle.transfer_rx.specs.Sessions.{Session, others, recent_sessions, session_for}
use Rattle.transfer_rx.specs.Outcome.{Outcome, Delivers, Grows, Spoils, out_of_turn, outcome}
use Rattle.transfer_rx.specs.Reassembly.{Arrival, Drops, Setting, alone, answer_of, piece_in, session_after, session_step, step}

module _ (most blocks : ℕ) (w : Wanted) (piece : Piece) (mark : Mark) (now : ℕ) (sessions : List Session) where
  pub refused : (why : Why) → session_for most (key_of w.ident) piece.tail now sessions ≡ Err why →
      session_step most blocks w piece mark now sessions ≡ record { answer = Drops why; sessions = sessions }
  unfolding session_step
  refused why e = rw e refl

  pub out : (session : Session) (why : Why) → session_for most (key_of w.ident) piece.tail now sessions ≡ Ok session →
      out_of_turn piece.tail session ≡ Some why →
      session_step most blocks w piece mark now sessions ≡ record { answer = Drops why; sessions = session ∷ others (key_of w.ident) sessions }
  unfolding session_step
  out session why e t = rw (e, t) refl

  pub next : (session : Session) (result : Outcome) → session_for most (key_of w.ident) piece.tail now sessions ≡ Ok session →
      out_of_turn piece.tail session ≡ None → result ≡ outcome blocks w.signature piece session.taken (others (key_of w.ident) sessions) →
      session_step most blocks w piece mark now sessions ≡ record {
        answer = answer_of w.ident piece mark session result;
        sessions = session_after piece mark now session result ∷ others (key_of w.ident) sessions;
      }
  unfolding session_step
  next session result e t r = rw (e, t, r) refl

pub key-after : (piece : Piece) (mark : Mark) (now : ℕ) (session : Session) (result : Outcome) → (session_after piece mark now session result).key ≡ session.key
key-after piece mark now session (Delivers payload) = refl
key-after piece mark now session Grows = refl
key-after piece mark now session (Spoils why) = refl

-- what the whole definition does with a frame
module _ (setting : Setting) (sessions : List Session) (arrival : Arrival) where
  pub unwanted : (why : Why) → wanted setting.rows setting.me arrival.id ≡ Err why →
      step setting sessions arrival ≡ record { answer = Drops why; sessions = sessions }
  unfolding step
  unwanted why e = rw e refl

  pub anonymous : (w : Wanted) → wanted setting.rows setting.me arrival.id ≡ Ok w → is_anonymous w.ident.kind ≡ true →
      step setting sessions arrival ≡ record { answer = alone w.ident (piece_in arrival) arrival.mark; sessions = sessions }
  unfolding step
  anonymous w e h = rw (e, h) refl

  pub of_session : (w : Wanted) → wanted setting.rows setting.me arrival.id ≡ Ok w → is_anonymous w.ident.kind ≡ false →
      step setting sessions arrival ≡ session_step setting.sessions setting.blocks w (piece_in arrival) arrival.mark arrival.moment (recent_sessions arrival.moment sessions)
  unfolding step
  of_session w e h = rw (e, h) refl
