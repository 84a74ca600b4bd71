-- A frame from outside that is of no response is fine, whatever it delivers.
use Rattle.std.proofs.Common.{◌≡◌, ℕ, Bool, true, false, cond, ◌&&◌, List, [], ◌∷◌, ◌++◌, Option, Some, None, Result, Ok, Err, refl, inl, inr}
use Rattle.std.specs.Prelude.{IfOk, max, nat_eq}
use Rattle.std.proofs.lemmas.Bool.{cases_Bool, eq-eqb}
use Rattle.can_frame.specs.Cutting.{Piece}
use Rattle.can_frame.specs.Identifier.{identifier_of}
use Rattle.can_frame.specs.declared.identifier.Ident.{Ident}
use Rattle.can_frame.specs.declared.mark.Mark.{Mark}
use Rattle.can_frame.specs.declared.step.Judged.TheVariants.{Fine}
use Rattle.can_frame.specs.declared.step.Why.{Why}
use Rattle.can_frame.specs.declared.step.Why.TheVariants.{NotWanted, Start, Toggle}
use Rattle.can_frame.specs.Kinds.{is_anonymous, is_response}
use Rattle.transfer_rx.specs.declared.accept.AcceptRow.{AcceptRow}
use Rattle.transfer_rx.specs.declared.accept.Wanted.{Wanted}
use Rattle.transfer_rx.specs.Acceptance.{accepted, first_signature, is_for, wanted, with_signature}
use Rattle.transfer_rx.specs.Keys.{key_of}
use Rattle.transfer_rx.specs.Marks.{is_whole}
use Rattle.transfer_rx.specs.Outcome.{Delivers, Grows, Outcome, Spoils, out_of_turn, outcome}
use Rattle.transfer_rx.specs.Reassembly.{Arrival, Delivery, Drops, Gives, Setting, answer, answer_of, at_session, by_kind, in_turn, of_wanted, piece_in, session_step, step}
use Rattle.transfer_rx.specs.Sessions.{Session, others, recent_sessions, session_for}
use Rattle.alloc_spec.specs.Accepted.{setting_for}
use Rattle.alloc_spec.specs.Judging.{answer_judgement, arrival_judgement}
use Rattle.alloc_spec.specs.AllocatorState.{AllocatorState}
use Rattle.alloc_server.proofs.Verdicts.{now_then}

-- the identifier of a frame that is wanted is its own
module _ (rows : List AcceptRow) (me : ℕ) where
  chosen : (ident : Ident) (hears : Bool) (signature : Option ℕ) → is_response ident.kind ≡ false →
      IfOk (cond hears (with_signature ident signature) (Err NotWanted)) (λ w. is_response w.ident.kind ≡ false)
  chosen ident true None other = tt
  chosen ident true (Some signature) other = other
  chosen ident false signature other = tt

  accepted_other : (read : Option Ident) → ((ident : Ident) → read ≡ Some ident → is_response ident.kind ≡ false) →
      IfOk (accepted rows me read) (λ w. is_response w.ident.kind ≡ false)
  accepted_other None other = tt
  accepted_other (Some ident) other =
      chosen ident (is_for me ident) (first_signature rows ident.kind ident.number) (other ident refl)

  wanted_other : (id : ℕ) → ((ident : Ident) → identifier_of id ≡ Some ident → is_response ident.kind ≡ false) →
      IfOk (wanted rows me id) (λ w. is_response w.ident.kind ≡ false)
  unfolding wanted
  wanted_other id other = accepted_other (identifier_of id) other

module _ (t : AllocatorState) (number now : ℕ) (outside : number ≡ 0) where
  given_fine : (d : Delivery) → is_response d.ident.kind ≡ false → answer_judgement t number now (Gives d) ≡ Fine
  given_fine d other =
      let none : nat_eq number 0 ≡ true = eq-eqb number 0 outside in
      elim (cases_Bool d.whole) [
        | inl w ↦ let w' : d.whole ≡ true = w in rw (w', other) refl
        | inr n ↦ let n' : d.whole ≡ false = n in rw (n', none, other) refl
      ]

  by_tail : (start end toggle : Bool) (d : Delivery) → is_response d.ident.kind ≡ false →
      answer_judgement t number now (cond (start && end) (cond toggle (Drops Toggle) (Gives d)) (Drops Start)) ≡ Fine
  by_tail true true true d other = refl
  by_tail true true false d other = given_fine d other
  by_tail true false toggle d other = refl
  by_tail false end toggle d other = refl

  module _ (w : Wanted) (piece : Piece) (mark : Mark) (other : is_response w.ident.kind ≡ false) where
    outcome_fine : (session : Session) (result : Outcome) →
        answer_judgement t number now (answer_of w.ident piece mark session result) ≡ Fine
    outcome_fine session (Delivers payload) =
        given_fine (record { ident = w.ident; id = piece.tail.id; payload = payload; mark = mark; whole = is_whole (session.marks ++ mark ∷ []) })
        other
    outcome_fine session Grows = refl
    outcome_fine session (Spoils why) = refl

    in_turn_fine : (blocks moment : ℕ) (rest : List Session) (session : Session) (why : Option Why) →
        answer_judgement t number now (in_turn blocks w piece mark moment rest session why).answer ≡ Fine
    in_turn_fine blocks moment rest session None = outcome_fine session (outcome blocks w.signature piece session.taken rest)
    in_turn_fine blocks moment rest session (Some why) = refl

    at_session_fine : (blocks moment : ℕ) (sessions : List Session) (found : Result Session Why) →
        answer_judgement t number now (at_session blocks w piece mark moment sessions found).answer ≡ Fine
    at_session_fine blocks moment sessions (Err why) = refl
    at_session_fine blocks moment sessions (Ok session) =
        in_turn_fine blocks moment (others (key_of w.ident) sessions) session (out_of_turn piece.tail session)

    session_fine : (most blocks moment : ℕ) (sessions : List Session) →
        answer_judgement t number now (session_step most blocks w piece mark moment sessions).answer ≡ Fine
    unfolding session_step
    session_fine most blocks moment sessions =
        at_session_fine blocks moment sessions (session_for most (key_of w.ident) piece.tail moment sessions)

  module _ (setting : Setting) (sessions : List Session) (arrival : Arrival) where
    by_kind_fine : (w : Wanted) (is : Bool) → is_response w.ident.kind ≡ false →
        answer_judgement t number now (by_kind setting w arrival sessions is).answer ≡ Fine
    by_kind_fine w true other =
        let piece : Piece = piece_in arrival in
        by_tail piece.tail.start piece.tail.end piece.tail.toggle
        (record { ident = w.ident; id = piece.tail.id; payload = piece.bytes; mark = arrival.mark; whole = is_whole (arrival.mark ∷ []) }) other
    by_kind_fine w false other =
        session_fine w (piece_in arrival) arrival.mark other setting.sessions setting.blocks arrival.moment
        (recent_sessions arrival.moment sessions)

    of_wanted_fine : (w : Result Wanted Why) → IfOk w (λ wanted. is_response wanted.ident.kind ≡ false) →
        answer_judgement t number now (of_wanted setting arrival sessions w).answer ≡ Fine
    of_wanted_fine (Err why) other = refl
    of_wanted_fine (Ok w) other = by_kind_fine w (is_anonymous w.ident.kind) other

    answer_fine : IfOk (wanted setting.rows setting.me arrival.id) (λ wanted. is_response wanted.ident.kind ≡ false) →
        answer_judgement t number now (answer setting sessions arrival) ≡ Fine
    unfolding step
    answer_fine other = of_wanted_fine (wanted setting.rows setting.me arrival.id) other

pub judges_fine : (t : AllocatorState) (arrival : Arrival) → arrival.mark.step ≡ 0 →
    ((ident : Ident) → identifier_of arrival.id ≡ Some ident → is_response ident.kind ≡ false) → arrival_judgement t arrival ≡ Fine
unfolding arrival_judgement
judges_fine t arrival outside other =
    answer_fine t arrival.mark.step (max t.now arrival.moment) outside (setting_for t.me) t.sessions (now_then t arrival)
    (wanted_other (setting_for t.me).rows (setting_for t.me).me arrival.id other)
