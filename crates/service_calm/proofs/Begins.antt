-- A transfer begins in the session of its key, and what a frame leaves of it.
use Rattle.std.proofs.Common.{◌≡◌, ◌≢◌, ℕ, ◌<◌, ◌≤◌, Bool, true, false, not, List, [], ◌∷◌, length, refl, sym, ◌∙◌, ap, subst, arith, inl, inr, Option, None, Some}
use Rattle.std.specs.Prelude.{◌-◌, filter, MatchOption, Result, Ok, Err, nat_eq}
use Rattle.std.proofs.lemmas.Bool.{cases_Bool, le-leb}
use Rattle.std.proofs.lemmas.Bool.Decides.{eqb_tells, leb_tells}
use Rattle.can_frame.specs.declared.mark.Mark.{Mark}
use Rattle.can_frame.specs.declared.step.Why.{Why}
use Rattle.can_frame.specs.declared.tail.Tail.{Tail}
use Rattle.can_frame.specs.Cutting.{Piece, tail_at}
use Rattle.can_frame.specs.Kinds.{is_anonymous}
use Rattle.transfer_rx.specs.declared.accept.Wanted.{Wanted}
use Rattle.transfer_rx.specs.declared.key.Key.{Key}
use Rattle.transfer_rx.specs.Acceptance.{wanted}
use Rattle.transfer_rx.specs.Keys.{key_of, same_key}
use Rattle.transfer_rx.specs.Outcome.{Outcome, Delivers, Grows, Spoils, out_of_turn, outcome}
use Rattle.transfer_rx.specs.Reassembly.{Arrival, Delivery, Gives, Setting, Step, answer, answer_of, at_session, in_turn, next, piece_in, session_after, session_step}
use Rattle.transfer_rx.specs.Run.{AwaitsTransfer, MayBegin, has_session_key, is_of}
use Rattle.transfer_rx.specs.Sessions.{Session, is_recent, next_id, others, recent_sessions, session_for, session_of}
use Rattle.transfer_rx.proofs.Comes.{for-key}
use Rattle.transfer_rx.proofs.Completeness.{own_wanted}
use Rattle.transfer_rx.proofs.Found.{ne-same_key, same_key-true}
use Rattle.transfer_rx.proofs.InTurn.{in_turn_id}
use Rattle.transfer_rx.proofs.Steps.{anonymous, key-after, of_session, unwanted}
use Rattle.service_calm.specs.Sessions.{Admits, AllAdmit}

-- at this moment
module _ (since : ℕ) where
  -- ---- some of the sessions

  pub admit_some : (p : Session → Bool) (key : Key) (id : ℕ) (sessions : List Session) → AllAdmit since key id sessions → AllAdmit since key id (filter p sessions)
  admit_some p key id [] all = tt
  admit_some p key id (session ∷ sessions) all = elim (cases_Bool (p session)) [
    | inl t ↦ let t' : p session ≡ true = t in rw t' (all.0, admit_some p key id sessions all.1)
    | inr f ↦ let f' : p session ≡ false = f in rw f' (admit_some p key id sessions all.1)
  ]

  -- none of them is of the key
  pub others_admit : (key : Key) (id : ℕ) (sessions : List Session) → AllAdmit since key id (others key sessions)
  others_admit key id [] = tt
  others_admit key id (session ∷ sessions) = elim (cases_Bool (same_key key session.key)) [
    | inl t ↦ let t' : same_key key session.key ≡ true = t in rw t' (others_admit key id sessions)
    | inr f ↦ let f' : same_key key session.key ≡ false = f in rw f' (λ e recent. absurd (ne-same_key key session.key f' (sym e)), others_admit key id sessions)
  ]

  -- a session that is found among those that are not forgotten later admits the ID
  pub found_admits : (later : ℕ) → since ≤ later → (key : Key) (id : ℕ) (sessions : List Session) (session : Session) → AllAdmit since key id sessions
      → session_of key (recent_sessions later sessions) ≡ Some session → Admits id session
  found_admits later after_it key id [] session all e = absurd (cc (e))
  found_admits later after_it key id (first ∷ sessions) session all e = elim (leb_tells (later - first.moment) 2000) [
    | inl recent ↦ elim (cases_Bool (same_key key first.key)) [
      | inl t ↦
          let t' : same_key key first.key ≡ true = t in
          let s : Some first ≡ Some session = rw (recent.0, t') at e in
          let same : first ≡ session = cc in
          subst (λ (x : Session). Admits id x) same
          (all.0 (sym (same_key-true key first.key t')) (le-leb (since - first.moment) 2000 (let r = recent.1 in omega (arith, r, after_it))))
      | inr f ↦
          let f' : same_key key first.key ≡ false = f in
          let s : session_of key (recent_sessions later sessions) ≡ Some session = rw (recent.0, f') at e in
          found_admits later after_it key id sessions session all.1 s
    ]
    | inr old ↦
        let s : session_of key (recent_sessions later sessions) ≡ Some session = rw (old.0) at e in found_admits later after_it key id sessions session all.1 s
  ]

  -- ---- a first frame

  not_equal : (a b : ℕ) → a ≢ b → nat_eq a b ≡ false
  not_equal a b differ = elim (eqb_tells a b) [ inl z ↦ absurd (differ z.1) | inr z ↦ z.0 ]

  awaits : (id : ℕ) (last : Bool) (session : Session) → Admits id session → AwaitsTransfer (tail_at id 0 last) session
  awaits id last session (inl idle) = inl idle
  awaits id last session (inr other) = inr (rw (not_equal id session.expected other.0, not_equal (next_id id) session.expected other.1) refl)

  pub may_begin : (setting : Setting) (sessions : List Session) (key : Key) (id : ℕ) (last : Bool) (first : Arrival) → since ≤ first.moment → AllAdmit since key id sessions
      → (piece_in first).tail ≡ tail_at id 0 last → length (recent_sessions first.moment sessions) < setting.sessions → MayBegin setting sessions key first
  may_begin setting sessions key id last first after_it all tail room =
      by (session_of key (recent_sessions first.moment sessions)) refl
    where
      by : (o : Option Session) → session_of key (recent_sessions first.moment sessions) ≡ o
          → MatchOption o (length (recent_sessions first.moment sessions) < setting.sessions) (AwaitsTransfer (piece_in first).tail)
      by None e = room
      by (Some session) e = subst (λ (t : Tail). AwaitsTransfer t session) (sym tail)
          (awaits id last session (found_admits first.moment after_it key id sessions session all e))

  -- ---- a frame of another key, or of none

  -- what comes of the session of another key
  after_other : (blocks : ℕ) (w : Wanted) (piece : Piece) (mark : Mark) (now : ℕ) (rest : List Session) (session : Session) (o : Option Why) (key : Key) (id : ℕ)
      → session.key ≢ key → AllAdmit since key id rest → AllAdmit since key id (in_turn blocks w piece mark now rest session o).sessions
  after_other blocks w piece mark now rest session None key id ne all =
      (λ e recent. absurd (ne (sym (key-after piece mark now session (outcome blocks w.signature piece session.taken rest)) ∙ e)), all)
  after_other blocks w piece mark now rest session (Some why) key id ne all = (λ e recent. absurd (ne e), all)

  other_step : (most blocks : ℕ) (w : Wanted) (piece : Piece) (mark : Mark) (now : ℕ) (sessions : List Session) (key : Key) (id : ℕ) → key_of w.ident ≢ key
      → AllAdmit since key id sessions → AllAdmit since key id (session_step most blocks w piece mark now sessions).sessions
  unfolding session_step
  other_step most blocks w piece mark now sessions key id ne all = go (session_for most (key_of w.ident) piece.tail now sessions) refl
    where
      go : (r : Result Session Why) → session_for most (key_of w.ident) piece.tail now sessions ≡ r
          → AllAdmit since key id (at_session blocks w piece mark now sessions r).sessions
      go (Err why) e = all
      go (Ok session) e =
          let k : session.key ≡ key_of w.ident = for-key most (key_of w.ident) piece.tail now sessions session e in
          after_other blocks w piece mark now (others (key_of w.ident) sessions) session (out_of_turn piece.tail session) key id (λ same. ne (sym k ∙ same))
          (admit_some (λ s. not (same_key (key_of w.ident) s.key)) key id sessions all)

  pub other_admits : (setting : Setting) (sessions : List Session) (arrival : Arrival) (key : Key) (id : ℕ) → is_of setting key arrival ≡ false
      → AllAdmit since key id sessions → AllAdmit since key id (next setting sessions arrival)
  unfolding is_of
  other_admits setting sessions arrival key id other all = go (wanted setting.rows setting.me arrival.id) refl other
    where
      go : (r : Result Wanted Why) → wanted setting.rows setting.me arrival.id ≡ r → has_session_key key r ≡ false → AllAdmit since key id (next setting sessions arrival)
      go (Err why) e f = subst (λ (x : Step). AllAdmit since key id x.sessions) (sym (unwanted setting sessions arrival why e)) all
      go (Ok w) e f = elim (cases_Bool (is_anonymous w.ident.kind)) [
        | inl alone ↦ subst (λ (x : Step). AllAdmit since key id x.sessions) (sym (anonymous setting sessions arrival w e alone)) all
        | inr none ↦
            let n : is_anonymous w.ident.kind ≡ false = none in
            let s : same_key key (key_of w.ident) ≡ false = rw n at f in
            subst (λ (x : Step). AllAdmit since key id x.sessions) (sym (of_session setting sessions arrival w e none))
            (other_step setting.sessions setting.blocks w (piece_in arrival) arrival.mark arrival.moment (recent_sessions arrival.moment sessions) key id
            (λ same. ne-same_key key (key_of w.ident) s (sym same))
            (admit_some (is_recent arrival.moment) key id sessions all))
      ]

  -- ---- behind a transfer that was delivered any other one may begin

  idle_admits : (id then_id expected : ℕ) (session : Session) → id < 32 → then_id < 32 → then_id ≢ id → expected ≡ id → session.expected ≡ next_id expected
      → session.taken ≡ [] → session.marks ≡ [] → Admits then_id session
  idle_admits id then_id expected session low then_low other same after_it taken marks = elim (eqb_tells then_id (next_id id)) [
    | inl z ↦ inl (after_it ∙ (ap next_id same ∙ sym z.1), taken, marks)
    | inr z ↦ inr (λ e. z.1 (e ∙ (after_it ∙ ap next_id same)), λ e. other (one_next then_id id then_low low (e ∙ (after_it ∙ ap next_id same))))
  ]
    where
      one_next : (a b : ℕ) → a < 32 → b < 32 → next_id a ≡ next_id b → a ≡ b
      one_next a b x y e = omega (arith, x, y, e)

  gives_turned : (blocks : ℕ) (w : Wanted) (piece : Piece) (mark : Mark) (now : ℕ) (rest : List Session) (session : Session) (d : Delivery) (key : Key) (then_id : ℕ)
      → piece.tail.id < 32 → then_id < 32 → then_id ≢ piece.tail.id → AllAdmit since key then_id rest → (turn : Option Why) → out_of_turn piece.tail session ≡ turn
      → (in_turn blocks w piece mark now rest session turn).answer ≡ Gives d
      → AllAdmit since key then_id (in_turn blocks w piece mark now rest session turn).sessions
  gives_turned blocks w piece mark now rest session d key then_id low then_low other all (Some why) turn e = absurd (cc (e))
  gives_turned blocks w piece mark now rest session d key then_id low then_low other all None turn e = by (outcome blocks w.signature piece session.taken rest) e
    where
      by : (result : Outcome) → answer_of w.ident piece mark session result ≡ Gives d
          → AllAdmit since key then_id (session_after piece mark now session result ∷ rest)
      by (Delivers payload) f = (
        λ own recent. idle_admits piece.tail.id then_id session.expected (session_after piece mark now session (Delivers payload)) low then_low other
            (sym (in_turn_id piece.tail session turn)) refl refl refl,
        all,
      )
      by Grows f = absurd (cc (f))
      by (Spoils why) f = absurd (cc (f))

  gives_step : (most blocks : ℕ) (w : Wanted) (piece : Piece) (mark : Mark) (now : ℕ) (sessions : List Session) (d : Delivery) (then_id : ℕ)
      → piece.tail.id < 32 → then_id < 32 → then_id ≢ piece.tail.id → (session_step most blocks w piece mark now sessions).answer ≡ Gives d
      → AllAdmit since (key_of w.ident) then_id (session_step most blocks w piece mark now sessions).sessions
  unfolding session_step
  gives_step most blocks w piece mark now sessions d then_id low then_low other e = go (session_for most (key_of w.ident) piece.tail now sessions) e
    where
      go : (r : Result Session Why) → (at_session blocks w piece mark now sessions r).answer ≡ Gives d
          → AllAdmit since (key_of w.ident) then_id (at_session blocks w piece mark now sessions r).sessions
      go (Err why) f = absurd (cc (f))
      go (Ok session) f = gives_turned blocks w piece mark now (others (key_of w.ident) sessions) session d (key_of w.ident) then_id low then_low other
          (others_admit (key_of w.ident) then_id sessions) (out_of_turn piece.tail session) refl f

  pub admits_behind : (setting : Setting) (sessions : List Session) (arrival : Arrival) (key : Key) (d : Delivery) (then_id : ℕ) → is_of setting key arrival ≡ true
      → (piece_in arrival).tail.id < 32 → then_id < 32 → then_id ≢ (piece_in arrival).tail.id → answer setting sessions arrival ≡ Gives d
      → AllAdmit since key then_id (next setting sessions arrival)
  admits_behind setting sessions arrival key d then_id is low then_low other gives =
      let own = own_wanted setting key arrival is in
      let same = of_session setting sessions arrival own.w own.accepted own.of_session in
      subst (λ (x : Step). AllAdmit since key then_id x.sessions) (sym same)
      (subst (λ (k : Key). AllAdmit since k then_id
      (session_step setting.sessions setting.blocks own.w (piece_in arrival) arrival.mark arrival.moment (recent_sessions arrival.moment sessions)).sessions) own.own
      (gives_step setting.sessions setting.blocks own.w (piece_in arrival) arrival.mark arrival.moment (recent_sessions arrival.moment sessions) d then_id
      low then_low other (sym (ap (λ (x : Step). x.answer) same) ∙ gives)))
