-- What holds of the sessions of a receiver after every step.
use Rattle.std.proofs.Common.{◌≡◌, ℕ, suc, ◌+◌, ◌*◌, ◌<◌, ◌≤◌, true, false, Bool, not, ◌||◌, List, [], ◌∷◌, ◌++◌, length, cond, nat_eq, nat_lt, refl, sym, ap, ◌∙◌, arith, subst, inl, inr, length-append}
use Rattle.std.specs.Prelude.{Option, None, Some, Result, Ok, Err, filter}
use Rattle.std.specs.List.{sum_by}
use Rattle.std.specs.Cmp.Lexicographic.{pointwise}
use Rattle.std.proofs.lemmas.Bool.{cases_Bool, eqb-true, ltb-true}
use Rattle.can_frame.specs.declared.mark.Mark.{Mark}
use Rattle.can_frame.specs.declared.step.Why.{Why}
use Rattle.can_frame.specs.declared.step.Why.TheVariants.{Crc, Length, NoBlock, NoSession, Start}
use Rattle.can_frame.specs.declared.tail.Tail.{Tail}
use Rattle.can_frame.specs.Cutting.{Piece, payload_of, tail_at}
use Rattle.can_frame.specs.Kinds.{is_anonymous}
use Rattle.transfer_rx.specs.declared.accept.Wanted.{Wanted}
use Rattle.transfer_rx.specs.declared.key.Key.{Key}
use Rattle.transfer_rx.specs.Acceptance.{wanted}
use Rattle.transfer_rx.specs.Keys.{key_of, same_key}
use Rattle.transfer_rx.specs.Outcome.{Delivers, Grows, Outcome, Spoils, cut_again, fits_no_part, fits_no_payload, is_wrong_length, lacks_blocks, out_of_turn, outcome, same_piece}
use Rattle.transfer_rx.specs.Parts.{IsPart}
use Rattle.transfer_rx.specs.Places.{counted}
use Rattle.transfer_rx.specs.Reassembly.{Arrival, Setting, Step, at_session, grown, in_turn, next, piece_in, session_after, session_step}
use Rattle.transfer_rx.specs.Sessions.{AreDifferent, Session, continued, is_recent, new_session, others, recent_sessions, restarted_session, restarts, session_for, session_of}
use Rattle.transfer_rx.specs.Sound.{ArePossible, AreSound, IsSound}
use Rattle.transfer_rx.proofs.Comes.{for-key}
use Rattle.transfer_rx.proofs.Found.{filter-different, others-none, session_of-others_own, sum-ones, sum-others}
use Rattle.transfer_rx.proofs.InTurn.{in_turn_tail}
use Rattle.transfer_rx.proofs.ProgressSteps.{part-push}
use Rattle.transfer_rx.proofs.Lengths.{part_size}
use Rattle.transfer_rx.proofs.Steps.{anonymous, key-after, of_session, unwanted}

-- ---- a frame that goes on

pub grows_only : (wrong lacks end : Bool) (whole : Bool) (payload : List ℕ) →
    cond wrong (Spoils Length) (cond lacks (Spoils NoBlock) (cond end (cond whole (Delivers payload) (Spoils Crc)) Grows)) ≡ Grows →
    (wrong ≡ false) × (end ≡ false) × (lacks ≡ false)
grows_only true lacks end whole payload h = absurd cc
grows_only false true end whole payload h = absurd cc
grows_only false false true true payload h = absurd cc
grows_only false false true false payload h = absurd cc
grows_only false false false whole payload h = (refl, refl, refl)

seven_only : (size count : ℕ) (same : Bool) → nat_eq size 7 ≡ same → not same || nat_lt 378 (7 * count + size) ≡ false → size ≡ 7
seven_only size count true e h = eqb-true size 7 e
seven_only size count false e h = absurd cc

-- a frame after which the session goes on
record IsOn (piece : Piece) : Type 0 where
  seven : length piece.bytes ≡ 7
  open_end : piece.tail.end ≡ false

goes_on : (blocks signature id : ℕ) (piece : Piece) (taken : List Piece) (rest : List Session) → IsPart id 0 taken →
    outcome blocks signature piece taken rest ≡ Grows → IsOn piece
unfolding outcome
goes_on blocks signature id piece taken rest p h =
    let w = grows_only (is_wrong_length signature piece (taken ++ piece ∷ [])) (lacks_blocks blocks piece taken rest) piece.tail.end
    (pointwise same_piece (taken ++ piece ∷ []) (cut_again signature piece.tail.id (taken ++ piece ∷ []))) (payload_of (taken ++ piece ∷ [])) h in
    let fits : fits_no_part (taken ++ piece ∷ []) ≡ false =
    sym (ap (λ end. cond end (fits_no_payload signature piece.tail.id (taken ++ piece ∷ [])) (fits_no_part (taken ++ piece ∷ []))) w.1) ∙ w.0 in
    record {
      seven = seven_only (length piece.bytes) (length taken) (nat_eq (length piece.bytes) 7) refl
          (sym (part_size id taken piece p (length piece.bytes) (length taken) refl refl) ∙ fits);
      open_end = w.1;
    }

grown_sound : (blocks signature : ℕ) (piece : Piece) (mark : Mark) (now : ℕ) (session : Session) (rest : List Session) → IsSound session →
    out_of_turn piece.tail session ≡ None → outcome blocks signature piece session.taken rest ≡ Grows → IsSound (grown piece mark now session)
grown_sound blocks signature piece mark now session rest s turn h =
    let on = goes_on blocks signature session.expected piece session.taken rest s.frames h in
    let none_before : length session.taken ≡ 0 + length session.taken = omega arith in
    let tail : piece.tail ≡ tail_at session.expected (0 + length session.taken) false =
    in_turn_tail piece.tail session turn ∙ (λ i. tail_at session.expected (none_before i) (on.open_end i)) in
    record {
      frames = part-push session.expected 0 session.taken piece s.frames on.seven tail;
      marks = length-append session.marks (mark ∷ []) ∙ ap (λ n. n + 1) s.marks ∙ sym (length-append session.taken (piece ∷ []));
    }

after_sound : (blocks signature : ℕ) (piece : Piece) (mark : Mark) (now : ℕ) (session : Session) (rest : List Session) (result : Outcome) → IsSound session →
    out_of_turn piece.tail session ≡ None → outcome blocks signature piece session.taken rest ≡ result → IsSound (session_after piece mark now session result)
after_sound blocks signature piece mark now session rest (Delivers payload) s turn h = record { frames = tt; marks = refl }
after_sound blocks signature piece mark now session rest Grows s turn h = grown_sound blocks signature piece mark now session rest s turn h
after_sound blocks signature piece mark now session rest (Spoils why) s turn h = record { frames = tt; marks = refl }

-- ---- the session that a frame comes to

filter_sound : (p : Session → Bool) (sessions : List Session) → AreSound sessions → AreSound (filter p sessions)
filter_sound p [] s = tt
filter_sound p (first ∷ sessions) s = elim (cases_Bool (p first)) [
  | inl t ↦ let t' : p first ≡ true = t in rw t' (s.0, filter_sound p sessions s.1)
  | inr f ↦ let f' : p first ≡ false = f in rw f' (filter_sound p sessions s.1)
]

filter_few : (p : Session → Bool) (sessions : List Session) → length (filter p sessions) ≤ length sessions
filter_few p [] = omega arith
filter_few p (first ∷ sessions) =
    let r = filter_few p sessions in elim (cases_Bool (p first)) [
      | inl t ↦ let t' : p first ≡ true = t in rw t' (omega arith)
      | inr f ↦ let f' : p first ≡ false = f in rw f' (omega arith)
    ]

found_sound : (key : Key) (sessions : List Session) (session : Session) → session_of key sessions ≡ Some session → AreSound sessions → IsSound session
found_sound key [] session h s = absurd cc
found_sound key (first ∷ sessions) session h s = elim (cases_Bool (same_key key first.key)) [
  | inl t ↦
      let t' : same_key key first.key ≡ true = t in
      let e : Some first ≡ Some session = rw t' at h in
      let same : first ≡ session = cc in
      subst (λ x. IsSound x) same s.0
  | inr f ↦ let f' : same_key key first.key ≡ false = f in let e : session_of key sessions ≡ Some session = rw f' at h in found_sound key sessions session e s.1
]

restarted_sound : (tail : Tail) (session : Session) (restart : Bool) → IsSound session → IsSound (cond restart (record session { expected = tail.id; taken = []; marks = [] }) session)
restarted_sound tail session true s = record { frames = tt; marks = refl }
restarted_sound tail session false s = s

abbrev as_ok : Session → Result Session Why
as_ok session = Ok session

-- a new session is sound, and there was room for it
record IsNew (most : ℕ) (sessions : List Session) (session : Session) : Type 0 where
  sound : IsSound session
  room : length sessions < most

begun_new : (most : ℕ) (key : Key) (tail : Tail) (now : ℕ) (sessions : List Session) (session : Session) (start room : Bool) → nat_lt (length sessions) most ≡ room →
    cond start (cond room (as_ok (new_session key tail now)) (Err NoSession)) (Err Start) ≡ Ok session → IsNew most sessions session
begun_new most key tail now sessions session true true r h =
    let e : new_session key tail now ≡ session = cc in
    record { sound = subst (λ x. IsSound x) e (record { frames = tt; marks = refl }); room = ltb-true (length sessions) most r }
begun_new most key tail now sessions session true false r h = absurd cc
begun_new most key tail now sessions session false room r h = absurd cc

-- what is known of the session that a frame comes to, and of the others
record IsFit (most : ℕ) (key : Key) (sessions : List Session) (session : Session) : Type 0 where
  sound : IsSound session
  few : suc (length (others key sessions)) ≤ most

fit : (most : ℕ) (key : Key) (tail : Tail) (now : ℕ) (sessions : List Session) (session : Session) → AreDifferent sessions → AreSound sessions →
    length sessions ≤ most → session_for most key tail now sessions ≡ Ok session → IsFit most key sessions session
unfolding session_for
fit most key tail now sessions session d s few h = go (session_of key sessions) refl h where
  go : (o : Option Session) → session_of key sessions ≡ o → continued most key tail now sessions o ≡ Ok session → IsFit most key sessions session
  go None e r =
      let new = begun_new most key tail now sessions session tail.start (nat_lt (length sessions) most) refl r in
      let same : length (others key sessions) ≡ length sessions = ap length (others-none key sessions e) in
      let room = new.room in
      record { sound = new.sound; few = omega arith }
  go (Some own) e r =
      let same : restarted_session tail own ≡ session = cc in
      let all : sum_by (λ (x : Session). 1) (others key sessions) + counted (λ (x : Session). 1) (Some own) ≡ sum_by (λ (x : Session). 1) sessions =
      subst (λ x. sum_by (λ (x : Session). 1) (others key sessions) + counted (λ (x : Session). 1) x ≡ sum_by (λ (x : Session). 1) sessions) e
      (sum-others (λ (x : Session). 1) key sessions d) in
      let rest = sum-ones (others key sessions) in
      let whole = sum-ones sessions in
      record { sound = subst (λ x. IsSound x) same (restarted_sound tail own (restarts tail own) (found_sound key sessions own e s)); few = omega arith }

-- ---- a step

put_back : (setting : Setting) (key : Key) (sessions : List Session) (session : Session) → ArePossible setting sessions → session.key ≡ key → IsSound session →
    suc (length (others key sessions)) ≤ setting.sessions → ArePossible setting (session ∷ others key sessions)
put_back setting key sessions session p k s few = record {
  different = (
    ap (λ x. session_of x (others key sessions)) k ∙ session_of-others_own key sessions,
    filter-different (λ other. not (same_key key other.key)) sessions p.different,
  );
  sound = (s, filter_sound (λ other. not (same_key key other.key)) sessions p.sound);
  few = few;
}

turned : (setting : Setting) (w : Wanted) (piece : Piece) (mark : Mark) (now : ℕ) (sessions : List Session) (session : Session) (o : Option Why) →
    ArePossible setting sessions → session.key ≡ key_of w.ident → IsFit setting.sessions (key_of w.ident) sessions session → out_of_turn piece.tail session ≡ o →
    ArePossible setting (in_turn setting.blocks w piece mark now (others (key_of w.ident) sessions) session o).sessions
turned setting w piece mark now sessions session None p k f t =
    let result = outcome setting.blocks w.signature piece session.taken (others (key_of w.ident) sessions) in
    put_back setting (key_of w.ident) sessions (session_after piece mark now session result) p (key-after piece mark now session result ∙ k)
    (after_sound setting.blocks w.signature piece mark now session (others (key_of w.ident) sessions) result f.sound t refl) f.few
turned setting w piece mark now sessions session (Some why) p k f t = put_back setting (key_of w.ident) sessions session p k f.sound f.few

stepped : (setting : Setting) (w : Wanted) (piece : Piece) (mark : Mark) (now : ℕ) (sessions : List Session) → ArePossible setting sessions →
    ArePossible setting (session_step setting.sessions setting.blocks w piece mark now sessions).sessions
unfolding session_step
stepped setting w piece mark now sessions p = go (session_for setting.sessions (key_of w.ident) piece.tail now sessions) refl where
  go : (r : Result Session Why) → session_for setting.sessions (key_of w.ident) piece.tail now sessions ≡ r →
      ArePossible setting (at_session setting.blocks w piece mark now sessions r).sessions
  go (Err why) e = p
  go (Ok session) e =
      turned setting w piece mark now sessions session (out_of_turn piece.tail session) p
      (for-key setting.sessions (key_of w.ident) piece.tail now sessions session e)
      (fit setting.sessions (key_of w.ident) piece.tail now sessions session p.different p.sound p.few e) refl

pub stay_possible : (setting : Setting) (sessions : List Session) (arrival : Arrival) → ArePossible setting sessions → ArePossible setting (next setting sessions arrival)
stay_possible setting sessions arrival p = go (wanted setting.rows setting.me arrival.id) refl where
  left : ArePossible setting (recent_sessions arrival.moment sessions)
  left =
      let few = p.few in
      let fewer = filter_few (is_recent arrival.moment) sessions in
      record {
        different = filter-different (is_recent arrival.moment) sessions p.different;
        sound = filter_sound (is_recent arrival.moment) sessions p.sound;
        few = omega arith;
      }

  go : (r : Result Wanted Why) → wanted setting.rows setting.me arrival.id ≡ r → ArePossible setting (next setting sessions arrival)
  go (Err why) e = subst (λ (x : Step). ArePossible setting x.sessions) (sym (unwanted setting sessions arrival why e)) p
  go (Ok w) e = elim (cases_Bool (is_anonymous w.ident.kind)) [
    | inl alone ↦ subst (λ (x : Step). ArePossible setting x.sessions) (sym (anonymous setting sessions arrival w e alone)) p
    | inr none ↦
        subst (λ (x : Step). ArePossible setting x.sessions) (sym (of_session setting sessions arrival w e none))
        (stepped setting w (piece_in arrival) arrival.mark arrival.moment (recent_sessions arrival.moment sessions) left)
  ]
