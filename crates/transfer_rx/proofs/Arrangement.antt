-- Sessions at places.
use Rattle.std.proofs.Common.{◌≡◌, ◌≢◌, ℕ, zero, suc, ◌+◌, ◌<◌, ◌≤◌, true, false, not, List, [], ◌∷◌, length, get_or, set, replicate, refl, sym, ap, ◌∙◌, arith, subst, inl, inr}
use Rattle.std.specs.Prelude.{Option, None, Some}
use Rattle.std.specs.List.{sum_by}
use Rattle.std.proofs.lemmas.Bool.{cases_Bool}
use Rattle.std.proofs.lemmas.List.Sums.{sum_by-cons, sum_by-set}
use Rattle.transfer_rx.specs.declared.key.Key.{Key}
use Rattle.transfer_rx.specs.Keys.{same_key}
use Rattle.transfer_rx.specs.Places.{AreAt, Arranged, IsPlaceFor, Places, counted, has_key, is_free, left}
use Rattle.transfer_rx.specs.Sessions.{AreDifferent, Session, is_recent, others, recent_sessions, session_of}
use Rattle.transfer_rx.proofs.Found.{filter-different, filter-dropped, filter-filter, found-key, found-others, others-none, others-others, others-own, same_key-equal, same_key-ne, ne-same_key, session_of-filter, session_of-others, session_of-others_own, sum-others, sum-ones}

pub none_at : (places : Places) (sessions : List Session) (key : Key) → AreAt places sessions →
    ((place : ℕ) → place < length places → has_key key (get_or places place None) ≡ false) → session_of key sessions ≡ None
none_at [] sessions key a h = ap (session_of key) a
none_at (None ∷ places) sessions key a h = none_at places sessions key a (λ place l. h (suc place) (omega arith))
none_at (Some first ∷ places) sessions key a h =
    sym (session_of-others key first.key sessions (ne-same_key key first.key (h 0 (omega arith))))
    ∙ none_at places (others first.key sessions) key a.1 (λ place l. h (suc place) (omega arith))

-- what is at a place is the session of its key
pub there : (places : Places) (sessions : List Session) (place : ℕ) (session : Session) → AreAt places sessions →
    get_or places place None ≡ Some session → session_of session.key sessions ≡ Some session
there [] sessions place session a h = absurd cc
there (None ∷ places) sessions zero session a h = absurd cc
there (None ∷ places) sessions (suc place) session a h = there places sessions place session a h
there (Some first ∷ places) sessions zero session a h =
    let e : first ≡ session = cc in subst (λ (x : Session). session_of x.key sessions ≡ Some x) e a.0
there (Some first ∷ places) sessions (suc place) session a h =
    (found-others session.key first.key sessions session (there places (others first.key sessions) place session a.1 h)).1

pub sum_at : (f : Session → ℕ) (places : Places) (sessions : List Session) → AreAt places sessions → AreDifferent sessions →
    sum_by (counted f) places ≡ sum_by f sessions
sum_at f [] sessions a d = sym (ap (sum_by f) a)
sum_at f (None ∷ places) sessions a d =
    let e : sum_by (counted f) (None ∷ places) ≡ 0 + sum_by (counted f) places = sum_by-cons (counted f) None places in
    let r : sum_by (counted f) places ≡ sum_by f sessions = sum_at f places sessions a d in
    omega arith
sum_at f (Some first ∷ places) sessions a d =
    let e : sum_by (counted f) (Some first ∷ places) ≡ f first + sum_by (counted f) places = sum_by-cons (counted f) (Some first) places in
    let r : sum_by (counted f) places ≡ sum_by f (others first.key sessions) =
    sum_at f places (others first.key sessions) a.1 (filter-different (λ session. not (same_key first.key session.key)) sessions d) in
    let o : sum_by f (others first.key sessions) + counted f (Some first) ≡ sum_by f sessions =
    subst (λ x. sum_by f (others first.key sessions) + counted f x ≡ sum_by f sessions) a.0 (sum-others f first.key sessions d) in
    omega arith

-- ---- a session is put to its place

rest_at : (there : Option Session) (places : Places) (sessions : List Session) (key : Key) → AreAt (there ∷ places) sessions →
    there ≡ session_of key sessions → AreAt places (others key sessions)
rest_at None places sessions key a h = subst (λ rest. AreAt places rest) (sym (others-none key sessions (sym h))) a
rest_at (Some first) places sessions key a h =
    let e : first.key ≡ key = found-key key sessions first (sym h) in subst (λ k. AreAt places (others k sessions)) e a.1

put_at : (places : Places) (sessions : List Session) (key : Key) (session : Session) (place : ℕ) → AreAt places sessions →
    session.key ≡ key → place < length places → get_or places place None ≡ session_of key sessions →
    AreAt (set places place (Some session)) (session ∷ others key sessions)
put_at [] sessions key session place a k l h = absurd (omega arith)
put_at (o ∷ places) sessions key session zero a k l h =
    let own : same_key session.key session.key ≡ true = same_key-equal session.key session.key refl in
    let rest : others session.key (others key sessions) ≡ others key sessions = ap (λ x. others x (others key sessions)) k ∙ others-own key sessions in
    rw (own, rest) (refl, rest_at o places sessions key a h)
put_at (None ∷ places) sessions key session (suc place) a k l h = put_at places sessions key session place a k (omega arith) h
put_at (Some first ∷ places) sessions key session (suc place) a k l h =
    let ne : key ≢ first.key = λ e.
    let here : get_or places place None ≡ Some first = h ∙ ap (λ x. session_of x sessions) e ∙ a.0 in
    let found : session_of first.key (others first.key sessions) ≡ Some first = there places (others first.key sessions) place first a.1 here in
    let none : session_of first.key (others first.key sessions) ≡ None = session_of-others_own first.key sessions in
    absurd cc in
    let other : same_key first.key session.key ≡ false = same_key-ne first.key session.key (λ e. ne (sym (e ∙ k))) in
    let swap : others first.key (others key sessions) ≡ others key (others first.key sessions) = others-others first.key key sessions in
    rw (other, swap) (
      session_of-others first.key key sessions (λ e. ne (sym e)) ∙ a.0,
      put_at places (others first.key sessions) key session place a.1 k (omega arith) (h ∙ sym (session_of-others key first.key sessions ne)),
    )

pub put : (places : Places) (sessions : List Session) (key : Key) (session : Session) (place : ℕ) → Arranged places sessions →
    session.key ≡ key → IsPlaceFor key places sessions place → Arranged (set places place (Some session)) (session ∷ others key sessions)
put places sessions key session place a k p = record {
  at = put_at places sessions key session place a.at k p.present p.same;
  different = (
    ap (λ x. session_of x (others key sessions)) k ∙ session_of-others_own key sessions,
    filter-different (λ other. not (same_key key other.key)) sessions a.different,
  );
}

-- ---- old sessions are left out

left_at : (now : ℕ) (places : Places) (sessions : List Session) → AreAt places sessions → AreDifferent sessions →
    AreAt (left now places) (recent_sessions now sessions)
left_at now [] sessions a d = ap (recent_sessions now) a
left_at now (None ∷ places) sessions a d = left_at now places sessions a d
left_at now (Some first ∷ places) sessions a d =
    let d' : AreDifferent (others first.key sessions) = filter-different (λ session. not (same_key first.key session.key)) sessions d in
    elim (cases_Bool (is_recent now first)) [
      | inl t ↦
          let t' : is_recent now first ≡ true = t in
          let e : others first.key (recent_sessions now sessions) ≡ recent_sessions now (others first.key sessions) =
          filter-filter (λ session. not (same_key first.key session.key)) (is_recent now) sessions in
          rw (t', e) (session_of-filter (is_recent now) first.key sessions first a.0 t, left_at now places (others first.key sessions) a.1 d')
      | inr f ↦
          let f' : is_recent now first ≡ false = f in
          let e : recent_sessions now (others first.key sessions) ≡ recent_sessions now sessions = filter-dropped (is_recent now) first.key sessions first d a.0 f in
          rw f' (subst (λ x. AreAt (left now places) x) e (left_at now places (others first.key sessions) a.1 d'))
    ]

pub forget : (now : ℕ) (places : Places) (sessions : List Session) → Arranged places sessions → Arranged (left now places) (recent_sessions now sessions)
forget now places sessions a = record {
  at = left_at now places sessions a.at a.different;
  different = filter-different (is_recent now) sessions a.different;
}

pub none_yet : (places : ℕ) → Arranged (replicate places None) []
none_yet zero = record { at = refl; different = tt }
none_yet (suc places) = record { at = (none_yet places).at; different = tt }

-- ---- how many sessions there are

most : (places : Places) → sum_by (counted (λ session. 1)) places ≤ length places
most [] = omega arith
most (None ∷ places) =
    let e = sum_by-cons (counted (λ session. 1)) None places in let r = most places in omega arith
most (Some first ∷ places) =
    let e = sum_by-cons (counted (λ session. 1)) (Some first) places in let r = most places in omega arith

some_free : (places : Places) (place : ℕ) → place < length places → get_or places place None ≡ None →
    sum_by (counted (λ session. 1)) places < length places
some_free [] place l h = absurd (omega arith)
some_free (None ∷ places) zero l h = let e = sum_by-cons (counted (λ session. 1)) None places in let r = most places in omega arith
some_free (Some first ∷ places) zero l h = absurd cc
some_free (None ∷ places) (suc place) l h =
    let e = sum_by-cons (counted (λ session. 1)) None places in let r = some_free places place (omega arith) h in omega arith
some_free (Some first ∷ places) (suc place) l h =
    let e = sum_by-cons (counted (λ session. 1)) (Some first) places in let r = some_free places place (omega arith) h in omega arith

none_free : (places : Places) → ((place : ℕ) → place < length places → is_free (get_or places place None) ≡ false) →
    sum_by (counted (λ session. 1)) places ≡ length places
none_free [] h = refl
none_free (None ∷ places) h = let f = h 0 (omega arith) in absurd cc
none_free (Some first ∷ places) h =
    let e = sum_by-cons (counted (λ session. 1)) (Some first) places in
    let r = none_free places (λ place l. h (suc place) (omega arith)) in omega arith

pub has_room : (places : Places) (sessions : List Session) (place : ℕ) → Arranged places sessions → place < length places →
    get_or places place None ≡ None → length sessions < length places
has_room places sessions place a l h =
    let s = sum_at (λ session. 1) places sessions a.at a.different in
    let o = sum-ones sessions in let f = some_free places place l h in omega arith

pub is_full : (places : Places) (sessions : List Session) → Arranged places sessions →
    ((place : ℕ) → place < length places → is_free (get_or places place None) ≡ false) → length sessions ≡ length places
is_full places sessions a h =
    let s = sum_at (λ session. 1) places sessions a.at a.different in
    let o = sum-ones sessions in let f = none_free places h in omega arith

-- what is counted of the others
pub sum_besides : (f : Session → ℕ) (places : Places) (sessions : List Session) (key : Key) (place : ℕ) → Arranged places sessions →
    IsPlaceFor key places sessions place → sum_by (counted f) (set places place None) ≡ sum_by f (others key sessions)
sum_besides f places sessions key place a p =
    let all = sum_at f places sessions a.at a.different in
    let own = sum-others f key sessions a.different in
    let without = sum_by-set (counted f) places place None None p.present in
    let same = ap (counted f) p.same in
    omega arith
