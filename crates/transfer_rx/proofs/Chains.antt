-- The chains of sessions.
use Rattle.std.proofs.Common.{◌≡◌, ℕ, zero, suc, ◌+◌, ◌*◌, ◌<◌, ◌≤◌, true, false, Bool, List, [], ◌∷◌, length, get_or, nat_lt, refl, sym, ap, ◌∙◌, arith, subst, inl, inr}
use Rattle.std.specs.Prelude.{Option, None, Some}
use Rattle.std.specs.List.{position_or_len}
use Rattle.std.proofs.lemmas.Bool.{cases_Bool}
use Rattle.std.proofs.lemmas.Bool.Decides.{leb_tells}
use Rattle.std.proofs.lemmas.List.{get_or_past, nil_from_length, take_all}
use Rattle.std.proofs.lemmas.List.Quantifiers.{position-Some}
use Rattle.can_frame.specs.Cutting.{joined}
use Rattle.transfer_rx.specs.declared.key.Key.{Key}
use Rattle.transfer_rx.specs.declared.progress.Progress.{Progress}
use Rattle.transfer_rx.specs.Chains.{HaveChains, is_of_key, place_of}
use Rattle.transfer_rx.specs.Filled.{AreFilled, taken_at}
use Rattle.transfer_rx.specs.Keys.{same_key}
use Rattle.transfer_rx.specs.Places.{AreAt, KeepSessions, Places, has_key}
use Rattle.transfer_rx.specs.Progress.{IsProgressAt}
use Rattle.transfer_rx.specs.Sessions.{Session, others, session_of}
use Rattle.transfer_rx.proofs.Arrangement.{none_at, there}
use Rattle.transfer_rx.proofs.Found.{same_key-equal, same_key-true, session_of-others_own}

-- ---- places

not_first : (p : Option Progress → Bool) (x : Option Progress) (xs : List (Option Progress)) → length (x ∷ xs) ≤ position_or_len p (x ∷ xs) →
    (p x ≡ false) × (length xs ≤ position_or_len p xs)
not_first p x xs h = elim (cases_Bool (p x)) [
  | inl t ↦
      let t' : p x ≡ true = t in
      let first : position_or_len p (x ∷ xs) ≡ 0 = rw t' refl in
      absurd (omega arith)
  | inr f ↦
      let f' : p x ≡ false = f in
      let later : position_or_len p (x ∷ xs) ≡ 1 + position_or_len p xs = rw f' refl in
      (f, omega arith)
]

past : (p : Option Progress → Bool) (xs : List (Option Progress)) → length xs ≤ position_or_len p xs →
    (k : ℕ) → k < length xs → p (get_or xs k None) ≡ false
past p [] h k l = absurd (omega arith)
past p (x ∷ xs) h zero l = (not_first p x xs h).0
past p (x ∷ xs) h (suc k) l = past p xs (not_first p x xs h).1 k (omega arith)

no_place : (key : Key) (progress : List (Option Progress)) → place_of key progress ≡ None → (k : ℕ) → k < length progress →
    is_of_key key (get_or progress k None) ≡ false
no_place key progress e = elim (leb_tells (suc (position_or_len (is_of_key key) progress)) (length progress)) [
  | inl within ↦
      let t : nat_lt (position_or_len (is_of_key key) progress) (length progress) ≡ true = within.0 in
      let some : place_of key progress ≡ Some (position_or_len (is_of_key key) progress) = rw t refl in
      absurd cc
  | inr beyond ↦ past (is_of_key key) progress (omega (arith, beyond.1))
]

-- a key is at one place alone
one_place : (places : Places) (sessions : List Session) (i j : ℕ) (a b : Session) → AreAt places sessions → get_or places i None ≡ Some a →
    get_or places j None ≡ Some b → a.key ≡ b.key → i ≡ j
one_place [] sessions i j a b at x y e = absurd cc
one_place (None ∷ places) sessions zero j a b at x y e = absurd cc
one_place (None ∷ places) sessions (suc i) zero a b at x y e = absurd cc
one_place (None ∷ places) sessions (suc i) (suc j) a b at x y e = ap suc (one_place places sessions i j a b at x y e)
one_place (Some first ∷ places) sessions zero zero a b at x y e = refl
one_place (Some first ∷ places) sessions zero (suc j) a b at x y e =
    let here : first ≡ a = cc in
    let other : session_of b.key (others first.key sessions) ≡ Some b = there places (others first.key sessions) j b at.1 y in
    let same : first.key ≡ b.key = ap (λ (s : Session). s.key) here ∙ e in
    let none : session_of b.key (others first.key sessions) ≡ None = ap (λ k. session_of k (others first.key sessions)) (sym same) ∙ session_of-others_own first.key sessions in
    absurd cc
one_place (Some first ∷ places) sessions (suc i) zero a b at x y e =
    let here : first ≡ b = cc in
    let other : session_of a.key (others first.key sessions) ≡ Some a = there places (others first.key sessions) i a at.1 x in
    let same : first.key ≡ a.key = ap (λ (s : Session). s.key) here ∙ sym e in
    let none : session_of a.key (others first.key sessions) ≡ None = ap (λ k. session_of k (others first.key sessions)) (sym same) ∙ session_of-others_own first.key sessions in
    absurd cc
one_place (Some first ∷ places) sessions (suc i) (suc j) a b at x y e = ap suc (one_place places (others first.key sessions) i j a b at.1 x y e)

-- ---- a session and its chain

-- what is at a place of a key
record At (key : Key) (progress : List (Option Progress)) (chains : List (List ℕ)) (places : Places) (sessions : List Session) (place : ℕ) : Type 0 where
  within : place < length progress
  session : Session
  at_place : get_or places place None ≡ Some session
  own : session_of key sessions ≡ Some session
  of_key : session.key ≡ key
  bytes : get_or chains place [] ≡ joined session.taken

from_some : (key : Key) (p : Option Progress) (chain : List ℕ) (o : Option Session) → is_of_key key p ≡ true → IsProgressAt p chain o →
    length chain ≡ 7 * taken_at p → (session : Session) × (o ≡ Some session) × (session.key ≡ key) × (chain ≡ joined session.taken)
from_some key None chain o t h n = absurd cc
from_some key (Some p) chain None t h n = absurd h
from_some key (Some p) chain (Some session) t h n =
    (session, refl, sym h.key ∙ sym (same_key-true key p.key t), sym (take_all (7 * p.taken) chain (omega arith)) ∙ h.collected)

is_of_session : (key : Key) (p : Option Progress) (chain : List ℕ) (o : Option Session) → is_of_key key p ≡ false → IsProgressAt p chain o → has_key key o ≡ false
is_of_session key None chain None f h = refl
is_of_session key None chain (Some session) f h = absurd h
is_of_session key (Some p) chain None f h = absurd h
is_of_session key (Some p) chain (Some session) f h = ap (same_key key) (sym h.key) ∙ f

no_bytes : (p : Option Progress) (chain : List ℕ) → length chain ≡ 7 * taken_at p → p ≡ None → chain ≡ []
no_bytes p chain n e = nil_from_length chain (n ∙ ap (λ x. 7 * taken_at x) e)

module _ (S : ℕ) (progress : List (Option Progress)) (chains : List (List ℕ)) (sessions : List Session) (k : KeepSessions progress chains sessions)
    (filled : AreFilled progress chains) (size : length progress ≡ S) (enough : length chains ≡ S) where
  at : (key : Key) (place : ℕ) → place_of key progress ≡ Some place → At key progress chains k.places sessions place
  at key place e =
      let first = position-Some (is_of_key key) progress place None e in
      let here = from_some key (get_or progress place None) (get_or chains place []) (get_or k.places place None) first.1
      (k.stand.each place first.0) (filled place first.0) in
      record {
        within = first.0;
        session = here.0;
        at_place = here.1;
        own = subst (λ x. session_of x sessions ≡ Some here.0) here.2 (there k.places sessions place here.0 k.arranged.at here.1);
        of_key = here.2;
        bytes = here.3;
      }

  nowhere : (key : Key) → place_of key progress ≡ None → session_of key sessions ≡ None
  nowhere key e =
      none_at k.places sessions key k.arranged.at
      (λ place l. is_of_session key (get_or progress place None) (get_or chains place []) (get_or k.places place None)
      (no_place key progress e place (omega (arith, k.stand.size))) (k.stand.each place (omega (arith, k.stand.size))))

  each_by : (key : Key) (session : Session) → session_of key sessions ≡ Some session → (o : Option ℕ) → place_of key progress ≡ o →
      (chain : ℕ) × (place_of key progress ≡ Some chain) × (chain < S) × (get_or chains chain [] ≡ joined session.taken)
  each_by key session own None e = let none = nowhere key e in absurd cc
  each_by key session own (Some place) e =
      let here = at key place e in
      let same : here.session ≡ session = let both : Some here.session ≡ Some session = sym here.own ∙ own in cc in
      (place, e, subst (λ n. place < n) size here.within, here.bytes ∙ ap (λ (s : Session). joined s.taken) same)

  none_by : (key : Key) → session_of key sessions ≡ None → (o : Option ℕ) → place_of key progress ≡ o → place_of key progress ≡ None
  none_by key none None e = e
  none_by key none (Some place) e = let here = (at key place e).own in absurd cc

  -- where there is a session, its key leads here
  leads_here : (chain : ℕ) → chain < length progress → (p : Progress) → get_or progress chain None ≡ Some p → (o : Option ℕ) →
      place_of p.key progress ≡ o → place_of p.key progress ≡ Some chain
  leads_here chain l p e None o =
      let t : is_of_key p.key (get_or progress chain None) ≡ true = ap (is_of_key p.key) e ∙ same_key-equal p.key p.key refl in
      let f = no_place p.key progress o chain l in
      absurd cc
  leads_here chain l p e (Some place) o =
      let t : is_of_key p.key (get_or progress chain None) ≡ true = ap (is_of_key p.key) e ∙ same_key-equal p.key p.key refl in
      let here = at p.key place o in
      let own = from_some p.key (get_or progress chain None) (get_or chains chain []) (get_or k.places chain None) t (k.stand.each chain l) (filled chain l) in
      let same : place ≡ chain = one_place k.places sessions place chain here.session own.0 k.arranged.at here.at_place own.1 (here.of_key ∙ sym own.2) in
      o ∙ ap Some same

  empty_by : (chain : ℕ) → ((key : Key) → place_of key progress ≡ Some chain → ⊥) → chain < length progress → (p : Option Progress) →
      get_or progress chain None ≡ p → get_or chains chain [] ≡ []
  empty_by chain not_one l None e = no_bytes (get_or progress chain None) (get_or chains chain []) (filled chain l) e
  empty_by chain not_one l (Some p) e = absurd (not_one p.key (leads_here chain l p e (place_of p.key progress) refl))

  pub have_chains : HaveChains S (λ key. place_of key progress) chains sessions
  have_chains = record {
    each = λ key session own. each_by key session own (place_of key progress) refl;
    different = λ a b chain x y.
        let first = position-Some (is_of_key a) progress chain None x in
        let second = at b chain y in
        let one = at a chain x in
        let same : one.session ≡ second.session = let both : Some one.session ≡ Some second.session = sym one.at_place ∙ second.at_place in cc in
        sym one.of_key ∙ ap (λ (s : Session). s.key) same ∙ second.of_key;
    none = λ key. (nowhere key, λ none. none_by key none (place_of key progress) refl);
    empty = λ chain not_one. elim (leb_tells (suc chain) (length progress)) [
      | inl within ↦ empty_by chain not_one (omega (arith, within.1)) (get_or progress chain None) refl
      | inr beyond ↦ get_or_past chains chain [] (omega (arith, beyond.1))
    ];
  }
