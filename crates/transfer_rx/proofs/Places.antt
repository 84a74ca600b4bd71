-- What places stand for, when old sessions are left out and when a session is set.
use Rattle.std.proofs.Common.{◌≡◌, ℕ, ◌-◌, ◌≢◌, ◌≤◌, ◌<◌, ◌+◌, true, false, List, [], ◌∷◌, length, get_or, Option, Some, None, refl, sym, ◌∙◌, subst, arith, nat_le, set, inl, inr, replicate}
use Rattle.std.specs.Prelude.{IfSome}
use Rattle.std.proofs.lemmas.Bool.{cases_Bool, le-leb}
use Rattle.std.proofs.Math.ListN.{get_or-map}
use Rattle.std.proofs.lemmas.List.{ext_get_or, length-map, length-set, get_or-set_same, get_or-set_other, get_or-replicate, get_or_past, length-replicate}
use Rattle.std.proofs.lemmas.Bool.Decides.{eqb_tells, leb_tells}
use Rattle.transfer_rx.specs.declared.progress.Progress.{Progress}
use Rattle.transfer_rx.specs.Sessions.{Session, is_recent}
use Rattle.transfer_rx.specs.Progress.{IsProgressOf, IsProgressAt}
use Rattle.transfer_rx.specs.Places.{Places, KeepPlaces, kept, left}

-- what is left at a place
pub left-by_place : (now : ℕ) (places : Places) (i : ℕ) → get_or (left now places) i None ≡ kept now (get_or places i None)
left-by_place now places i = get_or-map (kept now) places i None

-- a recent session is kept
pub kept_recent : (now : ℕ) (session : Session) (moment : ℕ) → moment ≡ session.moment → now - moment ≤ 2000 →
    kept now (Some session) ≡ Some session
kept_recent now session moment e h =
    let t : nat_le (now - session.moment) 2000 ≡ true = le-leb _ _ (subst (λ m. now - m ≤ 2000) e h) in rw t refl

-- what is kept at each place stands for the places without old sessions
pub all_left : (now : ℕ) (places : Places) (progress : List (Option Progress)) (bytes : List (List ℕ)) →
    length places ≡ length progress →
    ((i : ℕ) → i < length progress → IsProgressAt (get_or progress i None) (get_or bytes i []) (kept now (get_or places i None))) →
    KeepPlaces progress bytes (left now places)
all_left now places progress bytes size each = record {
  size = length-map places (kept now) ∙ size;
  each = λ i h. subst (λ o. IsProgressAt (get_or progress i None) (get_or bytes i []) o) (sym (left-by_place now places i)) (each i h);
}

-- a place that is set anew, where its chain changes with it and no other one does
pub set_stands : (progress : List (Option Progress)) (chains after : List (List ℕ)) (left : Places) (place : ℕ) (p : Progress) (session : Session) →
    KeepPlaces progress chains left → place < length progress → ((i : ℕ) → i ≢ place → get_or after i [] ≡ get_or chains i []) →
    IsProgressOf p (get_or after place []) session → KeepPlaces (set progress place (Some p)) after (set left place (Some session))
set_stands progress chains after left place p session s h others k = record {
  size = length-set left place (Some session) ∙ s.size ∙ sym (length-set progress place (Some p));
  each = λ i l.
      let l' : i < length progress = subst (λ n. i < n) (length-set progress place (Some p)) l in
      elim (eqb_tells i place) [
        | inl same ↦
            let a : get_or (set progress place (Some p)) place None ≡ Some p = get_or-set_same progress place (Some p) None h in
            let d : get_or (set left place (Some session)) place None ≡ Some session = get_or-set_same left place (Some session) None (omega (arith, s.size)) in
            subst (λ j. IsProgressAt (get_or (set progress place (Some p)) j None) (get_or after j []) (get_or (set left place (Some session)) j None)) (sym same.1)
            (subst (λ x. IsProgressAt x (get_or after place []) (get_or (set left place (Some session)) place None)) (sym a)
            (subst (λ x. IsProgressAt (Some p) (get_or after place []) x) (sym d) k))
        | inr other ↦
            let a : get_or (set progress place (Some p)) i None ≡ get_or progress i None = get_or-set_other progress place i (Some p) None other.1 in
            let d : get_or (set left place (Some session)) i None ≡ get_or left i None = get_or-set_other left place i (Some session) None other.1 in
            subst (λ x. IsProgressAt x (get_or after i []) (get_or (set left place (Some session)) i None)) (sym a)
            (subst (λ x. IsProgressAt (get_or progress i None) x (get_or (set left place (Some session)) i None)) (sym (others i other.1))
            (subst (λ x. IsProgressAt (get_or progress i None) (get_or chains i []) x) (sym d) (s.each i l')))
      ];
}

-- ---- old sessions are forgotten, place by place

same_chain : (o : Option Progress) (chain after : List ℕ) (there : Option Session) → IsProgressAt o chain there → IfSome o (λ p. after ≡ chain) → IsProgressAt o after there
same_chain None chain after None h e = tt
same_chain None chain after (Some session) h e = absurd h
same_chain (Some p) chain after there h e = subst (λ b. IsProgressAt (Some p) b there) (sym e) h

-- old sessions are left out up to a place, and now there too
pub one_more_kept : (now place : ℕ) (progress : List (Option Progress)) (chains after : List (List ℕ)) (kept_there : Option Progress) (places : Places) →
    place < length progress → ((i : ℕ) → i ≢ place → get_or after i [] ≡ get_or chains i []) →
    IfSome kept_there (λ p. get_or after place [] ≡ get_or chains place []) →
    ((i : ℕ) → i < place → IsProgressAt (get_or progress i None) (get_or chains i []) (kept now (get_or places i None))) →
    IsProgressAt kept_there (get_or chains place []) (kept now (get_or places place None)) →
    (i : ℕ) → i < place + 1 → IsProgressAt (get_or (set progress place kept_there) i None) (get_or after i []) (kept now (get_or places i None))
one_more_kept now place progress chains after kept_there places h others same done here i l = elim (eqb_tells i place) [
  | inl own ↦
      subst (λ j. IsProgressAt (get_or (set progress place kept_there) j None) (get_or after j []) (kept now (get_or places j None))) (sym own.1)
      (subst (λ x. IsProgressAt x (get_or after place []) (kept now (get_or places place None))) (sym (get_or-set_same progress place kept_there None h))
      (same_chain kept_there (get_or chains place []) (get_or after place []) (kept now (get_or places place None)) here same))
  | inr other ↦
      let ne = other.1 in
      subst (λ x. IsProgressAt x (get_or after i []) (kept now (get_or places i None))) (sym (get_or-set_other progress place i kept_there None other.1))
      (subst (λ x. IsProgressAt (get_or progress i None) x (kept now (get_or places i None))) (sym (others i other.1)) (done i (omega arith)))
]

kept_twice : (now : ℕ) (o : Option Session) → kept now (kept now o) ≡ kept now o
kept_twice now None = refl
kept_twice now (Some session) = elim (cases_Bool (is_recent now session)) [
  | inl t ↦ let t' : is_recent now session ≡ true = t in rw (t', t') refl
  | inr f ↦ let f' : is_recent now session ≡ false = f in rw f' refl
]

-- what is left is left again
pub left_twice : (now : ℕ) (places : Places) → left now (left now places) ≡ left now places
left_twice now [] = refl
left_twice now (o ∷ places) = λ i. kept_twice now o i ∷ left_twice now places i

abbrev pub no_progress : Option Progress
no_progress = None

abbrev no_session : Option Session
no_session = None

-- no place of an empty list has progress
pub nothing_there : (places i : ℕ) → get_or (replicate places no_progress) i None ≡ None
nothing_there places i = elim (leb_tells (1 + i) places) [
  | inl within ↦ let l = within.1 in get_or-replicate places i no_progress None (omega arith)
  | inr beyond ↦
      let l = beyond.1 in
      get_or_past (replicate places no_progress) i None (omega (arith, length-replicate {A = Option Progress} places None))
]

-- where no place has a session, they are as at first
pub all_none : (places : ℕ) (progress : List (Option Progress)) → length progress ≡ places → ((i : ℕ) → get_or progress i None ≡ None) →
    progress ≡ replicate places None
all_none places progress size none =
    ext_get_or None progress (replicate places None) (size ∙ sym (length-replicate {A = Option Progress} places None))
    (λ i l. none i ∙ sym (nothing_there places i))

-- a new receiver keeps no session
pub all_free : (places : ℕ) (bytes : List (List ℕ)) → KeepPlaces (replicate places None) bytes (replicate places None)
all_free places bytes = record {
  size = length-replicate {A = Option Session} places None ∙ sym (length-replicate {A = Option Progress} places None);
  each = λ place l.
      let lt : place < places = omega (arith, length-replicate {A = Option Progress} places None) in
      let code = nothing_there places place in
      let there : get_or (replicate places no_session) place None ≡ None = get_or-replicate places place None None lt in
      rw (code, there) tt;
}
