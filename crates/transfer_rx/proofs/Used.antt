-- Places from which on none is used.
use Rattle.std.proofs.Common.{◌≡◌, ℕ, zero, suc, ◌+◌, ◌<◌, ◌≤◌, List, [], ◌∷◌, length, get_or, set, take, Option, Some, None, refl, sym, ap, ◌∙◌, subst, arith, inl, inr}
use Rattle.std.specs.List.{sum_by}
use Rattle.std.proofs.lemmas.Bool.Decides.{leb_tells}
use Rattle.std.proofs.lemmas.List.{get_or-set_other, get_or_past}
use Rattle.std.proofs.lemmas.List.Sums.{sum_by-cons}
use Rattle.transfer_rx.specs.declared.progress.Progress.{Progress}
use Rattle.transfer_rx.specs.Places.{Places, KeepPlaces, blocks_at, kept, left}
use Rattle.transfer_rx.specs.Progress.{IsProgressAt}
use Rattle.transfer_rx.specs.Sessions.{Session}
use Rattle.transfer_rx.specs.Used.{AreUnused}
use Rattle.transfer_rx.proofs.Places.{left-by_place}

-- a place below the new bound is set
pub set_unused : (before used : ℕ) (progress : List (Option Progress)) (place : ℕ) (o : Option Progress) → before ≤ used → place < used →
    AreUnused before progress → AreUnused used (set progress place o)
set_unused before used progress place o h l unused = λ i past.
    get_or-set_other progress place i o None (λ e. omega arith) ∙ unused i (omega arith)

-- the places before one have no session, and none is used from there on
pub none_throughout : (used place : ℕ) (progress : List (Option Progress)) → used ≤ place → AreUnused used progress →
    ((i : ℕ) → i < place → get_or progress i None ≡ None) → (i : ℕ) → get_or progress i None ≡ None
none_throughout used place progress h unused none i = elim (leb_tells used i) [
  | inl past ↦ unused i past.1
  | inr within ↦ let below = within.1 in none i (omega arith)
]

no_session : (bytes : List ℕ) (there : Option Session) → IsProgressAt None bytes there → there ≡ None
no_session bytes None h = refl
no_session bytes (Some session) h = absurd h

module _ (used : ℕ) (progress : List (Option Progress)) (bytes : List (List ℕ)) (places : Places)
    (unused : AreUnused used progress) (keeps : KeepPlaces progress bytes places) where
  pub none_there : (i : ℕ) → used ≤ i → get_or places i None ≡ None
  none_there i past = elim (leb_tells (1 + i) (length progress)) [
    | inl within ↦
        let l = within.1 in
        no_session (get_or bytes i []) (get_or places i None)
        (subst (λ p. IsProgressAt p (get_or bytes i []) (get_or places i None)) (unused i past) (keeps.each i (omega arith)))
    | inr beyond ↦ let l = beyond.1 in get_or_past places i None (omega (arith, keeps.size))
  ]

  pub none_left : (now i : ℕ) → used ≤ i → get_or (left now places) i None ≡ None
  none_left now i past = left-by_place now places i ∙ ap (kept now) (none_there i past)

none_counted : (places : Places) → ((i : ℕ) → get_or places i None ≡ None) → sum_by blocks_at places ≡ 0
none_counted [] h = refl
none_counted (o ∷ places) h =
    sum_by-cons blocks_at o places ∙ (λ i. blocks_at (h 0 i) + none_counted places (λ j. h (suc j)) i)

-- what is counted of the places, is counted of those before the bound
pub front_counted : (n : ℕ) (places : Places) → ((i : ℕ) → n ≤ i → get_or places i None ≡ None) →
    sum_by blocks_at (take n places) ≡ sum_by blocks_at places
front_counted zero places h = sym (none_counted places (λ i. h i (omega arith)))
front_counted (suc n) [] h = refl
front_counted (suc n) (o ∷ places) h =
    sum_by-cons blocks_at o (take n places) ∙ (λ i. blocks_at o + front_counted n places (λ j l. h (suc j) (omega arith)) i)
    ∙ sym (sum_by-cons blocks_at o places)
