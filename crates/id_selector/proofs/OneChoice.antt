-- The choice: there is one, and it is the one that is computed.
use Rattle.std.proofs.Common.{rules, ◌≡◌, ◌<◌, ◌≤◌, ◌-◌, ◌⊎◌, ◌↔◌, ◌∙◌, IfSome, IsNone, ℕ, List, Bool, true, get_or, arith, inl, inr, refl, ap, sym, Option, Some, None, find}
use Rattle.std.specs.Option.{option_or}
use Rattle.std.proofs.lemmas.Bool.{cases_lt}
use Rattle.std.proofs.lemmas.Grind.{common_steps}
use Rattle.std.proofs.lemmas.List.Folds.{find-append}
use Rattle.id_selector.specs.Choice.{preference, upwards, downwards, candidates, chosen, is_free, IsChoice, IsFree, NoneFreeFrom, IsLeastFreeFrom, IsGreatestFreeBelow, IsSecondBest}
use Rattle.id_selector.proofs.Search.{FoundUp, FoundDown, found_up, found_down}

-- the search begins at an ID of 1 to 125
pub in_range : (preferred : ℕ) → (1 ≤ preference preferred) × (preference preferred ≤ 125)
in_range preferred = search (rules)

module _ (taken : List Bool) where
  -- first upwards, then downwards
  pub in_turn : (preferred : ℕ) → let from = preference preferred in
      chosen taken preferred ≡ option_or (find (is_free taken) (upwards from)) (find (is_free taken) (downwards (from - 1)))
  unfolding candidates
  in_turn preferred = find-append (is_free taken) (upwards (preference preferred)) (downwards (preference preferred - 1))

  -- an ID is not both taken and free
  never : (id : ℕ) → get_or taken id true ≡ true → IsFree taken id → ⊥
  never id t f = let e = f.free in grind (arith, common_steps, t, e)

  module _ (from : ℕ) where
    module _ (a b : ℕ) where
      least_once : IsLeastFreeFrom taken from a → IsLeastFreeFrom taken from b → a ≡ b
      least_once x y =
          let p = λ (l : a < b). never a (y.least a x.above l) x.free in
          let q = λ (l : b < a). never b (x.least b y.above l) y.free in
          omega (arith, p, q)

      greatest_once : IsGreatestFreeBelow taken from a → IsGreatestFreeBelow taken from b → a ≡ b
      greatest_once x y =
          let p = λ (l : a < b). never b (x.greatest b l y.below) y.free in
          let q = λ (l : b < a). never a (y.greatest a l x.below) x.free in
          omega (arith, p, q)

      apart : IsLeastFreeFrom taken from a → IsSecondBest taken from b → ⊥
      apart x y = never a (y.none_above a x.above x.free.most) x.free

    same : (a b : ℕ) → IsLeastFreeFrom taken from a ⊎ IsSecondBest taken from a → IsLeastFreeFrom taken from b ⊎ IsSecondBest taken from b → a ≡ b
    same a b (inl x) (inl y) = least_once a b x y
    same a b (inl x) (inr y) = absurd (apart a b x y)
    same a b (inr x) (inl y) = absurd (apart b a y x)
    same a b (inr x) (inr y) = greatest_once a b x.next y.next

    -- where none is free there is no choice
    none_free : (a : ℕ) → NoneFreeFrom taken 1 → IsLeastFreeFrom taken from a ⊎ IsSecondBest taken from a → ⊥
    none_free a n (inl x) = never a (n a x.free.least x.free.most) x.free
    none_free a n (inr x) = never a (n a x.next.free.least x.next.free.most) x.next.free

  -- two choices are one
  pub one : (preferred : ℕ) (a b : Option ℕ) → IsChoice taken preferred a → IsChoice taken preferred b → a ≡ b
  one preferred None None x y = refl
  one preferred None (Some b) x y = absurd (none_free (preference preferred) b x y)
  one preferred (Some a) None x y = absurd (none_free (preference preferred) a y x)
  one preferred (Some a) (Some b) x y = ap Some (same (preference preferred) a b x y)

  -- what is found, upwards and else downwards, is a choice
  found : (preferred : ℕ) (up down : Option ℕ) → let from = preference preferred in 1 ≤ from → from ≤ 125 →
      FoundUp taken from (126 - from) up → FoundDown taken (from - 1) down → IsChoice taken preferred (option_or up down)
  found preferred (Some id) down l m up below = inl (record {
    free = record { least = omega (arith, l, up.1); most = omega (arith, m, up.2); free = up.0 };
    above = up.1;
    least = up.3;
  })
  found preferred None (Some id) l m up below = inr (record {
    none_above = λ other a b. up other a (omega (arith, b, m));
    next = record {
      free = record { least = below.1; most = omega (arith, m, below.2); free = below.0 };
      below = omega (arith, l, below.2);
      greatest = λ other a b. below.3 other a (omega (arith, b));
    };
  })
  found preferred None None l m up below = λ id a b. none id a b (cases_lt id (preference preferred))
    where
      none : (id : ℕ) → 1 ≤ id → id ≤ 125 → (id < preference preferred) ⊎ (preference preferred ≤ id) → get_or taken id true ≡ true
      none id a b (inl c) = below id a (omega (arith, c))
      none id a b (inr c) = up id c (omega (arith, b, m))

  pub is_choice : (preferred : ℕ) → IsChoice taken preferred (chosen taken preferred)
  is_choice preferred = let from = preference preferred in
      let range = in_range preferred in
      rw (in_turn preferred) (found preferred _ _ range.0 range.1 (found_up taken from (126 - from)) (found_down taken (from - 1)))

  -- what is found from where the search begins is chosen
  pub chosen_from : (preferred from : ℕ) (result : Option ℕ) → from ≡ preference preferred →
      result ≡ option_or (find (is_free taken) (upwards from)) (find (is_free taken) (downwards (from - 1))) → result ≡ chosen taken preferred
  chosen_from preferred from result e h = h ∙ rw e (sym (in_turn preferred))

  -- what is chosen is a choice
  pub choice_from : (preferred : ℕ) (result : Option ℕ) → result ≡ chosen taken preferred → IsChoice taken preferred result
  choice_from preferred result e = rw e (is_choice preferred)

  pub free_from : (preferred : ℕ) (result : Option ℕ) → IsChoice taken preferred result → IfSome result (IsFree taken)
  free_from preferred None h = tt
  free_from preferred (Some id) (inl least) = least.free
  free_from preferred (Some id) (inr second) = second.next.free

  pub none_from : (preferred : ℕ) (result : Option ℕ) → IsChoice taken preferred result → IsNone result ↔ NoneFreeFrom taken 1
  none_from preferred None h = ((λ _. h), (λ _. refl))
  none_from preferred (Some id) h = ((λ e. search (rules, e)), (λ none. absurd (none_free (preference preferred) id none h)))
