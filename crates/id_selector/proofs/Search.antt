-- What the search among the candidates finds.
use Rattle.std.proofs.Common.{◌≡◌, ◌<◌, ◌≤◌, ◌+◌, inl, inr, ℕ, zero, suc, List, Bool, true, false, not, cond, get_or, arith, refl, Option, Some, None, find}
use Rattle.std.proofs.lemmas.Bool.{cases_eq}
use Rattle.std.specs.List.{range_with_len}
use Rattle.id_selector.specs.Choice.{is_free, downwards}

module _ (taken : List Bool) where
  abbrev IsTaken : ℕ → Type 0
  IsTaken id = get_or taken id true ≡ true

  -- a taken ID is passed over
  pub passed_up : (id n k : ℕ) → n ≡ suc k → get_or taken id true ≡ true → find (is_free taken) (range_with_len id n) ≡ find (is_free taken) (range_with_len (id + 1) k)
  passed_up id n k e h = rw (e, h) refl

  -- what is taken here, and everywhere but here
  here_too : (here id : ℕ) → IsTaken here → ((id ≡ here → ⊥) → IsTaken id) → IsTaken id
  here_too here id h others = elim (cases_eq id here) [ inl e ↦ rw e h | inr apart ↦ others apart ]

  -- a search upwards through n IDs finds the least one that is free
  abbrev pub FoundUp : ℕ → ℕ → Option ℕ → Type 0
  FoundUp from n None = (id : ℕ) → from ≤ id → id < from + n → get_or taken id true ≡ true
  FoundUp from n (Some id) = (get_or taken id true ≡ false) × (from ≤ id) × (id < from + n) × ((other : ℕ) → from ≤ other → other < id → get_or taken other true ≡ true)

  pub found_up : (from n : ℕ) → FoundUp from n (find (is_free taken) (range_with_len from n))
  found_up from zero = λ id a b. absurd (omega (arith, a, b))
  found_up from (suc n) = at (get_or taken from true) refl (found_up (from + 1) n)
    where
      later : IsTaken from → (rest : Option ℕ) → FoundUp (from + 1) n rest → FoundUp from (suc n) rest
      later h None rest = λ id a b. here_too from id h (λ apart. rest id (omega (arith, a, apart)) (omega (arith, b)))
      later h (Some id) rest = (rest.0, omega (arith, rest.1), omega (arith, rest.2), λ other a b. here_too from other h (λ apart. rest.3 other (omega (arith, a, apart)) b))

      at : (here : Bool) → get_or taken from true ≡ here → FoundUp (from + 1) n (find (is_free taken) (range_with_len (from + 1) n)) → FoundUp from (suc n) (cond (not here) (Some from) (find (is_free taken) (range_with_len (from + 1) n)))
      at true h rest = later h _ rest
      at false h rest = (h, omega arith, omega arith, λ other a b. absurd (omega (arith, a, b)))

  -- a search downwards from n finds the greatest one that is free
  abbrev pub FoundDown : ℕ → Option ℕ → Type 0
  FoundDown n None = (id : ℕ) → 1 ≤ id → id ≤ n → get_or taken id true ≡ true
  FoundDown n (Some id) = (get_or taken id true ≡ false) × (1 ≤ id) × (id ≤ n) × ((other : ℕ) → id < other → other ≤ n → get_or taken other true ≡ true)

  pub found_down : (n : ℕ) → FoundDown n (find (is_free taken) (downwards n))
  found_down zero = λ id a b. absurd (omega (arith, a, b))
  found_down (suc n) = at (get_or taken (suc n) true) refl (found_down n)
    where
      later : IsTaken (suc n) → (rest : Option ℕ) → FoundDown n rest → FoundDown (suc n) rest
      later h None rest = λ id a b. here_too (suc n) id h (λ apart. rest id a (omega (arith, b, apart)))
      later h (Some id) rest = (rest.0, rest.1, omega (arith, rest.2), λ other a b. here_too (suc n) other h (λ apart. rest.3 other a (omega (arith, b, apart))))

      at : (here : Bool) → get_or taken (suc n) true ≡ here → FoundDown n (find (is_free taken) (downwards n)) → FoundDown (suc n) (cond (not here) (Some (suc n)) (find (is_free taken) (downwards n)))
      at true h rest = later h _ rest
      at false h rest = (h, omega arith, omega arith, λ other a b. absurd (omega (arith, a, b)))
