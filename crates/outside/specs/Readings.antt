-- What a clock that tells its readings gives.
use Rattle.std.specs.Prelude.{◌≡◌, ℕ, List, [], ◌∷◌}

-- the next reading: the first of them, or 0 where there is none
abbrev pub next_reading : List ℕ → ℕ
next_reading [] = 0
next_reading (first ∷ rest) = first

-- the readings still to come: the last one is repeated for ever
abbrev pub readings_behind : List ℕ → List ℕ
readings_behind [] = []
readings_behind (last ∷ []) = last ∷ []
readings_behind (first ∷ (second ∷ rest)) = second ∷ rest

-- a clock gives its next reading
pub record Reads (moment : ℕ) (old new : List ℕ) : Type 0 where
  pub given : moment ≡ next_reading old
  pub rest : new ≡ readings_behind old
