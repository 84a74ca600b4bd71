-- How many of the first nodes of a list pass a test.
use Rattle.std.proofs.Common.{◌≡◌, ℕ, zero, suc, ◌+◌, ◌<◌, Bool, List, [], ◌∷◌, length, take, get_or, ap, ◌∙◌, arith}
use Rattle.std.specs.Prelude.{if◌then◌else◌}
use Rattle.raft_model.specs.Lists.{how_many}

next_counted : (test : ℕ → Bool) (xs : List ℕ) (k : ℕ) → k < length xs → how_many test (take (suc k) xs) ≡ how_many test (take k xs) + (if test (get_or xs k 0) then 1 else 0)
next_counted test [] k below = absurd (omega (arith, below))
next_counted test (x ∷ xs) zero below = omega arith
next_counted test (x ∷ xs) (suc k) below = let rest = next_counted test xs k (omega (arith, below)) in omega (arith, rest)

pub one_more_counted : (test : ℕ → Bool) (xs : List ℕ) (k : ℕ) → k < length xs → how_many test (take (k + 1) xs) ≡ how_many test (take k xs) + (if test (get_or xs k 0) then 1 else 0)
one_more_counted test xs k below = let next : k + 1 ≡ suc k = omega arith in ap (λ n. how_many test (take n xs)) next ∙ next_counted test xs k below
