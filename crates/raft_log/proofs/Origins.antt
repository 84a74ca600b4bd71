-- Lists of origins that are cut, or become longer, or are set at a place.
use Rattle.std.proofs.Common.{◌≡◌, ℕ, zero, suc, ◌≤◌, List, [], ◌∷◌, ◌++◌, take, get_or, set, ap, arith}
use Rattle.std.specs.Prelude.{Option, None, Some, unwrap_or}
use Rattle.raft_log.specs.MayFollow.{HaveOrigins}

-- none is above the greatest
abbrev pub AreLow : List (Option ℕ) → Type 0
AreLow xs = (i origin : ℕ) → get_or xs i None ≡ Some origin → origin ≤ 4

pub low_cut : (xs : List (Option ℕ)) (k : ℕ) → AreLow xs → AreLow (take k xs)
low_cut xs zero low i o e = absurd (cc e)
low_cut [] (suc k) low i o e = absurd (cc e)
low_cut (x ∷ xs) (suc k) low zero o e = low 0 o e
low_cut (x ∷ xs) (suc k) low (suc i) o e = low_cut xs k (λ j o h. low (suc j) o h) i o e

pub low_longer : (xs : List (Option ℕ)) (new : ℕ) → new ≤ 4 → AreLow xs → AreLow (xs ++ Some new ∷ [])
low_longer [] new small low zero o e = let same : new ≡ o = ap (λ (x : Option ℕ). unwrap_or x 0) e in omega (arith, same, small)
low_longer [] new small low (suc i) o e = absurd (cc e)
low_longer (x ∷ xs) new small low zero o e = low 0 o e
low_longer (x ∷ xs) new small low (suc i) o e = low_longer xs new small (λ j o h. low (suc j) o h) i o e

pub low_set : (xs : List (Option ℕ)) (k new : ℕ) → new ≤ 4 → AreLow xs → AreLow (set xs k (Some new))
low_set [] k new small low i o e = absurd (cc e)
low_set (x ∷ xs) zero new small low zero o e = let same : new ≡ o = ap (λ (x : Option ℕ). unwrap_or x 0) e in omega (arith, same, small)
low_set (x ∷ xs) zero new small low (suc i) o e = low (suc i) o e
low_set (x ∷ xs) (suc k) new small low zero o e = low 0 o e
low_set (x ∷ xs) (suc k) new small low (suc i) o e = low_set xs k new small (λ j o h. low (suc j) o h) i o e

pub have_cut : (xs : List (Option ℕ)) (k : ℕ) → HaveOrigins xs → HaveOrigins (take k xs)
have_cut xs zero have i h e = absurd (omega (arith, h))
have_cut [] (suc k) have i h e = absurd (omega (arith, h))
have_cut (x ∷ xs) (suc k) have zero h e = have 0 (omega arith) e
have_cut (x ∷ xs) (suc k) have (suc i) h e = have_cut xs k (λ j b. have (suc j) (omega (arith, b))) i (omega (arith, h)) e

pub have_longer : (xs : List (Option ℕ)) (new : ℕ) → HaveOrigins xs → HaveOrigins (xs ++ Some new ∷ [])
have_longer [] new have zero h e = absurd (cc e)
have_longer [] new have (suc i) h e = absurd (omega (arith, h))
have_longer (x ∷ xs) new have zero h e = have 0 (omega arith) e
have_longer (x ∷ xs) new have (suc i) h e = have_longer xs new (λ j b. have (suc j) (omega (arith, b))) i (omega (arith, h)) e

pub have_set : (xs : List (Option ℕ)) (k new : ℕ) → HaveOrigins xs → HaveOrigins (set xs k (Some new))
have_set [] k new have i h e = absurd (omega (arith, h))
have_set (x ∷ xs) zero new have zero h e = absurd (cc e)
have_set (x ∷ xs) zero new have (suc i) h e = have (suc i) (omega (arith, h)) e
have_set (x ∷ xs) (suc k) new have zero h e = have 0 (omega arith) e
have_set (x ∷ xs) (suc k) new have (suc i) h e = have_set xs k new (λ j b. have (suc j) (omega (arith, b))) i (omega (arith, h)) e
