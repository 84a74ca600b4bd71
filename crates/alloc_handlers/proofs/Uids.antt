-- Unique IDs.
use Rattle.std.proofs.Common.{refl, ◌≡◌, Bool, true, false, List, ℕ, bytes_eq}
use Rattle.alloc_handlers.proofs.Words.{is_zero}
use Rattle.std.proofs.lemmas.Slice.Eq.{bytes_eq-Decides}
use Rattle.can_frame.specs.Zeros.{zeros}

pub zero_is : (uid : List ℕ) → uid ≡ zeros → is_zero uid ≡ true
zero_is uid is = (bytes_eq-Decides uid zeros).1 is

pub zero_not : (uid : List ℕ) → (uid ≡ zeros → ⊥) → is_zero uid ≡ false
zero_not uid not = by (bytes_eq uid zeros) refl
  where
    by : (b : Bool) → bytes_eq uid zeros ≡ b → bytes_eq uid zeros ≡ false
    by true is = absurd (not ((bytes_eq-Decides uid zeros).0 is))
    by false is = is
