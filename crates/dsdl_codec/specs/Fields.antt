-- Bytes that begin with a field.
use Rattle.std.specs.Prelude.{◌≡◌, ℕ, ◌<◌, List, ◌∷◌, ◌++◌, length}

-- the bytes begin with a field of so many bytes, and these are left
pub record BeginsWith (size : ℕ) (field left bytes : List ℕ) : Type 0 where
  pub width : length field ≡ size
  pub written : bytes ≡ field ++ left

-- the bytes of an array that is not the last field: a byte that counts it stands before it
abbrev pub counted_bytes : List ℕ → List ℕ
counted_bytes items = length items ∷ items

-- the bytes begin with those of an array, and these are left
pub record BeginsWithCounted (items left bytes : List ℕ) : Type 0 where
  pub width : length items < 256
  pub written : bytes ≡ counted_bytes items ++ left
