-- A term and a flag: the bytes of both answers of a cluster.
--
--   uint32 term   four bytes, the low one first
--   bool          the high bit of a byte; the seven bits below it are padding
use Rattle.std.specs.Prelude.{◌≡◌, ℕ, ◌+◌, ◌%◌, ◌^◌, ◌<◌, nat_le, Bool, List, [], ◌∷◌, ◌++◌, slice_index_or, Option, Some, None, if◌then◌else◌}
use Rattle.std.specs.Int.{to_le_bytes, from_le_bytes, w32}

-- the bytes of a term and a flag, with these padding bits
abbrev pub verdict_bytes : ℕ → Bool → ℕ → List ℕ
verdict_bytes term flag padding = to_le_bytes w32 term ++ ((if flag then 128 else 0) + padding) ∷ []

-- the padding bits that stand in bytes
abbrev pub verdict_padding : List ℕ → ℕ
verdict_padding bytes = slice_index_or bytes 4 0 % 128

-- these are their bytes, whatever the padding
pub record SpellsVerdict (term : ℕ) (flag : Bool) (bytes : List ℕ) : Type 0 where
  pub width : term < 2 ^ 32
  pub written : bytes ≡ verdict_bytes term flag (verdict_padding bytes)

-- the term and the flag of bytes
abbrev pub verdict_of : List ℕ → Option (ℕ × Bool)
verdict_of (a ∷ b ∷ c ∷ d ∷ state ∷ []) =
    Some (from_le_bytes w32 (a ∷ b ∷ c ∷ d ∷ []), nat_le 128 state)
verdict_of _ = None
