-- The words of which the lines of both forms are made: numbers, and the bytes of a time stamp. Bytes are spelled as in
-- a schedule (`Words` of replay_text).
use Rattle.std.specs.Prelude.{◌≡◌, ◌-◌, ℕ, List, ◌++◌, length, replicate, decimal}
use Rattle.std.specs.Int.{to_be_bytes, w16}
use Rattle.std.specs.Str.Parse.{IsNumeral, digits_value}

-- the word is decimal digits, one at least, and spells the number; zeros may lead
pub record IsDecimal (n : ℕ) (word : List ℕ) : Type 0 where
  pub digits : IsNumeral 10 word
  pub value : digits_value 10 word ≡ n

-- the digits of a number with zeros in front, as many digits as that
abbrev pub zero_padded : ℕ → ℕ → List ℕ
zero_padded width n = replicate (width - length (decimal n)) 48 ++ decimal n

-- the two bytes of a time stamp, the high one first
abbrev pub stamp_bytes : ℕ → List ℕ
stamp_bytes stamp = to_be_bytes w16 stamp
