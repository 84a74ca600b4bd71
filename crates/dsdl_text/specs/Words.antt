-- The words of a line, names, and numbers that are written out.
use Rattle.std.specs.Prelude.{◌==◌, ℕ, Bool, false, ◌&&◌, ◌||◌, nat_lt, List, [], ◌∷◌, length, filter}
use Rattle.std.specs.Char.{is_ascii_alphabetic, is_ascii_alphanumeric, is_ascii_digit}
use Rattle.std.specs.List.{before_first, list_all, slice_split}

-- a line without its remark, which begins with `#`
abbrev pub without_remark : List ℕ → List ℕ
without_remark line = before_first (λ byte. byte == 35) line

-- what stands between the spaces of a text
abbrev pub words_of : List ℕ → List (List ℕ)
words_of text = filter (λ word. nat_lt 0 (length word)) (slice_split (λ byte. byte == 32) text)

-- the words of a line
abbrev pub words : List ℕ → List (List ℕ)
words line = words_of (without_remark line)

abbrev pub is_name_byte : ℕ → Bool
is_name_byte byte = is_ascii_alphanumeric byte || (byte == 95)

-- a letter, and then letters, digits and `_`; 40 bytes at most
abbrev pub is_name : List ℕ → Bool
is_name [] = false
is_name (first ∷ rest) = is_ascii_alphabetic first && (nat_lt (length rest) 40 && list_all is_name_byte rest)

-- digits alone, and no leading zero
abbrev pub is_numeral : List ℕ → Bool
is_numeral [] = false
is_numeral (first ∷ []) = is_ascii_digit first
is_numeral (first ∷ next ∷ rest) = not_zero first && list_all is_ascii_digit (first ∷ next ∷ rest) where
  not_zero : ℕ → Bool
  not_zero byte = nat_lt 48 byte
