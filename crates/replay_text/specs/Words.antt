-- The words of a line, and the words that spell numbers and bytes. A number is spelled by std's
-- `decimal`: without sign and without leading zeros. Bytes are written by `encode_lower` of crate hex.
use Rattle.std.specs.Prelude.{◌≡◌, ◌==◌, ℕ, List, Ok}
use Rattle.std.specs.List.{slice_split}
use Rattle.std.specs.Int.{to_be_bytes, w32}
use Rattle.hex.specs.Hex.{decode_of}

-- a line cut at each of its spaces
abbrev pub words : List ℕ → List (List ℕ)
words line = slice_split (λ byte. byte == 32) line

-- the word has two hexadecimal digits of either case for each of the bytes, the high half first
abbrev pub IsHex : List ℕ → List ℕ → Type 0
IsHex bytes word = decode_of word ≡ Ok bytes

-- the four bytes of an identifier, the highest first
abbrev pub identifier_bytes : ℕ → List ℕ
identifier_bytes id = to_be_bytes w32 id
