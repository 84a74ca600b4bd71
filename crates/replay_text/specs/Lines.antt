-- Rows from the front of some bytes. A line is the bytes up to the next line feed (byte 10), which ends it.
-- No row has a line of more than 74 bytes, so a longer front without a line feed begins with no row.
use Rattle.std.specs.Prelude.{◌≡◌, ◌≢◌, ◌==◌, ℕ, List, [], ◌∷◌, Option, Some, None, if◌then◌else◌}
use Rattle.bus_rows.specs.declared.row.Row.{Row}
use Rattle.replay_text.specs.Schedule.{Reads}

-- the bytes before the first line feed; all of them where there is none
abbrev pub first_line : List ℕ → List ℕ
first_line [] = []
first_line (byte ∷ bytes) = if byte == 10 then [] else byte ∷ first_line bytes

-- the bytes behind the first line feed; None where there is none
abbrev pub after_line : List ℕ → Option (List ℕ)
after_line [] = None
after_line (byte ∷ bytes) = if byte == 10 then Some bytes else after_line bytes

-- the bytes begin with the line of a row and its line feed, and then go on with the rest
pub record BeginsWith (row : Row) (bytes rest : List ℕ) : Type 0 where
  pub ended : after_line bytes ≡ Some rest
  pub reads : Reads row (first_line bytes)

-- the bytes are the lines of these rows, and then the rest
abbrev pub ReadsRows : List Row → List ℕ → List ℕ → Type 0
ReadsRows [] bytes rest = bytes ≡ rest
ReadsRows (row ∷ rows) bytes rest = (next : List ℕ) × BeginsWith row bytes next × ReadsRows rows next rest

-- no row is read from the front of the bytes
abbrev pub NoRowBegins : List ℕ → Type 0
NoRowBegins bytes = (row : Row) (rest : List ℕ) → BeginsWith row bytes rest → ⊥

-- some bytes are left, and no row is read from them: no line feed ends them, or their first line is no row
pub record BeginsWithNoRow (bytes : List ℕ) : Type 0 where
  pub left : bytes ≢ []
  pub bad : NoRowBegins bytes
