-- Lines of a text from the front of some bytes. A line is the bytes up to the next line feed (byte 10), which ends it,
-- and has at most 120 bytes without it.
use Rattle.std.specs.Prelude.{◌≡◌, ◌≢◌, ◌≤◌, ◌<◌, ℕ, List, [], ◌∷◌, length, None, Some}
use Rattle.replay_text.specs.Lines.{after_line, first_line}
use Rattle.dsdl_text.specs.declared.line.Line.{Line}
use Rattle.dsdl_text.specs.Lines.{Reads}
use Rattle.dsdl_text.specs.Text.{TakesLines, Text, fault_of, no_text}

-- the bytes begin with that line and its line feed, and then go on with the rest
pub record BeginsWith (line : Line) (bytes rest : List ℕ) : Type 0 where
  pub ended : after_line bytes ≡ Some rest
  pub short : length (first_line bytes) ≤ 120
  pub reads : Reads line (first_line bytes)

-- the bytes are these lines, and then the rest
abbrev pub ReadsLines : List Line → List ℕ → List ℕ → Type 0
ReadsLines [] bytes rest = bytes ≡ rest
ReadsLines (line ∷ lines) bytes rest = (next : List ℕ) × BeginsWith line bytes next × ReadsLines lines next rest

-- so many lines from the front of the bytes have no fault, and make this text
pub record Comes (bytes : List ℕ) (now : Text) (count : ℕ) (rest : List ℕ) : Type 0 where
  pub lines : List Line
  pub reads : ReadsLines lines bytes rest
  pub takes : TakesLines no_text lines now
  pub counted : count ≡ length lines

-- ---- how a text ends behind the lines that were taken

-- a line may still come, and the next one is none without a fault: no line feed ends it, it is too long, it has no
-- form, or the text has a fault with it
pub record IsBadLine (now : Text) (count : ℕ) (rest : List ℕ) : Type 0 where
  pub within : count < 1000
  pub more : rest ≢ []
  pub bad : (line : Line) (next : List ℕ) → BeginsWith line rest next → fault_of now line ≡ None → ⊥

-- all lines that may come were taken, and more bytes come
pub record IsBeyond (count : ℕ) (rest : List ℕ) : Type 0 where
  pub full : count ≡ 1000
  pub more : rest ≢ []
