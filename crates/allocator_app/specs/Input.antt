-- What stands at the front of the input that waits.
use Rattle.std.specs.Prelude.{◌≡◌, ◌≤◌, ◌<◌, ℕ, List, ◌++◌, length, None}
use Rattle.replay_text.specs.Lines.{BeginsWith, BeginsWithNoRow, after_line}
use Rattle.allocator_app.specs.declared.input.Next.{Next}
use Rattle.allocator_app.specs.declared.input.Next.TheVariants as next
use Rattle.bus_rows.specs.declared.row.Row.{Row}

-- the row that stands at the front of the bytes, whatever comes behind, and what is left behind it
pub record FindsRow (row : Row) (before now : List ℕ) : Type 0 where
  pub shorter : length now < length before
  pub begins : (more : List ℕ) → BeginsWith row (before ++ more) (now ++ more)
  pub only : (more rest : List ℕ) (other : Row) → BeginsWith other (before ++ more) rest → row ≡ other

-- what stands at the front, whatever comes behind; a row is taken
abbrev pub Finds : Next → List ℕ → List ℕ → Type 0
Finds (next.Row row) before now = FindsRow row before now
Finds next.NoRow before now = (now ≡ before) × ((more : List ℕ) → BeginsWithNoRow (before ++ more))
Finds next.Incomplete before now = (now ≡ before) × (length before ≤ 120) × (after_line before ≡ None)
