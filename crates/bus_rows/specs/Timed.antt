-- Rows with moments.
use Rattle.std.specs.Prelude.{ℕ, List, [], ◌∷◌}
use Rattle.bus_rows.specs.declared.row.Row.{Row}

-- a row, and the moment at which it happens, in milliseconds on a clock that nobody reads
pub record Timed : Type 0 where
  pub at : ℕ
  pub row : Row

abbrev pub rows_in : List Timed → List Row
rows_in [] = []
rows_in (timed ∷ rest) = timed.row ∷ rows_in rest
