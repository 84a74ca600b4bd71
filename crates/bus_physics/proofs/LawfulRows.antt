-- Two lists of rows, one behind the other, that are lawful together.
use Rattle.std.proofs.Common.{◌≡◌, List, [], ◌∷◌, ◌++◌, refl}
use Rattle.std.specs.Prelude.{None}
use Rattle.bus_rows.specs.declared.row.Row.{Row}
use Rattle.bus_spec.specs.Cluster.{Cluster, after_row, after_rows}
use Rattle.bus_spec.specs.Lawful.{AreLawful, cause}

-- rows, and more rows behind them
pub rows_joined : (w : Cluster) (rows more : List Row) → after_rows w (rows ++ more) ≡ after_rows (after_rows w rows) more
rows_joined w [] more = refl
rows_joined w (row ∷ rows) more = rows_joined (after_row w row) rows more

pub first_lawful : (w : Cluster) (rows more : List Row) → AreLawful w (rows ++ more) → AreLawful w rows
first_lawful w [] more all = tt
first_lawful w (row ∷ rows) more all = (all.0, first_lawful (after_row w row) rows more all.1)

pub cause_at : (w : Cluster) (rows rest : List Row) (row : Row) → AreLawful w (rows ++ (row ∷ rest)) → cause (after_rows w rows) row ≡ None
cause_at w [] rest row all = all.0
cause_at w (first ∷ rows) rest row all = cause_at (after_row w first) rows rest row all.1
