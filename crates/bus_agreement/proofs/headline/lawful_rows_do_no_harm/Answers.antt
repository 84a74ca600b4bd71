use Rattle.std.proofs.Common.{List, [], ◌∷◌, inl}
use Rattle.bus_rows.specs.declared.row.Row.{Row}
use Rattle.bus_spec.specs.Cluster.{Cluster, after_row}
use Rattle.bus_spec.specs.Lawful.{DoNoHarm, AreLawful}
use Rattle.bus_agreement.proofs.headline.lawful_rows_do_no_harm.Goals as goal

no_harm : (w : Cluster) (rows : List Row) → AreLawful w rows → DoNoHarm w rows
no_harm w [] lawful = tt
no_harm w (row ∷ rows) lawful = (inl lawful.0, no_harm (after_row w row) rows lawful.1)

pub returns : goal.returns
returns c = no_harm
