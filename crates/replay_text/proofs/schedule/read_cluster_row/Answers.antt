use Rattle.std.proofs.Common.{rules, ◌≡◌, ◌∷◌, ℕ, Some, None, true, false}
use Rattle.bus_rows.specs.declared.row.Row.{Row as RowValue}
use Rattle.bus_rows.specs.declared.row.Row.TheVariants.{Open}
use Rattle.replay_text.specs.Schedule.{ReadsWords, IsOfCluster}
use Rattle.replay_text.specs.Words.{words}
use Rattle.replay_text.proofs.schedule.read_cluster_row.Goals as goal

pub returns-in_default-clause-only : goal.returns-in_default-clause-only
returns-in_default-clause-only c = by where
  by : (row : RowValue) → IsOfCluster row → ReadsWords row (c.args.name.now ∷ words c.args.fields.now) → None ≡ Some row
  by (Open n true ms word) of_cluster reads = absurd of_cluster
  by (Open n false ms word) of_cluster reads = search rules
  by row of_cluster reads = search rules
