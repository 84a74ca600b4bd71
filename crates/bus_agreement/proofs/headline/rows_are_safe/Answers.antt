use Rattle.std.proofs.Common.{List, sym, subst}
use Rattle.std.specs.Prelude.{[], ◌∷◌}
use Rattle.raft_model.specs.Runs.{initial_world, run}
use Rattle.bus_rows.specs.declared.row.Row.{Row}
use Rattle.bus_rows.specs.declared.row.Row.TheVariants.{Rx}
use Rattle.alloc_spec.specs.ClusterMembers.{AreMembers}
use Rattle.bus_spec.specs.Cluster.{cluster, world_of}
use Rattle.bus_spec.specs.Lawful.{DoNoHarm}
use Rattle.bus_spec.specs.Refinement.{events, transfers_of_rows}
use Rattle.bus_agreement.proofs.Concatenations.{first_harmless, ids_stay, row_harmless}
use Rattle.bus_agreement.proofs.headline.rows_are_safe.Goals as goal

pub returns : goal.returns
returns c = λ ids rows members harmless. record {
  shown = λ choice fits. c.rows_are_shown.ensures choice ids rows members harmless fits;
  delivered = λ first rest n k ms choice cut fits d is.
      let all = subst (λ (l : List Row). DoNoHarm (cluster ids) l) cut harmless in
      let shown = c.rows_are_shown.ensures choice ids first members (first_harmless (cluster ids) first (Rx n k ms ∷ rest) all) fits in
      c.what_a_row_delivers_is_one_transfer.ensures choice (transfers_of_rows (cluster ids) first []) (world_of ids first)
      (run (initial_world ids) (events choice (cluster ids) first)) (subst AreMembers (sym (ids_stay (cluster ids) first)) members) shown.shows n k ms d
      (row_harmless (cluster ids) first rest (Rx n k ms) all) is;
  safe = λ choice fits. c.law_every_run.ensures.safe ids _ (c.rows_are_shown.ensures choice ids rows members harmless fits).lawful;
}
