-- The run that rows show which do no harm, with what is said within its terms.
use Rattle.std.proofs.Common.{ℕ, List}
use Rattle.bus_rows.specs.declared.row.Row.{Row}
use Rattle.service_calm.specs.CalmBelow.{CalmGrounds}
use Rattle.service_calm.proofs.Grounds.{choice, its_run, made, shown}
use Rattle.service_leader.proofs.TermsHeard.{IsOfRun}
use Rattle.service_leader.proofs.TermsSaid.{said_within}
use Rattle.alloc_spec.specs.ClusterMembers.{AreMembers}
use Rattle.bus_spec.specs.Cluster.{cluster, world_of}
use Rattle.bus_spec.specs.Lawful.{DoNoHarm}
use Rattle.bus_spec.specs.Refinement.{events}

abbrev pub of_run : CalmGrounds → (ids : List ℕ) → AreMembers ids → (rows : List Row) → DoNoHarm (cluster ids) rows → IsOfRun (world_of ids rows)
of_run below ids members rows harmless = record {
  choice = choice below ids members rows harmless;
  made = made below ids members rows harmless;
  run = its_run below ids members rows harmless;
  shows = (shown below ids members rows harmless).shows;
  within = said_within ids (events (choice below ids members rows harmless) (cluster ids) rows) (shown below ids members rows harmless).lawful;
}
