-- Who follows falls silent: from where a calm begins.
use Rattle.std.proofs.Common.{◌≡◌, ℕ, ◌≤◌, List, ◌++◌, append_assoc, refl, ◌∙◌, ap, arith}
use Rattle.raft_model.specs.Lists.{In}
use Rattle.bus_rows.specs.declared.row.Row.{Row}
use Rattle.bus_rows.specs.Timed.{Timed, rows_in}
use Rattle.service_alone.specs.Calm.{end_of}
use Rattle.service_calm.specs.Calm.{Member as OfMember, no_traffic}
use Rattle.service_device.specs.AskingKnown.{WhoFollowsFallsSilent}
use Rattle.service_device.proofs.SilentRows.{GoesOn, falls_silent, goes_on}
use Rattle.service_device.specs.ServiceBelow.{ServiceGrounds}
use Rattle.service_calm.proofs.Grounds.{calm_laws, well}
use Rattle.alloc_spec.specs.ClusterMembers.{AreMembers}
use Rattle.bus_spec.specs.Cluster.{after_rows, cluster, world_of}
use Rattle.bus_spec.specs.Lawful.{DoNoHarm}

-- a front of the first rows is a front of all
more_rows : (few front late rest : List Timed) → few ≡ front ++ late → few ++ rest ≡ front ++ (late ++ rest)
more_rows few front late rest e = ap (λ (l : List Timed). l ++ rest) e ∙ append_assoc front late rest

module _ (below : ServiceGrounds) (ids : List ℕ) (members : AreMembers ids) (rows : List Row) (harmless : DoNoHarm (cluster ids) rows) where
  pub who_follows_is_silent : WhoFollowsFallsSilent ids rows
  who_follows_is_silent group clocks pace start n m term first few rest server listed running calm harm led i apart runs low long =
      falls_silent (calm_laws below.calm) group nodes clocks pace m i (end_of start first) few rest term (after_rows (world_of ids rows) (rows_in first)) server there
      (λ front late e. (led front (late ++ rest) (more_rows few front late rest e)).others m i apart) runs low (omega (arith, long))
    where
      nodes : (p : ℕ) → In (OfMember p) group → (1 ≤ p) × (p ≤ 125)
      nodes p j = members.nodes p (listed p j)

      there : GoesOn (calm_laws below.calm) group nodes clocks pace m i (end_of start first) (end_of start first) (after_rows (world_of ids rows) (rows_in first)) (few ++ rest)
      there = goes_on (calm_laws below.calm) group nodes clocks pace m i (end_of start first) first (few ++ rest) start (world_of ids rows) (record {
        traffic = no_traffic start;
        at_end = refl;
        calm = calm;
        is = record { well = well below.calm ids members rows harmless group listed running; since = omega arith };
      })
