-- What is so of the servers of worlds that rows show, and of those behind a front of a calm.
use Rattle.std.proofs.Common.{◌≡◌, ◌≢◌, ℕ, List, ◌++◌}
use Rattle.can_frame.specs.declared.entry.Entry.{Entry}
use Rattle.can_frame.specs.Log.{IsInjective}
use Rattle.can_frame.specs.Zeros.{zeros}
use Rattle.raft_model.specs.Lists.{In}
use Rattle.bus_rows.specs.declared.row.Row.{Row}
use Rattle.alloc_spec.specs.AllocatorState.{AllocatorState, members_of}
use Rattle.bus_rows.specs.Timed.{Timed, rows_in}
use Rattle.service_alone.specs.Calm.{HasSettled}
use Rattle.service_device.specs.ServiceBelow.{ServiceGrounds}
use Rattle.service_device.proofs.DialogHolds.{its_log_is_injective}
use Rattle.service_device.proofs.Served.{ServedLaws, lists_members}
use Rattle.service_device.proofs.ServedAgree.{AgreesBehind, agrees_behind}
use Rattle.service_device.proofs.ServedBehind.{harmless_to, up_to}
use Rattle.service_device.proofs.ServedOffered.{TellingLaws}
use Rattle.service_device.proofs.SettlesLaw.{IsFitting, is_fitting}
use Rattle.alloc_spec.specs.ClusterMembers.{AreMembers}
use Rattle.bus_spec.specs.Cluster.{Cluster, after_rows, cluster, world_of}
use Rattle.bus_spec.specs.Lawful.{DoNoHarm}
use Rattle.bus_spec.specs.Members.MemberStatus.{Up}
use Rattle.service_calm.proofs.Grounds.{invariants, listed_in}
use Rattle.service_leader.proofs.TermsRun.{of_run}
use Rattle.service_device.proofs.ServiceGrounds.{fit}

module _ (below : ServiceGrounds) where
  pub served_laws : ServedLaws
  served_laws = record { choice = below.choice; record_pairs = below.record_pairs; stay = below.lists_stay }

  pub telling_laws : TellingLaws
  telling_laws = record { tell = below.tell; phases = below.phases }

  module _ (ids : List ℕ) (members : AreMembers ids) where
    module _ (list : List Row) (harmless : DoNoHarm (cluster ids) list) where
      abbrev w : Cluster
      w = world_of ids list

      pub fitting : (n : ℕ) (t : AllocatorState) → In n ids → (w.member n).status ≡ Up t → IsFitting t
      fitting n t listed =
          let r = of_run below.calm ids members list harmless in
          is_fitting r.choice r.made w r.run r.shows (invariants below.calm ids members list harmless) (fit below ids members list harmless) n t
          (listed_in below.calm ids list n listed)

      pub injective : (n : ℕ) → In n ids → (log : List Entry) (now : ℕ) → HasSettled n log now w → IsInjective log
      injective n listed =
          let r = of_run below.calm ids members list harmless in
          its_log_is_injective r.choice r.made w r.run r.shows (invariants below.calm ids members list harmless) n (listed_in below.calm ids list n listed)

    -- ---- behind a front of more rows

    module _ (rows : List Row) (harmless : DoNoHarm (cluster ids) rows) (whole : List Timed)
        (fine : DoNoHarm (world_of ids rows) (rows_in whole)) (n : ℕ) (listed : In n ids) where
      abbrev there : List Timed → Cluster
      there front = after_rows (world_of ids rows) (rows_in front)

      safe : (front rest : List Timed) → whole ≡ front ++ rest → DoNoHarm (cluster ids) (rows ++ rows_in front)
      safe = harmless_to ids rows whole harmless fine

      pub fitting_behind : (front rest : List Timed) (t : AllocatorState) → whole ≡ front ++ rest
          → ((there front).member n).status ≡ Up t → IsFitting t
      fitting_behind front rest t cut up = fitting (rows ++ rows_in front) (safe front rest cut) n t listed (up_to ids rows n front t up)

      pub lists_behind : (front rest : List Timed) (t : AllocatorState) → whole ≡ front ++ rest → ((there front).member n).status ≡ Up t
          → (p : ℕ) → In p (members_of t) → In p ids
      lists_behind front rest t cut up =
          let list = rows ++ rows_in front in
          let r = of_run below.calm ids members list (safe front rest cut) in
          lists_members ids r.choice r.made (world_of ids list) r.run r.shows (below.calm.same (cluster ids) list) n t listed (up_to ids rows n front t up)

      pub agrees : (a term : ℕ) (log : List Entry) (uid : List ℕ) → uid ≢ zeros → AgreesBehind ids n a term log uid (world_of ids rows) whole
      agrees = agrees_behind ids n (λ list now. below.calm.chosen ids list members now) (λ list now. below.headline ids list members now)
          (λ list now. below.allocatees ids list members now) (λ list. listed_in below.calm ids list n listed)
          (λ list now t up. (fitting list now n t listed up).commit) rows harmless whole fine
