use Rattle.std.proofs.Common.{ℕ, ◌+◌, List, [], ◌∷◌, refl}
use Rattle.can_frame.specs.declared.entry.Entry.{Entry}
use Rattle.bus_rows.specs.declared.row.Row.{Row}
use Rattle.bus_rows.specs.Timed.{Timed}
use Rattle.service_alone.specs.Calm.{HasSettled, Pace}
use Rattle.service_alone.specs.CalmRecovery.{AreQuiet, no_own_traffic}
use Rattle.service_alone.proofs.Reached.{laws_say}
use Rattle.service_alone.proofs.StaysSettled.{Ends, goes_on, ready_at_end, settled_at_end}
use Rattle.service_alone.proofs.laws.who_is_alone_stays_settled.Goals as goal
use Rattle.alloc_spec.specs.ClusterMembers.{AreMembers}
use Rattle.bus_spec.specs.Cluster.{cluster, world_of}
use Rattle.bus_spec.specs.Lawful.{DoNoHarm}

pub returns : goal.returns
returns c =
    let ends : (n : ℕ) (rows : List Row) → AreMembers (n ∷ []) → DoNoHarm (cluster (n ∷ [])) rows → (log : List Entry) (start last ahead : ℕ) (pace : Pace) (whole : List Timed)
    → HasSettled n log (start + ahead) (world_of (n ∷ []) rows) → AreQuiet n ahead pace last (no_own_traffic start) (world_of (n ∷ []) rows) whole
    → Ends n ahead log start last pace (world_of (n ∷ []) rows) whole
    = λ n rows members harmless log start last ahead pace whole h quiet.
    let shown = laws_say (n ∷ []) (λ list d. c.a_choice_fits.ensures (n ∷ []) list members d)
    (λ choice list d fits. c.rows_are_shown.ensures choice (n ∷ []) list members d fits) c.law_every_run.ensures.invariants
    (world_of (n ∷ []) rows) (record { rows = rows; harmless = harmless; is = refl }) in
    goes_on n ahead log start last pace (world_of (n ∷ []) rows) whole shown (c.rows_grow_by_one.ensures.members (cluster (n ∷ [])) rows) h quiet in
    record {
      settled = λ n rows members harmless log start last ahead pace whole h quiet.
          let e = ends n rows members harmless log start last ahead pace whole h quiet in
          (e.lawful, settled_at_end n ahead log start last pace (world_of (n ∷ []) rows) whole e);
      ready = λ n rows members harmless log start last ahead pace whole h quiet short late.
          ready_at_end n ahead log start last pace (world_of (n ∷ []) rows) whole (ends n rows members harmless log start last ahead pace whole h quiet) short late;
    }
