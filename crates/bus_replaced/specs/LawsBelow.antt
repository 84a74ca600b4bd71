-- What the laws of the crates below say, as their contracts have it: the proofs here stand on this record.
use Rattle.std.specs.Prelude.{◌≡◌, ℕ, Bool, List, []}
use Rattle.raft_model.specs.Invariants.{Invariants}
use Rattle.raft_model.specs.Runs.{Event, Lawful, World, initial_world, run}
use Rattle.raft_model.specs.Safety.{IsSafe, Lasts}
use Rattle.raft_model.specs.Server.{committed}
use Rattle.raft_replaced.specs.Changes.{FromEachThroughReplacements, MayComeInTurn, ThroughReplacements, changed, only_events}
use Rattle.raft_replaced.specs.Replacement.{MayBeCopied, stores_of, world_copied}
use Rattle.bus_rows.specs.declared.row.Row.{Row}
use Rattle.alloc_spec.specs.ClusterMembers.{AreMembers}
use Rattle.alloc_spec.specs.Transfers.{SentTransfer}
use Rattle.bus_spec.specs.Choices.{RowAgreesWithDisk}
use Rattle.bus_spec.specs.Cluster.{Cluster, after_row, cluster}
use Rattle.bus_spec.specs.Lawful.{DoesNoHarm}
use Rattle.bus_spec.specs.Refinement.{row_events, transfers_of_row}
use Rattle.bus_agreement.specs.Continues.{Continues}
use Rattle.bus_agreement.specs.LawsBelow.{FrameLaws}
use Rattle.bus_agreement.specs.Mirrors.{BusIsMade, OffersAreMade}
use Rattle.bus_agreement.specs.Said.{IsRunWritable}
use Rattle.bus_agreement.specs.Shows.{Shows}

pub record LawsBelow : Type 0 where
  -- of rows
  pub each : (choice : ℕ → Bool) (made : List SentTransfer) (w : Cluster) (world : World) → AreMembers w.ids
      → Shows choice made w world → Invariants world → IsRunWritable w.ids world → (row : Row) → DoesNoHarm w row
      → RowAgreesWithDisk choice w row
      → Continues choice (transfers_of_row w row made) (after_row w row) world (row_events choice w row)
  pub begins : (choice : ℕ → Bool) (ids : List ℕ) → Shows choice [] (cluster ids) (initial_world ids)
  pub offers : (choice : ℕ → Bool) (made : List SentTransfer) (w : Cluster) (world : World) → AreMembers w.ids
      → Shows choice made w world → OffersAreMade w world
  pub bus : (choice : ℕ → Bool) (made : List SentTransfer) (w : Cluster) (world : World) → AreMembers w.ids
      → Shows choice made w world → BusIsMade made w world
  pub frames : FrameLaws
  -- of runs with replacements
  pub sound : ThroughReplacements Invariants
  pub safe : ThroughReplacements IsSafe
  pub lasts : FromEachThroughReplacements Lasts
  pub alone : (world : World) (events : List Event) → changed world (only_events events) ≡ run world events
  pub allowed : (world : World) (events : List Event) → Lawful world events
      → MayComeInTurn world (only_events events)
  pub copied : (world : World) (lost leader : ℕ) → stores_of (world_copied world lost leader) lost
      ≡ stores_of world leader
  pub all : ThroughReplacements (λ world. (lost leader : ℕ) → MayBeCopied world lost leader
      → committed (stores_of (world_copied world lost leader) lost) ≡ world.ledger.entries)
