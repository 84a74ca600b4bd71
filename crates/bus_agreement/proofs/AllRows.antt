-- All rows, one after another: their events continue the run.
use Rattle.std.proofs.Common.{ℕ, Bool, List, [], ◌∷◌, ◌++◌, sym, subst, arith}
use Rattle.raft_model.specs.Invariants.{Invariants}
use Rattle.raft_model.specs.Runs as raft
use Rattle.raft_model.specs.Runs.{Event, InEveryRun, initial_world}
use Rattle.bus_rows.specs.declared.row.Row.{Row}
use Rattle.alloc_spec.specs.Transfers.{SentTransfer}
use Rattle.alloc_spec.specs.ClusterMembers.{AreMembers}
use Rattle.bus_spec.specs.Cluster.{Cluster, after_rows, cluster, after_row, world_of}
use Rattle.bus_spec.specs.Lawful.{DoNoHarm, DoesNoHarm}
use Rattle.bus_spec.specs.Choices.{AgreesWithDisk, RowAgreesWithDisk}
use Rattle.bus_spec.specs.Refinement.{events, transfers_of_rows, transfers_of_row, row_events}
use Rattle.bus_agreement.specs.Continues.{Continues}
use Rattle.bus_agreement.specs.Said.{IsRunWritable}
use Rattle.bus_agreement.specs.Shows.{Shows}
use Rattle.bus_agreement.proofs.Concatenations.{lawful_joined, run_joined, same_ids}

-- what is known of any row
abbrev pub EachRow : Type 0
EachRow = (choice : ℕ → Bool) (made : List SentTransfer) (w : Cluster) (run : raft.World) → AreMembers w.ids → Shows choice made w run
    → Invariants run → IsRunWritable w.ids run → (row : Row) → DoesNoHarm w row → RowAgreesWithDisk choice w row
    → Continues choice (transfers_of_row w row made) (after_row w row) run (row_events choice w row)

-- first some events, then others
pub joined : (choice : ℕ → Bool) (made : List SentTransfer) (w : Cluster) (run : raft.World) (first rest : List Event) → raft.Lawful run first
    → Continues choice made w (raft.run run first) rest → Continues choice made w run (first ++ rest)
joined choice made w run first rest lawful is = record {
  lawful = lawful_joined run first rest lawful is.lawful;
  shows = subst (λ (r : raft.World). Shows choice made w r) (sym (run_joined run first rest)) is.shows;
  writable = subst (λ (r : raft.World). IsRunWritable w.ids r) (sym (run_joined run first rest)) is.writable;
}

module _ (each : EachRow) (sound : InEveryRun Invariants) (choice : ℕ → Bool) (ids : List ℕ) where
  -- a world, and the events so far, by which the run shows it
  abbrev IsReached : Cluster → List SentTransfer → List Event → Type 0
  IsReached w earlier so_far = Continues choice earlier w (initial_world ids) so_far

  module _ (w : Cluster) (earlier : List SentTransfer) (so_far : List Event) (members : AreMembers w.ids) (is : IsReached w earlier so_far)
      (row : Row) (harmless : DoesNoHarm w row) (fits : RowAgreesWithDisk choice w row) where
    abbrev now : raft.World
    now = raft.run (initial_world ids) so_far

    abbrev own : List Event
    own = row_events choice w row

    one : Continues choice (transfers_of_row w row earlier) (after_row w row) now own
    one = each choice earlier w now members is.shows (sound ids so_far is.lawful) is.writable row harmless fits

    one_more : IsReached (after_row w row) (transfers_of_row w row earlier) (so_far ++ own)
    one_more = joined choice (transfers_of_row w row earlier) (after_row w row) (initial_world ids) so_far own is.lawful one

    -- the events of one row, and then those of other rows
    followed : (made : List SentTransfer) (later : Cluster) (rest : List Event) → Continues choice made later (raft.run (initial_world ids) (so_far ++ own)) rest
        → Continues choice made later now (own ++ rest)
    followed made later rest is_so = joined choice made later now own rest one.lawful
        (subst (λ (r : raft.World). Continues choice made later r rest) (run_joined (initial_world ids) so_far own) is_so)

  -- the rows that are left
  pub onward : (rows : List Row) (w : Cluster) (earlier : List SentTransfer) (so_far : List Event) → AreMembers w.ids → IsReached w earlier so_far
      → DoNoHarm w rows → AgreesWithDisk choice w rows
      → Continues choice (transfers_of_rows w rows earlier) (after_rows w rows) (raft.run (initial_world ids) so_far) (events choice w rows)
  onward [] w earlier so_far members is harmless fits = record { lawful = tt; shows = is.shows; writable = is.writable }
  onward (row ∷ rows) w earlier so_far members is harmless fits =
      followed w earlier so_far members is row harmless.0 fits.0 (transfers_of_rows w (row ∷ rows) earlier) (after_rows w (row ∷ rows)) (events choice (after_row w row) rows)
      (onward rows (after_row w row) (transfers_of_row w row earlier) (so_far ++ row_events choice w row) (subst AreMembers (sym (same_ids w row)) members)
      (one_more w earlier so_far members is row harmless.0 fits.0) harmless.1 fits.1)

-- nothing is stored or said at the beginning
pub nothing_said : (ids : List ℕ) → IsRunWritable ids (initial_world ids)
nothing_said ids = record {
  stores = λ m. record { term = omega arith; entries = λ entry there. absurd there };
  bag = record { requests = λ request there. absurd there; senders = λ request there. absurd there; answers = λ answer there. absurd there };
}

pub from_beginning : EachRow → InEveryRun Invariants → ((choice : ℕ → Bool) (ids : List ℕ) → Shows choice [] (cluster ids) (initial_world ids))
    → (choice : ℕ → Bool) (ids : List ℕ) (rows : List Row) → AreMembers ids → DoNoHarm (cluster ids) rows → AgreesWithDisk choice (cluster ids) rows
    → Continues choice (transfers_of_rows (cluster ids) rows []) (world_of ids rows) (initial_world ids) (events choice (cluster ids) rows)
from_beginning each sound begins choice ids rows members harmless fits =
    onward each sound choice ids rows (cluster ids) [] [] members (record { lawful = tt; shows = begins choice ids; writable = nothing_said ids }) harmless fits
