-- How a run ends over a schedule.
use Rattle.std.proofs.Common.{◌≡◌, ◌≤◌, ◌⊎◌, ◌++◌, ℕ, inl, inr, List, [], length, refl, arith}
use Rattle.std.specs.declared.option.Option.{Option}
use Rattle.bus_rows.specs.declared.row.Row.{Row}
use Rattle.replay_text.specs.Lines.{ReadsRows}
use Rattle.replay_text.specs.Schedule.{Reads}
use Rattle.alloc_spec.specs.ClusterMembers.{AreMembers}
use Rattle.bus_spec.specs.Cluster.{Cluster, after_rows, cluster}
use Rattle.bus_spec.specs.Lawful.{AreLawful}
use Rattle.allocator_app.specs.WorldReport.{end_lines, row_lines}
use Rattle.allocator_app.specs.Report.{IsReport, IsToTheEnd}
use Rattle.allocator_app.specs.Rows.{Ends, IsTold}
use Rattle.cmd_io.specs.declared.status.Status.{Status}
use Rattle.cmd_io.specs.declared.status.Status.TheVariants.{Done, ReadFault, WriteFault, Memory}
use Rattle.allocator_app.proofs.OneReport.{one_report, rows-grow}

-- ---- the answers, each by itself

pub reported : (status : Status) (limit : ℕ) (first : Cluster) (bytes : List ℕ) (left sink sink_now : Option (List ℕ)) →
    Ends status limit first bytes left sink sink_now → IsToTheEnd status → IsTold status limit first bytes left sink sink_now
reported ReadFault limit first bytes left sink sink_now ends over = absurd over
reported WriteFault limit first bytes left sink sink_now ends over = absurd over
reported Memory limit first bytes left sink sink_now ends over = absurd over
reported _ limit first bytes left sink sink_now ends over = ends

-- what holds along all lawful rows holds along those of the report
pub holds_along : (Claim : List ℕ → List Row → Type 0) → ((ids : List ℕ) (rows : List Row) → AreMembers ids → AreLawful (cluster ids) rows → Claim ids rows) →
    (status : Status) (limit : ℕ) (nodes bytes : List ℕ) (left sink sink_now : Option (List ℕ)) → AreMembers nodes →
    Ends status limit (cluster nodes) bytes left sink sink_now → IsToTheEnd status →
    (told : IsTold status limit (cluster nodes) bytes left sink sink_now) × Claim nodes told.is.comes.rows
holds_along Claim law status limit nodes bytes left sink sink_now members ends over =
    let told = reported status limit (cluster nodes) bytes left sink sink_now ends over in
    (told, law nodes told.is.comes.rows members told.is.comes.lawful)

-- a schedule that has a report comes to its status, unless something fails or memory is missing
pub completed : ((a b : Row) (line : List ℕ) → Reads a line → Reads b line → a ≡ b) → (result : Status) (limit : ℕ) (first : Cluster)
    (bytes report : List ℕ) (status : Status) (left sink sink_now : Option (List ℕ)) → Ends result limit first bytes left sink sink_now →
    IsReport limit first bytes report status → (result ≡ ReadFault → ⊥) → (result ≡ WriteFault → ⊥) → (result ≡ status) ⊎ (result ≡ Memory)
completed one ReadFault limit first bytes report status left sink sink_now ends told reads writes = absurd (reads refl)
completed one WriteFault limit first bytes report status left sink sink_now ends told reads writes = absurd (writes refl)
completed one Memory limit first bytes report status left sink sink_now ends told reads writes = inr refl
completed one result limit first bytes report status left sink sink_now ends told reads writes =
    inl (one_report one limit first bytes ends.report report result status ends.is told).1

-- a schedule of lawful rows, as many as may come at most, has a report that ends with `Done`
pub all_lawful : (limit : ℕ) (ids bytes : List ℕ) (rows : List Row) → ReadsRows rows bytes [] → length rows ≤ limit → AreLawful (cluster ids) rows →
    IsReport limit (cluster ids) bytes (row_lines (cluster ids) rows ++ end_lines (after_rows (cluster ids) rows)) Done
all_lawful limit ids bytes rows reads few lawful = record {
  end = after_rows (cluster ids) rows;
  rest = [];
  lines = row_lines (cluster ids) rows;
  last = end_lines (after_rows (cluster ids) rows);
  comes = record { rows = rows; reads = reads; lawful = lawful; lines_are = refl; leaves = refl };
  within = let count = rows-grow (cluster ids) rows in omega (arith, count, few);
  says = (refl, refl);
  written = refl;
}
