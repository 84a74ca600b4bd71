-- Each step of rows that do no harm does its duty.
use Rattle.std.proofs.Common.{◌≡◌, ℕ, ◌+◌, Bool, List, [], ◌∷◌, refl, sym, subst}
use Rattle.raft_model.specs.Duty.{WinDuty}
use Rattle.raft_model.specs.Invariants.{Invariants}
use Rattle.raft_model.specs.Lists.{In}
use Rattle.raft_model.specs.Runs as raft
use Rattle.raft_model.specs.Runs.{InEveryRun, initial_world}
use Rattle.raft_model.specs.Server.{RaftServer}
use Rattle.bus_rows.specs.declared.row.Row.{Row}
use Rattle.bus_rows.specs.declared.row.Row.TheVariants.{AEnd, AOpen, ARx, ASend, ATick, Crash, Ext, Fault, Open, Rx, Send, Tick}
use Rattle.alloc_spec_laws.specs.Sound.{IsOnTheBus}
use Rattle.alloc_spec.specs.Step.{Event}
use Rattle.alloc_spec.specs.AllocatorState.{AllocatorState}
use Rattle.alloc_spec.specs.Transfers.{SentTransfer}
use Rattle.bus_spec.specs.Choices.{AgreesWithDisk}
use Rattle.alloc_spec.specs.ClusterMembers.{AreMembers}
use Rattle.bus_spec.specs.Cluster.{Cluster, cluster, frame_at, receipt_of, tick_of, world_of}
use Rattle.bus_spec.specs.Lawful.{DoNoHarm, DoesNoHarm, cause, no_node, not_running}
use Rattle.bus_spec.specs.Members.{MemberStatus}
use Rattle.bus_spec.specs.Members.MemberStatus.{Down, Failed, Up}
use Rattle.bus_spec.specs.Refinement.{events, transfers_of_rows}
use Rattle.bus_agreement.specs.Continues.{Continues}
use Rattle.bus_agreement.specs.Duty.{AreDutiful, DoDutyIn, DoesItsDuty, IsDutiful}
use Rattle.bus_agreement.specs.Events.{MayHappen}
use Rattle.bus_agreement.specs.Said.{IsRunWritable}
use Rattle.bus_agreement.specs.Shows.{Shows}
use Rattle.bus_agreement.proofs.Concatenations.{first_harmless, ids_stay, row_harmless}
use Rattle.bus_agreement.proofs.MirroredRuns.{same_server}
use Rattle.bus_agreement.proofs.OneRow.{is_received, may_receive, may_tick}
use Rattle.bus_agreement.proofs.RowsWithoutEvents.{is_lawful, is_one, past_first}

-- what is known of steps and of lists of rows, as their laws say it
pub record DutyLaws : Type 0 where
  pub rows : (choice : ℕ → Bool) (ids : List ℕ) (rows : List Row) → AreMembers ids → DoNoHarm (cluster ids) rows → AgreesWithDisk choice (cluster ids) rows
      → Continues choice (transfers_of_rows (cluster ids) rows []) (world_of ids rows) (initial_world ids) (events choice (cluster ids) rows)
  pub choices : (ids : List ℕ) (rows : List Row) → AreMembers ids → DoNoHarm (cluster ids) rows → (choice : ℕ → Bool) × AgreesWithDisk choice (cluster ids) rows
  pub sound : InEveryRun Invariants
  pub wins : (members : List ℕ) (all : List raft.Event) (member : ℕ) → raft.Lawful (initial_world members) all
      → WinDuty members ((raft.run (initial_world members) all).server member)
  pub step : (choice : ℕ → Bool) (made : List SentTransfer) (w : Cluster) (run : raft.World) → AreMembers w.ids → Shows choice made w run
      → Invariants run → IsRunWritable w.ids run → (n : ℕ) (t : AllocatorState) (event : Event) → In n w.ids → (w.member n).status ≡ Up t
      → MayHappen w.frames t event → IsOnTheBus event → WinDuty w.ids t.raft_server → DoesItsDuty w.ids t (w.rows + 1) event

-- ---- a row

module _ (laws : DutyLaws) (choice : ℕ → Bool) (made : List SentTransfer) (w : Cluster) (run : raft.World) (members : AreMembers w.ids)
    (shows : Shows choice made w run) (sound : Invariants run) (written : IsRunWritable w.ids run)
    (wins : (n : ℕ) → WinDuty w.ids (run.server n)) where
  in_status : (n : ℕ) (event : Event) → In n w.ids → IsOnTheBus event → ((t : AllocatorState) → (w.member n).status ≡ Up t → MayHappen w.frames t event)
      → (status : MemberStatus) → (w.member n).status ≡ status → DoDutyIn w.ids (w.rows + 1) event status
  in_status n event listed on_bus may Down is = tt
  in_status n event listed on_bus may (Up t) is = laws.step choice made w run members shows sound written n t event listed is (may t is) on_bus
      (subst (λ (p : RaftServer). WinDuty w.ids p) (same_server choice made w run shows n t listed is) (wins n))
  in_status n event listed on_bus may (Failed failure) is = tt

  in_row : (row : Row) → DoesNoHarm w row → IsDutiful w row
  in_row (Tick n ms word) harmless =
      let first = past_first (no_node w n) (not_running w n) (is_lawful (cause w (Tick n ms word)) harmless) in
      in_status n (tick_of ms word) (is_one w n first.0) tt (λ t runs. may_tick w t ms word) (w.member n).status refl
  in_row (Rx n k ms) harmless =
      let is = is_received w n k ms harmless in
      in_status n (receipt_of w k ms) is.listed (shows.narrow (frame_at w.frames k) is.there) (λ t runs. may_receive w n k ms t is runs) (w.member n).status refl
  in_row (Open n told ms word) harmless = tt
  in_row (Send n) harmless = tt
  in_row (Ext frame) harmless = tt
  in_row (Crash n calls pattern) harmless = tt
  in_row (Fault n call) harmless = tt
  in_row (AOpen a uid pref ms word) harmless = tt
  in_row (ATick a ms word) harmless = tt
  in_row (ARx a k ms word) harmless = tt
  in_row (ASend a) harmless = tt
  in_row (AEnd a) harmless = tt

-- ---- rows

module _ (laws : DutyLaws) (ids : List ℕ) (members : AreMembers ids) where
  in_world : (rows : List Row) → DoNoHarm (cluster ids) rows → (row : Row) → DoesNoHarm (world_of ids rows) row → IsDutiful (world_of ids rows) row
  in_world rows harmless row its =
      let some = laws.choices ids rows members harmless in
      let so_far = events some.0 (cluster ids) rows in
      let is = laws.rows some.0 ids rows members harmless some.1 in
      let same = ids_stay (cluster ids) rows in
      in_row laws some.0 (transfers_of_rows (cluster ids) rows []) (world_of ids rows) (raft.run (initial_world ids) so_far)
      (subst AreMembers (sym same) members) is.shows (laws.sound ids so_far is.lawful) is.writable
      (λ n. subst (λ (l : List ℕ). WinDuty l ((raft.run (initial_world ids) so_far).server n)) (sym same) (laws.wins ids so_far n is.lawful))
      row its

pub are_dutiful : DutyLaws → (ids : List ℕ) (rows : List Row) → AreMembers ids → DoNoHarm (cluster ids) rows → AreDutiful ids rows
are_dutiful laws ids rows members harmless = λ first rest row cut.
    let all = subst (λ (l : List Row). DoNoHarm (cluster ids) l) cut harmless in
    in_world laws ids members first (first_harmless (cluster ids) first (row ∷ rest) all) row (row_harmless (cluster ids) first rest row all)
