-- What the run of a list of rows tells of two of its moments.
use Rattle.std.proofs.Common.{◌≡◌, ◌⊎◌, ℕ, zero, suc, ◌≤◌, Bool, List, [], ◌++◌, refl, sym, ap, subst, ◌∙◌, arith, inl, inr}
use Rattle.std.proofs.lemmas.List.{append_assoc}
use Rattle.kv_store.specs.KeyDisk.{KeyDisk, restarted_on}
use Rattle.outside.specs.declared.pattern.Pattern.{Pattern}
use Rattle.raft_core.specs.StoredPuts.{store_of}
use Rattle.raft_log.specs.KeyDisk.{found_by}
use Rattle.raft_log.specs.Stored.{Stored}
use Rattle.raft_model.specs.Lists.{In}
use Rattle.raft_model.specs.Runs as raft
use Rattle.raft_model.specs.Invariants.{Invariants}
use Rattle.raft_model.specs.Runs.{Event, InEveryRun, initial_world}
use Rattle.raft_model.specs.Safety.{IsSafe}
use Rattle.raft_model.specs.Server.{RaftServer}
use Rattle.bus_rows.specs.declared.row.Row.{Row}
use Rattle.alloc_spec.specs.AllocatorState.{AllocatorState}
use Rattle.alloc_spec.specs.Transfers.{SentTransfer}
use Rattle.alloc_spec.specs.ClusterMembers.{AreMembers}
use Rattle.bus_spec.specs.Cluster.{Cluster, cluster, world_of}
use Rattle.bus_spec.specs.Lawful.{DoNoHarm}
use Rattle.bus_spec.specs.Logs.{IsFound, IsGivenFrom, IsOfAllocation, committed, stored_on}
use Rattle.bus_spec.specs.Members.{MemberStatus, stored_after}
use Rattle.bus_spec.specs.Members.MemberStatus.{Down, Failed, Up}
use Rattle.bus_spec.specs.Choices.{AgreesWithDisk}
use Rattle.bus_spec.specs.Refinement.{events, transfers_of_rows}
use Rattle.bus_agreement.specs.Continues.{Continues}
use Rattle.bus_agreement.specs.Headline.{HasHeadline, Headline}
use Rattle.bus_agreement.specs.Mirrors.{BusIsMade, Mirrors, OffersAreMade}
use Rattle.bus_agreement.specs.Said.{IsRunWritable}
use Rattle.bus_agreement.specs.Shows.{Shows, ShowsMember, ShowsUp}
use Rattle.transfer_tx.specs.Queue.{Queued}
use Rattle.bus_agreement.proofs.CutOffSteps.{found_few}
use Rattle.bus_agreement.proofs.HeadlineOfRuns.{pair_committed}
use Rattle.bus_agreement.proofs.StopsAndOpenings.{down_finds, firm_finds}
use Rattle.bus_agreement.proofs.Concatenations.{events_joined, first_fits, first_harmless, ids_stay, lawful_parted, run_joined}

-- ---- a world that is shown mirrors its run

module _ (choice : ℕ → Bool) (made : List SentTransfer) (w : Cluster) (run : raft.World) (shows : Shows choice made w run) where
  pub same_store : (n : ℕ) (status : MemberStatus) (disk : KeyDisk Stored) → ShowsMember choice made w.ids w.frames run n status disk
      → (run.server n).store ≡ stored_on choice status disk
  same_store n Down disk is = is.stored
  same_store n (Up t) disk is = ap (λ (p : RaftServer). p.store) is.runs.raft_server ∙ sym is.runs.stored
  same_store n (Failed failure) disk is = is.stored

  pub same_server : (n : ℕ) (t : AllocatorState) → In n w.ids → (w.member n).status ≡ Up t → run.server n ≡ t.raft_server
  same_server n t listed runs =
      let is : ShowsUp made w.ids w.frames run n t (w.member n).disk
      = subst (λ (status : MemberStatus). ShowsMember choice made w.ids w.frames run n status (w.member n).disk) runs (shows.lives n listed) in
      is.runs.raft_server

  zero_or_one : (k : ℕ) → k ≤ 1 → (k ≡ 0) ⊎ (k ≡ 1)
  zero_or_one zero few = inl refl
  zero_or_one (suc zero) few = inr refl
  zero_or_one (suc (suc k)) few = absurd (omega (arith, few))

  is_found : (n : ℕ) (pattern : Pattern) (status : MemberStatus) (disk : KeyDisk Stored) → ShowsMember choice made w.ids w.frames run n status disk
      → IsFound status disk (store_of (restarted_on pattern disk).store)
  is_found n pattern Down disk is = down_finds run n disk is pattern ∙ is.stored
  is_found n pattern (Up t) disk is = firm_finds disk is.runs.nothing_unsynced pattern
  is_found n pattern (Failed failure) disk is = elim (zero_or_one (found_by pattern disk) (found_few pattern disk.unsynced disk)) [
    | inl none ↦ inl (is.found pattern ∙ ap (λ (k : ℕ). stored_after failure k) none)
    | inr one ↦ inr (is.found pattern ∙ ap (λ (k : ℕ). stored_after failure k) one)
  ]

  pub mirrors : IsRunWritable w.ids run → OffersAreMade w run → Mirrors choice w run
  mirrors written offers = record {
    stored = λ n listed. same_store n (w.member n).status (w.member n).disk (shows.lives n listed);
    serves = same_server;
    found = λ n pattern listed. is_found n pattern (w.member n).status (w.member n).disk (shows.lives n listed);
    entries = λ n entry there. (written.stores n).entries entry there;
    offers = offers;
  }

-- ---- two moments

-- what is known of lists of rows, as their laws say it
pub record ListLaws : Type 0 where
  pub rows : (choice : ℕ → Bool) (ids : List ℕ) (rows : List Row) → AreMembers ids → DoNoHarm (cluster ids) rows → AgreesWithDisk choice (cluster ids) rows
      → Continues choice (transfers_of_rows (cluster ids) rows []) (world_of ids rows) (initial_world ids) (events choice (cluster ids) rows)
  pub offers : (choice : ℕ → Bool) (made : List SentTransfer) (w : Cluster) (run : raft.World) → AreMembers w.ids → Shows choice made w run
      → OffersAreMade w run
  pub bus : (choice : ℕ → Bool) (made : List SentTransfer) (w : Cluster) (run : raft.World) → AreMembers w.ids → Shows choice made w run
      → BusIsMade made w run
  pub safe : InEveryRun IsSafe
  pub sound : InEveryRun Invariants
  pub headline : (choice : ℕ → Bool) (members : List ℕ) (first rest : List Event) (now later : Cluster)
      → raft.Lawful (initial_world members) first → raft.Lawful (raft.run (initial_world members) first) rest → later.ids ≡ now.ids
      → Mirrors choice now (raft.run (initial_world members) first)
      → Mirrors choice later (raft.run (raft.run (initial_world members) first) rest) → Headline choice now later
  pub choices : (ids : List ℕ) (rows : List Row) → AreMembers ids → DoNoHarm (cluster ids) rows → (choice : ℕ → Bool) × AgreesWithDisk choice (cluster ids) rows

module _ (laws : ListLaws) (ids : List ℕ) (members : AreMembers ids) (choice : ℕ → Bool) where
  mirrored : (rows : List Row) → DoNoHarm (cluster ids) rows → AgreesWithDisk choice (cluster ids) rows
      → Mirrors choice (world_of ids rows) (raft.run (initial_world ids) (events choice (cluster ids) rows))
  mirrored rows harmless fits =
      let is = laws.rows choice ids rows members harmless fits in
      mirrors choice (transfers_of_rows (cluster ids) rows []) (world_of ids rows) (raft.run (initial_world ids) (events choice (cluster ids) rows)) is.shows is.writable
      (laws.offers choice (transfers_of_rows (cluster ids) rows []) (world_of ids rows) (raft.run (initial_world ids) (events choice (cluster ids) rows))
      (subst AreMembers (sym (ids_stay (cluster ids) rows)) members) is.shows)

  module _ (first more : List Row) (harmless : DoNoHarm (cluster ids) (first ++ more)) (fits : AgreesWithDisk choice (cluster ids) (first ++ more)) where
    abbrev early : List Event
    early = events choice (cluster ids) first

    abbrev late : List Event
    late = events choice (world_of ids first) more

    both : raft.Lawful (initial_world ids) early × raft.Lawful (raft.run (initial_world ids) early) late
    both = lawful_parted (initial_world ids) early late
        (subst (λ (l : List Event). raft.Lawful (initial_world ids) l) (events_joined choice (cluster ids) first more)
        (laws.rows choice ids (first ++ more) members harmless fits).lawful)

    same_run : raft.run (initial_world ids) (events choice (cluster ids) (first ++ more)) ≡ raft.run (raft.run (initial_world ids) early) late
    same_run = ap (λ (l : List Event). raft.run (initial_world ids) l) (events_joined choice (cluster ids) first more) ∙ run_joined (initial_world ids) early late

    pub between : Headline choice (world_of ids first) (world_of ids (first ++ more))
    between = laws.headline choice ids early late (world_of ids first) (world_of ids (first ++ more)) both.0 both.1
        (ids_stay (cluster ids) (first ++ more) ∙ sym (ids_stay (cluster ids) first))
        (mirrored first (first_harmless (cluster ids) first more harmless) (first_fits choice (cluster ids) first more fits))
        (subst (λ (r : raft.World). Mirrors choice (world_of ids (first ++ more)) r) same_run (mirrored (first ++ more) harmless fits))

  -- ---- the bus at one moment

  module _ (rows : List Row) (harmless : DoNoHarm (cluster ids) rows) (fits : AgreesWithDisk choice (cluster ids) rows) where
    pub on_bus : (frame : Queued) (n : ℕ) → In frame (world_of ids rows).frames → IsOfAllocation frame n
        → In n ids × IsGivenFrom (committed choice (world_of ids rows) n) (transfers_of_rows (cluster ids) rows []) frame n
    on_bus frame n there of =
        let so_far = events choice (cluster ids) rows in
        let is = laws.rows choice ids rows members harmless fits in
        let run = raft.run (initial_world ids) so_far in
        let its = laws.bus choice (transfers_of_rows (cluster ids) rows []) (world_of ids rows) run
        (subst AreMembers (sym (ids_stay (cluster ids) rows)) members) is.shows frame n there of in (
          subst (λ (l : List ℕ). In n l) (ids_stay (cluster ids) rows) its.0,
          record {
            whose = its.1.whose;
            was_made = its.1.was_made;
            by = its.1.by;
            what = its.1.what;
            one = its.1.one;
            pair = λ answer reads gives. pair_committed choice (world_of ids rows) run (mirrored rows harmless fits) (laws.safe ids so_far is.lawful)
                (laws.sound ids so_far is.lawful)
                (record { step = its.1.whose.step; from = n; uid = answer.uid.items; node = answer.node }) its.0 (its.1.said answer reads gives);
          },
        )

pub has_headline : ListLaws → (ids : List ℕ) (rows : List Row) → AreMembers ids → DoNoHarm (cluster ids) rows → HasHeadline ids rows
has_headline laws ids rows members harmless = record {
  some = laws.choices ids rows members harmless;
  holds = λ first more rest choice cut fits. between laws ids members choice first more
      (first_harmless (cluster ids) (first ++ more) rest
      (subst (λ (l : List Row). DoNoHarm (cluster ids) l) (cut ∙ sym (append_assoc first more rest)) harmless)) fits;
  bus = λ first rest choice cut fits. on_bus laws ids members choice first
      (first_harmless (cluster ids) first rest (subst (λ (l : List Row). DoNoHarm (cluster ids) l) cut harmless)) fits;
}
