-- A choice that fits. Rows come one by one: where a member that failed stops, the choice is set, at the row of that failure alone, to
-- what the stop finds. No stop before was of that failure, so the choice still fits the rows before.
use Rattle.std.proofs.Common.{◌≡◌, ◌≢◌, ℕ, ◌≤◌, Bool, true, false, List, [], ◌∷◌, ◌++◌, refl, sym, ap, subst, ◌∙◌, arith, ◌⊎◌, inl, inr, Some}
use Rattle.std.specs.Prelude.{◌==◌}
use Rattle.std.proofs.lemmas.Bool.Decides.{eqb_tells}
use Rattle.std.proofs.lemmas.List.{append_assoc, append-nil}
use Rattle.kv_store.specs.KeyDisk.{KeyDisk, restarted_on}
use Rattle.outside.specs.declared.pattern.Pattern.{Pattern}
use Rattle.raft_core.specs.StoredPuts.{store_of}
use Rattle.raft_log.specs.KeyDisk.{found_by}
use Rattle.raft_log.specs.Stored.{Stored}
use Rattle.raft_model.specs.Lists.{In, at, at_here, at_other}
use Rattle.raft_model.specs.Runs.{World}
use Rattle.bus_rows.specs.declared.row.Row.{Row}
use Rattle.bus_rows.specs.declared.row.Row.TheVariants.{Crash}
use Rattle.alloc_spec.specs.Transfers.{SentTransfer}
use Rattle.bus_spec.specs.Cluster.{Cluster, after_rows, cluster, after_row, world_of}
use Rattle.bus_spec.specs.Lawful.{DoNoHarm, DoesNoHarm, cause, no_node, no_stop}
use Rattle.bus_spec.specs.Members.{Failure, MemberStatus, stored_after}
use Rattle.bus_spec.specs.Members.MemberStatus.{Down, Failed, Up}
use Rattle.bus_spec.specs.Choices.{AgreesWithDisk, CrashAgreesWithDisk, RowAgreesWithDisk, chosen_store, one_if}
use Rattle.bus_agreement.specs.Shows.{Shows, ShowsFailed, ShowsMember}
use Rattle.bus_agreement.proofs.CutOffSteps.{found_few}
use Rattle.bus_agreement.proofs.Failures.{AreApart, IsOver, apart_after, apart_at_first, failed_at, failed_in, over_after, over_by_stop}
use Rattle.bus_agreement.proofs.OneRowMore.{fits, grown, harmless}
use Rattle.bus_agreement.proofs.RowsWithoutEvents.{is_lawful, is_one, past_first}

-- ---- another choice at one row

module _ (choice other : ℕ → Bool) (number : ℕ) (same : (row : ℕ) → row ≢ number → other row ≡ choice row) where
  module _ (w : Cluster) (is : AreApart w) (n calls : ℕ) (pattern : Pattern) (found : Stored) where
    by_row : (failure : Failure) → (w.member n).status ≡ Failed failure → (calls == 0) ≡ true → chosen_store choice failure ≡ store_of found
        → (chosen_store other failure ≡ store_of found) ⊎ IsOver (after_row w (Crash n calls pattern)) number
    by_row failure e now agrees = elim (eqb_tells failure.row number) [
      | inl here ↦ inr (subst (IsOver (after_row w (Crash n calls pattern))) here.1 (over_by_stop w n calls pattern failure.row is (ap failed_at e) now))
      | inr apart ↦ inl (ap (λ (b : Bool). stored_after failure (one_if b)) (same failure.row apart.1) ∙ agrees)
    ]

    crash_fits : (b : Bool) → (calls == 0) ≡ b → (status : MemberStatus) → (w.member n).status ≡ status → CrashAgreesWithDisk b choice status found
        → CrashAgreesWithDisk b other status found ⊎ IsOver (after_row w (Crash n calls pattern)) number
    crash_fits false now status e is_so = inl tt
    crash_fits true now Down e is_so = inl tt
    crash_fits true now (Up t) e is_so = inl tt
    crash_fits true now (Failed failure) e is_so = by_row failure e now is_so

  -- the other choice fits this row too, or the row stops the member that failed at that one
  row_fits : (w : Cluster) → AreApart w → (row : Row) → RowAgreesWithDisk choice w row → RowAgreesWithDisk other w row ⊎ IsOver (after_row w row) number
  row_fits w is (Crash n calls pattern) is_so =
      crash_fits w is n calls pattern (restarted_on pattern (w.member n).disk).store (calls == 0) refl (w.member n).status refl is_so
  row_fits w is row is_so = inl tt

  -- so it fits all rows, if a member that failed at that one has not stopped in them
  still_fits : (rows : List Row) (w : Cluster) → AreApart w → (n : ℕ) → failed_in (after_rows w rows) n ≡ Some number → AgreesWithDisk choice w rows
      → AgreesWithDisk other w rows
  still_fits [] w is n failed each = tt
  still_fits (row ∷ rows) w is n failed each = elim (row_fits w is row each.0) [
    | inl here ↦ (here, still_fits rows (after_row w row) (apart_after w row is) n failed each.1)
    | inr over ↦ absurd ((over_after (after_row w row) rows number over).none n failed)
  ]

-- ---- what a stop finds, as a choice

is_found : (count : ℕ) → count ≤ 1 → one_if (count == 1) ≡ count
is_found count few = elim (eqb_tells count 1) [
  | inl one ↦ ap one_if one.0 ∙ sym one.1
  | inr apart ↦ ap one_if apart.0 ∙ omega (arith, few, apart.1)
]

-- every list of rows that do no harm shows a run, whatever choice fits it
abbrev pub AreShown : List ℕ → Type 0
AreShown ids = (choice : ℕ → Bool) (rows : List Row) → DoNoHarm (cluster ids) rows → AgreesWithDisk choice (cluster ids) rows
    → (made : List SentTransfer) × (run : World) × Shows choice made (world_of ids rows) run

module _ (ids : List ℕ) (shown : AreShown ids) where
  abbrev AChoice : List Row → Type 0
  AChoice rows = (choice : ℕ → Bool) × AgreesWithDisk choice (cluster ids) rows

  module _ (rows : List Row) (harmless_rows : DoNoHarm (cluster ids) rows) (choice : ℕ → Bool) (fitting : AgreesWithDisk choice (cluster ids) rows) where
    abbrev w : Cluster
    w = world_of ids rows

    module _ (n calls : ℕ) (pattern : Pattern) (listed : In n w.ids) where
      abbrev disk : KeyDisk Stored
      disk = (w.member n).disk

      abbrev found : Stored
      found = (restarted_on pattern disk).store

      asks : (other : ℕ → Bool) (b : Bool) → (calls == 0) ≡ b → (status : MemberStatus) → (w.member n).status ≡ status → CrashAgreesWithDisk b other status found
          → RowAgreesWithDisk other w (Crash n calls pattern)
      asks other b now status e is = subst (λ (at_once : Bool). CrashAgreesWithDisk at_once other (w.member n).status found) (sym now)
          (subst (λ (its : MemberStatus). CrashAgreesWithDisk b other its found) (sym e) is)

      -- the choice as it was, where the row asks for nothing
      as_it_was : RowAgreesWithDisk choice w (Crash n calls pattern) → AChoice (rows ++ Crash n calls pattern ∷ [])
      as_it_was here = (choice, fits choice (cluster ids) rows (Crash n calls pattern) fitting here)

      abbrev chosen : Failure → ℕ → Bool
      chosen failure = at choice failure.row (found_by pattern disk == 1)

      agrees : (failure : Failure) → (w.member n).status ≡ Failed failure → chosen_store (chosen failure) failure ≡ store_of found
      agrees failure e =
          let r = shown choice rows harmless_rows fitting in
          let is : ShowsFailed choice r.1 n failure disk = subst (λ (status : MemberStatus). ShowsMember choice r.0 w.ids w.frames r.1 n status disk) e (r.2.lives n listed) in
          ap (λ (b : Bool). stored_after failure (one_if b)) (at_here choice failure.row failure.row (found_by pattern disk == 1) refl)
          ∙ (ap (stored_after failure) (is_found (found_by pattern disk) (found_few pattern disk.unsynced disk)) ∙ sym (is.found pattern))

      by_member_status : (b : Bool) → (calls == 0) ≡ b → (status : MemberStatus) → (w.member n).status ≡ status → AChoice (rows ++ Crash n calls pattern ∷ [])
      by_member_status false now status e = as_it_was (asks choice false now status e tt)
      by_member_status true now Down e = as_it_was (asks choice true now Down e tt)
      by_member_status true now (Up t) e = as_it_was (asks choice true now (Up t) e tt)
      by_member_status true now (Failed failure) e = (
        chosen failure,
        fits (chosen failure) (cluster ids) rows (Crash n calls pattern)
            (still_fits choice (chosen failure) failure.row (λ row apart. at_other choice failure.row row (found_by pattern disk == 1) apart) rows (cluster ids)
            (apart_at_first ids) n (ap failed_at e) fitting)
            (asks (chosen failure) true now (Failed failure) e (agrees failure e)),
      )

    one_row_more : (row : Row) → DoesNoHarm w row → AChoice (rows ++ row ∷ [])
    one_row_more (Crash n calls pattern) harmless_row =
        by_member_status n calls pattern (is_one w n (past_first (no_node w n) (no_stop w n calls)
        (is_lawful (cause w (Crash n calls pattern)) harmless_row)).0) (calls == 0) refl (w.member n).status refl
    one_row_more row harmless_row = (choice, fits choice (cluster ids) rows row fitting tt)

  -- the rows that are left, behind those that a choice fits
  onward : (more rows : List Row) → DoNoHarm (cluster ids) rows → AChoice rows → DoNoHarm (world_of ids rows) more → AChoice (rows ++ more)
  onward [] rows harmless_rows a rest = subst AChoice (sym (append-nil rows)) a
  onward (row ∷ more) rows harmless_rows a rest = subst AChoice (append_assoc rows (row ∷ []) more)
      (onward more (rows ++ row ∷ []) (harmless (cluster ids) rows row harmless_rows rest.0) (one_row_more rows harmless_rows a.0 a.1 row rest.0)
      (subst (λ (w : Cluster). DoNoHarm w more) (sym (grown (cluster ids) rows row)) rest.1))

  pub a_choice : (rows : List Row) → DoNoHarm (cluster ids) rows → AChoice rows
  a_choice rows harmless_rows = onward rows [] tt ((λ row. false), tt) harmless_rows
