-- A choice that agrees with the disks along a trace. Items come one by one: where a member that failed stops, the choice
-- is set, at the row of that failure alone, to what the stop finds.
use Rattle.std.proofs.Common.{◌≡◌, ◌≢◌, ℕ, ◌≤◌, Bool, true, false, List, [], ◌∷◌, ◌++◌, length, refl, sym, ap, subst, ◌∙◌, arith, ◌⊎◌, inl, inr, Some}
use Rattle.std.specs.Prelude.{◌==◌}
use Rattle.std.proofs.lemmas.Bool.Decides.{eqb_tells}
use Rattle.std.proofs.lemmas.List.{append_assoc, append-nil}
use Rattle.kv_store.specs.KeyDisk.{KeyDisk, restarted_on}
use Rattle.outside.specs.declared.pattern.Pattern.{Pattern}
use Rattle.raft_core.specs.StoredPuts.{store_of}
use Rattle.raft_log.specs.KeyDisk.{found_by}
use Rattle.raft_log.specs.Stored.{Stored}
use Rattle.raft_model.specs.Lists.{In, at, at_here, at_other}
use Rattle.raft_model.specs.Runs.{World}
use Rattle.bus_rows.specs.declared.row.Row.{Row}
use Rattle.bus_rows.specs.declared.row.Row.TheVariants.{Crash}
use Rattle.alloc_spec.specs.Transfers.{SentTransfer}
use Rattle.bus_spec.specs.Cluster.{Cluster, after_row, cluster}
use Rattle.bus_spec.specs.Lawful.{DoesNoHarm, cause, no_node, no_stop}
use Rattle.bus_spec.specs.Members.{Failure, Member, MemberStatus, fresh_member, stored_after}
use Rattle.bus_spec.specs.Members.MemberStatus.{Down, Failed, Up}
use Rattle.bus_spec.specs.Choices.{CrashAgreesWithDisk, RowAgreesWithDisk, chosen_store, one_if}
use Rattle.bus_agreement.specs.Shows.{Shows, ShowsFailed, ShowsMember}
use Rattle.bus_agreement.proofs.CutOffSteps.{found_few}
use Rattle.bus_agreement.proofs.Failures.{AreApart, IsOver, apart_after, apart_at_first, failed_at, failed_in, over_after, over_by_stop}
use Rattle.bus_agreement.proofs.RowsWithoutEvents.{is_lawful, is_one, past_first}
use Rattle.bus_replaced.specs.Traces.{AgreesAlong, ComeInTurn, IsTrace, Item, after_item, after_items, copy_of, replaced, world_along}
use Rattle.bus_replaced.specs.Traces.Item.{Replaces, Takes}
use Rattle.bus_replaced.proofs.Along.{after_joined}
use Rattle.bus_replaced.proofs.Reached.{old_after}
use Rattle.bus_replaced.proofs.VeiledRows.{veiled}

-- ---- a replacement makes no failure

module _ (w : Cluster) (lost leader : ℕ) where
  abbrev new_member : Member
  new_member = record fresh_member { disk = copy_of (w.member leader).disk }

  failed_before : (m number : ℕ) → failed_in (replaced w lost leader) m ≡ Some number → failed_in w m ≡ Some number
  failed_before m number e = elim (eqb_tells m lost) [
    | inl same ↦ absurd (cc (sym (ap (λ (x : Member). failed_at x.status) (at_here w.member lost m new_member same.1)) ∙ e))
    | inr apart ↦ sym (ap (λ (x : Member). failed_at x.status) (at_other w.member lost m new_member apart.1)) ∙ e
  ]

  apart_then : AreApart w → AreApart (replaced w lost leader)
  apart_then is = record {
    past = λ m number e. is.past m number (failed_before m number e);
    once = λ m n number e f. is.once m n number (failed_before m number e) (failed_before n number f);
  }

  over_then : (number : ℕ) → IsOver w number → IsOver (replaced w lost leader) number
  over_then number is = record { past = is.past; none = λ m e. is.none m (failed_before m number e) }

apart_item : (w : Cluster) (item : Item) → AreApart w → AreApart (after_item w item)
apart_item w (Takes row) is = apart_after w row is
apart_item w (Replaces lost leader) is = apart_then w lost leader is

over_items : (items : List Item) (w : Cluster) (number : ℕ) → IsOver w number → IsOver (after_items w items) number
over_items [] w number is = is
over_items (Takes row ∷ items) w number is = over_items items (after_row w row) number (over_after w (row ∷ []) number is)
over_items (Replaces lost leader ∷ items) w number is = over_items items (replaced w lost leader) number (over_then w lost leader number is)

-- ---- another choice at one row

module _ (choice other : ℕ → Bool) (number : ℕ) (same : (row : ℕ) → row ≢ number → other row ≡ choice row) where
  module _ (w : Cluster) (is : AreApart w) (n calls : ℕ) (pattern : Pattern) (found : Stored) where
    by_row : (failure : Failure) → (w.member n).status ≡ Failed failure → (calls == 0) ≡ true → chosen_store choice failure ≡ store_of found
        → (chosen_store other failure ≡ store_of found) ⊎ IsOver (after_row w (Crash n calls pattern)) number
    by_row failure e now agrees = elim (eqb_tells failure.row number) [
      | inl here ↦ inr (subst (IsOver (after_row w (Crash n calls pattern))) here.1 (over_by_stop w n calls pattern failure.row is (ap failed_at e) now))
      | inr apart ↦ inl (ap (λ (b : Bool). stored_after failure (one_if b)) (same failure.row apart.1) ∙ agrees)
    ]

    crash_agrees : (b : Bool) → (calls == 0) ≡ b → (status : MemberStatus) → (w.member n).status ≡ status → CrashAgreesWithDisk b choice status found
        → CrashAgreesWithDisk b other status found ⊎ IsOver (after_row w (Crash n calls pattern)) number
    crash_agrees false now status e is_so = inl tt
    crash_agrees true now Down e is_so = inl tt
    crash_agrees true now (Up t) e is_so = inl tt
    crash_agrees true now (Failed failure) e is_so = by_row failure e now is_so

  -- the other choice agrees in this row too, or the row stops the member that failed at that one
  row_agrees : (w : Cluster) → AreApart w → (row : Row) → RowAgreesWithDisk choice w row → RowAgreesWithDisk other w row ⊎ IsOver (after_row w row) number
  row_agrees w is (Crash n calls pattern) is_so =
      crash_agrees w is n calls pattern (restarted_on pattern (w.member n).disk).store (calls == 0) refl (w.member n).status refl is_so
  row_agrees w is row is_so = inl tt

  -- so it agrees along all items, if a member that failed at that row has not stopped in them
  still_agrees : (items : List Item) (w : Cluster) → AreApart w → (n : ℕ) → failed_in (after_items w items) n ≡ Some number → AgreesAlong choice w items
      → AgreesAlong other w items
  still_agrees [] w is n failed each = tt
  still_agrees (Takes row ∷ items) w is n failed each = elim (row_agrees w is row each.0) [
    | inl here ↦ (here, still_agrees items (after_row w row) (apart_after w row is) n failed each.1)
    | inr over ↦ absurd ((over_items items (after_row w row) number over).none n failed)
  ]
  still_agrees (Replaces lost leader ∷ items) w is n failed each =
      still_agrees items (replaced w lost leader) (apart_then w lost leader is) n failed each

-- ---- one item more

comes_with : (items : List Item) (old : ℕ) (w : Cluster) (more : List Item) → ComeInTurn old w items → ComeInTurn (old_after old w items) (after_items w items) more
    → ComeInTurn old w (items ++ more)
comes_with [] old w more first rest = rest
comes_with (Takes row ∷ items) old w more first rest = (first.0, first.1, comes_with items old (after_row w row) more first.2 rest)
comes_with (Replaces lost leader ∷ items) old w more first rest = (first.0, comes_with items (length w.frames) (replaced w lost leader) more first.1 rest)

agrees_with : (choice : ℕ → Bool) (items : List Item) (w : Cluster) (more : List Item) → AgreesAlong choice w items → AgreesAlong choice (after_items w items) more
    → AgreesAlong choice w (items ++ more)
agrees_with choice [] w more first rest = rest
agrees_with choice (Takes row ∷ items) w more first rest = (first.0, agrees_with choice items (after_row w row) more first.1 rest)
agrees_with choice (Replaces lost leader ∷ items) w more first rest = agrees_with choice items (replaced w lost leader) more first rest

-- ---- what a stop finds, as a choice

is_found : (count : ℕ) → count ≤ 1 → one_if (count == 1) ≡ count
is_found count few = elim (eqb_tells count 1) [
  | inl one ↦ ap one_if one.0 ∙ sym one.1
  | inr apart ↦ ap one_if apart.0 ∙ omega (arith, few, apart.1)
]

-- every trace shows a run, whatever choice agrees with it
abbrev pub AreShown : List ℕ → Type 0
AreShown ids = (choice : ℕ → Bool) (items : List Item) → IsTrace ids items → AgreesAlong choice (cluster ids) items
    → (old : ℕ) × (made : List SentTransfer) × (run : World) × Shows choice made (veiled old (world_along ids items)) run

module _ (ids : List ℕ) (shown : AreShown ids) where
  abbrev AChoice : List Item → Type 0
  AChoice items = (choice : ℕ → Bool) × AgreesAlong choice (cluster ids) items

  apart_along : (items : List Item) (w : Cluster) → AreApart w → AreApart (after_items w items)
  apart_along [] w is = is
  apart_along (item ∷ items) w is = apart_along items (after_item w item) (apart_item w item is)

  module _ (items : List Item) (come : IsTrace ids items) (choice : ℕ → Bool) (agreeing : AgreesAlong choice (cluster ids) items) where
    abbrev w : Cluster
    w = world_along ids items

    module _ (n calls : ℕ) (pattern : Pattern) (listed : In n w.ids) where
      abbrev disk : KeyDisk Stored
      disk = (w.member n).disk

      abbrev found : Stored
      found = (restarted_on pattern disk).store

      asks : (other : ℕ → Bool) (b : Bool) → (calls == 0) ≡ b → (status : MemberStatus) → (w.member n).status ≡ status → CrashAgreesWithDisk b other status found
          → RowAgreesWithDisk other w (Crash n calls pattern)
      asks other b now status e is = subst (λ (at_once : Bool). CrashAgreesWithDisk at_once other (w.member n).status found) (sym now)
          (subst (λ (its : MemberStatus). CrashAgreesWithDisk b other its found) (sym e) is)

      -- the choice as it was, where the row asks for nothing
      as_it_was : RowAgreesWithDisk choice w (Crash n calls pattern) → AChoice (items ++ Takes (Crash n calls pattern) ∷ [])
      as_it_was here = (choice, agrees_with choice items (cluster ids) (Takes (Crash n calls pattern) ∷ []) agreeing (here, tt))

      abbrev chosen : Failure → ℕ → Bool
      chosen failure = at choice failure.row (found_by pattern disk == 1)

      agrees : (failure : Failure) → (w.member n).status ≡ Failed failure → chosen_store (chosen failure) failure ≡ store_of found
      agrees failure e =
          let r = shown choice items come agreeing in
          let is : ShowsFailed choice r.2 n failure disk
          = subst (λ (status : MemberStatus). ShowsMember choice r.1 w.ids (veiled r.0 w).frames r.2 n status disk) e (r.3.lives n listed) in
          ap (λ (b : Bool). stored_after failure (one_if b)) (at_here choice failure.row failure.row (found_by pattern disk == 1) refl)
          ∙ (ap (stored_after failure) (is_found (found_by pattern disk) (found_few pattern disk.unsynced disk)) ∙ sym (is.found pattern))

      by_member_status : (b : Bool) → (calls == 0) ≡ b → (status : MemberStatus) → (w.member n).status ≡ status → AChoice (items ++ Takes (Crash n calls pattern) ∷ [])
      by_member_status false now status e = as_it_was (asks choice false now status e tt)
      by_member_status true now Down e = as_it_was (asks choice true now Down e tt)
      by_member_status true now (Up t) e = as_it_was (asks choice true now (Up t) e tt)
      by_member_status true now (Failed failure) e = (
        chosen failure,
        agrees_with (chosen failure) items (cluster ids) (Takes (Crash n calls pattern) ∷ [])
            (still_agrees choice (chosen failure) failure.row (λ row apart. at_other choice failure.row row (found_by pattern disk == 1) apart) items (cluster ids)
            (apart_at_first ids) n (ap failed_at e) agreeing)
            (asks (chosen failure) true now (Failed failure) e (agrees failure e), tt),
      )

    one_row_more : (row : Row) → DoesNoHarm w row → AChoice (items ++ Takes row ∷ [])
    one_row_more (Crash n calls pattern) harmless =
        by_member_status n calls pattern (is_one w n (past_first (no_node w n) (no_stop w n calls)
        (is_lawful (cause w (Crash n calls pattern)) harmless)).0) (calls == 0) refl (w.member n).status refl
    one_row_more row harmless = (choice, agrees_with choice items (cluster ids) (Takes row ∷ []) agreeing (tt, tt))

    one_copy_more : (lost leader : ℕ) → AChoice (items ++ Replaces lost leader ∷ [])
    one_copy_more lost leader = (choice, agrees_with choice items (cluster ids) (Replaces lost leader ∷ []) agreeing tt)

  -- the items that are left, behind those that a choice agrees with
  onward : (more items : List Item) → IsTrace ids items → AChoice items → ComeInTurn (old_after 0 (cluster ids) items) (world_along ids items) more → AChoice (items ++ more)
  onward [] items come a rest = subst AChoice (sym (append-nil items)) a
  onward (item ∷ more) items come a rest = subst AChoice (append_assoc items (item ∷ []) more)
      (onward more (items ++ item ∷ []) (one_comes item rest) (one_agrees item rest) (rest_then item rest))
    where
      here : ℕ
      here = old_after 0 (cluster ids) items

      one_comes : (item : Item) → ComeInTurn here (world_along ids items) (item ∷ more) → IsTrace ids (items ++ item ∷ [])
      one_comes (Takes row) r = comes_with items 0 (cluster ids) (Takes row ∷ []) come (r.0, r.1, tt)
      one_comes (Replaces lost leader) r = comes_with items 0 (cluster ids) (Replaces lost leader ∷ []) come (r.0, tt)

      one_agrees : (item : Item) → ComeInTurn here (world_along ids items) (item ∷ more) → AChoice (items ++ item ∷ [])
      one_agrees (Takes row) r = one_row_more items come a.0 a.1 row r.0
      one_agrees (Replaces lost leader) r = one_copy_more items come a.0 a.1 lost leader

      old_then : (items : List Item) (old : ℕ) (w : Cluster) (more : List Item) → old_after old w (items ++ more) ≡ old_after (old_after old w items) (after_items w items) more
      old_then [] old w more = refl
      old_then (Takes row ∷ items) old w more = old_then items old (after_row w row) more
      old_then (Replaces lost leader ∷ items) old w more = old_then items (length w.frames) (replaced w lost leader) more

      moved : (item : Item) → ComeInTurn (old_after here (world_along ids items) (item ∷ [])) (after_item (world_along ids items) item) more
          → ComeInTurn (old_after 0 (cluster ids) (items ++ item ∷ [])) (world_along ids (items ++ item ∷ [])) more
      moved item r = subst (λ (old : ℕ). ComeInTurn old (world_along ids (items ++ item ∷ [])) more) (sym (old_then items 0 (cluster ids) (item ∷ [])))
          (subst (λ (v : Cluster). ComeInTurn (old_after here (world_along ids items) (item ∷ [])) v more) (sym (after_joined (cluster ids) items (item ∷ []))) r)

      rest_then : (item : Item) → ComeInTurn here (world_along ids items) (item ∷ more)
          → ComeInTurn (old_after 0 (cluster ids) (items ++ item ∷ [])) (world_along ids (items ++ item ∷ [])) more
      rest_then (Takes row) r = moved (Takes row) r.2
      rest_then (Replaces lost leader) r = moved (Replaces lost leader) r.1

  pub a_choice : (items : List Item) → IsTrace ids items → AChoice items
  a_choice items come = onward items [] tt ((λ row. false), tt) come
