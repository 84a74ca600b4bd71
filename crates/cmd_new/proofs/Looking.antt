-- Stores that were found, one more at a time.
use Rattle.std.proofs.Common.{◌≡◌, ◌≤◌, ◌<◌, ◌+◌, ◌⊎◌, inl, inr, ℕ, List, length, slice_set, refl, sym, subst, ◌∙◌, arith}
use Rattle.std.specs.Prelude.{Bool, Option, None, Some, true, false, slice_index_or}
use Rattle.std.proofs.lemmas.Bool.Decides.{eqb_tells, leb_tells}
use Rattle.std.proofs.lemmas.List.{get_or-set_other, get_or-set_same, get_or_past, length-set}
use Rattle.disk_model.specs.declared.disk.Disk.{Ghosts}
use Rattle.cmd_new.specs.Looks.{AreKept, HasStoreAt, HaveStores, IsFoundAt, IsKept}
use Rattle.outside.specs.Faults.{Rose}
use Rattle.cmd_new.specs.declared.found.Found.{Found}
use Rattle.cmd_new.specs.declared.found.Found.TheVariants.{NoStore, NewStore, UsedStore}

-- what is no store and not used is new
pub is_new : (found : Found) → (found ≡ NoStore → ⊥) → (found ≡ UsedStore → ⊥) → found ≡ NewStore
is_new NoStore some unused = absurd (some refl)
is_new NewStore some unused = refl
is_new UsedStore some unused = absurd (unused refl)

module _ {D : Type 0} (ghosts : Ghosts D) where
  pub all_kept : (disks : List (Option D)) → AreKept ghosts disks disks
  all_kept disks = record { count = refl; each = λ k before there. record { after = before; is = there; tells = refl; contents = λ told. refl } }

  module _ (old : List (Option D)) (p : ℕ) (found : Found) (is : IsFoundAt ghosts old p found) (some : found ≡ NoStore → ⊥) where
    pub stores_more : ((k : ℕ) → k < p → HasStoreAt ghosts old k) → (k : ℕ) → k < p + 1 → HasStoreAt ghosts old k
    stores_more so_far k below = elim (eqb_tells k p) as (λ _. HasStoreAt ghosts old k) [
      | inl t ↦ subst (HasStoreAt ghosts old) (sym t.1) (record { found = found; is = is; some = some })
      | inr t ↦ so_far k (omega (arith, below, t.1))
    ]

    pub new_more : (found ≡ UsedStore → ⊥) → ((k : ℕ) → k < p → IsFoundAt ghosts old k NewStore) → (k : ℕ) → k < p + 1 → IsFoundAt ghosts old k NewStore
    new_more unused so_far k below = elim (eqb_tells k p) as (λ _. IsFoundAt ghosts old k NewStore) [
      | inl t ↦ subst (λ n. IsFoundAt ghosts old n NewStore) (sym t.1) (subst (IsFoundAt ghosts old p) (is_new found some unused) is)
      | inr t ↦ so_far k (omega (arith, below, t.1))
    ]

    pub used_more : (used : Bool) → (used ≡ true) ⊎ (found ≡ UsedStore) → (used ≡ true → (k : ℕ) × (k < p) × IsFoundAt ghosts old k UsedStore)
        → (k : ℕ) × (k < p + 1) × IsFoundAt ghosts old k UsedStore
    used_more used (inl was) so_far = let one = so_far was in (one.0, omega (arith, one.1), one.2)
    used_more used (inr now) so_far = (p, omega arith, subst (IsFoundAt ghosts old p) now is)

  -- one more disk was read
  pub kept_more : (old mid : List (Option D)) (p : ℕ) (place : Option D) → AreKept ghosts old mid → p < length old
      → ((before : D) → slice_index_or old p None ≡ Some before → IsKept ghosts before place) → AreKept ghosts old (slice_set mid p place)
  kept_more old mid p place kept within is = record {
    count = length-set mid p place ∙ kept.count;
    each = λ k before there. elim (eqb_tells k p) as (λ _. IsKept ghosts before (slice_index_or (slice_set mid p place) k None)) [
      | inl t ↦ rw (t.1, get_or-set_same mid p place None (omega (arith, within, kept.count))) (is before (rw (sym t.1) there))
      | inr t ↦ rw (get_or-set_other mid p k place None t.1) (kept.each k before there)
    ];
  }

  -- the disk at a place failed
  pub refused_disk : (old mid : List (Option D)) (p : ℕ) (place : Option D) → p < length mid
      → ((before after : D) → slice_index_or old p None ≡ Some before → place ≡ Some after → Rose (ghosts.faults before) (ghosts.faults after))
      → (before after : D) → slice_index_or old p None ≡ Some before → slice_index_or (slice_set mid p place) p None ≡ Some after → Rose (ghosts.faults before) (ghosts.faults after)
  refused_disk old mid p place within rose before after was now = rose before after was (sym (get_or-set_same mid p place None within) ∙ now)

  -- where there is no disk anything is found
  none_there : (old : List (Option D)) (k : ℕ) (found : Found) → length old ≤ k → IsFoundAt ghosts old k found
  none_there old k found le before was = absurd (cc (get_or_past old k None le, was))

  -- all were looked at, where those that are left are no disks
  pub past : (ids : List ℕ) (old : List (Option D)) (used : Bool) (count : ℕ) → ((k : ℕ) → k < length ids → count ≤ k → length old ≤ k)
      → ((k : ℕ) → k < count → HasStoreAt ghosts old k) → (used ≡ false → (k : ℕ) → k < count → IsFoundAt ghosts old k NewStore)
      → (used ≡ true → (k : ℕ) × (k < count) × IsFoundAt ghosts old k UsedStore) → count ≤ length ids → HaveStores ghosts ids old used
  past ids old used count rest stores all_new one_used few = record {
    stores = λ k low. elim (leb_tells count k) as (λ _. HasStoreAt ghosts old k) [
      | inl t ↦ record { found = NewStore; is = none_there old k NewStore (rest k low t.1); some = λ e. cc e }
      | inr t ↦ stores k (omega (arith, t.1))
    ];
    all_new = λ e k low. elim (leb_tells count k) as (λ _. IsFoundAt ghosts old k NewStore) [
      | inl t ↦ none_there old k NewStore (rest k low t.1)
      | inr t ↦ all_new e k (omega (arith, t.1))
    ];
    one_used = λ e. let one = one_used e in (one.0, omega (arith, one.1, few), one.2);
  }
