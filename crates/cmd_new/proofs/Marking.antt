-- New stores that are marked, one more at a time.
use Rattle.std.proofs.Common.{◌≡◌, ◌≤◌, ◌<◌, ◌+◌, inl, inr, ℕ, List, length, slice_set, refl, sym, ap, subst, ◌∙◌, arith}
use Rattle.std.specs.Prelude.{Option, None, Some, slice_index, slice_index_or}
use Rattle.std.proofs.lemmas.Bool.Decides.{eqb_tells, leb_tells}
use Rattle.std.proofs.lemmas.List.{get_or-set_other, get_or-set_same, get_or_past}
use Rattle.disk_model.specs.Contents.{Contents}
use Rattle.disk_model.specs.declared.disk.Disk.{Ghosts}
use Rattle.kv_store.specs.Image.{length_byte}
use Rattle.outside.specs.Faults.{Rose}
use Rattle.cmd_new.specs.Found.{HasNoVersion, IsFound}
use Rattle.cmd_new.specs.Marked.{FailsToMark, IsKnown, IsKnownAt, IsMarked, MarksNew}
use Rattle.cmd_new.specs.NewImage.{IsNewImage}
use Rattle.cmd_new.specs.declared.found.Found.{Found}
use Rattle.cmd_new.specs.declared.found.Found.TheVariants.{NoStore, NewStore, UsedStore}
use Rattle.cmd_new.proofs.NewImage.{length_byte_is}
use Rattle.cmd_new.proofs.StoreAbove.{new_front}

-- a new store has a version
pub new_has : (image : List ℕ) → HasNoVersion image → IsNewImage image → ⊥
new_has image none is =
    let has = new_front image is in
    let one : length_byte image 0 ≡ 1 = length_byte_is image has.0 ∙ has.2 in omega (arith, one, none)

-- what was found new is marked
pub new_is_marked : (old mid new : Contents) (image : List ℕ) → image ≡ old.seen → IsFound image NewStore → mid ≡ old → IsMarked mid new → MarksNew old new
new_is_marked old mid new image seen is same marked = record {
  marked = λ _. subst (λ disk. IsMarked disk new) same marked;
  kept = λ other. absurd (other (subst IsNewImage seen is));
}

-- what was found is no new store
pub not_new : (image : List ℕ) (found : Found) → IsFound image found → (found ≡ NewStore → ⊥) → IsNewImage image → ⊥
not_new image NoStore is other same = new_has image is same
not_new image NewStore is other same = other refl
not_new image UsedStore is other same = is.1 same

-- what is no new store is kept
pub other_is_kept : (old new : Contents) (image : List ℕ) (found : Found) → image ≡ old.seen → IsFound image found → (found ≡ NewStore → ⊥) → new ≡ old
    → MarksNew old new
other_is_kept old new image found seen is other same = record {
  marked = λ e. absurd (not_new image found is other (subst IsNewImage (sym seen) e));
  kept = λ _. same;
}

module _ {D : Type 0} (ghosts : Ghosts D) (old mid : List (Option D)) (p : ℕ) (place : Option D) (same : length mid ≡ length old) (within : p < length old)
    (known : (k : ℕ) → k < p → IsKnownAt ghosts old mid k) where
  -- the store at this place too
  pub known_more : ((before : D) → slice_index_or old p None ≡ Some before → IsKnown ghosts before place)
      → (k : ℕ) → k < p + 1 → IsKnownAt ghosts old (slice_set mid p place) k
  known_more is k below before there = elim (eqb_tells k p) as (λ _. IsKnown ghosts before (slice_index_or (slice_set mid p place) k None)) [
    | inl t ↦ rw (t.1, get_or-set_same mid p place None (omega (arith, within, same))) (is before (rw (sym t.1) there))
    | inr t ↦ rw (get_or-set_other mid p k place None t.1) (known k (omega (arith, below, t.1)) before there)
  ]

  -- the disk at this place failed
  pub fails_to_mark : (ids : List ℕ) → p < length ids
      → ((before after : D) → slice_index_or old p None ≡ Some before → place ≡ Some after → Rose (ghosts.faults before) (ghosts.faults after))
      → ((k : ℕ) → p < k → slice_index_or mid k None ≡ slice_index_or old k None) → FailsToMark ghosts old (slice_set mid p place) ids (slice_index ids p)
  fails_to_mark ids one rose behind = let here = get_or-set_same mid p place None (omega (arith, within, same)) in record {
    place = p;
    within = one;
    is = refl;
    known = λ k below before was. rw (get_or-set_other mid p k place None (λ e. omega (arith, e, below))) (known k below before was);
    failed = λ before after was now. rose before after was (sym here ∙ now);
    behind = λ k above. get_or-set_other mid p k place None (λ e. omega (arith, e, above)) ∙ behind k above;
  }

-- all that are there were looked at
pub all_known : {D : Type 0} (ghosts : Ghosts D) (ids : List ℕ) (old new : List (Option D)) (count : ℕ)
    → ((k : ℕ) → k < length ids → count ≤ k → length old ≤ k) → ((k : ℕ) → k < count → IsKnownAt ghosts old new k)
    → (k : ℕ) → k < length ids → IsKnownAt ghosts old new k
all_known ghosts ids old new count rest known k low before there = elim (leb_tells count k) as (λ _. IsKnown ghosts before (slice_index_or new k None)) [
  | inl t ↦ absurd (cc (get_or_past old k None (rest k low t.1), there))
  | inr t ↦ known k (omega (arith, t.1)) before there
]
