-- New stores, one more at a time.
use Rattle.std.proofs.Common.{◌≡◌, ◌<◌, ◌+◌, inl, inr, ℕ, List, length, slice_set, sym, ap, subst, ◌∙◌, arith}
use Rattle.std.specs.Prelude.{Option, None, Some, IsSome, slice_index, slice_index_or}
use Rattle.std.proofs.lemmas.Bool.Decides.{eqb_tells}
use Rattle.std.proofs.lemmas.Grind.{same_number_lists}
use Rattle.std.proofs.lemmas.List.{get_or-set_other, get_or-set_same}
use Rattle.disk_model.specs.Contents.{Contents, HasBytes, IsSound, image_size}
use Rattle.disk_model.specs.Device.{IsSynced}
use Rattle.disk_model.specs.declared.disk.Disk.{Ghosts}
use Rattle.outside.specs.Faults.{Rose}
use Rattle.cmd_new.specs.Made.{FailsAt, HasImage, IsMade, IsMadeAt}

-- bytes that all of a disk has are what reads give
pub whole_image : (disk : Contents) (bytes : List ℕ) → IsSound disk → length bytes ≡ image_size → HasBytes disk.seen 0 bytes → bytes ≡ disk.seen
whole_image disk bytes sound size has =
    let long : length bytes ≡ length disk.seen = size ∙ sym (sound.current.size ∙ sound.size) in
    same_number_lists bytes disk.seen long (λ i low. let at : i ≡ 0 + i = omega arith in sym (ap (slice_index disk.seen) at ∙ has i low))

-- an image, written over all of a disk and synced
pub has_image : (mid new : Contents) (bytes : List ℕ) → HasBytes mid.seen 0 bytes → length bytes ≡ image_size
    → IsSynced mid new → IsSound new → HasImage bytes new
has_image mid new bytes has size synced sound =
    let all : bytes ≡ new.seen = whole_image new bytes sound size (λ i low. ap (λ l. slice_index l (0 + i)) synced.seen ∙ has i low) in
    record { image_is = sym all; stable = synced.stable ∙ sym synced.seen; settled = synced.settled }

module _ {D : Type 0} (ghosts : Ghosts D) (term : ℕ) (ids : List ℕ) (old mid : List (Option D)) (p : ℕ) (place : Option D) (same : length mid ≡ length old) (within : p < length old)
    (made : (k : ℕ) → k < p → IsMadeAt ghosts term ids old mid k) where
  -- the store at this place too
  pub made_more : ((before : D) → slice_index_or old p None ≡ Some before → IsMade ghosts term (slice_index ids p) before place)
      → (k : ℕ) → k < p + 1 → IsMadeAt ghosts term ids old (slice_set mid p place) k
  made_more is k below before there = elim (eqb_tells k p) as (λ _. IsMade ghosts term (slice_index ids k) before (slice_index_or (slice_set mid p place) k None)) [
    | inl t ↦ rw (t.1, get_or-set_same mid p place None (omega (arith, within, same))) (is before (rw (sym t.1) there))
    | inr t ↦ rw (get_or-set_other mid p k place None t.1) (made k (omega (arith, below, t.1)) before there)
  ]

  -- the disk at this place failed
  pub fails_at : IsSome place → ((before after : D) → slice_index_or old p None ≡ Some before → place ≡ Some after → Rose (ghosts.faults before) (ghosts.faults after))
      → ((k : ℕ) → p < k → slice_index_or mid k None ≡ slice_index_or old k None) → FailsAt ghosts term ids old (slice_set mid p place) p
  fails_at there rose behind = let here = get_or-set_same mid p place None (omega (arith, within, same)) in record {
    within = within;
    made = λ k below before was. rw (get_or-set_other mid p k place None (λ e. omega (arith, e, below))) (made k below before was);
    there = subst IsSome (sym here) there;
    failed = λ before after was now. rose before after was (sym here ∙ now);
    behind = λ k above. get_or-set_other mid p k place None (λ e. omega (arith, e, above)) ∙ behind k above;
  }
