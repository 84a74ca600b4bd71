-- The stores of the members that are left, read one by one.
use Rattle.std.proofs.Common.{◌≡◌, inl, inr, ℕ, ◌+◌, ◌<◌, List, [], ◌∷◌, ◌++◌, length, slice_index, slice_set, refl, subst, ◌∙◌, arith}
use Rattle.std.specs.Prelude.{true, false, ◌==◌, Option, None, Some, slice_index_or}
use Rattle.std.proofs.Math.Seq.{get_or-append_seam}
use Rattle.std.proofs.lemmas.Bool.Decides.{eqb_tells}
use Rattle.std.proofs.lemmas.List.{get_or-set_other, get_or-set_same, get_or_append_left}
use Rattle.disk_model.specs.declared.disk.Disk.{Ghosts}
use Rattle.raft_log.specs.declared.stored.Stored.{Stored}
use Rattle.store_audit.specs.Reads.{IsDamagedDisk, IsReadAs}
use Rattle.store_audit.specs.Stores.{store_at}
use Rattle.store_audit.proofs.Disks.{quiet_more}
use Rattle.cmd_replace.specs.Replaced.{AreQuiet, AreRead, EndsAtDamage, LostStays, image_at}

abbrev pub nothing : Stored
nothing = record { term = 0; vote = 0; commit = 0; entries = record { items = [] }; origins = record { items = [] } }

equals : (a b : ℕ) → a ≡ b → (a == b) ≡ true
equals a b e = elim (eqb_tells a b) as (λ _. (a == b) ≡ true) [
  | inl t ↦ t.0
  | inr t ↦ absurd (t.1 e)
]

differs : (a b : ℕ) → (a ≡ b → ⊥) → (a == b) ≡ false
differs a b other = elim (eqb_tells a b) as (λ _. (a == b) ≡ false) [
  | inl t ↦ absurd (other t.1)
  | inr t ↦ t.0
]

pub apart : (a b : ℕ) → (a == b) ≡ false → a ≡ b → ⊥
apart a b other e = cc (equals a b e, other)

last_store : (stores : List Stored) (store : Stored) (p : ℕ) → length stores ≡ p → store_at (stores ++ store ∷ []) p ≡ store
last_store stores store p count = subst (λ n. slice_index_or (stores ++ store ∷ []) n nothing ≡ store) count (get_or-append_seam stores store [] nothing)

module _ {D : Type 0} (ghosts : Ghosts D) (ids : List ℕ) (lost : ℕ) (old : List (Option D)) where
  -- and one more store
  pub read_more : (images : List (List ℕ)) (stores : List Stored) (p : ℕ) (image : List ℕ) (store : Stored) → AreRead ghosts ids lost old p images stores
      → length stores ≡ p → p < length images
      → ((slice_index ids p == lost) ≡ false → (disk : D) → slice_index_or old p None ≡ Some disk → IsReadAs ghosts disk image store)
      → AreRead ghosts ids lost old (p + 1) (slice_set images p image) (stores ++ store ∷ [])
  read_more images stores p image store so_far count within is k disk below left there =
      elim (eqb_tells k p) as (λ _. IsReadAs ghosts disk (image_at (slice_set images p image) k) (store_at (stores ++ store ∷ []) k)) [
        | inl t ↦
            let here = subst (λ n. slice_index ids n ≡ lost → ⊥) t.1 left in
            rw (t.1, get_or-set_same images p image [] within, last_store stores store p count)
            (is (differs (slice_index ids p) lost here) disk (subst (λ n. slice_index_or old n None ≡ Some disk) t.1 there))
        | inr t ↦
            let low : k < p = omega (arith, below, t.1) in
            rw (get_or-set_other images p k image [] t.1, get_or_append_left stores (store ∷ []) nothing k (omega (arith, low, count))) (so_far k disk low left there)
      ]

  -- a disk that was not lost was read, or nothing was done to one that was
  pub lost_more : (mid : List (Option D)) (p : ℕ) (place : Option D) → LostStays ghosts ids lost old mid → p < length mid
      → ((slice_index ids p == lost) ≡ true → place ≡ slice_index_or old p None) → LostStays ghosts ids lost old (slice_set mid p place)
  lost_more mid p place stays within is k at = elim (eqb_tells k p) as (λ _. slice_index_or (slice_set mid p place) k None ≡ slice_index_or old k None) [
    | inl t ↦ rw (t.1, get_or-set_same mid p place None within) (is (equals (slice_index ids p) lost (subst (λ n. slice_index ids n ≡ lost) t.1 at)))
    | inr t ↦ get_or-set_other mid p k place None t.1 ∙ stays k at
  ]

  -- and it counted no fault
  pub quiet_still : (mid : List (Option D)) (p : ℕ) (place : Option D) → AreQuiet ghosts ids lost old mid → p < length mid
      → ((before after : D) → slice_index_or old p None ≡ Some before → place ≡ Some after → ghosts.faults after ≡ ghosts.faults before)
      → AreQuiet ghosts ids lost old (slice_set mid p place)
  quiet_still mid p place quiet within is = (quiet_more ghosts old mid p place (record { each = quiet }) within is).each

  -- the disk at this place is damaged
  pub ends_at_damage : (images : List (List ℕ)) (stores : List Stored) (p : ℕ) (disk : D) (key : ℕ) → AreRead ghosts ids lost old p images stores → p < length ids
      → (slice_index ids p == lost) ≡ false → slice_index_or old p None ≡ Some disk → IsDamagedDisk ghosts disk key
      → EndsAtDamage ghosts ids lost old (slice_index ids p) key
  ends_at_damage images stores p disk key read within left there damaged = record {
    images = images;
    stores = stores;
    place = p;
    within = within;
    is = refl;
    left = apart (slice_index ids p) lost left;
    read = read;
    disk = disk;
    there = there;
    damaged = damaged;
  }
