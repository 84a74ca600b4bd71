-- What members that are told who the members are find on their disks, before they run.
use Rattle.std.specs.Prelude.{◌≡◌, ℕ, ◌<◌, Bool, true, false, List, length, slice_index, slice_index_or, Option, Some, None}
use Rattle.cmd_io.specs.declared.status.Status.{Status}
use Rattle.cmd_io.specs.declared.status.Status.TheVariants.{Damaged, DiskFault}
use Rattle.cmd_new.specs.Found.{IsFoundOn}
use Rattle.cmd_new.specs.declared.found.Found.{Found}
use Rattle.cmd_new.specs.declared.found.Found.TheVariants.{NoStore, NewStore, UsedStore}
use Rattle.disk_model.specs.declared.disk.Disk.{Ghosts}
use Rattle.outside.specs.Faults.{Rose}

module _ {D : Type 0} (ghosts : Ghosts D) where
  -- a disk that was read has what it had
  pub record IsKept (before : D) (place : Option D) : Type 0 where
    pub after : D
    pub is : place ≡ Some after
    pub tells : ghosts.tells after ≡ ghosts.tells before
    pub contents : ghosts.tells before ≡ true → ghosts.contents after ≡ ghosts.contents before

  -- all disks have what they had
  pub record AreKept (old new : List (Option D)) : Type 0 where
    pub count : length new ≡ length old
    pub each : (k : ℕ) (before : D) → slice_index_or old k None ≡ Some before → IsKept before (slice_index_or new k None)

  -- this was found on the disk at a place
  abbrev pub IsFoundAt : List (Option D) → ℕ → Found → Type 0
  IsFoundAt old k found = (before : D) → slice_index_or old k None ≡ Some before → IsFoundOn ghosts before found

  -- a store, new or used
  pub record HasStoreAt (old : List (Option D)) (k : ℕ) : Type 0 where
    pub found : Found
    pub is : IsFoundAt old k found
    pub some : found ≡ NoStore → ⊥

  -- each of these nodes has a store, and whether one of these is a used one
  pub record HaveStores (ids : List ℕ) (old : List (Option D)) (used : Bool) : Type 0 where
    pub stores : (k : ℕ) → k < length ids → HasStoreAt old k
    pub all_new : used ≡ false → (k : ℕ) → k < length ids → IsFoundAt old k NewStore
    pub one_used : used ≡ true → (k : ℕ) × (k < length ids) × IsFoundAt old k UsedStore

  -- the nodes before this one have stores
  pub record IsFirst (ids : List ℕ) (old : List (Option D)) (id : ℕ) : Type 0 where
    pub place : ℕ
    pub within : place < length ids
    pub is : id ≡ slice_index ids place
    pub before : (k : ℕ) → k < place → HasStoreAt old k

  -- why these nodes do not run: one has no store, or its disk failed
  abbrev pub IsRefused : List ℕ → List (Option D) → List (Option D) → Status → Type 0
  IsRefused ids old new (Damaged id key) = (first : IsFirst ids old id) × (key ≡ 0) × IsFoundAt old first.place NoStore
  IsRefused ids old new (DiskFault id) = (first : IsFirst ids old id)
      × ((before after : D) → slice_index_or old first.place None ≡ Some before →
      slice_index_or new first.place None ≡ Some after → Rose (ghosts.faults before) (ghosts.faults after))
  IsRefused ids old new _ = ⊥
