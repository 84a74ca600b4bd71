-- What an audit reads of disks.
use Rattle.std.specs.Prelude.{◌≡◌, ◌⊎◌, ℕ, ◌<◌, ◌≤◌, Bool, true, List, [], ◌∷◌, length, Option, Some, None, slice_index_or}
use Rattle.disk_model.specs.Contents.{image_size}
use Rattle.disk_model.specs.Device.{DeviceCall, Makes}
use Rattle.disk_model.specs.Device.DeviceCall.{Read}
use Rattle.disk_model.specs.declared.disk.Disk.{Ghosts}
use Rattle.raft_log.specs.declared.stored.Stored.{Stored}
use Rattle.raft_log.specs.Reading.{IsReadFrom}
use Rattle.raft_log.specs.Rules.{IsDamagedAt}
use Rattle.store_audit.specs.Stores.{store_at}

-- the device call of an audit: all of the image is read
abbrev pub audit_calls : List DeviceCall
audit_calls = Read 0 image_size ∷ []

module _ {D : Type 0} (ghosts : Ghosts D) where
  -- the image was read of the disk: where the disk tells what it holds, it is what reads give
  abbrev pub IsImageOf : D → List ℕ → Type 0
  IsImageOf disk image = ghosts.tells disk ≡ true → image ≡ (ghosts.contents disk).seen

  -- this image was read of the disk, and stands for the store
  pub record IsReadAs (disk : D) (image : List ℕ) (store : Stored) : Type 0 where
    pub seen : IsImageOf disk image
    pub read : IsReadFrom image store

  -- the store is the one that an image of the disk stands for
  pub record IsStoreOf (disk : D) (store : Stored) : Type 0 where
    pub image : List ℕ
    pub seen : IsImageOf disk image
    pub read : IsReadFrom image store

  -- an image of the disk is damaged, first at this key
  pub record IsDamagedDisk (disk : D) (key : ℕ) : Type 0 where
    pub image : List ℕ
    pub seen : IsImageOf disk image
    pub damaged : IsDamagedAt image key

  -- the stores are those of the first disks, in order
  abbrev pub AreStoresOf : List (Option D) → List Stored → Type 0
  AreStoresOf disks stores = (k : ℕ) (disk : D) → k < length stores →
      slice_index_or disks k None ≡ Some disk →
      IsStoreOf disk (store_at stores k)

  -- the disk is still there and holds what it held; at most that one device call was made
  pub record StaysAs (before : D) (place : Option D) : Type 0 where
    pub after : D
    pub is : place ≡ Some after
    pub tells : ghosts.tells after ≡ ghosts.tells before
    pub contents : ghosts.tells before ≡ true → ghosts.contents after ≡ ghosts.contents before
    pub made : (after ≡ before) ⊎ ((ok : Bool) × Makes ghosts.does audit_calls ok before after)

  -- all of them
  pub record AllStay (old new : List (Option D)) : Type 0 where
    pub count : length new ≡ length old
    pub each : (k : ℕ) (before : D) → slice_index_or old k None ≡ Some before →
        StaysAs before (slice_index_or new k None)

  -- that one device call was made
  abbrev pub IsReadOnce : D → D → Type 0
  IsReadOnce before after = (ok : Bool) × Makes ghosts.does audit_calls ok before after

  -- of so many disks, the first ones, the image was read, by one call each; nothing was done to the others
  pub record AreReadUpTo (count : ℕ) (old new : List (Option D)) : Type 0 where
    pub read : (k : ℕ) (before after : D) → k < count → slice_index_or old k None ≡ Some before →
        slice_index_or new k None ≡ Some after → IsReadOnce before after
    pub others : (k : ℕ) → count ≤ k → slice_index_or new k None ≡ slice_index_or old k None
