-- What is left of a disk that an image was written to, what a run of `new` leaves of its disks, and what it writes.
use Rattle.std.specs.Prelude.{⊤, ◌≡◌, ◌⊎◌, ℕ, ◌<◌, true, List, [], ◌∷◌, ◌++◌, codes, decimal, length, slice_index, slice_index_or, Option, Some, None, IsSome}
use Rattle.std.specs.Io.KnownBytes.{Appends}
use Rattle.cmd_io.specs.Output.{WritesFront}
use Rattle.cmd_io.specs.declared.status.Status.{Status}
use Rattle.cmd_io.specs.declared.status.Status.TheVariants.{Damaged, DiskFault, Done, WriteFault}
use Rattle.cmd_new.specs.NewImage.{made_image}
use Rattle.disk_model.specs.Contents.{Contents, IsSettled}
use Rattle.disk_model.specs.Device.{DeviceCall}
use Rattle.disk_model.specs.Device.DeviceCall.{Write, Sync}
use Rattle.disk_model.specs.declared.disk.Disk.{Ghosts}
use Rattle.outside.specs.Faults.{Rose}

-- this image, all of it stable
pub record HasImage (image : List ℕ) (disk : Contents) : Type 0 where
  pub image_is : disk.seen ≡ image
  pub stable : disk.stable ≡ disk.seen
  pub settled : IsSettled disk

-- the image of a new store for this node above this term, all of it stable
abbrev pub IsNewStore : ℕ → ℕ → Contents → Type 0
IsNewStore term node disk = HasImage (made_image term node) disk

-- the device calls by which an image is written
abbrev pub image_calls : List ℕ → List DeviceCall
image_calls image = Write 0 image ∷ Sync ∷ []

-- the line that is written at an end
abbrev pub line_of : (ids : List ℕ) → Status → List ℕ
line_of ids Done = codes "made " ++ decimal (length ids) ++ codes "\n"
line_of ids (DiskFault id) = codes "disk fault " ++ decimal id ++ codes "\n"
line_of ids (Damaged id key) = codes "damaged " ++ decimal id ++ codes " " ++ decimal key ++ codes "\n"
line_of ids _ = []

abbrev pub HasLine : Status → Type 0
HasLine Done = ⊤
HasLine (DiskFault id) = ⊤
HasLine (Damaged id key) = ⊤
HasLine _ = ⊥

-- a run that came to this ends so: its line was written, or a front of it, where the sink failed. The lists at the end
-- are what the sink has been written, before and now
abbrev pub IsWritten : Status → List ℕ → Option (List ℕ) → Option (List ℕ) → Status → Type 0
IsWritten outcome line before now status =
    ((status ≡ outcome) × Appends before now line) ⊎ ((status ≡ WriteFault) × WritesFront before now line)

-- the term above which stores are made, and whose
module _ {D : Type 0} (ghosts : Ghosts D) (term : ℕ) where
  -- a new store of this node was made of a disk, which counted no fault
  pub record IsMade (node : ℕ) (before : D) (place : Option D) : Type 0 where
    pub after : D
    pub is : place ≡ Some after
    pub tells : ghosts.tells after ≡ ghosts.tells before
    pub store : ghosts.tells before ≡ true → IsNewStore term node (ghosts.contents after)
    pub faults : ghosts.faults after ≡ ghosts.faults before

  module _ (ids : List ℕ) (old new : List (Option D)) where
    -- of the disk at this index, where there is one
    abbrev pub IsMadeAt : ℕ → Type 0
    IsMadeAt k = (before : D) → slice_index_or old k None ≡ Some before →
        IsMade (slice_index ids k) before (slice_index_or new k None)

    -- the disk at this place failed: new stores were made of those before it, and nothing of those behind it
    pub record FailsAt (place : ℕ) : Type 0 where
      pub within : place < length old
      pub made : (k : ℕ) → k < place → IsMadeAt k
      pub there : IsSome (slice_index_or new place None)
      pub failed : (before after : D) → slice_index_or old place None ≡ Some before →
          slice_index_or new place None ≡ Some after → Rose (ghosts.faults before) (ghosts.faults after)
      pub behind : (k : ℕ) → place < k → slice_index_or new k None ≡ slice_index_or old k None

    -- how it ends while nothing of the sink fails
    abbrev pub Comes : Status → Type 0
    Comes Done = (k : ℕ) → k < length old → IsMadeAt k
    Comes (DiskFault id) = (place : ℕ) × FailsAt place × (id ≡ slice_index ids place)
    Comes _ = ⊥

  -- all of a run over the disks of these nodes
  pub record MakesStores (ids : List ℕ) (old new : List (Option D)) (before now : Option (List ℕ)) (status : Status)
      : Type 0 where
    pub outcome : Status
    pub comes : Comes ids old new outcome
    pub count : length new ≡ length old
    pub written : IsWritten outcome (line_of ids outcome) before now status
