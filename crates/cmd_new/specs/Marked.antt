-- How new stores are marked as used.
use Rattle.std.specs.Prelude.{◌≡◌, ℕ, ◌<◌, ◌≤◌, true, List, [], ◌∷◌, length, slice_index, slice_index_or, Option, Some, None}
use Rattle.cmd_io.specs.declared.status.Status.{Status}
use Rattle.cmd_io.specs.declared.status.Status.TheVariants.{DiskFault}
use Rattle.cmd_new.specs.NewImage.{IsNewImage}
use Rattle.disk_model.specs.Contents.{Contents, HasBytes, IsSettled}
use Rattle.disk_model.specs.declared.disk.Disk.{Ghosts}
use Rattle.outside.specs.Faults.{Rose}

-- the version again, in copy A, which nobody reads while the selector before it names copy B
abbrev pub mark_place : ℕ
mark_place = 1

abbrev pub mark : List ℕ
mark = 1 ∷ 2 ∷ []

-- the mark stands there, no other byte has changed, and all of it is stable
pub record IsMarked (old new : Contents) : Type 0 where
  pub bytes : HasBytes new.seen mark_place mark
  pub before : slice_index new.seen 0 ≡ slice_index old.seen 0
  pub after : (i : ℕ) → 3 ≤ i → slice_index new.seen i ≡ slice_index old.seen i
  pub stable : new.stable ≡ new.seen
  pub settled : IsSettled new

-- a new store is marked, and any other disk keeps what it has
pub record MarksNew (old new : Contents) : Type 0 where
  pub marked : IsNewImage old.seen → IsMarked old new
  pub kept : (IsNewImage old.seen → ⊥) → new ≡ old

module _ {D : Type 0} (ghosts : Ghosts D) where
  -- the disk is there still, marked where its store was new, and counted no fault
  pub record IsKnown (before : D) (place : Option D) : Type 0 where
    pub after : D
    pub is : place ≡ Some after
    pub tells : ghosts.tells after ≡ ghosts.tells before
    pub marks : ghosts.tells before ≡ true → MarksNew (ghosts.contents before) (ghosts.contents after)
    pub faults : ghosts.faults after ≡ ghosts.faults before

  module _ (old new : List (Option D)) where
    -- so is the disk at this index, where there is one
    abbrev pub IsKnownAt : ℕ → Type 0
    IsKnownAt k = (before : D) → slice_index_or old k None ≡ Some before → IsKnown before (slice_index_or new k None)

    -- the place is as it was
    abbrev pub IsUntouched : ℕ → Type 0
    IsUntouched k = slice_index_or new k None ≡ slice_index_or old k None

    -- the disk of a node failed: those before it are known, and those behind it untouched
    pub record FailsToMark (ids : List ℕ) (id : ℕ) : Type 0 where
      pub place : ℕ
      pub within : place < length ids
      pub is : id ≡ slice_index ids place
      pub known : (k : ℕ) → k < place → IsKnownAt k
      pub failed : (before after : D) → slice_index_or old place None ≡ Some before →
          slice_index_or new place None ≡ Some after → Rose (ghosts.faults before) (ghosts.faults after)
      pub behind : (k : ℕ) → place < k → IsUntouched k

    -- why the stores of these nodes are not all known
    abbrev pub StopsMarking : List ℕ → Status → Type 0
    StopsMarking ids (DiskFault id) = FailsToMark ids id
    StopsMarking ids _ = ⊥
