-- What the blocks of a device have of a disk, and what a stop and time may leave in them.
use Rattle.std.specs.Prelude.{◌≡◌, ◌⊎◌, ℕ, ◌<◌, ◌/◌, false, List}
use Rattle.block_device.specs.Blocks.{Blocks}
use Rattle.mirrored_disk.specs.Newest.{IsNewestRecord}
use Rattle.mirrored_disk.specs.Record.{HasRecord, image_in, number_in}
use Rattle.mirrored_disk.specs.declared.search.Newest.{Newest}

-- the newest of the records that are stable, and no block of its pair was written since
pub record KeepsNewest (device : Blocks) (head : List ℕ) (latest : Newest) (image : List ℕ) : Type 0 where
  pub newest : IsNewestRecord 4 head device.stable latest image
  pub unwritten : (block : ℕ) → block / 2 ≡ latest.block / 2 → device.written block ≡ false

-- both blocks of the newest record's pair have this record; any other record is older, or has its image
pub record IsTwice (device : Blocks) (head : List ℕ) (newest : Newest) (image : List ℕ) : Type 0 where
  pub twice : (block : ℕ) → block / 2 ≡ newest.block / 2 → device.stable block ≡ device.stable newest.block
  pub others : (block : ℕ) → block < 4 → HasRecord head (device.stable block) →
      (number_in (device.stable block) < newest.number) ⊎ (image_in (device.stable block) ≡ image)

-- a block that passes the check, whatever a stop or time left in it, has what was stable in it, the record that is
-- being written, or a record that is older than the newest one
abbrev pub IsHonest : Blocks → (head : List ℕ) (number : ℕ) (next : List ℕ) (left : ℕ → List ℕ) → Type 0
IsHonest device head number next left = (block : ℕ) → block < 4 → HasRecord head (left block) →
    (left block ≡ device.stable block) ⊎ (left block ≡ next) ⊎ (number_in (left block) < number)

-- a stop leaves what it may, and one block has any bytes besides
abbrev pub IsLeftButFor : ℕ → Blocks → (ℕ → List ℕ) → Type 0
IsLeftButFor rotten device left =
    (block : ℕ) → (block ≡ rotten → ⊥) → device.written block ≡ false → left block ≡ device.stable block
