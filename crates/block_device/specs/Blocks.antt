-- What a device of blocks holds, what its calls change, and what a stop may leave of it.
use Rattle.std.specs.Prelude.{◌≡◌, ◌≢◌, ℕ, ◌*◌, Bool, false, List, []}
use Rattle.disk_model.specs.Device.{DeviceCall}
use Rattle.disk_model.specs.Device.DeviceCall.{Read, Write}

-- how many blocks a device has
abbrev pub block_count : ℕ
block_count = 4

-- how many bytes a block has
abbrev pub block_size : ℕ
block_size = 16384

-- how many bytes of a block are used, from its first on
abbrev pub used_size : ℕ
used_size = 8900

-- the bytes that are used of each block: what reads give, and what the last sync that succeeded made stable; and
-- which blocks were written since
pub record Blocks : Type 0 where
  pub seen : ℕ → List ℕ
  pub stable : ℕ → List ℕ
  pub written : ℕ → Bool

-- a stop may leave any bytes in a block that was written since the last sync, all of them; other blocks stay
abbrev pub MayLeaveBlocks : Blocks → (ℕ → List ℕ) → Type 0
MayLeaveBlocks device left = (block : ℕ) → device.written block ≡ false → left block ≡ device.stable block

-- no block was written since the last sync that succeeded
abbrev pub IsUnwritten : Blocks → Type 0
IsUnwritten device = (block : ℕ) → device.written block ≡ false

-- a block is as it was
pub record IsBlockKept (old new : Blocks) (block : ℕ) : Type 0 where
  pub seen : new.seen block ≡ old.seen block
  pub written : new.written block ≡ old.written block

-- all blocks but one are as they were, and so is what is stable
pub record ChangesBlock (block : ℕ) (old new : Blocks) : Type 0 where
  pub stable : new.stable ≡ old.stable
  pub others : (other : ℕ) → other ≢ block → IsBlockKept old new other

-- what reads gave is stable, and nothing was written since
pub record AreSynced (old new : Blocks) : Type 0 where
  pub seen : new.seen ≡ old.seen
  pub stable : new.stable ≡ old.seen
  pub settled : IsUnwritten new

-- the calls that read and write a block, by the place at which it begins
abbrev pub read_of : ℕ → DeviceCall
read_of block = Read (block_size * block) used_size

abbrev pub write_of : ℕ → List ℕ → DeviceCall
write_of block bytes = Write (block_size * block) bytes

-- what stands for the blocks of a device that tells none
abbrev pub no_blocks : Blocks
no_blocks = record { seen = λ block. []; stable = λ block. []; written = λ block. false }
