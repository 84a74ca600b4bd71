-- The device calls of a sync.
use Rattle.std.specs.Prelude.{ℕ, ◌+◌, ◌-◌, ◌*◌, ◌/◌, List, [], ◌∷◌}
use Rattle.block_device.specs.Blocks.{write_of}
use Rattle.disk_model.specs.Device.{DeviceCall}
use Rattle.disk_model.specs.Device.DeviceCall.{Sync}

-- the blocks are two pairs: this is the first block of the pair that a block is not of
abbrev pub other_pair : ℕ → ℕ
other_pair block = 2 - 2 * (block / 2)

-- a sync writes a record to both blocks of a pair, and syncs once
abbrev pub sync_calls : ℕ → List ℕ → List DeviceCall
sync_calls first bytes = write_of first bytes ∷ write_of (first + 1) bytes ∷ Sync ∷ []
