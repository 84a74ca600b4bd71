-- What a disk over a device of blocks stands for.
use Rattle.std.specs.Prelude.{◌==◌, ℕ, ◌+◌, not, List, slice_index}
use Rattle.block_device.specs.declared.device.BlockDevice.{Ghosts}
use Rattle.disk_model.specs.Contents.{Contents}
use Rattle.mirrored_disk.specs.Record.{record_of}
use Rattle.mirrored_disk.specs.declared.disk.MirroredDisk.{MirroredDisk}

module _ {V : Type 0} {ghosts : Ghosts V} where
  abbrev pub disk_device : MirroredDisk V ghosts → V
  disk_device disk = disk.device

  abbrev pub disk_head : MirroredDisk V ghosts → List ℕ
  disk_head disk = disk.head

  -- the block of its newest record, and the number of that
  abbrev pub disk_block : MirroredDisk V ghosts → ℕ
  disk_block disk = disk.newest.block

  abbrev pub disk_number : MirroredDisk V ghosts → ℕ
  disk_number disk = disk.newest.number

  -- a byte counts as written where it is not as the last sync left it
  abbrev pub disk_contents : MirroredDisk V ghosts → Contents
  disk_contents disk = record {
    seen = disk.seen;
    stable = disk.stable;
    written = λ i. not (slice_index disk.seen i == slice_index disk.stable i);
  }

  -- the record that a sync writes
  abbrev pub next_record : MirroredDisk V ghosts → List ℕ
  next_record disk = record_of disk.head (disk.newest.number + 1) disk.seen
