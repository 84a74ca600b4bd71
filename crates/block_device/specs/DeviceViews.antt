-- What a device in memory stands for.
use Rattle.std.specs.Prelude.{ℕ, false, [], slice_index_or}
use Rattle.block_device.specs.Blocks.{Blocks}
use Rattle.block_device.specs.declared.memory.MemoryDevice.{MemoryDevice}

abbrev pub memory_blocks : MemoryDevice → Blocks
memory_blocks device = record {
  seen = λ block. slice_index_or device.seen block [];
  stable = λ block. slice_index_or device.stable block [];
  written = λ block. slice_index_or device.written block false;
}
