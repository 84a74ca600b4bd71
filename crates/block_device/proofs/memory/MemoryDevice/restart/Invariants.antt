use Rattle.std.proofs.Common.{◌≡◌, ℕ, [], false, length, slice_index_or}
use Rattle.block_device.proofs.memory.MemoryDevice.restart.Given as goal

abbrev pub invariant-loop-block : goal.invariant-loop-block
invariant-loop-block l = record {
  written : l.self.written ≡ l.fn.self.written;
  faults : l.self.faults ≡ l.fn.self.faults;
  size : length l.self.stable ≡ 4;
  kept : (block : ℕ) → slice_index_or l.fn.self.written block false ≡ false → slice_index_or l.self.stable block [] ≡ slice_index_or l.fn.self.stable block [];
}
