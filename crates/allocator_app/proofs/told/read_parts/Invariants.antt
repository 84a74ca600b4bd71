use Rattle.std.proofs.Common.{◌≡◌, ◌<◌, ◌++◌, ℕ, map, decimal, length, slice_index}
use Rattle.allocator_app.specs.Told.{commas}
use Rattle.allocator_app.proofs.told.read_parts.Given as goal

-- the parts before the rest spell these numbers
abbrev pub invariant-loop-part : goal.invariant-loop-part
invariant-loop-part l = record {
  parts : commas l.word ≡ map decimal l.ids.items ++ commas l.rest;
  bytes : (i : ℕ) → i < length l.ids.items → slice_index l.ids.items i < 256;
}

abbrev pub decreases-loop-part : goal.decreases-loop-part
decreases-loop-part l = length l.rest
