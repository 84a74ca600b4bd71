use Rattle.std.proofs.Common.{◌≡◌, ◌<◌, ℕ, map, string_bytes, decimal, take, length, slice_index}
use Rattle.allocator_app.proofs.words.read_ids.Given as goal

-- the first words spell these numbers
abbrev pub invariant-loop-word : goal.invariant-loop-word
invariant-loop-word l = record {
  spelled : map string_bytes (take l.word-index l.words) ≡ map decimal l.ids.items;
  bytes : (i : ℕ) → i < length l.ids.items → slice_index l.ids.items i < 256;
}
