use Rattle.std.proofs.Common.{◌≡◌, ◌≤◌, List, filter, length, take}
use Rattle.dsdl_text.specs.Layout.{DataType}
use Rattle.dsdl_text.specs.Sizes.{has_bits, sizes_in}
use Rattle.dsdl_text.proofs.compact.those_with_bits.Given as goal

abbrev pub invariant-loop-field : goal.invariant-loop-field
invariant-loop-field l = record {
  kept : (types : List DataType) → l.sizes ≡ sizes_in types
      → l.kept.items ≡ filter (has_bits types) (take l.field-index l.fields);
  room : length l.kept.items ≤ l.field-index;
}
