use Rattle.std.proofs.Common.{◌≡◌, length, take}
use Rattle.dsdl_text.specs.Sections.{types_of}
use Rattle.dsdl_text.specs.Sizes.{sizes_in}
use Rattle.dsdl_text.proofs.size.sizes_of.Given as goal

abbrev pub invariant-loop-section : goal.invariant-loop-section
invariant-loop-section l = record {
  sizes : l.sizes.items ≡ sizes_in (types_of (take l.section-index l.sections));
  count : length l.sizes.items ≡ l.section-index;
}
