use Rattle.std.proofs.Common.{◌≡◌, ◌<◌, ℕ, length, take, get_or}
use Rattle.dsdl_text.specs.declared.section.Section.{Section}
use Rattle.dsdl_text.specs.Sections.{types_of}
use Rattle.dsdl_text.specs.Sizes.{with_bits}
use Rattle.dsdl_text.proofs.compact.compact_types.Given as goal

abbrev pub invariant-loop-section : goal.invariant-loop-section
invariant-loop-section l = record {
  count : length l.types.items ≡ l.section-index;
  fields : (place : ℕ) (d e : Section) → place < l.section-index
      → (get_or l.types.items place d).first.items
      ≡ with_bits (types_of (take place l.sections)) (get_or l.sections place e).first.items;
}
