use Rattle.std.proofs.Common.{◌-◌, ℕ, List, Bool, Option, arith, ap, ◌∙◌}
use Rattle.dsdl_text.specs.Numbers.{Reading, behind, elements, read_tail, reads, tail_count}
use Rattle.dsdl_text.specs.Sections.{kind_layout, types_of}
use Rattle.dsdl_text.proofs.Readings.{after_some, count_more, elements_more, tail_more}
use Rattle.dsdl_text.proofs.decode.+read_elements.Goals as goal

pub returns-clause-tail : goal.returns-clause-tail
returns-clause-tail t c =
    let element : List Bool → Reading = reads (kind_layout (types_of c.args.earlier.now) c.args.kind) in
    let more : List Bool → Option (ℕ × List ℕ × List Bool) = read_tail (c.args.most - 1) element in
    let step = tail_more c.args.most element c.args.bits.now (omega arith) (omega arith) in
    let told = c.in_ok-count.ensures.tail in (
      ap (λ tail. behind c.args.numbers.now.items (elements tail)) step
          ∙ ap (behind c.args.numbers.now.items) (elements_more (element c.args.bits.now) more)
          ∙ after_some c.args.numbers.now.items c.read_kind.new.numbers.items c.in_ok-bits.bits.now (element c.args.bits.now) (λ rest. elements (more rest)) c.in_ok-bits.ensures
          ∙ told.0,
      ap tail_count step
          ∙ count_more c.args.numbers.now.items c.read_kind.new.numbers.items c.in_ok-bits.bits.now c.in_ok-count.count (element c.args.bits.now) more c.in_ok-bits.ensures told.1,
    )
