use Rattle.std.proofs.Common.{ap, sym, ◌∙◌}
use Rattle.dsdl_text.specs.Numbers.{numbers_of}
use Rattle.dsdl_text.specs.Sections.{part_layout, types_of}
use Rattle.dsdl_text.specs.Sizes.{sizes_in}
use Rattle.dsdl_text.proofs.Alike.{compact_numbers, compact_sizes}
use Rattle.dsdl_text.proofs.texts.numbers_under.Goals as goal

pub numbers_by-requires-clause-sizes : goal.numbers_by-requires-clause-sizes
numbers_by-requires-clause-sizes c =
    c.deref-3.ensures.0
    ∙ c.sizes_of-sizes.ensures
    ∙ compact_sizes c.args.earlier.now c.compact_types-types.result.items c.compact_types-types.ensures
    ∙ sym (ap (λ types. sizes_in (types_of types)) c.deref-2.ensures.0)

pub returns : goal.returns
returns c =
    let part = c.args.part.now.items in
    let payload = c.args.payload.now in
    c.numbers_by.ensures
    ∙ ap (λ types. numbers_of (part_layout (types_of types) part) payload) c.deref-2.ensures.0
    ∙ compact_numbers c.args.earlier.now c.compact_types-types.result.items c.compact_types-types.ensures part payload
