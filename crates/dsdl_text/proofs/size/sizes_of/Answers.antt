use Rattle.std.proofs.Common.{◌++◌, ◌∷◌, [], ap, sym, ◌∙◌, arith, take}
use Rattle.dsdl_text.specs.declared.section.Section.{Section}
use Rattle.dsdl_text.specs.Layout.{joined}
use Rattle.dsdl_text.specs.Sections.{part_layout, types_of}
use Rattle.dsdl_text.specs.Sizes.{size_of, sizes_in}
use Rattle.dsdl_text.proofs.Sizes.{sizes_more}
use Rattle.dsdl_text.proofs.size.sizes_of.Goals as goal

pub loop-section-preserved : goal.loop-section-preserved
loop-section-preserved c =
    let sections = c.args.sections.now in
    let place = c.loop-section.section-index in
    let types = types_of (take place sections) in
    let fields = c.deref-in-loop-section.ensures.0 ∙ ap (λ (s : Section). s.first.items) c.section-item.is in
    let size = c.size_of_fields-size.ensures types (c.deref.ensures.0 ∙ c.loop-section.invariant.sizes)
    ∙ ap (λ fs. size_of (joined (part_layout types fs))) fields in
    record {
      sizes = c.push.ensures.items
          ∙ ap (λ xs. xs ++ c.size_of_fields-size.result ∷ []) c.loop-section.invariant.sizes
          ∙ ap (λ s. sizes_in types ++ s ∷ []) size
          ∙ sym (sizes_more sections place c.section-item.result c.loop-section-test.true);
      count = omega (arith, c.push.ensures.len, c.loop-section.invariant.count);
    }
