use Rattle.std.proofs.Common.{◌≡◌, ◌≤◌, ℕ, List, [], ◌∷◌, ◌++◌, length, take, get_or, None, inl, inr, ap, ◌∙◌, arith, length-take}
use Rattle.std.proofs.lemmas.Bool.{cases_lt}
use Rattle.std.proofs.lemmas.List.{get_or_append_left, get_or_default}
use Rattle.std.proofs.Math.Seq.{get_or-append_seam}
use Rattle.dsdl_text.specs.declared.section.Section.{Section}
use Rattle.dsdl_text.specs.Sections.{types_of}
use Rattle.dsdl_text.specs.Sizes.{with_bits}
use Rattle.dsdl_text.proofs.Sizes.{length-sizes, sizes_before}
use Rattle.dsdl_text.proofs.compact.compact_types.Goals as goal

pub slice_bounds-fields_with_bits-end : goal.slice_bounds-fields_with_bits-end
slice_bounds-fields_with_bits-end c =
    let sections = c.args.sections.now in
    let sizes : length c.args.sizes.now ≡ length sections = ap length c.requires.sizes ∙ length-sizes sections in
    let front : c.len.result ≤ length c.args.sizes.now =
    omega (arith, c.len.ensures.value, c.loop-section.invariant.count, c.loop-section-test.true, sizes) in
    omega (arith, length-take c.len.result c.args.sizes.now, front)

last : (types : List Section) (section d : Section) (place : ℕ) → place ≡ length types
    → get_or (types ++ section ∷ []) place d ≡ section
last types section d place is = rw is (get_or-append_seam types section [] d)

pub loop-section-preserved : goal.loop-section-preserved
loop-section-preserved c =
    let sections = c.args.sections.now in
    let types = c.loop-section.types.items in
    let index = c.loop-section.section-index in
    let section = c.section-item.result in
    let count = c.loop-section.invariant.count in
    let compact : Section = record { name = c.new.result; first = c.fields_with_bits-first.result; second = None } in
    record {
      count = omega (arith, c.push.ensures.len, count);
      fields = λ place d e within.
          ap (λ all. (get_or all place d).first.items) c.push.ensures.items
          ∙ elim (cases_lt place index) as (λ _. (get_or (types ++ compact ∷ []) place d).first.items
          ≡ with_bits (types_of (take place sections)) (get_or sections place e).first.items) [
            | inl before ↦
                ap (λ s. s.first.items) (get_or_append_left types (compact ∷ []) d place (omega (arith, count)))
                ∙ c.loop-section.invariant.fields place d e before
            | inr behind ↦
                let here : index ≡ place = omega arith in
                let len : c.len.result ≡ place = omega (arith, c.len.ensures.value, count) in
                let sizes = ap (λ n. take n c.args.sizes.now) len
                ∙ ap (take place) c.requires.sizes
                ∙ sizes_before sections place in
                let item = c.section-item.is
                ∙ get_or_default sections index section e c.loop-section-test.true
                ∙ ap (λ n. get_or sections n e) here in
                let fields = c.deref.ensures.0 ∙ ap (λ s. s.first.items) item in
                ap (λ s. s.first.items) (last types compact d place (omega (arith, count)))
                ∙ c.fields_with_bits-first.ensures (types_of (take place sections)) sizes
                ∙ ap (with_bits (types_of (take place sections))) fields
          ];
    }
