use Rattle.std.proofs.Common.{Some, get_or, take, ap, sym, ◌∙◌}
use Rattle.dsdl_text.specs.Text.{layout_of}
use Rattle.dsdl_text.specs.Sections.{first_layout, types_of}
use Rattle.dsdl_text.proofs.Types.{type_at, two_parts, one_part}
use Rattle.dsdl_text.proofs.section.section_named.Goals as goal

pub returns-then-is_some : goal.returns-then-is_some
returns-then-is_some c =
    let found = c.in_ok-place.ensures.found in
    ap layout_of (found.1 ∙ type_at c.args.earlier.now c.in_ok-place.place c.index-earlier-place.result found.0)
    ∙ two_parts (types_of (take c.in_ok-place.place c.args.earlier.now)) (get_or c.args.earlier.now c.in_ok-place.place c.index-earlier-place.result) (sym c.is_some.ensures ∙ c.if-is_some.true)

pub returns : goal.returns
returns c =
    let found = c.in_ok-place.ensures.found in
    let at = type_at c.args.earlier.now c.in_ok-place.place c.index-earlier-place.result found.0 in
    ap layout_of (found.1 ∙ at)
    ∙ one_part (types_of (take c.in_ok-place.place c.args.earlier.now)) (get_or c.args.earlier.now c.in_ok-place.place c.index-earlier-place.result) (sym c.is_some.ensures ∙ c.if-is_some.false)
    ∙ ap (λ type. Some (first_layout type)) (sym at)
