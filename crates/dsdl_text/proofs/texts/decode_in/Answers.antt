use Rattle.std.proofs.Common.{◌/◌, [], take, unwrap_or, arith, length-take, ap, sym, ◌∙◌}
use Rattle.std.specs.Option.{option_map}
use Rattle.dsdl_text.specs.Numbers.{numbers_of}
use Rattle.dsdl_text.specs.Sections.{part_layout, types_of}
use Rattle.dsdl_text.proofs.Types.{part_first, part_second, within}
use Rattle.dsdl_text.proofs.texts.decode_in.Goals as goal

pub returns-then-at-eq0 : goal.returns-then-at-eq0
returns-then-at-eq0 c = λ part is.
    let inside = within c.args.sections.now c.args.at c.requires.at in
    let first = part_first c.args.sections.now c.args.at c.index-sections-place.result c.index-sections-place.is inside (omega arith) in
    c.numbers_under.ensures ∙ ap (λ p. numbers_of p c.args.payload.now) (ap (λ o. unwrap_or o []) (sym first ∙ is))

pub returns-in-Some : goal.returns-in-Some
returns-in-Some c = λ part is.
    let inside = within c.args.sections.now c.args.at c.requires.at in
    let second = part_second c.args.sections.now c.args.at c.index-sections-place.result c.index-sections-place.is inside (omega arith) in
    let there = ap (option_map (λ found. part_layout (types_of (take (c.args.at / 2) c.args.sections.now)) found.items)) c.in-Some.is in
    c.numbers_under-in-Some.ensures ∙ ap (λ p. numbers_of p c.args.payload.now) (ap (λ o. unwrap_or o []) (sym there ∙ sym second ∙ is))

pub returns-in-None : goal.returns-in-None
returns-in-None c = λ part is.
    let inside = within c.args.sections.now c.args.at c.requires.at in
    let second = part_second c.args.sections.now c.args.at c.index-sections-place.result c.index-sections-place.is inside (omega arith) in
    let there = ap (option_map (λ found. part_layout (types_of (take (c.args.at / 2) c.args.sections.now)) found.items)) c.in-None.is in
    absurd (let h = sym there ∙ sym second ∙ is in cc)

pub slice_bounds-earlier-end : goal.slice_bounds-earlier-end
slice_bounds-earlier-end c =
    let inside = within c.args.sections.now c.args.at c.requires.at in
    omega (arith, length-take (c.args.at / 2) c.args.sections.now)
