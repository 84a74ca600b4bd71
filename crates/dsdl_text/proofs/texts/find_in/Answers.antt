use Rattle.std.proofs.Common.{ap, sym, ◌∙◌}
use Rattle.std.specs.Option.{is_some, option_and_then}
use Rattle.dsdl_text.specs.Sections.{part_of, types_of}
use Rattle.dsdl_text.proofs.Types.{has_first, has_second, no_second, part_at_even, part_at_odd}
use Rattle.dsdl_text.proofs.texts.find_in.Goals as goal

pub returns-in-1-clause-found : goal.returns-in-1-clause-found
returns-in-1-clause-found c =
    let found = c.in_ok-place.ensures.found in (
      has_first c.args.sections.now c.in_ok-place.place c.index-sections-place.result found.0,
      rw c.in-1.is (part_at_even (types_of c.args.sections.now) c.in_ok-place.place ∙ sym (ap (option_and_then (part_of 1)) found.1)),
    )

pub returns-in-2-clause-found : goal.returns-in-2-clause-found
returns-in-2-clause-found c =
    let found = c.in_ok-place.ensures.found in (
      has_second c.args.sections.now c.in_ok-place.place c.index-sections-place.result found.0 (sym (ap (λ section. is_some section.second) c.index-sections-place.is) ∙ sym c.is_some.ensures ∙ c.if-is_some.true),
      rw c.in-2.is (part_at_odd (types_of c.args.sections.now) c.in_ok-place.place ∙ sym (ap (option_and_then (part_of 2)) found.1)),
    )

pub returns-in_default-clause-none : goal.returns-in_default-clause-none
returns-in_default-clause-none c = λ none.
    let found = c.in_ok-place.ensures.found in
    rw c.in-2.is (ap (option_and_then (part_of 2)) found.1
    ∙ no_second c.args.sections.now c.in_ok-place.place c.index-sections-place.result found.0 (sym (ap (λ section. is_some section.second) c.index-sections-place.is) ∙ sym c.is_some.ensures ∙ c.if-is_some.false))
