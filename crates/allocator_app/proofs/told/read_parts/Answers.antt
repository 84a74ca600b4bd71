use Rattle.std.proofs.Common.{[], ◌++◌, refl, sym, ap, ◌∙◌, map, decimal}
use Rattle.allocator_app.specs.Told.{commas}
use Rattle.allocator_app.proofs.Listing.{no_number}
use Rattle.allocator_app.proofs.told.read_parts.Goals as goal

pub returns-in_err-id-clause-none : goal.returns-in_err-id-clause-none
returns-in_err-id-clause-none c = λ none ids few bytes e.
    let own = c.loop-part.ids.items in
    no_number own ids c.in-Some.part.now (commas c.in-Some.more.now) (λ n most is. c.in_err-id.ensures.none refl n most is) bytes
    (ap (λ l. map decimal own ++ l) (sym c.in-Some.ensures.some) ∙ sym c.loop-part.invariant.parts ∙ e)

pub returns-in_err-id-2-clause-none : goal.returns-in_err-id-2-clause-none
returns-in_err-id-2-clause-none c = λ none ids few bytes e.
    let own = c.loop-part.ids.items in
    no_number own ids c.loop-part.rest.now [] (λ n most is. c.in_err-id-2.ensures.none refl n most is) bytes
    (ap (λ l. map decimal own ++ l) (sym (c.in_default.ensures.none refl)) ∙ sym c.loop-part.invariant.parts ∙ e)
