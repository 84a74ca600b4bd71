use Rattle.std.proofs.Common.{◌∙◌, refl, arith}
use Rattle.allocator_app.proofs.Listing.{no_more, no_single, parts_of_two, too_few}
use Rattle.allocator_app.proofs.told.read_list.Goals as goal

pub returns-in_err-id-clause-none : goal.returns-in_err-id-clause-none
returns-in_err-id-clause-none c = λ none ids few bytes e.
    no_single c.args.word.now c.in-Some.one.now c.in-Some.ensures.some (λ n most is. c.in_err-id.ensures.none refl n most is) ids bytes e

pub returns-in_err-ids-clause-none : goal.returns-in_err-ids-clause-none
returns-in_err-ids-clause-none c = λ none ids few bytes e.
    no_more c.args.word.now (c.in_default.ensures.none refl) (c.in_err-ids.ensures.none refl) ids few bytes e

pub returns-then-len-lt2-clause-none : goal.returns-then-len-lt2-clause-none
returns-then-len-lt2-clause-none c = λ none ids few bytes e.
    too_few c.args.word.now c.in_ok-ids.ids.items (let n = c.len.ensures.value in let low = c.if-len-lt2.true in omega (arith, n, low)) c.in_ok-ids.ensures.some (c.in_default.ensures.none refl) ids e

pub returns-clause-some : goal.returns-clause-some
returns-clause-some c =
    c.in_ok-ids.ensures.some ∙ parts_of_two c.in_ok-ids.ids.items (let n = c.len.ensures.value in let low = c.if-len-lt2.false in omega (arith, n, low))
