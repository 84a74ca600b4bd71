use Rattle.allocator_app.proofs.Listing.{no_last}
use Rattle.allocator_app.proofs.told.before_last_comma.Goals as goal

pub returns-in-len1-up-clause-none : goal.returns-in-len1-up-clause-none
returns-in-len1-up-clause-none c = λ none other e.
    no_last c.args.word.now c.in-Some.one.now c.in-Some.rest.now other c.in-Some.ensures.some c.in-len1-up.len_at_least e
