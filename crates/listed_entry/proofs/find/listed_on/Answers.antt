use Rattle.std.proofs.Common.{inl, rules, []}
use Rattle.listed_entry.proofs.Passing.{found_on, unread}
use Rattle.listed_entry.proofs.find.listed_on.Goals as goal

pub returns-in-Ok-clause-found : goal.returns-in-Ok-clause-found
returns-in-Ok-clause-found g c =
    let found = c.listed_in.ensures.some in
    found_on g.D.Disk c.args.list.now [] c.args.place.now (search rules) c.in-Ok.store c.in-Ok.ensures.read c.listed_in.result (search (rules, found))

pub returns-in-Ok-clause-none : goal.returns-in-Ok-clause-none
returns-in-Ok-clause-none g c none before after was now = inl (record {
  store = c.in-Ok.store;
  is = c.in-Ok.ensures.read before was;
  entries = let clear = c.listed_in.ensures.none none in search (rules, clear);
})

pub returns-in-Err-clause-none : goal.returns-in-Err-clause-none
returns-in-Err-clause-none g c none before after was now =
    unread g.D.Disk c.args.list.now [] c.in-Err.field-0 before after (λ key is. c.in-Err.ensures.damaged key before is was)
    (λ is. c.in-Err.ensures.failed before after is was now)
