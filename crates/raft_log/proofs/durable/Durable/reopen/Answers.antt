use Rattle.std.proofs.Common.{List, true, inr, subst, sym}
use Rattle.raft_log.specs.Calls.{WritesInOrder}
use Rattle.raft_log.specs.DurableViews.{durable_disk}
use Rattle.raft_log.specs.StateViews.{stored_of}
use Rattle.raft_log.specs.Stored.{Put}
use Rattle.raft_log.proofs.InTurn.{without_puts}
use Rattle.raft_log.proofs.Opened.{is_not_put, opens_to}
use Rattle.raft_log.proofs.Opening.{none_where_two}
use Rattle.raft_log.proofs.durable.Durable.reopen.Goals as goal

pub returns-then-self-eq-NEWEST-clause-opens : goal.returns-then-self-eq-NEWEST-clause-opens
returns-then-self-eq-NEWEST-clause-opens g c =
    let read = c.in_ok-read.ensures in
    let durable = c.read.new.self in
    opens_to (durable_disk c.args.self.now) durable durable read.works read.tells read.state read.copies read.made read.images
    (subst (λ (puts : List Put). WritesInOrder puts durable durable true) (sym (none_where_two (stored_of durable.state) c.if-self-eq-NEWEST.true)) (without_puts durable (c.a_state_is_durable.ensures durable)))

pub returns-in-Err-clause-failed : goal.returns-in-Err-clause-failed
returns-in-Err-clause-failed g c = λ fault is.
    let read = c.in_ok-read.ensures in
    inr (is_not_put (durable_disk c.args.self.now) c.read.new.self c.migrate.new.self read.works read.tells read.state read.copies read.made c.in-Err.ensures.puts)

pub returns-in-Ok-clause-opens : goal.returns-in-Ok-clause-opens
returns-in-Ok-clause-opens g c =
    let read = c.in_ok-read.ensures in
    opens_to (durable_disk c.args.self.now) c.read.new.self c.migrate.new.self read.works read.tells read.state read.copies read.made read.images c.in-Ok.ensures.puts
