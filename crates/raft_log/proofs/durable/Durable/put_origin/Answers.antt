use Rattle.std.proofs.Common.{true, sym, subst, ◌∙◌}
use Rattle.raft_log.specs.Calls.{WritesInOrder}
use Rattle.raft_log.proofs.InTurn.{without_puts}
use Rattle.raft_log.proofs.Migrating.{none_at}
use Rattle.raft_log.proofs.durable.Durable.put_origin.Goals as goal

pub returns-then-is_some-clause-puts : goal.returns-then-is_some-clause-puts
returns-then-is_some-clause-puts g c =
    let durable = c.args.self.now in
    let some = sym c.is_some.ensures ∙ c.if-is_some.true in
    let none = none_at c.args.place durable.state.log.items durable.state.origins.items c.deref.result.now c.deref.ensures.0 some in
    subst (λ puts. WritesInOrder puts durable durable true) (sym none) (without_puts durable (c.a_state_is_durable.ensures durable))
