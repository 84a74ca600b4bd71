use Rattle.std.proofs.Common.{rules, true, false}
use Rattle.node_discovery.specs.Watch.{IsSomeUnknown, NoneIsUnknown, is_unknown}
use Rattle.node_discovery.proofs.Devices.{one_further, some_computed}
use Rattle.node_discovery.proofs.watch.Watch.unknown.Goals as goal

pub returns-then-is_unknown-clause-computed : goal.returns-then-is_unknown-clause-computed
returns-then-is_unknown-clause-computed c = λ events st.
    let some : IsSomeUnknown events c.args.known.now c.args.now = search rules in
    some_computed events c.args.known.now c.args.now true st.strangers (λ e. some) (λ e. cc)

pub loop-node-preserved : goal.loop-node-preserved
loop-node-preserved c = λ events st.
    one_further (λ n. is_unknown events c.args.known.now n c.args.now) c.loop-node.node (c.loop-node.invariant events st) (search rules)

pub returns-clause-computed : goal.returns-clause-computed
returns-clause-computed c = λ events st.
    let none : NoneIsUnknown events c.args.known.now c.args.now = search rules in
    some_computed events c.args.known.now c.args.now false st.strangers (λ e. cc) (λ e. none)
