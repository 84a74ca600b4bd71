use Rattle.std.proofs.Common.{rules, None}
use Rattle.node_discovery.specs.Watch.{IsNextQuery, is_due}
use Rattle.node_discovery.proofs.Devices.{one_further, only}
use Rattle.node_discovery.proofs.watch.Watch.next_query.Goals as goal

pub returns-then-is_due-clause-computed : goal.returns-then-is_due-clause-computed
returns-then-is_due-clause-computed c = λ events st.
    let least : IsNextQuery events c.args.known.now c.args.now c.new.result = search rules in
    only events c.args.known.now c.args.now c.new.result st.strangers least

pub loop-node-preserved : goal.loop-node-preserved
loop-node-preserved c = λ events st.
    one_further (λ n. is_due events c.args.known.now n c.args.now) c.loop-node.node (c.loop-node.invariant events st) (search rules)

pub returns-clause-computed : goal.returns-clause-computed
returns-clause-computed c = λ events st.
    let least : IsNextQuery events c.args.known.now c.args.now None = search rules in
    only events c.args.known.now c.args.now None st.strangers least
