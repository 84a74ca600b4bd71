use Rattle.std.proofs.Common.{rules, ◌≡◌, ◌≤◌, true, sym, ◌∙◌, arith}
use Rattle.node_discovery.specs.History.{counted, is_nameless, query_count}
use Rattle.node_discovery.proofs.Silence.{silent_where}
use Rattle.node_discovery.proofs.node.Node.is_silent.Goals as goal

pub returns-then-queries-ge-QUERY_LIMIT : goal.returns-then-queries-ge-QUERY_LIMIT
returns-then-queries-ge-QUERY_LIMIT c = λ events tells.
    let nameless : is_nameless events c.args.now ≡ true = search rules in
    let five : 5 ≤ c.counted-queries.result = search rules in
    let count = c.counted-queries.ensures events tells in
    let asked : 5 ≤ query_count (counted c.args.counting events) = omega (arith, five, count) in
    c.may_be_asked.ensures events tells ∙ sym (silent_where c.args.counting events c.args.now nameless asked)
