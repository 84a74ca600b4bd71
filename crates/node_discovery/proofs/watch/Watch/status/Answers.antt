use Rattle.std.proofs.Common.{rules, ◌≡◌, length, arith, sym, ◌∙◌}
use Rattle.node_discovery.proofs.Heard.{room}
use Rattle.node_discovery.proofs.watch.Watch.status.Goals as goal

pub push-requires : goal.push-requires
push-requires c =
    let own = c.args.self.now in
    let most = room own.nodes c.args.from _ (search rules) (sym c.was_heard-is_first.ensures ∙ c.if-is_first.true) in
    let size : length own.nodes ≡ 128 = search rules in
    let count = own.each_once in
    (omega arith, omega (arith, most, size, count))
