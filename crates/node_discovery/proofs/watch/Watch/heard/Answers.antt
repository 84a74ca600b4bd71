use Rattle.std.proofs.Common.{rules, ◌≡◌, Contains, sym, subst}
use Rattle.node_discovery.specs.Heard.{heard}
use Rattle.node_discovery.proofs.Heard.{online_on_list}
use Rattle.node_discovery.proofs.watch.Watch.heard.Goals as goal

pub returns-clause-online : goal.returns-clause-online
returns-clause-online c = λ events st node now online.
    let same : c.deref.result.now ≡ heard events = search rules in
    subst (λ nodes. Contains nodes node) (sym same) (online_on_list events node now online)
