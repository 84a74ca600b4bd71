use Rattle.std.proofs.Common.{rules, ◌≡◌, [], ◌∷◌, length, ap, sym, ◌∙◌}
use Rattle.cluster_discovery.proofs.Joining.{all_stay}
use Rattle.cluster_discovery.proofs.cluster.Cluster.heard.Goals as goal

pub returns-clause-complete : goal.returns-clause-complete
returns-clause-complete c = λ full.
    let source : c.join.new.self.members.items ≡ c.args.self.now.members.items =
    c.join.ensures.members ∙ all_stay c.args.self.now.size (c.args.from ∷ []) c.args.self.now.members.items full in
    let still : length c.join.new.self.members.items ≡ c.join.new.self.size = ap length source ∙ full ∙ sym c.join.ensures.size in
    let listed : c.join_all.new.self.members.items ≡ c.join.new.self.members.items =
    c.join_all.ensures.members ∙ all_stay c.join.new.self.size c.deref.result.now c.join.new.self.members.items still in
    let kept : c.if-len-self.self.members.items ≡ c.join_all.new.self.members.items = search rules in
    kept ∙ listed ∙ source
