use Rattle.std.proofs.Common.{rules, ◌<◌, length}
use Rattle.bus_world.proofs.Beginning.{in_at, one_more}
use Rattle.bus_world.proofs.members.stopped_members.Goals as goal

pub new-requires-clause-least : goal.new-requires-clause-least
new-requires-clause-least g c =
    let h : c.loop-id.id-index < length c.args.ids.now = search rules in
    (c.requires.members.nodes _ (in_at c.args.ids.now c.loop-id.id-index h)).0

pub new-requires-clause-most : goal.new-requires-clause-most
new-requires-clause-most g c =
    let h : c.loop-id.id-index < length c.args.ids.now = search rules in
    (c.requires.members.nodes _ (in_at c.args.ids.now c.loop-id.id-index h)).1

pub loop-id-preserved : goal.loop-id-preserved
loop-id-preserved g c =
    let h : c.loop-id.id-index < length c.args.ids.now = search rules in
    one_more c.args.ids.now c.loop-id.id-index c.args.accept c.loop-id.members.items c.push.new.self.items c.new.result h c.loop-id.invariant c.new.ensures.stands
    c.new.ensures.accepts c.new.ensures.id c.in-Ok-push.ensures.items
