use Rattle.std.proofs.Common.{rules, ◌≡◌, ◌≤◌, arith, length}
use Rattle.bus_world.proofs.Beginning.{as_many}
use Rattle.bus_world.proofs.members.Members.new.Goals as goal

pub stopped_members-requires-clause-members : goal.stopped_members-requires-clause-members
stopped_members-requires-clause-members g c = c.are_members.ensures.0 c.if-not-are_members.false

pub invariant_of-result : goal.invariant_of-result
invariant_of-result g c =
    let members = c.are_members.ensures.0 c.if-not-are_members.false in
    let many : length c.in-Some.members.items ≡ length c.args.ids.now = as_many c.args.ids.now c.args.accept c.in-Some.members.items c.in-Some.ensures in
    let least : 1 ≤ length c.args.ids.now = members.some in
    let most : length c.args.ids.now ≤ 5 = members.few in record {
      below = c.requires.frames;
      fits = search rules;
      kept = search rules;
      some = omega arith;
      five = omega arith;
      alike = c.in-Some.ensures.alike;
    }
