use Rattle.std.proofs.Common.{◌≡◌, take}
use Rattle.bus_world.specs.Members.{ids_of}
use Rattle.bus_world.proofs.rows.ids_of.Given as goal

-- the node IDs of the members so far
abbrev pub invariant-loop-member : goal.invariant-loop-member
invariant-loop-member g l = l.ids.items ≡ ids_of (take l.member-index l.members)
