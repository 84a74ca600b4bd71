use Rattle.std.proofs.Common.{take}
use Rattle.bus_world.specs.Fresh.{AreFresh}
use Rattle.bus_world.proofs.members.stopped_members.Given as goal

abbrev pub invariant-loop-id : goal.invariant-loop-id
invariant-loop-id g l = AreFresh (take l.id-index l.ids) l.accept l.members.items
