use Rattle.std.proofs.Common.{length}
use Rattle.alloc_spec.proofs.members.+has.Given as goal

abbrev pub decreases-has : goal.decreases-has
decreases-has l = length l.ids.now
