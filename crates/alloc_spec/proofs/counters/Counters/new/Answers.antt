use Rattle.std.proofs.Common.{arith}
use Rattle.alloc_spec.proofs.Zeroed.{zero_below}
use Rattle.alloc_spec.proofs.counters.Counters.new.Goals as goal

pub invariant_of-result : goal.invariant_of-result
invariant_of-result c = (omega arith, omega arith, omega arith, zero_below 128, zero_below 128, zero_below 128)
