use Rattle.std.proofs.Common.{arith}
use Rattle.raft_replaced.proofs.laws.law_stale_vote.Goals as goal

pub returns : goal.returns
returns c = record { votes = omega arith; refused = λ may. omega (arith, may.majority) }
