use Rattle.std.specs.Prelude.{None}
use Rattle.raft_log.proofs.Kept.{kept_after}
use Rattle.raft_log.proofs.laws.allowed_puts_leave_a_kept_state.Goals as goal

pub returns : goal.returns
returns c = λ puts state allowed kept. kept_after puts state None allowed kept
