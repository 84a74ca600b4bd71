use Rattle.raft_replaced.proofs.Run.{events_allowed, events_alone}
use Rattle.raft_replaced.proofs.laws.law_plain_runs.Goals as goal

pub returns : goal.returns
returns c = record { world = events_alone; allowed = events_allowed }
