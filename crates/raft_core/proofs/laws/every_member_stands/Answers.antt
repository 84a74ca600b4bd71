use Rattle.raft_core.proofs.SomeServer.{server_for, stands_for, times_for}
use Rattle.raft_core.proofs.laws.every_member_stands.Goals as goal

pub returns : goal.returns
returns c = λ raft state. (server_for raft state, times_for raft, stands_for raft state)
