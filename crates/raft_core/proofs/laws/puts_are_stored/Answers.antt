use Rattle.raft_core.proofs.Moving.{stored_after}
use Rattle.raft_core.proofs.VotesCast.{front_after, of_moves}
use Rattle.raft_core.proofs.laws.puts_are_stored.Goals as goal

pub returns-clause-votes : goal.returns-clause-votes
returns-clause-votes c = λ members m n p moves least nodes. of_moves members m least n p moves nodes

pub returns-clause-same : goal.returns-clause-same
returns-clause-same c = λ puts state votes. stored_after puts state votes

pub returns-clause-front : goal.returns-clause-front
returns-clause-front c = λ puts state count votes. front_after puts state count votes
