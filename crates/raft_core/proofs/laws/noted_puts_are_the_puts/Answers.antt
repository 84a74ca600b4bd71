use Rattle.raft_core.proofs.Origins.{noted_in_turn, raft_server_both, raft_server_front, raft_server_of_moves}
use Rattle.raft_core.proofs.laws.noted_puts_are_the_puts.Goals as goal

pub returns-clause-raft_server : goal.returns-clause-raft_server
returns-clause-raft_server c = λ members m n given p moves. raft_server_of_moves members m n given p moves

pub returns-clause-both : goal.returns-clause-both
returns-clause-both c = λ xs ys. raft_server_both xs ys

pub returns-clause-front : goal.returns-clause-front
returns-clause-front c = λ puts count. raft_server_front puts count

pub returns-clause-in_turn : goal.returns-clause-in_turn
returns-clause-in_turn c = λ members m n given p xs ys. noted_in_turn members m n given xs ys p
