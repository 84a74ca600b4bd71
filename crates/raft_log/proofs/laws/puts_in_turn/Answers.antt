use Rattle.std.specs.Prelude.{None}
use Rattle.raft_log.proofs.AllowedPuts.{allowed_both, still_allowed}
use Rattle.raft_log.proofs.InTurn.{cut_short, fault_after, puts_after, unchanged, without_puts}
use Rattle.raft_log.proofs.laws.puts_in_turn.Goals as goal

pub returns-clause-nothing : goal.returns-clause-nothing
returns-clause-nothing g c = λ durable. without_puts durable (c.a_state_is_durable.ensures durable)

pub returns-clause-still : goal.returns-clause-still
returns-clause-still g c = unchanged

pub returns-clause-joined : goal.returns-clause-joined
returns-clause-joined g c = λ xs ys old mid new ok first keeps rest.
    puts_after None None xs ys old mid new ok first keeps (λ zs s allowed. still_allowed zs s _ allowed) rest

pub returns-clause-kept : goal.returns-clause-kept
returns-clause-kept g c = fault_after

pub returns-clause-cut_off : goal.returns-clause-cut_off
returns-clause-cut_off g c = λ xs ys old new first. cut_short None xs ys old new first

pub returns-clause-allowed : goal.returns-clause-allowed
returns-clause-allowed g c = λ xs ys state first rest. allowed_both xs ys state _ first rest
