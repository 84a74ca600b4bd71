use Rattle.std.proofs.Common.{rules, [], ◌∷◌}
use Rattle.std.specs.Prelude.{None}
use Rattle.raft_log.specs.Stored.Put.{PutTerm, PutVote}
use Rattle.raft_log.proofs.InTurn.{cut_by, puts_after}
use Rattle.raft_log.proofs.durable.Durable.set_term.Goals as goal

pub returns-in_err-make-clause-puts : goal.returns-in_err-make-clause-puts
returns-in_err-make-clause-puts g c = cut_by None (PutTerm c.args.term ∷ []) (PutVote 0 ∷ []) c.args.self.now _ _ c.in_err-make.field-0.0 (search rules) c.in_err-make.ensures.puts

pub returns-clause-puts : goal.returns-clause-puts
returns-clause-puts g c =
    puts_after None None (PutTerm c.args.term ∷ []) (PutVote 0 ∷ []) c.args.self.now _ _ _ c.in_ok-make.ensures.puts (λ works. c.in_ok-make.ensures.fault) (λ zs s allowed. allowed) c.make-2.ensures.puts
