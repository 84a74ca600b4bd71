use Rattle.raft_replaced.proofs.Run.{is_safe, keeps_invariants, lasts}
use Rattle.raft_replaced.proofs.laws.law_replacements.Goals as goal

pub returns : goal.returns
returns c = record { invariants = keeps_invariants; safe = is_safe; lasts = lasts }
