use Rattle.raft_log.proofs.Entries.{spelled}
use Rattle.raft_log.proofs.values.write_entry.Goals as goal

pub returns-clause-again : goal.returns-clause-again
returns-clause-again c = spelled _ _ _ _ c.copy_from_slice.new.self c.args.entry.now c.args.origin c.write_term.ensures.again c.copy_from_slice.ensures.after c.copy_from_slice.ensures.len c.requires
