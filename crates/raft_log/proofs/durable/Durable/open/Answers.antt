use Rattle.std.proofs.Common.{ap, subst, ◌∙◌}
use Rattle.raft_log.specs.Rules.{IsDamagedAt}
use Rattle.raft_log.proofs.durable.Durable.open.Goals as goal

pub returns-in-Err-clause-damaged : goal.returns-in-Err-clause-damaged
returns-in-Err-clause-damaged g c = λ key is told.
    subst (λ (disk : g.row.D.Denot). IsDamagedAt (g.D.Disk.contents disk).seen key) c.closed-durable.ensures.disk
    (c.in-Err.ensures.damaged key is (ap g.D.Disk.tells c.closed-durable.ensures.disk ∙ told))
