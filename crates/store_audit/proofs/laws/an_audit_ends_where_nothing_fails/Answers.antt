use Rattle.store_audit.proofs.Once.{nothing_fails}
use Rattle.store_audit.proofs.laws.an_audit_ends_where_nothing_fails.Goals as goal

pub returns : goal.returns
returns g c = λ ids disks new before now status audits. nothing_fails g.D.Disk ids disks new before now status audits
