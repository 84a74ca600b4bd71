use Rattle.disk_model.proofs.Uncounted.{uncounted}
use Rattle.disk_model.proofs.laws.calls_that_succeed_count_no_fault.Goals as goal

pub returns : goal.returns
returns g c = uncounted g.D.Disk.does g.D.Disk.faults g.met.D.Disk.counts
