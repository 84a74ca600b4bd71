use Rattle.disk_model.proofs.Turns.{joined, cut_off, parted}
use Rattle.disk_model.proofs.laws.device_calls_in_turn.Goals as goal

pub returns-clause-joined : goal.returns-clause-joined
returns-clause-joined g c = joined g.D.Disk.does

pub returns-clause-cut_off : goal.returns-clause-cut_off
returns-clause-cut_off g c = cut_off g.D.Disk.does

pub returns-clause-parted : goal.returns-clause-parted
returns-clause-parted g c = parted g.D.Disk.does
