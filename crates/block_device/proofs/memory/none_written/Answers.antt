use Rattle.std.proofs.Common.{false}
use Rattle.disk_model.proofs.Unmarked.{all_same}
use Rattle.block_device.proofs.memory.none_written.Goals as goal

pub returns-clause-none : goal.returns-clause-none
returns-clause-none c = λ block. all_same 4 block false
