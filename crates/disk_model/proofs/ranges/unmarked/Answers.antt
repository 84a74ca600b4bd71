use Rattle.std.proofs.Common.{false}
use Rattle.disk_model.proofs.Unmarked.{all_same}
use Rattle.disk_model.proofs.ranges.unmarked.Goals as goal

pub returns : goal.returns
returns c = λ i. all_same 8844 i false
