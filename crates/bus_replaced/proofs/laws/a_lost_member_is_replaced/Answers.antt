use Rattle.bus_spec.specs.Cluster.{cluster}
use Rattle.bus_replaced.specs.Worked.{three, worked}
use Rattle.bus_replaced.proofs.Tested.{come_if}
use Rattle.bus_replaced.proofs.WorkedComputed.{agreed, copied, held, list_is, old_vote, tested}
use Rattle.bus_replaced.proofs.laws.a_lost_member_is_replaced.Goals as goal

pub returns : goal.returns
returns c = record {
  trace = come_if worked 0 (cluster three) tested;
  agrees = agreed;
  held = held;
  list = list_is;
  copied = copied;
  old = old_vote;
}
