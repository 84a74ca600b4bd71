use Rattle.alloc_spec.specs.Tick.{query_phase, record_phase}
use Rattle.alloc_spec.proofs.Delivering.{answer_more}
use Rattle.alloc_spec.proofs.Ends.{commit_more, ends_more, tell_and_call_more}
use Rattle.alloc_spec.proofs.Extending.{query_more, record_more, ticks_more}
use Rattle.alloc_spec.proofs.Extends.{and_more}
use Rattle.alloc_spec.proofs.laws.phases_add_puts.Goals as goal

pub returns : goal.returns
returns c = record {
  ticks = ticks_more;
  records = λ step g. and_more g (record_phase step g) (query_phase step (record_phase step g)) (record_more step g) (query_more step (record_phase step g));
  query = query_more;
  answers = answer_more;
  ends = ends_more;
  commit = commit_more;
  tell = tell_and_call_more;
}
