use Rattle.alloc_spec_laws.proofs.RecordedUids.{opening_has, step_records}
use Rattle.alloc_spec_laws.proofs.laws.proposals_of_a_step.Goals as goal

pub returns : goal.returns
returns c = record {
  uids = λ t number event has. (step_records t number event has).uids;
  keeps = λ t number event has. (step_records t number event has).watch;
  opening = opening_has;
  popped = λ t has. has;
}
