use Rattle.alloc_spec_laws.proofs.AnsweredRequests.{responses_answer}
use Rattle.alloc_spec_laws.proofs.laws.responses_answer_what_was_delivered.Goals as goal

pub returns : goal.returns
returns c = λ t number event. responses_answer t number event c.deliveries_are_whole_transfers.ensures
