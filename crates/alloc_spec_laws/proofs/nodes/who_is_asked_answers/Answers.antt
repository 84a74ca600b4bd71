use Rattle.alloc_spec_laws.proofs.Answering.{answers_requests}
use Rattle.alloc_spec_laws.proofs.nodes.who_is_asked_answers.Goals as goal

pub returns : goal.returns
returns c = answers_requests
