use Rattle.node_discovery.proofs.Silence.{also_since_answer}
use Rattle.node_discovery.proofs.laws.an_answer_alone_forgets.Goals as goal

pub returns-clause-more : goal.returns-clause-more
returns-clause-more c = also_since_answer
