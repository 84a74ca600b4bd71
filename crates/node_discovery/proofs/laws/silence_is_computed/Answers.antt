use Rattle.node_discovery.proofs.Silence.{silent_is}
use Rattle.node_discovery.proofs.laws.silence_is_computed.Goals as goal

pub returns-clause-is : goal.returns-clause-is
returns-clause-is c = silent_is
