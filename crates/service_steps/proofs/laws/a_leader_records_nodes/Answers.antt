use Rattle.service_steps.proofs.Recording.{records_nodes, records_silent_nodes}
use Rattle.service_steps.proofs.laws.a_leader_records_nodes.Goals as goal

pub returns : goal.returns
returns c = record { candidates = records_nodes; silent = records_silent_nodes c.silence_is_computed.ensures.only }
