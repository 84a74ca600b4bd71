use Rattle.alloc_spec_laws.proofs.RunningServers.{stays_up}
use Rattle.alloc_spec_laws.proofs.bus.a_step_leaves_the_server_up.Goals as goal

pub returns : goal.returns
returns c = stays_up
