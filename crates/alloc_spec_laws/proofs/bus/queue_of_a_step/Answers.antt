use Rattle.alloc_spec_laws.proofs.QueueContents.{waits}
use Rattle.alloc_spec_laws.proofs.bus.queue_of_a_step.Goals as goal

pub returns : goal.returns
returns c = waits
