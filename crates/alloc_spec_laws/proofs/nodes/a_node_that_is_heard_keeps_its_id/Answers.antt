use Rattle.alloc_spec_laws.proofs.Answering.{status_heard}
use Rattle.alloc_spec_laws.proofs.FreeNodes.{step_gives}
use Rattle.alloc_spec_laws.proofs.nodes.a_node_that_is_heard_keeps_its_id.Goals as goal

pub returns : goal.returns
returns c = record { free = step_gives c.chosen_is_the_choice.ensures.is; heard = status_heard }
