use Rattle.alloc_spec_laws.proofs.StepMessages.{all_say}
use Rattle.alloc_spec_laws.proofs.laws.what_transfers_say.Goals as goal

pub returns : goal.returns
returns c = all_say
