use Rattle.alloc_spec_laws.proofs.Transfers.{apart, few, one_by_name}
use Rattle.alloc_spec_laws.proofs.laws.transfers_of_a_step_are_apart.Goals as goal

pub returns : goal.returns
returns c = record { apart = apart; one = one_by_name; few = few }
