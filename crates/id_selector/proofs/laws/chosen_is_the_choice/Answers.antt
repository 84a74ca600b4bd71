use Rattle.id_selector.specs.Choice.{chosen}
use Rattle.id_selector.proofs.OneChoice.{is_choice, one}
use Rattle.id_selector.proofs.laws.chosen_is_the_choice.Goals as goal

pub returns-clause-is : goal.returns-clause-is
returns-clause-is c = is_choice

pub returns-clause-only : goal.returns-clause-only
returns-clause-only c = λ taken preferred other h. one taken preferred other (chosen taken preferred) h (is_choice taken preferred)
