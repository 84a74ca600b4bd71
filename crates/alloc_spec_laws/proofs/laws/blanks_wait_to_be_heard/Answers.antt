use Rattle.alloc_spec_laws.proofs.LeadersBlanks.{blank_is_added, goes_on_to_wait, told_waits}
use Rattle.alloc_spec_laws.proofs.laws.blanks_wait_to_be_heard.Goals as goal

pub returns : goal.returns
returns c = record { opening = told_waits; kept = goes_on_to_wait; added = blank_is_added c.chosen_is_the_choice.ensures.is }
