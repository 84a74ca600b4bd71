use Rattle.cmd_soak.proofs.Faultless.{runs_as_shown}
use Rattle.cmd_soak.proofs.laws.members_that_run_are_shown.Goals as goal

pub returns : goal.returns
returns c = runs_as_shown
