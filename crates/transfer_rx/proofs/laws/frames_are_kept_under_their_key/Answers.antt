use Rattle.transfer_rx.proofs.Origin.{came, stepped}
use Rattle.transfer_rx.proofs.laws.frames_are_kept_under_their_key.Goals as goal

pub returns-clause-step : goal.returns-clause-step
returns-clause-step c = stepped

pub returns-clause-run : goal.returns-clause-run
returns-clause-run c = came
