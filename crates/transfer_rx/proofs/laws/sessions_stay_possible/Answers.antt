use Rattle.transfer_rx.proofs.Soundness.{stay_possible}
use Rattle.transfer_rx.proofs.laws.sessions_stay_possible.Goals as goal

pub returns-clause-step : goal.returns-clause-step
returns-clause-step c = stay_possible
