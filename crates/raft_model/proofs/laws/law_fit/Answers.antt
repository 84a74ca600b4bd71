use Rattle.raft_model.proofs.Finished.{run_fit}
use Rattle.raft_model.proofs.Fit.{fit_after, opens_fit}
use Rattle.raft_model.proofs.laws.law_fit.Goals as goal

pub returns : goal.returns
returns c = record { opened = opens_fit; kept = fit_after; run = run_fit }
