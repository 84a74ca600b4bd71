use Rattle.raft_model.proofs.Stamps.{ledger_waits, ledger_cut}
use Rattle.raft_model.proofs.laws.law_ledger.Goals as goal

pub returns : goal.returns
returns c = record { waits = ledger_waits; cut = ledger_cut; leader = λ members member bag called server index comes. comes.0 }
