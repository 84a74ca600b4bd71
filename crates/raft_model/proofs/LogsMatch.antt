-- Logs agree up to an entry of one term at one place: the facts Matching and Asked.
use Rattle.std.proofs.Common.{ℕ}
use Rattle.raft_model.specs.Invariants.{LogsMatch}
use Rattle.raft_model.proofs.Micro.{State}
use Rattle.raft_model.proofs.Facts.{Facts}
use Rattle.raft_model.proofs.Bridge.{world_of}

pub logs_shown : (z : State) (n : ℕ) → Facts z → LogsMatch (world_of z n)
logs_shown z n f = record {
  logs = f.matching.logs;
  candidacies = f.matching.stood;
  voters = f.matching.voted;
  lists = f.matching.lists;
  previous = λ r i k. let x = f.asked.append r (f.posted.request r i) k in (x.0, x.2, x.3);
  entry = λ r e i k h. f.asked.entry r e (f.posted.request r i) k h;
}
