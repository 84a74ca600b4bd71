use Rattle.std.proofs.Common.{ℕ, ◌<◌, map}
use Rattle.transfer_tx.specs.Queue.{id_at}
use Rattle.transfer_tx.specs.Views.{queued_of}
use Rattle.transfer_tx.proofs.sender.place_for.Given as goal

abbrev pub invariant-loop-place : goal.invariant-loop-place
invariant-loop-place l = (k : ℕ) → k < l.place → l.id < id_at (map queued_of l.frames) k
