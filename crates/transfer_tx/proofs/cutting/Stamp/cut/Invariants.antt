use Rattle.std.proofs.Common.{◌≡◌, ◌+◌, ◌-◌, ◌*◌, ◌/◌, ◌<◌, ◌≤◌, ◌++◌, length}
use Rattle.can_frame.specs.Cutting.{cut}
use Rattle.transfer_tx.specs.Queue.{marked}
use Rattle.transfer_tx.proofs.cutting.Stamp.cut.Given as goal

abbrev pub invariant-loop-rest : goal.invariant-loop-rest
invariant-loop-rest g l = record {
  size : 7 * l.place + length l.rest ≤ 378;
  room : length l.queue + (length l.rest - 1) / 7 < g.row.Q;
  frames : l.queue ++ marked l.self.id l.self.step l.self.re l.place (cut l.self.transfer_id l.place ((length l.rest - 1) / 7) l.rest)
      ≡ l.fn.queue ++ marked l.self.id l.self.step l.self.re 0 (cut l.self.transfer_id 0 ((length l.bytes - 1) / 7) l.bytes);
}

abbrev pub decreases-loop-rest : goal.decreases-loop-rest
decreases-loop-rest g l = length l.rest
