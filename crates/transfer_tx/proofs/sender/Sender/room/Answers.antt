use Rattle.std.proofs.Common.{arith, ap, length, map}
use Rattle.std.proofs.lemmas.List.{length-map}
use Rattle.transfer_tx.specs.Views.{queued_of}
use Rattle.transfer_tx.proofs.Kept.{length-in_order}
use Rattle.transfer_tx.proofs.sender.Sender.room.Goals as goal

pub returns : goal.returns
returns g c = omega (
  arith,
  c.remaining_capacity.ensures,
  ap length c.self.view_is,
  length-in_order (map queued_of c.self.inside.frames.items) c.self.inside.earlier.items,
  length-map c.self.inside.frames.items queued_of,
)
