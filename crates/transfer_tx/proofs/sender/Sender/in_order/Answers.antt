use Rattle.std.proofs.Common.{map, reverse, ◌∙◌, ap}
use Rattle.transfer_tx.specs.Queue.{in_order_of_going}
use Rattle.transfer_tx.specs.Views.{queued_of}
use Rattle.transfer_tx.proofs.Kept.{kept_in_order}
use Rattle.transfer_tx.proofs.sender.Sender.in_order.Goals as goal

pub returns : goal.returns
returns g c =
    ap (map queued_of) c.as_slice.ensures.value
    ∙ kept_in_order g.row.Q (map queued_of c.self.inside.frames.items) c.self.inside.earlier.items c.self.invariant
    ∙ ap (λ queued. reverse (in_order_of_going queued)) c.self.view_is
