use Rattle.std.proofs.Common.{arith, below_more}
use Rattle.transfer_tx.proofs.Order.{id_at-map}
use Rattle.transfer_tx.proofs.sender.place_for.Goals as goal

pub loop-place-preserved : goal.loop-place-preserved
loop-place-preserved c =
    let here = id_at-map c.args.frames.now c.loop-place.place c.index-frames-place.result c.loop-place-test.true c.index-frames-place.is in
    below_more _ c.loop-place.place c.loop-place.invariant (omega arith)
