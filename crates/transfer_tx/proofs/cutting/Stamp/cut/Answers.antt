use Rattle.std.proofs.Common.{◌∙◌, arith}
use Rattle.transfer_tx.proofs.Cuts.{one_more}
use Rattle.transfer_tx.proofs.cutting.Stamp.cut.Goals as goal

pub loop-rest-preserved : goal.loop-rest-preserved
loop-rest-preserved g c = record {
  size = omega arith;
  room = omega arith;
  frames =
      one_more c.args.self.now.id c.args.self.now.step c.args.self.now.re c.args.self.now.transfer_id c.loop-rest.place
      c.loop-rest.rest.now c.split_at.result.0.now c.split_at.result.1.now c.loop-rest.queue c.put.new.self c.frame.result
      c.loop-rest-test.true c.split_at.ensures.front c.split_at.ensures.back c.put.ensures.frames c.frame.ensures
      ∙ c.loop-rest.invariant.frames;
}
