use Rattle.raft_log.specs.DurableViews.{durable_state}
use Rattle.store_tests.proofs.member.Member.open.Goals as goal

pub invariant_of-result : goal.invariant_of-result
invariant_of-result c = record {
  sized = c.new-raft.ensures.size;
  fits = c.new-raft.ensures.fits (durable_state c.args.durable);
}
