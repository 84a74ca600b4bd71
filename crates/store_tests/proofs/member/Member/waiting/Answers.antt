use Rattle.std.proofs.Common.{◌∙◌}
use Rattle.raft_log.specs.DurableViews.{durable_state}
use Rattle.store_tests.proofs.member.Member.waiting.Goals as goal

pub invariant_of-result : goal.invariant_of-result
invariant_of-result c = record {
  sized = c.wait_until_heard.ensures.size ∙ c.args.self.sized;
  fits = c.wait_until_heard.ensures.fits (durable_state c.args.self.durable) c.args.self.fits;
}
