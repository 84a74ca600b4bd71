use Rattle.std.specs.Prelude.{◌<◌}
use Rattle.std.proofs.Common.{◌∙◌, arith}
use Rattle.raft_core.specs.RaftViews.{raft_told}
use Rattle.raft_log.specs.DurableViews.{durable_state}
use Rattle.store_tests.proofs.member.Member.told.Goals as goal

pub invariant_of-result : goal.invariant_of-result
invariant_of-result c =
    let next = c.requires.next in
    let below : raft_told c.args.self.raft < (durable_state c.args.self.durable).commit = omega (arith, next.next, next.committed) in
    record {
      sized = c.told.ensures.size ∙ c.args.self.sized;
      fits = c.told.ensures.fits (durable_state c.args.self.durable) c.args.self.fits below;
    }
