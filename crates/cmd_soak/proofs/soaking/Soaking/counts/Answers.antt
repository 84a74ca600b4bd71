use Rattle.cmd_soak.proofs.Counting.{counts_are}
use Rattle.cmd_soak.proofs.soaking.Soaking.counts.Goals as goal

pub returns : goal.returns
returns g c = λ s is.
    counts_are c.args.rounds c.args.size s c.frames.result c.args.self.now.stops c.args.self.now.refused c.pairs.result (c.frames.ensures.count s is)
    is.stops is.refused (c.pairs.ensures s.world is.world)
