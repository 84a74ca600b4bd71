use Rattle.transfer_rx.specs.Reassembly.{arrival_of}
use Rattle.bus_world.proofs.Looking.{judged_as}
use Rattle.bus_world.proofs.member.Member.judge.Goals as goal

pub returns : goal.returns
returns g c = λ x stands.
    judged_as c.args.self.now.place.server x.status x.disk (arrival_of c.args.frame.now c.args.mark c.args.moment) c.judge.result
    stands.status.server c.judge.ensures.judged c.judge.ensures.failed
