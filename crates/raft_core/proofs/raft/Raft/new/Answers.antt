use Rattle.std.proofs.Common.{replicate, refl, ap}
use Rattle.raft_core.proofs.Winning.{opened_stands}
use Rattle.raft_core.proofs.CallTimes.{same_since}
use Rattle.raft_core.proofs.raft.Raft.new.Goals as goal

pub returns-clause-stands : goal.returns-clause-stands
returns-clause-stands c = λ members state. opened_stands _ members state c.args.now c.args.word refl refl refl refl refl (ap (replicate 128) c.new-2.ensures)

pub invariant_of-result-clause-young : goal.invariant_of-result-clause-young
invariant_of-result-clause-young c = same_since _ 128 c.new-2.result (ap (λ peer. peer.call) c.new-2.ensures)
