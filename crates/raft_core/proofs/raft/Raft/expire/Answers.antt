use Rattle.std.proofs.Common.{rules, refl}
use Rattle.raft_core.specs.Times.{given_at}
use Rattle.raft_core.proofs.Expiring.{expired_stands}
use Rattle.raft_core.proofs.CallTimes.{young_expired}
use Rattle.raft_core.proofs.raft.Raft.expire.Goals as goal

pub returns-clause-moves : goal.returns-clause-moves
returns-clause-moves c = λ members n state p t st nodes listed.
    expired_stands members c.args.now state p t c.args.self.now _ nodes st listed refl refl refl refl refl refl (λ q d below. search (rules, c.loop-peer.invariant.before q d))
    c.args.self.now.me n (given_at c.args.now)

pub returns-then-saturating_sub-lt-CALL_TIMEOUT-clause-moves : goal.returns-then-saturating_sub-lt-CALL_TIMEOUT-clause-moves
returns-then-saturating_sub-lt-CALL_TIMEOUT-clause-moves c = λ members n state p t st nodes listed.
    expired_stands members c.args.now state p t c.args.self.now _ nodes st listed refl refl refl refl refl refl
    (λ q d below. young_expired c.args.now c.args.self.now.calls_since c.args.self.now.peers q d (search rules) (search rules) (search rules))
    c.args.self.now.me n (given_at c.args.now)
