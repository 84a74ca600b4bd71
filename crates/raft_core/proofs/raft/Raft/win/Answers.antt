use Rattle.std.proofs.Common.{rules, ◌≡◌, ◌+◌, [], length, replicate, refl, ap}
use Rattle.raft_log.specs.DurableViews.{durable_state}
use Rattle.raft_core.specs.Peers.{fresh}
use Rattle.raft_core.proofs.Winning.{won_fits, won_stands}
use Rattle.raft_core.proofs.CallTimes.{same_since}
use Rattle.raft_core.proofs.raft.Raft.win.Goals as goal

pub returns-clause-stands : goal.returns-clause-stands
returns-clause-stands g c = λ members p t st.
    let fresh_peers : c.new-self.result ≡ fresh (length (durable_state c.args.d.now).log + 1) = search rules in
    let told : c.commit-self.result ≡ (durable_state c.args.d.now).commit = search rules in
    won_stands c.args.self.now _ members (durable_state c.args.d.now) refl (ap (replicate 128) fresh_peers) told p t st c.requires.role refl refl refl refl

pub returns-clause-fits : goal.returns-clause-fits
returns-clause-fits g c =
    let fresh_peers : c.new-self.result ≡ fresh (length (durable_state c.args.d.now).log + 1) = search rules in
    let told : c.commit-self.result ≡ (durable_state c.args.d.now).commit = search rules in
    won_fits c.args.self.now _ [] (durable_state c.args.d.now) refl (ap (replicate 128) fresh_peers) told c.requires.fits c.requires.role refl

pub invariant_of-self-clause-young : goal.invariant_of-self-clause-young
invariant_of-self-clause-young g c = same_since _ 128 c.new-self.result (ap (λ peer. peer.call) c.new-self.ensures)
