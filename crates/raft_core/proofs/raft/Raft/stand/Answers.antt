use Rattle.std.proofs.Common.{rules, refl}
use Rattle.raft_log.specs.DurableViews.{durable_state}
use Rattle.raft_core.specs.Times.{given_tick}
use Rattle.raft_core.proofs.Puts.{fails}
use Rattle.raft_core.proofs.Standing.{all_numbered, stood_stands}
use Rattle.raft_core.proofs.CallTimes.{candidate_since}
use Rattle.raft_core.proofs.raft.Raft.stand.Goals as goal

pub returns-in_err-vote_for_itself-clause-puts : goal.returns-in_err-vote_for_itself-clause-puts
returns-in_err-vote_for_itself-clause-puts g c = λ origin. fails _ c.args.d.now _ c.in_err-vote_for_itself.field-0.0 _ (search rules) (c.in_err-vote_for_itself.ensures.puts origin)

pub returns-clause-stands : goal.returns-clause-stands
returns-clause-stands g c = λ members p t st.
    stood_stands c.args.self.now _ members c.args.peers.now (durable_state c.args.d.now) _ p t (given_tick c.args.now c.args.word) st (search rules) (search rules) refl refl refl refl refl c.all_members-self.ensures.items c.peers_of_candidate-self.ensures c.in_ok-vote_for_itself.ensures.state

pub invariant_of-self-clause-young : goal.invariant_of-self-clause-young
invariant_of-self-clause-young g c = candidate_since _ c.args.self.now.me c.peers_of_candidate-self.result (search rules) c.peers_of_candidate-self.ensures

pub invariant_of-self-clause-numbered : goal.invariant_of-self-clause-numbered
invariant_of-self-clause-numbered g c =
    all_numbered c.args.self.now.me c.args.peers.now c.all_members-self.result.items c.all_members-self.ensures.items (search rules) c.requires.peers
