use Rattle.std.proofs.Common.{rules}
use Rattle.raft_log.specs.declared.origin.TheConstants.{LEADER}
use Rattle.raft_log.specs.DurableViews.{durable_state}
use Rattle.raft_core.proofs.Puts.{none_made}
use Rattle.raft_core.proofs.VoteRequest.{no_vote}
use Rattle.raft_core.proofs.votes.vote.Goals as goal

pub returns-else-vote-eq0-clause-puts : goal.returns-else-vote-eq0-clause-puts
returns-else-vote-eq0-clause-puts g c =
    none_made LEADER _ c.args.d.now _ (no_vote (durable_state c.args.d.now).vote c.args.node (λ none. search (rules, none))) (c.puts_in_turn.ensures.nothing c.args.d.now)
