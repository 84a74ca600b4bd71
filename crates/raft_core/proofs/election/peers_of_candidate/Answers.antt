use Rattle.std.proofs.Common.{replicate, ap, ◌∙◌}
use Rattle.std.specs.Prelude.{slice_set}
use Rattle.raft_core.specs.Peers.{fresh}
use Rattle.raft_core.proofs.election.peers_of_candidate.Goals as goal

pub returns : goal.returns
returns c = ap (λ x. slice_set (replicate 128 x) c.args.me c.voter.result) c.new-peers.ensures ∙ ap (λ x. slice_set (replicate 128 (fresh 1)) c.args.me x) c.voter.ensures
