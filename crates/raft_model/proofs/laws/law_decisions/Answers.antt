use Rattle.raft_model.proofs.Decisions.{granted, one_grant, judged, proposal, commit, one_commit, no_commit}
use Rattle.raft_model.proofs.Verdicts.{one_verdict}
use Rattle.raft_model.proofs.laws.law_decisions.Goals as goal

pub returns : goal.returns
returns c = record {
  granted = granted;
  one_grant = one_grant;
  judged = judged;
  one_verdict = one_verdict;
  proposal = proposal;
  commit = commit;
  one_commit = one_commit;
  no_commit = no_commit;
}
