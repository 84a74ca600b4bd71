use Rattle.alloc_spec_laws.proofs.CommittedPairs.{commit_stays_inside, offers_are_committed, pairs_are_committed}
use Rattle.alloc_spec_laws.proofs.laws.pairs_of_a_step.Goals as goal

pub returns : goal.returns
returns c = record {
  offered = offers_are_committed c.law_decisions.ensures.judged;
  committed = pairs_are_committed c.law_decisions.ensures.judged;
  inside = commit_stays_inside c.law_decisions.ensures.judged;
}
