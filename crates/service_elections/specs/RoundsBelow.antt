-- What the laws of rounds stand on, together: each field is what a law below says. It is a means of their proofs.
use Rattle.service_steps.specs.InTime.{NoCallIsOld}
use Rattle.service_calm.specs.CalmBelow.{IsSaid}
use Rattle.service_calm.specs.Calls.{CallsAreHeard, CallsReadAsSaid, CalmLeavesFollowers}
use Rattle.service_calm.specs.CallsInTime.{LeadersCallInTime}
use Rattle.service_leader.specs.Answers.{AnswersAreTaken, AnswersReadAsSaid, CallsAreAnswered}
use Rattle.service_leader.specs.CallsAsk.{CallsAskNext}
use Rattle.service_leader.specs.EntriesBelow.{EntryLaws}
use Rattle.service_leader.specs.NoElection.{NoElectionComes}
use Rattle.service_candidate.specs.ElectionsBelow.{WinLaws}
use Rattle.service_candidate.specs.Votes.{VoteRequestsReadAsSaid, VotesAreAnswered, VotesComeBack}
use Rattle.service_candidate.specs.Waits.{WaitsHaveReasons, WhoWaitsStands}

-- of who wins, with the calm and the elections; of what leaders call; and of who stands for election
pub record RoundGrounds : Type 0 where
  pub wins : WinLaws
  pub no_call_is_old : NoCallIsOld
  pub ask : CallsAskNext
  pub call : LeadersCallInTime
  pub follow : CalmLeavesFollowers
  pub hear : IsSaid CallsAreHeard
  pub calls_read : IsSaid CallsReadAsSaid
  pub calls_answered : CallsAreAnswered
  pub answers_read : IsSaid AnswersReadAsSaid
  pub answers_taken : AnswersAreTaken
  pub comes : IsSaid NoElectionComes
  pub entries : IsSaid EntryLaws
  pub requests_read : IsSaid VoteRequestsReadAsSaid
  pub votes_answered : VotesAreAnswered
  pub come_back : IsSaid VotesComeBack
  pub reasons : IsSaid WaitsHaveReasons
  pub in_time : IsSaid WhoWaitsStands
