-- What the laws of elections stand on, together: each field is what a law says. It is a means of their proofs.
use Rattle.std.specs.Prelude.{◌≡◌, ◌⊎◌, ◌≤◌, ℕ, Bool, true, List}
use Rattle.raft_model.specs.Decisions.{grants}
use Rattle.raft_model.specs.Lists.{In, how_many}
use Rattle.raft_model.specs.Members.{IsAll}
use Rattle.raft_model.specs.Messages.{Request}
use Rattle.raft_model.specs.Moves.Elections.{IsGranted}
use Rattle.raft_model.specs.Server.{Store}
use Rattle.bus_rows.specs.declared.row.Row.{Row}
use Rattle.alloc_spec.specs.AllocatorState.{knows_all, members_of}
use Rattle.alloc_spec.specs.Rules.{IsToldAll, Rules, opening_by}
use Rattle.service_steps.specs.InTime.{FramesLeaveFollowers, StaysFollower, WaitsAnew}
use Rattle.service_candidate.specs.Terms.{TermsDoNotFall, TermsStay, VotesStayFree}
use Rattle.service_candidate.specs.Votes.{CandidatesStay, StandingAsks, VoteAnswersReadAsSaid, VotesAreTaken, WaitsOnForVotes}
use Rattle.service_candidate.specs.Waits.{WaitsBeginThen}
use Rattle.service_calm.specs.CalmBelow.{CalmGrounds, IsSaid}
use Rattle.service_calm.specs.Calls.{ListsStay}

-- of a calm, and of members
pub record ElectionLaws : Type 0 where
  pub calm : CalmGrounds
  pub leave : FramesLeaveFollowers
  pub opening : (me : ℕ) (rules : Rules) (store : Store) (now word node : ℕ) → In node (members_of (opening_by me rules store now word))
      → (node ≡ me) ⊎ In node rules.told
  pub all : (me : ℕ) (rules : Rules) (store : Store) (now word : ℕ) → 1 ≤ me → IsToldAll me rules
      → knows_all (opening_by me rules store now word) ≡ true
  pub count : (list members : List ℕ) (test : ℕ → Bool) → IsAll list members → how_many test list ≡ how_many test members

-- what the laws of who wins stand on: of steps, and of elections
pub record WinLaws : Type 0 where
  pub election : ElectionLaws
  pub ticks : StaysFollower
  pub hears_anew : WaitsAnew
  pub stay : ListsStay
  pub granted : (store : Store) (request : Request) → IsGranted store request (grants store request)
  pub taken : VotesAreTaken
  pub asked : IsSaid StandingAsks
  pub waits_on : IsSaid WaitsOnForVotes
  pub candidates : (ids : List ℕ) (rows : List Row) → CandidatesStay ids rows
  pub answers_read : IsSaid VoteAnswersReadAsSaid
  pub begin : IsSaid WaitsBeginThen
  pub terms : IsSaid TermsStay
  pub rise : (ids : List ℕ) (rows : List Row) → TermsDoNotFall ids rows
  pub free : IsSaid VotesStayFree
