-- What is given of a calm: the calm itself, and the laws that its rounds stand on.
use Rattle.std.proofs.Common.{◌≡◌, ◌≢◌, ℕ, ◌+◌, ◌<◌, ◌≤◌, true, List, length, max}
use Rattle.std.specs.Prelude.{◌⊎◌}
use Rattle.can_frame.specs.Timing.{election_wait}
use Rattle.raft_core.specs.Times.{wait}
use Rattle.raft_model.specs.Decisions.{grants}
use Rattle.raft_model.specs.Lists.{In}
use Rattle.raft_model.specs.Messages.{Request}
use Rattle.raft_model.specs.Moves.Elections.{IsGranted}
use Rattle.raft_model.specs.Server.{Store}
use Rattle.raft_model.specs.Server.Role.{Follower, Leader}
use Rattle.bus_rows.specs.declared.row.Row.{Row}
use Rattle.alloc_spec.specs.AllocatorState.{AllocatorState, knows_all, members_of}
use Rattle.alloc_spec.specs.Step.{Event, step}
use Rattle.service_steps.specs.InTime.{FramesLeaveFollowers}
use Rattle.bus_rows.specs.Timed.{Timed}
use Rattle.service_alone.specs.Calm.{Pace, end_of}
use Rattle.service_calm.specs.Calls.{ListsStay}
use Rattle.service_calm.specs.Calm.{AreCalm, IsRunning, Member as OfMember, Party, Traffic}
use Rattle.service_calm.specs.Comes.{Throughout}
use Rattle.service_candidate.specs.Terms.{TermsDoNotFall, TermsStay, VotesStayFree}
use Rattle.service_candidate.specs.Votes.{HearsAppend, IsAsStanding, Stands, VotesComeBack}
use Rattle.service_candidate.specs.Waits.{GivesVote, HasTermLeft, StandsBy, WaitsAnew}
use Rattle.service_elections.specs.Rounds.{WhoIsFurthestWins, WhoWinsAtTheTop}
use Rattle.service_elections.specs.Running.{IsCalmOf}
use Rattle.service_elections.specs.Sent.{WhoAsksStands, WhoHearsWasCalled, WhoVotesWasAsked, WhoWinsHasAsked}
use Rattle.bus_spec.specs.Cluster.{Cluster, after_rows, world_of}
use Rattle.bus_spec.specs.Lawful.{DoNoHarm, DoesNoHarm}
use Rattle.bus_spec.specs.Members.MemberStatus.{Up}

-- what is said of a row, in the world before it, and of the servers there
pub record RowFacts (ids : List ℕ) (w : Cluster) : Type 0 where
  pub asked : (n term : ℕ) (row : Row) → In n ids → DoesNoHarm w row → (s : Stands n term w row) → IsAsStanding n term w row s
  pub begin : (m : ℕ) (row : Row) → In m ids → DoesNoHarm w row → ((anew : WaitsAnew m w row) → anew.after.times.since ≡ anew.after.now)
      × ((term : ℕ) (s : Stands m term w row) → s.before.times.since + election_wait ≤ max s.before.now s.ms)
  pub reasons : (m : ℕ) (row : Row) → In m ids → 2 ≤ length ids → DoesNoHarm w row → (anew : WaitsAnew m w row)
      → HearsAppend m w row ⊎ (((anew.before.raft_server.memory.role ≢ Follower) × (anew.after.raft_server.memory.role ≡ Follower)) ⊎ GivesVote m w row)
  pub me : (p : ℕ) (t : AllocatorState) → In p ids → (w.member p).status ≡ Up t → t.me ≡ p
  pub sizes : (p : ℕ) (t : AllocatorState) → In p ids → (w.member p).status ≡ Up t → t.size ≡ length ids
  pub past : (p : ℕ) (t : AllocatorState) → In p ids → (w.member p).status ≡ Up t → t.times.since ≤ t.now
  pub stands_in_time : (group : List Party) (clocks : Party → ℕ) (pace : Pace) (traffic : Traffic) (m due : ℕ) (whole : List Timed) → (running : IsRunning m w)
      → In m ids → In (OfMember m) group → 2 ≤ length ids → knows_all running.server ≡ true → running.server.raft_server.memory.role ≢ Leader
      → Throughout (HasTermLeft m) w whole → AreCalm group clocks pace traffic w whole
      → running.server.times.since + wait running.server.times.word ≤ due + clocks (OfMember m)
      → traffic.at ≤ due → traffic.ticked (OfMember m) ≤ due → due + pace.period < end_of traffic.at whole
      → StandsBy m (due + pace.period) w whole

-- the laws
pub record Given (ids : List ℕ) (rows : List Row) : Type 0 where
  pub row_facts : (more : List Row) → DoNoHarm (world_of ids rows) more → RowFacts ids (after_rows (world_of ids rows) more)
  pub keeps_size : (t : AllocatorState) (number : ℕ) (event : Event) → (step t number event).step_state.allocator.size ≡ t.size
  pub complete : (t : AllocatorState) (number : ℕ) (event : Event) → knows_all t ≡ true → members_of (step t number event).step_state.allocator ≡ members_of t
  pub frames_leave : FramesLeaveFollowers
  pub granted : (store : Store) (request : Request) → IsGranted store request (grants store request)
  pub terms : TermsStay ids rows
  pub rise : TermsDoNotFall ids rows
  pub free : VotesStayFree ids rows
  pub come_back : VotesComeBack ids rows
  pub lists_stay : ListsStay
  pub asks : WhoAsksStands ids rows
  pub wins_asked : WhoWinsHasAsked ids rows
  pub votes_asked : WhoVotesWasAsked ids rows
  pub hears_called : WhoHearsWasCalled ids rows
  pub furthest_wins : WhoIsFurthestWins ids rows
  pub top_wins : WhoWinsAtTheTop ids rows

-- a calm, and the laws
pub record Ground : Type 0 where
  pub ids : List ℕ
  pub rows : List Row
  pub given : Given ids rows
  pub group : List Party
  pub clocks : Party → ℕ
  pub pace : Pace
  pub start : ℕ
  pub whole : List Timed
  pub calm : IsCalmOf ids rows group clocks pace start whole
