-- The laws below are what the rounds of a calm stand on.
use Rattle.std.proofs.Common.{◌≡◌, ℕ, ◌≤◌, arith, List, [], ◌∷◌, ◌++◌, refl, subst, inl, inr}
use Rattle.raft_model.specs.Server.{Store}
use Rattle.bus_rows.specs.declared.row.Row.{Row}
use Rattle.raft_core.specs.Times.{Times}
use Rattle.alloc_spec.specs.AllocatorState.{AllocatorState, opening}
use Rattle.alloc_spec.specs.Rules.{Rules, opening_by, times_with}
use Rattle.alloc_spec.specs.Step.{Event, step}
use Rattle.alloc_spec.specs.Step.Event.{Rx, Tick}
use Rattle.service_calm.proofs.Counting.{now_after}
use Rattle.service_calm.proofs.EachServer.{in_each}
use Rattle.service_leader.proofs.Stretches.{harmless_both}
use Rattle.service_calm.proofs.Grounds.{its_node}
use Rattle.service_candidate.proofs.WaitsFrames.{frame_leaves}
use Rattle.service_candidate.proofs.WaitsTicks.{tick_leaves}
use Rattle.service_candidate.proofs.WinsGrounds.{rows_join}
use Rattle.service_elections.specs.RoundsBelow.{RoundGrounds}
use Rattle.service_elections.specs.Rounds.{WhoIsFurthestWins, WhoWinsAtTheTop}
use Rattle.service_elections.specs.Sent.{WhoAsksStands, WhoHearsWasCalled, WhoVotesWasAsked, WhoWinsHasAsked}
use Rattle.service_elections.proofs.InStepGiven.{Given, RowFacts}
use Rattle.alloc_spec.specs.ClusterMembers.{AreMembers}
use Rattle.bus_spec.specs.Cluster.{cluster, world_of}
use Rattle.bus_spec.specs.Lawful.{DoNoHarm}
use Rattle.bus_spec.specs.Members.MemberStatus.{Up}

-- ---- a wait began in the past

abbrev IsPast : AllocatorState → Type 0
IsPast t = t.times.since ≤ t.now

past_on : (t : AllocatorState) (number : ℕ) (event : Event) → IsPast t → IsPast (step t number event).step_state.allocator
past_on t number (Tick now word) is =
    let after = now_after t number (Tick now word) in
    elim (tick_leaves t number now word) [ inl same ↦ let e = same.1 in omega (arith, after, is, e) | inr stood ↦ let e = stood.1 in omega (arith, after, e) ]
past_on t number (Rx arrival) is =
    let after = now_after t number (Rx arrival) in
    elim (frame_leaves t number arrival).0 [ inl same ↦ omega (arith, after, is, same) | inr anew ↦ let e = anew.0 in omega (arith, after, e) ]

told_since : (nodes : List ℕ) (times : Times) → (times_with nodes times).since ≡ times.since
told_since [] times = refl
told_since (node ∷ nodes) times = refl

past_at_first : (n : ℕ) (rules : Rules) (store : Store) (moment word : ℕ) → IsPast (opening_by n rules store moment word)
past_at_first n rules store moment word =
    let e = told_since rules.told (opening n rules.size store moment word).times in omega (arith, e)

-- so it is in each world that rows reach
pub since_past : (ids : List ℕ) (list : List Row) (p : ℕ) (t : AllocatorState) → ((world_of ids list).member p).status ≡ Up t → t.times.since ≤ t.now
since_past ids list p t e = in_each IsPast past_at_first past_on (λ u h. h) ids list p t e

-- the laws of this crate
pub record RoundLaws (ids : List ℕ) (rows : List Row) : Type 0 where
  pub asks : WhoAsksStands ids rows
  pub wins_asked : WhoWinsHasAsked ids rows
  pub votes_asked : WhoVotesWasAsked ids rows
  pub hears_called : WhoHearsWasCalled ids rows
  pub furthest_wins : WhoIsFurthestWins ids rows
  pub top_wins : WhoWinsAtTheTop ids rows

module _ (below : RoundGrounds) (ids : List ℕ) (members : AreMembers ids) where
  facts_in : (list : List Row) → DoNoHarm (cluster ids) list → RowFacts ids (world_of ids list)
  facts_in list harmless =
      let own = its_node below.wins.election.calm ids members list harmless in
      record {
        asked = below.wins.asked ids list members harmless;
        begin = below.wins.begin ids list members harmless;
        reasons = below.reasons ids list members harmless;
        me = λ p t i up. (own p t i up).0;
        sizes = λ p t i up. (own p t i up).1;
        past = λ p t i up. since_past ids list p t up;
        stands_in_time = below.in_time ids list members harmless;
      }

  pub given_of : (rows : List Row) → DoNoHarm (cluster ids) rows → RoundLaws ids rows → Given ids rows
  given_of rows harmless round = record {
    row_facts = λ more fine. subst (RowFacts ids) (rows_join (cluster ids) rows more) (facts_in (rows ++ more) (harmless_both (cluster ids) rows more harmless fine));
    keeps_size = below.wins.election.calm.more.size;
    complete = below.wins.election.calm.complete;
    frames_leave = below.wins.election.leave;
    granted = below.wins.granted;
    terms = below.wins.terms ids rows members harmless;
    rise = below.wins.rise ids rows;
    free = below.wins.free ids rows members harmless;
    come_back = below.come_back ids rows members harmless;
    lists_stay = below.wins.stay;
    asks = round.asks;
    wins_asked = round.wins_asked;
    votes_asked = round.votes_asked;
    hears_called = round.hears_called;
    furthest_wins = round.furthest_wins;
    top_wins = round.top_wins;
  }
