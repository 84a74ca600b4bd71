-- Among members that were just opened one stands for election in time, and all follow until then.
use Rattle.std.proofs.Common.{◌≡◌, ℕ, ◌+◌, ◌<◌, ◌≤◌, arith, true, List, [], ◌∷◌, ◌++◌, refl, sym, ◌∙◌, ap, inl, inr}
use Rattle.raft_model.specs.Lists.{In}
use Rattle.raft_model.specs.Server.Role.{Follower}
use Rattle.alloc_spec.specs.AllocatorState.{AllocatorState, knows_all, members_of}
use Rattle.alloc_spec.specs.Step.{Event, step}
use Rattle.service_steps.specs.InTime.{FramesLeaveFollowers}
use Rattle.bus_rows.specs.Timed.{Timed, rows_in}
use Rattle.service_alone.specs.Calm.{Pace, end_of}
use Rattle.service_calm.specs.Calm.{AreCalm, Member as OfMember, Party, Traffic, traffic_after}
use Rattle.service_calm.specs.Comes.{Throughout}
use Rattle.service_calm.proofs.Group.{AreWell, CalmLaws, well_after}
use Rattle.service_calm.proofs.Pair.{same_server}
use Rattle.service_candidate.specs.Elections.{WaitIsOver}
use Rattle.service_candidate.specs.Terms.{NobodyLeads, NobodyStandsAbove}
use Rattle.service_candidate.specs.Votes.{Stands}
use Rattle.service_candidate.specs.Waits.{HasTermLeft}
use Rattle.service_candidate.proofs.OpenedMembers.{AllAsOpened, later, plain_after, row_comes}
use Rattle.service_leader.proofs.FramesFly.{Fly}
use Rattle.service_candidate.proofs.PlainFrames.{IsPlainOfGroup}
use Rattle.bus_spec.specs.Cluster.{Cluster, after_row, after_rows}
use Rattle.bus_spec.specs.Members.MemberStatus.{Up}

-- each member of the group runs and follows
abbrev pub AllFollow : List Party → Cluster → Type 0
AllFollow group w = (p : ℕ) → In (OfMember p) group → (t : AllocatorState) × ((w.member p).status ≡ Up t) × (t.raft_server.memory.role ≡ Follower)

-- where all follow nobody leads
pub nobody_leads : (group : List Party) (w : Cluster) → AllFollow group w → NobodyLeads group w
nobody_leads group w all m i server up leads =
    let is = all m i in cc (sym is.2 ∙ (ap (λ (t : AllocatorState). t.raft_server.memory.role) (same_server is.0 server (sym is.1 ∙ up)) ∙ leads))

-- what holds before each row and behind them holds at first
pub at_first : (Holds : Cluster → Type 0) (front : List Timed) (w : Cluster) → Throughout Holds w front → Holds (after_rows w (rows_in front)) → Holds w
at_first Holds [] w all here = here
at_first Holds (timed ∷ front) w all here = all.0

-- who stands is no follower behind the row
stands_not : (group : List Party) (w : Cluster) (timed : Timed) → AllFollow group (after_row w timed.row) → (n term : ℕ) → In (OfMember n) group
    → Stands n term w timed.row → ⊥
stands_not group w timed all n term i s =
    let is = all n i in
    cc (sym is.2 ∙ (ap (λ (t : AllocatorState). t.raft_server.memory.role) (same_server is.0 s.after (sym is.1 ∙ s.runs_then)) ∙ s.stands))

-- where all follow before each row and behind them, nobody stands in them
pub nobody_stands : (group : List Party) (top : ℕ) (front : List Timed) (w : Cluster) → Throughout (AllFollow group) w front
    → AllFollow group (after_rows w (rows_in front)) → NobodyStandsAbove group top w front
nobody_stands group top [] w all here = tt
nobody_stands group top (timed ∷ front) w all here = (
  λ n term i s. absurd (stands_not group w timed (at_first (AllFollow group) front (after_row w timed.row) all.1 here) n term i s),
  nobody_stands group top front (after_row w timed.row) all.1 here,
)

-- In one of these rows, by this moment, a member of the group stands, whose wait is over then by what it had where the
-- calm began. All follow before.
pub record IsFound (group : List Party) (clocks : Party → ℕ) (last : ℕ) (began w : Cluster) (whole : List Timed) : Type 0 where
  pub front : List Timed
  pub timed : Timed
  pub rest : List Timed
  pub split : whole ≡ front ++ timed ∷ rest
  pub soon : timed.at ≤ last
  pub followed : Throughout (AllFollow group) w front
  pub follow : AllFollow group (after_rows w (rows_in front))
  pub c : ℕ
  pub member : In (OfMember c) group
  pub term : ℕ
  pub stands : Stands c term (after_rows w (rows_in front)) timed.row
  pub over : WaitIsOver clocks c timed.at began

module _ (laws : CalmLaws) (frames_leave : FramesLeaveFollowers)
    (complete : (t : AllocatorState) (number : ℕ) (event : Event) → knows_all t ≡ true → members_of (step t number event).step_state.allocator ≡ members_of t)
    (began : Cluster) (size : ℕ) (many : 2 ≤ size) (group : List Party) (nodes : (p : ℕ) → In (OfMember p) group → (1 ≤ p) × (p ≤ 125))
    (clocks : Party → ℕ) (pace : Pace) where
  abbrev pub AllAreSo : ℕ → Cluster → Type 0
  AllAreSo moment w = AllAsOpened laws frames_leave complete began size many group nodes clocks pace moment w

  all_follow : (moment : ℕ) (w : Cluster) → AllAreSo moment w → AllFollow group w
  all_follow moment w all p i = ((all p i).server, (all p i).up.status, (all p i).fresh.role)

  module _ (m due : ℕ) (over : WaitIsOver clocks m due began) (in_m : In (OfMember m) group) (began_so : (s : AllocatorState) × ((began.member m).status ≡ Up s)) where
    -- row by row, until a member stands
    pub find : (list : List Timed) (traffic : Traffic) (w : Cluster) → AreCalm group clocks pace traffic w list → AreWell group w → AllAreSo traffic.at w
        → ((party : Party) → Fly (IsPlainOfGroup group) w.frames (traffic.to party)) → Throughout (HasTermLeft m) w list
        → traffic.at ≤ due + pace.period → traffic.ticked (OfMember m) ≤ due → due + pace.period < end_of traffic.at list
        → IsFound group clocks (due + pace.period) began w list
    find [] traffic w calm are all flies left soon at_last long = absurd (omega (arith, soon, long))
    find (timed ∷ rest) traffic w calm are all flies left soon at_last long =
        elim (row_comes laws frames_leave complete began size many group nodes clocks pace traffic w timed.at are now flies m due over in_m began_so left.0
        (traffic.ticked (OfMember m)) timed.row calm.1 at_last) [
          | inl found ↦ record {
            front = [];
            timed = timed;
            rest = rest;
            split = refl;
            soon = in_time;
            followed = tt;
            follow = all_follow traffic.at w all;
            c = found.0;
            member = found.1;
            term = found.2.0;
            stands = found.2.1;
            over = found.3;
          }
          | inr on ↦ further (find rest (traffic_after traffic w timed) (after_row w timed.row) calm.2
              (well_after laws group nodes w are clocks pace traffic timed.at timed.row calm.1) on.0
              (λ party. plain_after laws frames_leave complete began size many group nodes clocks pace traffic w timed.at are now flies timed.row calm.1 party)
              left.1 in_time on.1 long)
        ]
      where
        in_time : timed.at ≤ due + pace.period
        in_time = omega (arith, calm.0.ticks (OfMember m) in_m, at_last)

        now : AllAreSo timed.at w
        now p i = later laws frames_leave complete began size many group nodes clocks pace traffic.at timed.at p (w.member p) calm.0.moments (all p i)

        further : IsFound group clocks (due + pace.period) began (after_row w timed.row) rest → IsFound group clocks (due + pace.period) began w (timed ∷ rest)
        further found = record {
          front = timed ∷ found.front;
          timed = found.timed;
          rest = found.rest;
          split = ap (λ (l : List Timed). timed ∷ l) found.split;
          soon = found.soon;
          followed = (all_follow traffic.at w all, found.followed);
          follow = found.follow;
          c = found.c;
          member = found.member;
          term = found.term;
          stands = found.stands;
          over = found.over;
        }
