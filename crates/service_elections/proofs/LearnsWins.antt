-- Who comes to lead in a row of a calm calls each node that it lists in that row; and the first row in which it does.
use Rattle.std.proofs.Common.{◌≡◌, ◌≢◌, ℕ, ◌+◌, ◌≤◌, arith, List, [], ◌∷◌, ◌++◌, drop, refl, sym, ◌∙◌, ap, subst, inl, inr, Option, None, Some}
use Rattle.raft_core.specs.Times.{Sending, is_silent}
use Rattle.raft_model.specs.Lists.{In}
use Rattle.raft_model.specs.Messages.{Request}
use Rattle.raft_model.specs.Server.{RaftServer}
use Rattle.raft_model.specs.Server.Role.{Leader}
use Rattle.alloc_spec.specs.AllocatorState.{AllocatorState, members_of}
use Rattle.alloc_spec.specs.Step.{Event, step}
use Rattle.service_leader.specs.LeadsOn.{LeadsIn}
use Rattle.service_leader.proofs.EntriesParts.{listed_behind}
use Rattle.service_leader.proofs.EntriesRows.{step_or_not}
use Rattle.service_leader.proofs.RowsOfOne.{IsLeft, left_up, stepped_up}
use Rattle.service_elections.proofs.LearnsAskers.{leads_or_not}
use Rattle.service_calm.specs.Calm.{AreCalm, IsCalmRow, Member as OfMember, Party, Traffic, traffic_after}
use Rattle.service_calm.specs.CallsInTime.{OffersCall}
use Rattle.service_calm.proofs.CallsOffered.{Offered, step_keeps_calls, touches_after}
use Rattle.service_calm.proofs.Group.{AreWell, CalmLaws, IsWell, well_after}
use Rattle.service_calm.proofs.Pair.{same_server}
use Rattle.bus_rows.specs.Timed.{Timed, rows_in}
use Rattle.service_alone.specs.Calm.{Pace, end_of}
use Rattle.bus_spec.specs.Cluster.{Cluster, after_row, after_rows, step_of}
use Rattle.bus_spec.specs.Members.MemberStatus.{Up}

-- ---- a step

-- a server that has won in this step has called nobody before its calls
abbrev NoneCalled : Option Request → Option Sending → Option ℕ → Type 0
NoneCalled p s a = (p ≡ None) × (a ≡ None)

-- who did not lead before a step, and leads when it is over, offers a call to each peer that it lists
winner_offers : (t : AllocatorState) (number : ℕ) (event : Event) (m : ℕ) → t.raft_server.memory.role ≢ Leader
    → (step t number event).step_state.allocator.raft_server.memory.role ≡ Leader → In m (drop 1 (members_of (step t number event).step_state.allocator))
    → Offered m (step t number event).step_state.offers
winner_offers t number event m not_before leads listed =
    elim (step_keeps_calls m NoneCalled (λ p s a h. (refl, h.1)) (refl, refl) t number event (λ led. absurd (not_before led)) leads) [
      | inl offered ↦ offered
      | inr none ↦ elim (touches_after t number event m leads listed) [
        | inl offered ↦ offered
        | inr (inl some) ↦ absurd (some none.0)
        | inr (inr spoke) ↦ absurd (cc (sym spoke ∙ ap (λ (a : Option ℕ). is_silent a (step t number event).step_state.allocator.now) none.1))
      ]
    ]

-- ---- a row

module _ (laws : CalmLaws)
    (stay : (t : AllocatorState) (number : ℕ) (event : Event) (node : ℕ) → In node (members_of t) → In node (members_of (step t number event).step_state.allocator))
    (group : List Party) (clocks : Party → ℕ) (pace : Pace) (n m : ℕ) (other : m ≢ n) where
  module _ (traffic : Traffic) (v : Cluster) (one : Timed) (calm : IsCalmRow group clocks pace traffic v one.at one.row) (its : IsWell n (v.member n))
      (listed : In m (members_of its.server)) (not_before : its.server.raft_server.memory.role ≢ Leader) (u : AllocatorState)
      (up_then : ((after_row v one.row).member n).status ≡ Up u) (leads : u.raft_server.memory.role ≡ Leader) where
    abbrev t : AllocatorState
    t = its.server

    module _ (event : Event) (in_step : step_of v one.row ≡ Some (n, event)) where
      abbrev after : AllocatorState
      after = (step t (v.rows + 1) event).step_state.allocator

      after_is : u ≡ after
      after_is = same_server u after (sym up_then ∙ (stepped_up v n t its.up one.row event in_step).status)

      offered : Offered m (step t (v.rows + 1) event).step_state.offers
      offered = winner_offers t (v.rows + 1) event m not_before (ap (λ (s : AllocatorState). s.raft_server.memory.role) (sym after_is) ∙ leads)
          (listed_behind after m (stay t (v.rows + 1) event m listed) (λ e. other (e ∙ (laws.in_step.me t (v.rows + 1) event ∙ its.its.me))))

      called : OffersCall n m v one.row
      called = record {
        server = t;
        runs = its.up.status;
        event = event;
        in_step = in_step;
        offer = offered.0;
        offered = offered.1;
        what = offered.2;
        to = offered.3;
      }

    -- it calls the other one
    pub winner_calls : OffersCall n m v one.row
    winner_calls = elim (step_or_not v one.row n) [
      | inl z ↦ called z.0 z.1
      | inr none ↦
          let left : IsLeft v n t its.up ((after_row v one.row).member n) = left_up v n t its.up group clocks pace traffic one.at one.row calm none in
          absurd (not_before (sym (ap (λ (s : RaftServer). s.memory.role) left.same.raft_server)
          ∙ (ap (λ (s : AllocatorState). s.raft_server.memory.role) (same_server left.server u (sym left.its_up.status ∙ up_then)) ∙ leads)))
    ]

  -- ---- the first row in which it comes to lead

  pub record ComesToLead (at : ℕ) (v : Cluster) (whole : List Timed) : Type 0 where
    pub front : List Timed
    pub one : Timed
    pub rest : List Timed
    pub split : whole ≡ front ++ one ∷ rest
    pub soon : one.at ≤ end_of at whole
    pub traffic : Traffic
    pub calm : IsCalmRow group clocks pace traffic (after_rows v (rows_in front)) one.at one.row
    pub are : AreWell group (after_rows v (rows_in front))
    pub leads_not : (t : AllocatorState) → ((after_rows v (rows_in front)).member n).status ≡ Up t → t.raft_server.memory.role ≢ Leader
    pub u : AllocatorState
    pub runs_then : ((after_row (after_rows v (rows_in front)) one.row).member n).status ≡ Up u
    pub leads : u.raft_server.memory.role ≡ Leader

  -- rows end no earlier than they begin
  ends_late : (rows : List Timed) (traffic : Traffic) (v : Cluster) → AreCalm group clocks pace traffic v rows → traffic.at ≤ end_of traffic.at rows
  ends_late [] traffic v calm = omega arith
  ends_late (one ∷ rest) traffic v calm =
      let a = calm.0.moments in let b = ends_late rest (traffic_after traffic v one) (after_row v one.row) calm.2 in omega (arith, a, b)

  pub comes_to_lead : (nodes : (p : ℕ) → In (OfMember p) group → (1 ≤ p) × (p ≤ 125)) (in_n : In (OfMember n) group) (term : ℕ) (rows : List Timed) (traffic : Traffic) (at : ℕ)
      (v : Cluster) → AreWell group v → AreCalm group clocks pace traffic v rows
      → ((t : AllocatorState) → (v.member n).status ≡ Up t → t.raft_server.memory.role ≢ Leader) → LeadsIn n term (after_rows v (rows_in rows)) → ComesToLead at v rows
  comes_to_lead nodes in_n term [] traffic at v are calm not_before leads = absurd (not_before leads.server leads.runs leads.leads)
  comes_to_lead nodes in_n term (one ∷ rest) traffic at v are calm not_before leads = elim (leads_or_not its.server.raft_server.memory.role) [
    | inl now ↦ record {
      front = [];
      one = one;
      rest = rest;
      split = refl;
      soon = ends_late rest (traffic_after traffic v one) (after_row v one.row) calm.2;
      traffic = traffic;
      calm = calm.1;
      are = are;
      leads_not = not_before;
      u = its.server;
      runs_then = its.up.status;
      leads = now;
    }
    | inr not_now ↦
        let more = comes_to_lead nodes in_n term rest (traffic_after traffic v one) one.at (after_row v one.row) are_then calm.2
        (λ t up. subst (λ (s : AllocatorState). s.raft_server.memory.role ≢ Leader) (same_server its.server t (sym its.up.status ∙ up)) not_now) leads in record {
          front = one ∷ more.front;
          one = more.one;
          rest = more.rest;
          split = ap (λ (l : List Timed). one ∷ l) more.split;
          soon = more.soon;
          traffic = more.traffic;
          calm = more.calm;
          are = more.are;
          leads_not = more.leads_not;
          u = more.u;
          runs_then = more.runs_then;
          leads = more.leads;
        }
  ]
    where
      are_then : AreWell group (after_row v one.row)
      are_then = well_after laws group nodes v are clocks pace traffic one.at one.row calm.1

      its : IsWell n ((after_row v one.row).member n)
      its = are_then.members n in_n
