-- Who comes to lead in a row of a calm calls each other node that it lists in that row.
use Rattle.std.proofs.Common.{◌≡◌, ◌≢◌, ℕ, ◌+◌, List, [], ◌∷◌, ◌++◌, drop, append_assoc, refl, sym, ◌∙◌, ap, subst, inl, inr, arith, Option, None, Some}
use Rattle.raft_core.specs.Times.{Sending, is_silent}
use Rattle.raft_model.specs.Lists.{In}
use Rattle.raft_model.specs.Messages.{Request}
use Rattle.raft_model.specs.Server.{RaftServer}
use Rattle.raft_model.specs.Server.Role.{Leader}
use Rattle.bus_rows.specs.declared.row.Row.{Row}
use Rattle.alloc_spec.specs.AllocatorState.{AllocatorState, members_of}
use Rattle.alloc_spec.specs.Step.{Event, step}
use Rattle.bus_rows.specs.Timed.{Timed, rows_in}
use Rattle.service_alone.specs.Calm.{Pace}
use Rattle.service_leader.specs.CallsAsk.{AsksNext, next_request}
use Rattle.service_leader.specs.CallsComeBack.{LeadsNotIfUp}
use Rattle.service_leader.specs.Entries.{GoesOnCalling, PendsSince}
use Rattle.service_leader.specs.EntriesBelow.{EntryLaws}
use Rattle.service_leader.specs.NoElection.{CallsFit}
use Rattle.service_leader.proofs.EntriesParts.{listed_behind, rows_counted}
use Rattle.service_leader.proofs.EntriesRows.{step_or_not}
use Rattle.service_leader.proofs.RowsOfOne.{IsLeft, left_up, stepped_up}
use Rattle.service_leader.proofs.Stretches.{fits_at, world_both}
use Rattle.service_calm.specs.Calls.{Lists}
use Rattle.service_calm.specs.Calm.{AreCalm, AreRunning, IsRunning, Member as OfMember, Party, no_traffic}
use Rattle.service_calm.specs.CallsInTime.{Leads, OffersCall}
use Rattle.service_calm.proofs.Calls.{Goes, further_on}
use Rattle.service_calm.proofs.CallsOffered.{Offered, step_keeps_calls, touches_after}
use Rattle.service_calm.proofs.Pair.{same_server}
use Rattle.bus_spec.specs.Cluster.{Cluster, after_row, after_rows, step_of, world_of}
use Rattle.bus_spec.specs.Members.MemberStatus.{Up}

-- ---- a step

-- a server that has won in this step has called nobody before its calls
abbrev NoneCalled : Option Request → Option Sending → Option ℕ → Type 0
NoneCalled p s a = (p ≡ None) × (a ≡ None)

-- who did not lead before a step, and leads when it is over, offers a call to each peer that it lists
winner_offers : (t : AllocatorState) (number : ℕ) (event : Event) (m : ℕ) → t.raft_server.memory.role ≢ Leader
    → (step t number event).step_state.allocator.raft_server.memory.role ≡ Leader → In m (drop 1 (members_of (step t number event).step_state.allocator))
    → Offered m (step t number event).step_state.offers
winner_offers t number event m not_before leads listed =
    elim (step_keeps_calls m NoneCalled (λ p s a h. (refl, h.1)) (refl, refl) t number event (λ led. absurd (not_before led)) leads) [
      | inl offered ↦ offered
      | inr none ↦ elim (touches_after t number event m leads listed) [
        | inl offered ↦ offered
        | inr (inl some) ↦ absurd (some none.0)
        | inr (inr spoke) ↦ absurd (cc (sym spoke ∙ ap (λ (a : Option ℕ). is_silent a (step t number event).step_state.allocator.now) none.1))
      ]
    ]

-- ---- a row of a calm

module _ (ids : List ℕ) (rows : List Row) (laws : EntryLaws ids rows) (group : List Party) (clocks : Party → ℕ) (pace : Pace) (start n m : ℕ)
    (front rest : List Timed) (timed : Timed) (listed : (p : ℕ) → In (OfMember p) group → In p ids) (running : AreRunning group (world_of ids rows))
    (member : In (OfMember n) group) (other : m ≢ n) (calm : AreCalm group clocks pace (no_traffic start) (world_of ids rows) (front ++ timed ∷ rest))
    (fit : CallsFit n (world_of ids rows) (front ++ timed ∷ rest)) (lists : Lists n m (world_of ids rows))
    (leads_not : LeadsNotIfUp n (after_rows (world_of ids rows) (rows_in front)))
    (leads : Leads n (after_row (after_rows (world_of ids rows) (rows_in front)) timed.row)) where
  abbrev w : Cluster
  w = world_of ids rows

  abbrev there : Cluster
  there = after_rows w (rows_in front)

  abbrev then_ : Cluster
  then_ = after_row there timed.row

  of_n : IsRunning n w
  of_n = running n member

  goes : Goes laws.me group clocks pace n there (timed ∷ rest)
  goes = further_on laws.me group clocks pace n front (timed ∷ rest) w (record {
    traffic = no_traffic start;
    calm = calm;
    runs = record {
      server = of_n.server;
      up = record { status = of_n.runs; quiet = record { faults = of_n.faults; calls = of_n.disk } };
      holds = laws.node n of_n.server (listed n member) of_n.runs;
    };
  })

  abbrev t : AllocatorState
  t = goes.runs.server

  -- the row is a step of the member, in which it calls the peer
  module _ (event : Event) (in_step : step_of there timed.row ≡ Some (n, event)) where
    abbrev after : AllocatorState
    after = (step t (there.rows + 1) event).step_state.allocator

    after_up : (then_.member n).status ≡ Up after
    after_up = (stepped_up there n t goes.runs.up timed.row event in_step).status

    among : In m (drop 1 (members_of after))
    among = listed_behind after m
        (laws.stay group clocks pace (no_traffic start) n m (front ++ timed ∷ []) rest w of_n
        (subst (AreCalm group clocks pace (no_traffic start) w) (sym (append_assoc front (timed ∷ []) rest)) calm) lists after
        (subst (λ (v : Cluster). (v.member n).status ≡ Up after) (sym (world_both w front (timed ∷ []))) after_up))
        (λ e. other (e ∙ (laws.me t (there.rows + 1) event ∙ goes.runs.holds)))

    offered : Offered m (step t (there.rows + 1) event).step_state.offers
    offered = winner_offers t (there.rows + 1) event m (leads_not t goes.runs.up.status) (leads after after_up) among

    asks : AsksNext m (there.rows + 1) offered.0 after
    asks = laws.ask t (there.rows + 1) event m offered.0 offered.1 offered.2 offered.3 (fits_at n front rest timed w fit m (record {
      server = t;
      runs = goes.runs.up.status;
      event = event;
      in_step = in_step;
      offer = offered.0;
      offered = offered.1;
      what = offered.2;
      to = offered.3;
    }))

    called : PendsSince n m w.rows then_ × GoesOnCalling n m then_
    called = (
      λ leader request up pends.
          let same = same_server after leader (sym after_up ∙ up) in
          let asked : Some (next_request m (there.rows + 1) after) ≡ Some request
          = sym asks.pending ∙ (ap (λ (u : AllocatorState). u.raft_server.memory.pending m) same ∙ pends) in
          let number = ap (λ (p : Option Request). step_in p) asked in
          let count = rows_counted w front in
          omega (arith, number, count),
      λ leader up. inl (λ none.
          let same = same_server after leader (sym after_up ∙ up) in
          absurd (cc (sym asks.pending ∙ (ap (λ (u : AllocatorState). u.raft_server.memory.pending m) same ∙ none)))),
    )
      where
        step_in : Option Request → ℕ
        step_in None = 0
        step_in (Some request) = request.step

  -- the row is a step of the member
  steps_then : ((event : Event) → step_of there timed.row ≡ Some (n, event) → ⊥) → ⊥
  steps_then none =
      let left : IsLeft there n t goes.runs.up (then_.member n) = left_up there n t goes.runs.up group clocks pace goes.traffic timed.at timed.row goes.calm.1 none in
      leads_not t goes.runs.up.status (sym (ap (λ (s : RaftServer). s.memory.role) left.same.raft_server) ∙ leads left.server left.its_up.status)

  pub winner_calls : PendsSince n m w.rows then_ × GoesOnCalling n m then_
  winner_calls = elim (step_or_not there timed.row n) [ inl z ↦ called z.0 z.1 | inr none ↦ absurd (steps_then none) ]

  -- so it offers the peer a call in the row
  pub winner_offers_it : OffersCall n m there timed.row
  winner_offers_it = elim (step_or_not there timed.row n) [
    | inl z ↦
        let o = offered z.0 z.1 in
        record { server = t; runs = goes.runs.up.status; event = z.0; in_step = z.1; offer = o.0; offered = o.1; what = o.2; to = o.3 }
    | inr none ↦ absurd (steps_then none)
  ]
