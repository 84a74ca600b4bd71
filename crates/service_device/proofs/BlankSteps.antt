-- A leader adds its blank as soon as it may: what each step leaves of a server that has none to add, or waits with it.
use Rattle.std.proofs.Common.{◌≡◌, ◌≢◌, ℕ, Bool, true, false, List, [], ◌∷◌, refl, sym, ◌∙◌, max, Option, Some, None}
use Rattle.std.specs.Prelude.{◌&&◌, ◌-◌, nat_le, nat_lt, not, if◌then◌else◌}
use Rattle.can_frame.specs.Timing.{status_interval}
use Rattle.cluster_discovery.specs.Members.{is_due}
use Rattle.raft_core.specs.Handled.{answer_of, append_request_of, moves_of_expire, vote_request_of}
use Rattle.raft_core.specs.Taken.{proposal}
use Rattle.raft_core.specs.Times.{given_at, given_tick, has_waited, overdue}
use Rattle.raft_model.specs.Decisions.{commit_index, grants}
use Rattle.raft_model.specs.Duty.{commit_moves}
use Rattle.raft_model.specs.Handlers.{server_after, server_after_all}
use Rattle.raft_model.specs.Messages.{Request}
use Rattle.raft_model.specs.Moves.{Move}
use Rattle.raft_model.specs.Moves.Elections.{is_leader, term_limit, with_term}
use Rattle.raft_model.specs.Moves.Move.{GiveUp, TimeOut}
use Rattle.raft_model.specs.Server.{RaftServer, Role}
use Rattle.raft_model.specs.Server.Role.{Candidate, Follower, Leader}
use Rattle.transfer_rx.specs.Reassembly.{Answer as Received, Arrival, Delivery, answer}
use Rattle.alloc_spec.specs.Accepted.{setting_for}
use Rattle.alloc_spec.specs.AllocatorState.{AllocatorState, knows_all, members_of, start_of}
use Rattle.alloc_spec.specs.Ending.{end_phase}
use Rattle.alloc_spec.specs.Step.{Event, all_nodes, at_moment, begin_phase, step, with_answer}
use Rattle.alloc_spec.specs.Step.Event.{Rx, Tick}
use Rattle.alloc_spec.specs.StepState.{StepState, with_moves}
use Rattle.alloc_spec.specs.Tick.{clock_phase, discovery_phase, election_phase, status_phase, tells_members, tells_status}
use Rattle.alloc_spec.proofs.Blanks.{moves_and_blank}
use Rattle.alloc_spec_laws.proofs.Choices.{and_left, and_right, either}
use Rattle.service_steps.specs.Requests.{moment_at}
use Rattle.service_steps.proofs.Ends.{IsKept, rest_keeps}
use Rattle.service_steps.proofs.FollowUps.{when_come}
use Rattle.service_leader.proofs.RaftPhases.{Hears, Keeps, OfServer, Records, behind_election, by_answer}
use Rattle.service_device.proofs.AllocationsTold.{VerdictsAre}
use Rattle.service_device.proofs.BlankRaft.{IsDue, due_append_answer, due_append_asked, due_committed, due_proposed, due_stands, due_vote_answer, due_vote_asked}
use Rattle.service_device.proofs.SettledRows.{begins_waiting}

not_leading : (role : Role) → not (is_leader role) ≡ true → role ≢ Leader
not_leading Follower h e = absurd (cc (e))
not_leading Candidate h e = absurd (cc (e))
not_leading Leader h e = absurd (cc (h))

module _ (list : List ℕ) (me : ℕ) (waits knows : Bool) (judged : VerdictsAre) (number : ℕ) where
  abbrev Due : OfServer
  Due own s times now = IsDue list me waits knows judged s

  abbrev DueAt : StepState → Type 0
  DueAt g = Keeps Due g

  -- a step so far: it goes by this list of members, and waits with its blank or not, as before
  pub record IsReady (g : StepState) : Type 0 where
    pub members : members_of g.allocator ≡ list
    pub own : g.allocator.me ≡ me
    pub waits_on : g.allocator.times.waits ≡ waits
    pub complete : knows_all g.allocator ≡ knows
    pub due : DueAt g

  -- ---- as a step begins and ends

  expired : (nodes : List ℕ) (own : ℕ) (members : List ℕ) (s : RaftServer) → IsDue list me waits knows judged s
      → IsDue list me waits knows judged (server_after_all members own number s (moves_of_expire nodes))
  expired [] own members s h = h
  expired (node ∷ nodes) own members s h =
      expired nodes own members (server_after members own number s (GiveUp node)) (record { counting = h.counting; fine = h.fine })

  kept : IsKept number DueAt
  kept = record {
    passes = λ g e h. record { counting = h.counting; fine = h.fine };
    tells = λ given g e h. record { counting = h.counting; fine = h.fine };
    votes = λ given peer g h. record { counting = h.counting; fine = h.fine };
    appends = λ given peer previous with_entry g h. record { counting = h.counting; fine = h.fine };
    sends = λ what to payload says g h. h;
  }

  commits : (g : StepState) (leads : Bool) (index : Option ℕ) → commit_index (members_of g.allocator) g.allocator.me g.allocator.raft_server ≡ index
      → DueAt g → DueAt (with_moves number (given_at g.allocator.now) (if leads then commit_moves index else []) g)
  commits g true None e h = h
  commits g true (Some index) e h = due_committed list me waits knows judged (members_of g.allocator) g.allocator.me number g.allocator.raft_server index e h
  commits g false index e h = h

  ends : (g : StepState) → DueAt g → DueAt (end_phase number g)
  ends g h = rest_keeps number DueAt kept g (commits g (is_leader g.allocator.raft_server.memory.role)
      (commit_index (members_of g.allocator) g.allocator.me g.allocator.raft_server) refl h)

  -- an entry of its own term
  records : Records number Due
  records origin uid node g leads h = due_proposed list me waits knows judged (members_of g.allocator) g.allocator.me number g.allocator.raft_server
      (proposal g.allocator.raft_server.store.term uid node) refl h.counting

  -- ---- a tick

  finds : (g : StepState) → IsReady g → IsReady (discovery_phase number g)
  finds g h = either IsReady (is_due (start_of g.allocator) g.allocator.heard g.allocator.now) (tells_members number g) g
      (λ e. record { members = h.members; own = h.own; waits_on = h.waits_on; complete = h.complete; due = h.due }) (λ e. h)

  states : (g : StepState) → IsReady g → IsReady (status_phase number g)
  states g h = either IsReady (nat_le status_interval (g.allocator.now - g.allocator.status_at)) (tells_status number g) g
      (λ e. record { members = h.members; own = h.own; waits_on = h.waits_on; complete = h.complete; due = h.due }) (λ e. h)

  elects : (word : ℕ) (g : StepState) → IsReady g → DueAt (election_phase number word g)
  elects word g h = either (λ (moves : List Move). DueAt (moves_and_blank number (given_tick g.allocator.now word) moves g))
      ((knows_all g.allocator && has_waited g.allocator.times g.allocator.now)
      && (not (is_leader g.allocator.raft_server.memory.role) && nat_lt g.allocator.raft_server.store.term term_limit))
      (TimeOut ∷ []) []
      (λ e. due_stands list me waits knows judged (members_of g.allocator) g.allocator.me number g.allocator.raft_server g.allocator.times h.members h.own h.waits_on h.due
      (not_leading g.allocator.raft_server.memory.role (and_left (not (is_leader g.allocator.raft_server.memory.role)) _
      (and_right (knows_all g.allocator && has_waited g.allocator.times g.allocator.now) _ e)))
      (sym h.complete ∙ and_left (knows_all g.allocator) _ (and_left (knows_all g.allocator && has_waited g.allocator.times g.allocator.now) _ e)))
      (λ e. h.due)

  at_tick : (t : AllocatorState) (moment word : ℕ) → IsReady (begin_phase number moment t) → DueAt (step t number (Tick moment word)).step_state
  unfolding step
  at_tick t moment word h =
      let begun : StepState = begin_phase number moment t in
      ends (clock_phase number word begun) (behind_election number Due records word begun
      (elects word (status_phase number (discovery_phase number begun)) (states (discovery_phase number begun) (finds begun h))))

  -- ---- what is delivered

  hears : (d : Delivery) (g : StepState) → IsReady g → Hears number Due d g
  hears d g h = record {
    vote_request = λ kind one thirty message read listed. let asks : Request = vote_request_of message d.mark.step d.ident.source g.allocator.me in
        due_vote_asked list me waits knows judged (members_of g.allocator) g.allocator.me number s asks (grants (with_term s.store asks.term) asks) h.due;
    append_request = λ kind thirty message read listed. due_append_asked list me waits knows judged (members_of g.allocator) g.allocator.me number s
        (append_request_of message d.mark.step d.ident.source g.allocator.me) h.due;
    vote_answer = λ kind one thirty message read asks listed awaited pending. due_vote_answer list me waits knows judged (members_of g.allocator) g.allocator.me number s
        g.allocator.times h.members h.own h.waits_on h.due (answer_of d.mark.step d.ident.source asks message.term message.granted);
    append_answer = λ kind thirty message read asks listed awaited pending. due_append_answer list me waits knows judged (members_of g.allocator) g.allocator.me number s
        g.allocator.times h.members h.own h.waits_on h.due (answer_of d.mark.step d.ident.source asks message.term message.success);
  }
    where
      s : RaftServer
      s = g.allocator.raft_server

  at_frame : (t : AllocatorState) (arrival : Arrival) → IsReady (when_come t number arrival) → DueAt (step t number (Rx arrival)).step_state
  unfolding step
  at_frame t arrival h =
      let got : Received = answer (setting_for t.me) t.sessions (record arrival { moment = moment_at t arrival }) in
      let come : StepState = when_come t number arrival in
      ends (with_answer number got come).step_state (by_answer number Due records got come (λ d gives. hears d come h) h.due)

-- ---- a step

-- what holds of a server by its own list of members
abbrev pub IsDueAt : VerdictsAre → AllocatorState → RaftServer → Type 0
IsDueAt judged t = IsDue (members_of t) t.me t.times.waits (knows_all t) judged

module _ (judged : VerdictsAre) (number : ℕ) (t : AllocatorState) (h : IsDueAt judged t t.raft_server) where
  begins : (moment : ℕ) → IsReady (members_of t) t.me t.times.waits (knows_all t) judged number (begin_phase number moment t)
  begins moment =
      let nodes : List ℕ = overdue t.times (max t.now moment) all_nodes in record {
        members = refl;
        own = refl;
        waits_on = begins_waiting (members_of (at_moment moment t)) t.me number (given_at (max t.now moment)) nodes t.raft_server t.times;
        complete = refl;
        due = expired (members_of t) t.me t.times.waits (knows_all t) judged number nodes t.me (members_of (at_moment moment t)) t.raft_server h;
      }

  comes : (arrival : Arrival) → IsReady (members_of t) t.me t.times.waits (knows_all t) judged number (when_come t number arrival)
  comes arrival = let b = begins arrival.moment in record { members = refl; own = refl; waits_on = b.waits_on; complete = refl; due = b.due }

  -- so it is behind each step, by the list as it was before
  pub due_on : (event : Event) → IsDueAt judged t (step t number event).step_state.allocator.raft_server
  due_on (Tick moment word) = at_tick (members_of t) t.me t.times.waits (knows_all t) judged number t moment word (begins moment)
  due_on (Rx arrival) = at_frame (members_of t) t.me t.times.waits (knows_all t) judged number t arrival (comes arrival)
