-- A leader's call stays pending in each step in which no answer of the peer comes, until the call timeout.
use Rattle.std.proofs.Common.{◌≡◌, ℕ, ◌<◌, Bool, true, List, refl, sym, ◌∙◌, ap, subst, inl, inr, max, Some}
use Rattle.std.specs.Prelude.{◌+◌, ◌-◌, ◌&&◌, nat_le}
use Rattle.can_frame.specs.declared.identifier.Kind.TheVariants.{Response}
use Rattle.can_frame.specs.Timing.{status_interval}
use Rattle.cluster_discovery.specs.Members.{is_due}
use Rattle.raft_core.specs.Times.{Sending, given_tick, has_waited}
use Rattle.raft_model.specs.Duty.{tick_phase}
use Rattle.raft_model.specs.Messages.{Request}
use Rattle.raft_model.specs.Moves.{Move}
use Rattle.raft_model.specs.Moves.Elections.{is_candidate}
use Rattle.raft_model.specs.Server.{Role}
use Rattle.raft_model.specs.Server.Role.{Follower, Leader}
use Rattle.transfer_rx.specs.Reassembly.{Arrival, Delivery, Gives, answer}
use Rattle.alloc_spec.specs.Accepted.{setting_for}
use Rattle.alloc_spec.specs.AllocatorState.{AllocatorState, knows_all, start_of}
use Rattle.alloc_spec.specs.Step.{Event, begin_phase, step}
use Rattle.alloc_spec.specs.StepState.{StepState}
use Rattle.alloc_spec.specs.Tick.{clock_phase, discovery_phase, status_phase, tells_members, tells_status}
use Rattle.alloc_spec.proofs.Blanks.{moves_and_blank}
use Rattle.alloc_spec_laws.proofs.Choices.{either}
use Rattle.service_steps.specs.Requests.{moment_at}
use Rattle.service_steps.proofs.LeadsOn.{no_election}
use Rattle.service_leader.proofs.CallStays as stays
use Rattle.service_leader.proofs.CallStays.{IsRole}
use Rattle.service_leader.proofs.RaftPhases.{Keeps, OfServer, at_end, behind_election, grown}

-- the role is the leader's
abbrev IsLeading : Role → Type 0
IsLeading role = role ≡ Leader

-- or the server follows
abbrev IsFollowing : Role → ℕ → Type 0
IsFollowing role term = role ≡ Follower

leading : IsRole IsLeading IsFollowing
leading = record { follows = λ role term leads. inr refl; wins = λ role term stands leads. absurd (cc (sym (ap is_candidate leads) ∙ stands)) }

-- ---- a tick

module _ (number m : ℕ) (request : Request) (sending : Sending) where
  abbrev Still : OfServer
  Still = stays.Still number m IsLeading IsFollowing request sending

  abbrev Pends : StepState → Type 0
  Pends g = Keeps (stays.Pends number m IsLeading IsFollowing request sending) g

  elects : (word : ℕ) (waited : Bool) (g : StepState) → Pends g → Pends (moves_and_blank number (given_tick g.allocator.now word) (tick_phase waited g.allocator.raft_server) g)
  elects word waited g h =
      subst (λ (moves : List Move). Pends (moves_and_blank number (given_tick g.allocator.now word) moves g)) (sym (no_election waited g.allocator.raft_server h.0)) h

  finds : (x : StepState) → Pends x → Pends (discovery_phase number x)
  finds x i = either Pends (is_due (start_of x.allocator) x.allocator.heard x.allocator.now) (tells_members number x) x (λ e. i) (λ e. i)

  states : (x : StepState) → Pends x → Pends (status_phase number x)
  states x i = either Pends (nat_le status_interval (x.allocator.now - x.allocator.status_at)) (tells_status number x) x (λ e. i) (λ e. i)

  ticks : (word : ℕ) (g : StepState) → Pends g → Keeps Still (clock_phase number word g)
  ticks word g h =
      let stated : StepState = status_phase number (discovery_phase number g) in
      behind_election number Still (grown number Still (stays.grows number m IsLeading IsFollowing request sending)) word g
      (inl (elects word (knows_all stated.allocator && has_waited stated.allocator.times stated.allocator.now) stated
      (states (discovery_phase number g) (finds g h))))

-- ---- the step

-- the server leads, and this call to peer m is pending, since this moment
abbrev pub PendsAt : (m : ℕ) → Request → Sending → AllocatorState → Type 0
PendsAt m request sending t = (t.raft_server.memory.role ≡ Leader) × (t.raft_server.memory.pending m ≡ Some request) × (t.times.sending m ≡ Some sending)

module _ (t : AllocatorState) (number m : ℕ) (request : Request) (sending : Sending) (append : request.append ≡ true) (h : PendsAt m request sending t) where
  tick_stays : (now word : ℕ) → max t.now now < sending.moment + 1000 → Keeps (Still number m request sending) (step t number (Event.Tick now word)).step_state
  unfolding step
  tick_stays now word soon = at_end number (Still number m request sending) (stays.ends number m IsLeading IsFollowing request sending)
      (clock_phase number word (begin_phase number now t))
      (ticks number m request sending word (begin_phase number now t) (stays.begins t number m IsLeading IsFollowing request sending h.0 h.1 h.2 now soon))

  frame_stays : (arrival : Arrival) → max t.now arrival.moment < sending.moment + 1000
      → ((d : Delivery) → answer (setting_for t.me) t.sessions (record arrival { moment = moment_at t arrival }) ≡ Gives d → d.ident.kind ≡ Response → d.ident.number ≡ 30
      → d.ident.source ≡ m → ⊥) → Keeps (Still number m request sending) (step t number (Event.Rx arrival)).step_state
  frame_stays arrival soon other = stays.stays_at_frame t number m IsLeading IsFollowing request sending h.0 h.1 h.2 leading arrival soon
      (λ d gives none kind one thirty source id. absurd (cc (sym append ∙ none))) (λ d gives is kind thirty source id. other d gives kind thirty source)

  leads_not : (role : Role) → role ≡ Leader → role ≡ Follower → ⊥
  leads_not role e f = cc (sym e ∙ f)

  -- who still leads when the step is over has the call pending
  pub stays_at_ticks : (now word : ℕ) → max t.now now < sending.moment + 1000 → (step t number (Event.Tick now word)).step_state.allocator.raft_server.memory.role ≡ Leader
      → PendsAt m request sending (step t number (Event.Tick now word)).step_state.allocator
  stays_at_ticks now word soon leads = elim (tick_stays now word soon) [ inl k ↦ k | inr f ↦ absurd (leads_not _ leads f) ]

  pub stays_at_frames : (arrival : Arrival) → max t.now arrival.moment < sending.moment + 1000
      → ((d : Delivery) → answer (setting_for t.me) t.sessions (record arrival { moment = moment_at t arrival }) ≡ Gives d → d.ident.kind ≡ Response → d.ident.number ≡ 30
      → d.ident.source ≡ m → ⊥) → (step t number (Event.Rx arrival)).step_state.allocator.raft_server.memory.role ≡ Leader
      → PendsAt m request sending (step t number (Event.Rx arrival)).step_state.allocator
  stays_at_frames arrival soon other leads = elim (frame_stays arrival soon other) [ inl k ↦ k | inr f ↦ absurd (leads_not _ leads f) ]
