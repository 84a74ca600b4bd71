-- What a step owes by some moment: an election, and a leader's calls.
use Rattle.std.specs.Prelude.{⊤, List, [], ◌∷◌, ◌≡◌, ◌≢◌, ◌⊎◌, ◌+◌, ◌<◌, ◌≤◌, ℕ, drop, false, length, max, true, None, Some}
use Rattle.can_frame.specs.Sizes.{node_ids}
use Rattle.can_frame.specs.declared.identifier.Kind.TheVariants.{Request}
use Rattle.can_frame.specs.declared.step.What.TheVariants.{AppQ}
use Rattle.can_frame.specs.DataTypes.{append_entries}
use Rattle.can_frame.specs.Timing.{election_spread, election_wait}
use Rattle.cluster_discovery.specs.Members.{is_on_list}
use Rattle.dsdl_codec.specs.declared.append_request.AppendRequest.{AppendRequest}
use Rattle.dsdl_codec.specs.AppendRequest.{append_request_of}
use Rattle.raft_core.specs.Times.{is_overdue, is_silent}
use Rattle.raft_model.specs.Duty.{TickDuty}
use Rattle.raft_model.specs.Lists.{In}
use Rattle.raft_model.specs.Moves.Elections.{term_limit}
use Rattle.raft_model.specs.Server.Role.{Follower, Leader}
use Rattle.transfer_rx.specs.Reassembly.{Arrival, Delivery, Gives, answer}
use Rattle.alloc_spec.specs.Accepted.{setting_for}
use Rattle.alloc_spec.specs.AllocatorState.{AllocatorState, knows_all, members_of}
use Rattle.alloc_spec.specs.Step.{Event, step}
use Rattle.alloc_spec.specs.Step.Event.{Rx, Tick}
use Rattle.alloc_spec.specs.StepState.{StepState}
use Rattle.alloc_spec.specs.Transfers.{Offer}
use Rattle.alloc_spec_laws.specs.Phases.{when_told}
use Rattle.service_steps.specs.Requests.{moment_at}

-- whoever knows all members and heard no leader for the longest wait stands at its next tick, where there is a next
-- term
abbrev pub StandsInTime : Type 0
StandsInTime = (t : AllocatorState) (number now word : ℕ) → knows_all t ≡ true →
    t.times.since + election_wait + election_spread ≤ max t.now now → t.raft_server.memory.role ≢ Leader →
    t.raft_server.store.term < term_limit →
    TickDuty t.raft_server (step t number (Tick now word)).step_state.allocator.raft_server

-- a call to the peer is pending; or there is nothing new for it, and it was called not long ago; or its call found no
-- room in the queue
abbrev pub IsInTouch : ℕ → StepState → Type 0
IsInTouch peer g = (g.allocator.raft_server.memory.pending peer ≢ None)
    ⊎ ((length g.allocator.raft_server.store.log < g.allocator.raft_server.memory.next peer)
    × (is_silent (g.allocator.times.appended peer) g.allocator.now ≡ false))
    ⊎ ((offer : Offer) × In offer g.offers × (offer.what ≡ AppQ) × (offer.to ≡ peer) × (offer.fitted ≡ false))

-- when a step of a leader is over, it is in touch with each peer of its list
abbrev pub StaysInTouch : Type 0
StaysInTouch = (t : AllocatorState) (number : ℕ) (event : Event) (peer : ℕ) →
    (when_told t number event).allocator.raft_server.memory.role ≡ Leader →
    In peer (drop 1 (members_of (when_told t number event).allocator)) →
    IsInTouch peer (step t number event).step_state

-- when a step is over, no pending call is as old as the call timeout
abbrev pub NoCallIsOld : Type 0
NoCallIsOld = (t : AllocatorState) (number : ℕ) (event : Event) (peer : ℕ) → peer < node_ids →
    let after = (step t number event).step_state.allocator in
    is_overdue (after.times.sending peer) after.now ≡ false

-- the frame completes an append request of a listed member, of a higher term, or of the own one where the receiver does
-- not lead
pub record HearsLeader (t : AllocatorState) (arrival : Arrival) (delivery : Delivery)
    (request : AppendRequest) : Type 0 where
  pub gives : answer (setting_for t.me) t.sessions (record arrival { moment = moment_at t arrival }) ≡ Gives delivery
  pub kind : delivery.ident.kind ≡ Request
  pub number : delivery.ident.number ≡ append_entries.number
  pub read : append_request_of delivery.payload ≡ Some request
  pub listed : is_on_list (members_of t) delivery.ident.source ≡ true
  pub current : (t.raft_server.store.term < request.term)
      ⊎ ((request.term ≡ t.raft_server.store.term) × (t.raft_server.memory.role ≢ Leader))

-- then the wait for an election begins anew
abbrev pub WaitsAnew : Type 0
WaitsAnew = (t : AllocatorState) (number : ℕ) (arrival : Arrival) (delivery : Delivery) (request : AppendRequest) →
    HearsLeader t arrival delivery request →
    let after = (step t number (Rx arrival)).step_state.allocator in
    (after.times.since ≡ moment_at t arrival) × (after.raft_server.memory.role ≡ Follower)

-- whoever follows, and waits for less than the least wait, follows still when a tick is over, and its wait goes on
abbrev pub StaysFollower : Type 0
StaysFollower = (t : AllocatorState) (number now word : ℕ) → t.raft_server.memory.role ≡ Follower →
    max t.now now < t.times.since + election_wait →
    let after = (step t number (Tick now word)).step_state.allocator in
    (after.times.since ≡ t.times.since) × (after.raft_server.memory.role ≡ Follower)

-- a frame, whatever it says, leaves a follower a follower; its wait goes on, or begins anew
abbrev pub FramesLeaveFollowers : Type 0
FramesLeaveFollowers = (t : AllocatorState) (number : ℕ) (arrival : Arrival) → t.raft_server.memory.role ≡ Follower →
    let after = (step t number (Rx arrival)).step_state.allocator in
    (after.raft_server.memory.role ≡ Follower)
    × ((after.times.since ≡ t.times.since) ⊎ (after.times.since ≡ moment_at t arrival))

-- ---- many steps of one allocator, each with its number

abbrev pub after_steps : AllocatorState → List (ℕ × Event) → AllocatorState
after_steps t [] = t
after_steps t ((number, event) ∷ events) = after_steps (step t number event).step_state.allocator events

-- a tick comes before the least wait is over
abbrev pub IsSoon : AllocatorState → Event → Type 0
IsSoon t (Tick now word) = max t.now now < t.times.since + election_wait
IsSoon t (Rx arrival) = ⊤

abbrev pub AreSoon : AllocatorState → List (ℕ × Event) → Type 0
AreSoon t [] = ⊤
AreSoon t ((number, event) ∷ events) = IsSoon t event × AreSoon (step t number event).step_state.allocator events

-- a follower follows through all of them
abbrev pub FollowsOn : Type 0
FollowsOn = (t : AllocatorState) (events : List (ℕ × Event)) → t.raft_server.memory.role ≡ Follower → AreSoon t events →
    (after_steps t events).raft_server.memory.role ≡ Follower
