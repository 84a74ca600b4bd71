-- What a leader does for a device whose requests come in time, step by step.
use Rattle.std.specs.Prelude.{◌≡◌, ◌≤◌, ◌+◌, ℕ, [], ◌∷◌, ◌++◌, List, length, max, true, false, None, Some}
use Rattle.alloc_exchange.specs.declared.heard.Heard.TheVariants.{FollowUp, Whole}
use Rattle.alloc_exchange.specs.Exchange.{Accepted, after, answer, recent_requests}
use Rattle.can_frame.specs.declared.step.What.TheVariants.{Alloc}
use Rattle.can_frame.specs.Timing.{stage_timeout}
use Rattle.can_frame.specs.declared.step.Seen.TheVariants.{Took}
use Rattle.dsdl_codec.specs.declared.allocation.Allocation.{Allocation}
use Rattle.id_selector.specs.Choice.{chosen}
use Rattle.node_discovery.specs.Watch.{some_unknown}
use Rattle.raft_core.specs.Taken.{proposal}
use Rattle.raft_model.specs.Server.Role.{Leader}
use Rattle.transfer_rx.specs.Reassembly.{Arrival}
use Rattle.transfer_tx.specs.Queue.{Queued}
use Rattle.alloc_spec.specs.Delivered.{StepResult}
use Rattle.alloc_spec.specs.Exchange.{allocation_payload, may_follow}
use Rattle.alloc_spec.specs.Step.{at_moment, step}
use Rattle.alloc_spec.specs.Step.Event.{Rx}
use Rattle.alloc_spec.specs.AllocatorState.{AllocatorState, is_zero, known, may_propose, members_of, recorded_at, taken}
use Rattle.alloc_spec.specs.Transfers.{Offer, has_room}
use Rattle.service_steps.specs.Requests.{IsRequest, moment_at}

-- an Allocation of this allocator, under the transfer ID that comes next, all frames of which fit
abbrev pub allocation_from : AllocatorState → ℕ → List ℕ → Offer
allocation_from t node uid = record {
  what = Alloc;
  to = 0;
  id = t.ids.alloc;
  payload = allocation_payload node uid;
  re = 0;
  says = None;
  fitted = true;
}

-- the first transfer that is offered
pub record IsFirst (offer : Offer) (offers : List Offer) : Type 0 where
  pub more : List Offer
  pub is : offers ≡ offer ∷ more

-- all by which a leader judges the next request is as it was, but for the moment and the requests so far
pub record IsAsReady (before now : AllocatorState) : Type 0 where
  pub me : now.me ≡ before.me
  pub size : now.size ≡ before.size
  pub opened_at : now.opened_at ≡ before.opened_at
  pub store : now.raft_server.store ≡ before.raft_server.store
  pub role : now.raft_server.memory.role ≡ before.raft_server.memory.role
  pub heard : now.heard ≡ before.heard
  pub watch : now.watch ≡ before.watch

-- the leader leads, and has nothing left to commit
pub record IsReady (t : AllocatorState) : Type 0 where
  pub leads : t.raft_server.memory.role ≡ Leader
  pub committed : t.raft_server.store.commit ≡ length t.raft_server.store.log

-- the result of the step with a request of the first or second stage: these bytes are answered, and wait for more
pub record FollowsUp (t : AllocatorState) (arrival : Arrival) (message : Allocation) (bytes : List ℕ)
    (result : StepResult) : Type 0 where
  pub seen : result.seen ≡ Took
  pub offered : IsFirst (allocation_from t 0 bytes) result.step_state.offers
  pub accepted : result.step_state.allocator.accepted ≡ after t.accepted message (moment_at t arrival) true
  pub now : result.step_state.allocator.now ≡ moment_at t arrival
  pub ready : IsAsReady t result.step_state.allocator
  -- who had told all that it committed has told all that it commits
  pub told : t.raft_server.memory.told ≡ t.raft_server.store.commit
      → result.step_state.allocator.raft_server.memory.told ≡ result.step_state.allocator.raft_server.store.commit

-- a leader gives a follow-up, where its frames have room
abbrev pub GivesFollowUps : Type 0
GivesFollowUps = (t : AllocatorState) (number : ℕ) (arrival : Arrival) (message : Allocation) (bytes : List ℕ) →
    IsReady t → IsRequest arrival message →
    answer t.accepted message (moment_at t arrival) true ≡ FollowUp (record { items = bytes }) →
    has_room t.queue (allocation_payload 0 bytes) ≡ true →
    FollowsUp t arrival message bytes (step t number (Rx arrival))

-- a new unique ID, for which there is room in the log and a node ID
pub record MayRecord (t : AllocatorState) (now preferred : ℕ) (uid : List ℕ) (node : ℕ) : Type 0 where
  pub device : is_zero uid ≡ false
  pub new : recorded_at t.raft_server.store.log uid ≡ None
  pub may : may_propose t ≡ true
  pub all_known : some_unknown t.watch (known t) now ≡ false
  pub choice : chosen (taken (at_moment now t)) preferred ≡ Some node

-- the result of the step with a request of the third stage: the pair stands at the end of the log
pub record Records (t : AllocatorState) (uid : List ℕ) (node : ℕ) (result : StepResult) : Type 0 where
  pub seen : result.seen ≡ Took
  pub log : result.step_state.allocator.raft_server.store.log
      ≡ t.raft_server.store.log ++ proposal t.raft_server.store.term uid node ∷ []
  pub term : result.step_state.allocator.raft_server.store.term ≡ t.raft_server.store.term
  pub role : result.step_state.allocator.raft_server.memory.role ≡ t.raft_server.memory.role

-- a leader records the pair, whatever is said of follow-ups by then
abbrev pub RecordsPairs : Type 0
RecordsPairs = (t : AllocatorState) (number : ℕ) (arrival : Arrival) (message : Allocation) (uid : List ℕ)
    (preferred node : ℕ) →
    IsRequest arrival message →
    answer t.accepted message (moment_at t arrival) (may_follow t) ≡ Whole uid preferred →
    MayRecord t (moment_at t arrival) preferred uid node → Records t uid node (step t number (Rx arrival))

-- an allocator that is alone commits and tells it in the same step
pub record TellsAtOnce (t : AllocatorState) (uid : List ℕ) (node : ℕ) (result : StepResult) : Type 0 where
  pub committed : result.step_state.allocator.raft_server.store.commit
      ≡ length result.step_state.allocator.raft_server.store.log
  pub offered : result.step_state.offers ≡ allocation_from t node uid ∷ []

abbrev pub TellsPairsAtOnce : Type 0
TellsPairsAtOnce = (t : AllocatorState) (number : ℕ) (arrival : Arrival) (message : Allocation) (uid : List ℕ)
    (preferred node : ℕ) →
    IsReady t → members_of t ≡ t.me ∷ [] → t.raft_server.memory.told ≡ t.raft_server.store.commit →
    IsRequest arrival message →
    answer t.accepted message (moment_at t arrival) (may_follow t) ≡ Whole uid preferred →
    MayRecord t (moment_at t arrival) preferred uid node →
    has_room t.queue (allocation_payload node uid) ≡ true → TellsAtOnce t uid node (step t number (Rx arrival))

-- ---- three requests

-- an allocator from whose queue frames went out meanwhile
abbrev pub with_queue : List Queued → AllocatorState → AllocatorState
with_queue queue t = record t { queue = queue }

-- three requests tell a unique ID in its parts, each in time, and nothing of another device waits
pub record AsksInTime (accepted : List Accepted) (a b c : Allocation) (x y z : ℕ) : Type 0 where
  pub fresh : recent_requests accepted x ≡ []
  pub first : a.first_part ≡ true
  pub second : b.first_part ≡ false
  pub third : c.first_part ≡ false
  pub six : length a.uid.items ≡ 6
  pub twelve : length b.uid.items ≡ 6
  pub sixteen : length c.uid.items ≡ 4
  pub soon : y ≤ x + stage_timeout
  pub late : z ≤ y + stage_timeout

-- the requests, as frames, and the queues with which they meet the leader
pub record Dialogue : Type 0 where
  pub a : Allocation
  pub b : Allocation
  pub c : Allocation
  pub first : Arrival
  pub second : Arrival
  pub third : Arrival
  -- the numbers of the three steps
  pub one : ℕ
  pub two : ℕ
  pub three : ℕ
  -- what waits in the queue before the second and the third
  pub then_waiting : List Queued
  pub last_waiting : List Queued

abbrev pub uid_told : Dialogue → List ℕ
uid_told d = (d.a.uid.items ++ d.b.uid.items) ++ d.c.uid.items

abbrev pub result_of_first : AllocatorState → Dialogue → StepResult
result_of_first t d = step t d.one (Rx d.first)

abbrev pub before_second : AllocatorState → Dialogue → AllocatorState
before_second t d = with_queue d.then_waiting (result_of_first t d).step_state.allocator

abbrev pub result_of_second : AllocatorState → Dialogue → StepResult
result_of_second t d = step (before_second t d) d.two (Rx d.second)

abbrev pub before_third : AllocatorState → Dialogue → AllocatorState
before_third t d = with_queue d.last_waiting (result_of_second t d).step_state.allocator

abbrev pub result_of_third : AllocatorState → Dialogue → StepResult
result_of_third t d = step (before_third t d) d.three (Rx d.third)

-- the moments of the three steps
abbrev pub first_moment : AllocatorState → Dialogue → ℕ
first_moment t d = moment_at t d.first

abbrev pub second_moment : AllocatorState → Dialogue → ℕ
second_moment t d = max (first_moment t d) d.second.moment

abbrev pub third_moment : AllocatorState → Dialogue → ℕ
third_moment t d = max (second_moment t d) d.third.moment

-- the requests come in time to a ready leader, whose queue has room for each follow-up
pub record Comes (t : AllocatorState) (d : Dialogue) (node : ℕ) : Type 0 where
  pub ready : IsReady t
  pub first : IsRequest d.first d.a
  pub second : IsRequest d.second d.b
  pub third : IsRequest d.third d.c
  pub in_time : AsksInTime t.accepted d.a d.b d.c (first_moment t d) (second_moment t d) (third_moment t d)
  pub room : has_room t.queue (allocation_payload 0 d.a.uid.items) ≡ true
  pub room_then : has_room d.then_waiting (allocation_payload 0 (d.a.uid.items ++ d.b.uid.items)) ≡ true
  pub may : MayRecord t (third_moment t d) d.c.node (uid_told d) node

-- two follow-ups, and the pair in the log
pub record IsServed (t : AllocatorState) (d : Dialogue) (node : ℕ) : Type 0 where
  pub first : FollowsUp t d.first d.a d.a.uid.items (result_of_first t d)
  pub second : FollowsUp (before_second t d) d.second d.b (d.a.uid.items ++ d.b.uid.items) (result_of_second t d)
  pub third : Records (before_third t d) (uid_told d) node (result_of_third t d)

abbrev pub ServesInThree : Type 0
ServesInThree = (t : AllocatorState) (d : Dialogue) (node : ℕ) → Comes t d node → IsServed t d node

-- alone, with all told, it answers the third with the pair
abbrev pub AnswersInThree : Type 0
AnswersInThree = (t : AllocatorState) (d : Dialogue) (node : ℕ) → Comes t d node →
    members_of t ≡ t.me ∷ [] → t.raft_server.memory.told ≡ t.raft_server.store.commit →
    has_room d.last_waiting (allocation_payload node (uid_told d)) ≡ true →
    TellsAtOnce (before_third t d) (uid_told d) node (result_of_third t d)
