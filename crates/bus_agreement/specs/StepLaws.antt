-- What the laws of a step say, as their contracts have it: the proofs here stand on these two records.
use Rattle.std.proofs.Common.{◌≡◌, ℕ, ◌≤◌, true, List, length, ◌++◌, ◌⊎◌}
use Rattle.std.specs.Prelude.{max, All}
use Rattle.alloc_spec.specs.Accepted.{setting_for}
use Rattle.alloc_spec.specs.AllocatorState.{AllocatorState, members_of}
use Rattle.alloc_spec.specs.Step.{Event, step}
use Rattle.alloc_spec.specs.Step.Event.{Rx, Tick}
use Rattle.alloc_spec.specs.Transfers.{Offer, GivenPair}
use Rattle.alloc_spec_laws.specs.Apart.{OneByName}
use Rattle.alloc_spec_laws.specs.Calls.{CallsAreMade}
use Rattle.alloc_spec_laws.specs.Coming.{Begins, IsOfTheMachine, KeepsOrder, MayStep}
use Rattle.alloc_spec_laws.specs.Giving.{Gives, IsGivenIn}
use Rattle.alloc_spec_laws.specs.Listing.{IsNamed}
use Rattle.alloc_spec_laws.specs.Proposals.{HasUids, RecordsUids}
use Rattle.alloc_spec_laws.specs.Responses.{ResponsesAnswer}
use Rattle.alloc_spec_laws.specs.Saying.{IsSaid}
use Rattle.alloc_spec_laws.specs.Sound.{IsInRange, IsOnTheBus, IsSound}
use Rattle.alloc_spec_laws.specs.Waiting.{all_frames_put}
use Rattle.bus_agreement.specs.Events.{TellsMembers}
use Rattle.cluster_discovery.specs.Members.{IsMemberList, IsStart, Start}
use Rattle.kv_store.specs.KeyDisk.{KeyDisk}
use Rattle.raft_core.specs.StoredPuts.{AreOfNodes, PutWithOrigin, VoteForNodes, puts_alone, store_of, stored_puts}
use Rattle.raft_log.specs.KeyDisk.{are_put, puts_on}
use Rattle.raft_log.specs.Stored.{Put as StoredPut, Stored, after_puts}
use Rattle.raft_model.specs.Handlers.{server_after_all, puts_of_all}
use Rattle.raft_model.specs.Lists.{In}
use Rattle.raft_model.specs.Messages.{Message}
use Rattle.raft_model.specs.Moves.{Move}
use Rattle.raft_model.specs.Server.{RaftServer, committed, put_all}
use Rattle.raft_model.specs.Stops.{LocalState, state_after_moves}
use Rattle.transfer_rx.specs.Origin.{CameWithKey}
use Rattle.transfer_rx.specs.Reassembly.{Arrival, Setting, next}
use Rattle.transfer_rx.specs.Sessions.{Session}
use Rattle.transfer_rx.specs.Run as rx_run
use Rattle.cluster_discovery.specs.Members as discovery

-- what a step offers, calls and puts into its queue
pub record StepLaws : Type 0 where
  pub one : (t : AllocatorState) (number : ℕ) (event : Event) → OneByName (step t number event).step_state.offers
  pub me : (t : AllocatorState) (number : ℕ) (event : Event) → (step t number event).step_state.allocator.me ≡ t.me
  pub says : (t : AllocatorState) (number : ℕ) (event : Event) (offer : Offer)
      → In offer (step t number event).step_state.offers
      → IsSaid number t.me offer.what offer.to offer.re offer.payload offer.says
  pub responses : (t : AllocatorState) (number : ℕ) (event : Event) → ResponsesAnswer t number event
  pub called : (t : AllocatorState) (number : ℕ) (event : Event)
      → CallsAreMade number t (step t number event).step_state
  pub queue : (t : AllocatorState) (number : ℕ) (event : Event)
      → (step t number event).step_state.allocator.queue ≡ t.queue
      ++ all_frames_put number t.me (step t number event).step_state.offers
  pub heard : (t : AllocatorState) (number : ℕ) (arrival : Arrival)
      → (step t number (Rx arrival)).step_state.allocator.sessions
      ≡ next (setting_for t.me) t.sessions (record arrival { moment = max t.now arrival.moment })
  pub ticked : (t : AllocatorState) (number now word : ℕ)
      → (step t number (Tick now word)).step_state.allocator.sessions ≡ t.sessions
  pub kept : (setting : Setting) (before arrivals : List Arrival) (sessions : List Session)
      → All (CameWithKey setting before) sessions
      → All (CameWithKey setting (before ++ arrivals)) (rx_run.run setting sessions arrivals)

-- what a step keeps, and what of it is stored
pub record MoreLaws : Type 0 where
  pub moves : (t : AllocatorState) (number : ℕ) (event : Event) (members : List ℕ) (bag : List Message)
      → MayStep t number event members bag
      → (local_state : LocalState) → Begins t local_state
      → IsOfTheMachine members t.me number bag local_state (step t number event).step_state
  pub keeps : (t : AllocatorState) (number : ℕ) (event : Event) (members : List ℕ) (bag : List Message)
      → MayStep t number event members bag
      → KeepsOrder (step t number event).step_state.allocator
  pub sound : (t : AllocatorState) (number : ℕ) (event : Event) → IsSound t → IsOnTheBus event
      → IsSound (step t number event).step_state.allocator
  pub ranges : (t : AllocatorState) (number : ℕ) (event : Event) → IsSound t → IsOnTheBus event
      → (offer : Offer) → In offer (step t number event).step_state.offers → IsInRange offer
  pub size : (t : AllocatorState) (number : ℕ) (event : Event) → (step t number event).step_state.allocator.size
      ≡ t.size
  pub up : (t : AllocatorState) (number : ℕ) (event : Event)
      → (step t number event).step_state.allocator.raft_server.memory.up ≡ t.raft_server.memory.up
  pub named : (t : AllocatorState) (number : ℕ) (event : Event) (node : ℕ)
      → In node (members_of (step t number event).step_state.allocator)
      → In node (members_of t) ⊎ IsNamed t number event node
  pub uids : (t : AllocatorState) (number : ℕ) (event : Event) → HasUids t.watch
      → HasUids (step t number event).step_state.allocator.watch
  pub records : (t : AllocatorState) (number : ℕ) (event : Event) → HasUids t.watch
      → RecordsUids (step t number event).step_state
  pub tells : (t : AllocatorState) (number : ℕ) (event : Event) → TellsMembers t (step t number event).step_state.offers
  pub given : (t : AllocatorState) (number : ℕ) (event : Event)
      → t.raft_server.store.commit ≤ length t.raft_server.store.log
      → (offer : Offer) (given : GivenPair) → In offer (step t number event).step_state.offers
      → Gives offer.what offer.payload given
      → IsGivenIn (committed (step t number event).step_state.allocator.raft_server.store) given
  pub list : (start : Start) (events : List discovery.Event) → IsStart start
      → IsMemberList start.me start.size (discovery.members start events)
  pub done : (key_disk : KeyDisk Stored) (puts : List StoredPut) → are_put puts key_disk.calls ≡ true
      → (puts_on puts key_disk).store ≡ after_puts puts key_disk.store
  pub votes : (members : List ℕ) (member number : ℕ) (server : RaftServer) (moves : List Move)
      → 1 ≤ member → AreOfNodes moves → VoteForNodes (puts_of_all members member number server moves)
  pub same : (puts : List PutWithOrigin) (state : Stored) → VoteForNodes (puts_alone puts)
      → store_of (after_puts (stored_puts puts state) state) ≡ put_all (store_of state) (puts_alone puts)
  pub raft_server : (members : List ℕ) (member number : ℕ) (moves : List Move) (local_state : LocalState)
      → (state_after_moves members member number local_state moves).raft_server
      ≡ server_after_all members member number local_state.raft_server moves
  pub store : (members : List ℕ) (member number : ℕ) (moves : List Move) (server : RaftServer)
      → (server_after_all members member number server moves).store
      ≡ put_all server.store (puts_of_all members member number server moves)
