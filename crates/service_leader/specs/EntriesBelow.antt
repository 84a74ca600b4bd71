-- What the laws of entries stand on, together: each field is what a law says of these rows. It is a means of their
-- proofs.
use Rattle.std.specs.Prelude.{◌≡◌, ◌≢◌, ℕ, ◌+◌, ◌≤◌, true, List, ◌++◌, length, Some}
use Rattle.raft_model.specs.Lists.{In}
use Rattle.raft_model.specs.Log.{Same}
use Rattle.raft_model.specs.Messages.{Request}
use Rattle.raft_model.specs.Server.Role.{Leader}
use Rattle.bus_rows.specs.declared.row.Row.{Row}
use Rattle.alloc_spec.specs.AllocatorState.{AllocatorState}
use Rattle.alloc_spec.specs.Step.{Event, step}
use Rattle.alloc_spec_laws.specs.Calls.{CallsAreMade}
use Rattle.bus_agreement.specs.Duty.{AreDutiful}
use Rattle.service_steps.specs.InTime.{StaysInTouch}
use Rattle.service_calm.specs.Calls.{CallsReadAsSaid, ListsStay}
use Rattle.service_leader.specs.CallsAsk.{CallsAskNext}
use Rattle.service_leader.specs.Entries.{CallsInStepAreAccepted}
use Rattle.bus_spec.specs.Cluster.{Cluster, world_of}
use Rattle.bus_spec.specs.Lawful.{DoNoHarm}
use Rattle.bus_spec.specs.Members.MemberStatus.{Up}

-- Where member n leads, and member m runs in no higher term: m has what n knows it to have.
abbrev pub HasWhatIsKnown : List ℕ → Cluster → Type 0
HasWhatIsKnown ids w = (n m : ℕ) (leader peer : AllocatorState) → In n ids → In m ids → m ≢ n →
    (w.member n).status ≡ Up leader → (w.member m).status ≡ Up peer → leader.raft_server.memory.role ≡ Leader →
    peer.raft_server.store.term ≤ leader.raft_server.store.term →
    Same (leader.raft_server.memory.matched m) leader.raft_server.store.log peer.raft_server.store.log

-- where member n leads, it calls each peer next at a place of its log, or just behind them
abbrev pub CallsInside : List ℕ → Cluster → Type 0
CallsInside ids w = (n m : ℕ) (leader : AllocatorState) → In n ids → (w.member n).status ≡ Up leader →
    leader.raft_server.memory.role ≡ Leader →
    (1 ≤ leader.raft_server.memory.next m)
    × (leader.raft_server.memory.next m ≤ length leader.raft_server.store.log + 1)

-- each call of member n that pends was made in a row that is past
abbrev pub PendingCallsArePast : List ℕ → Cluster → Type 0
PendingCallsArePast ids w = (n m : ℕ) (server : AllocatorState) (request : Request) → In n ids →
    (w.member n).status ≡ Up server → server.raft_server.memory.pending m ≡ Some request → request.step ≤ w.rows

-- where member n leads, each of its calls that pends is an append request
abbrev pub AppendsPend : List ℕ → Cluster → Type 0
AppendsPend ids w = (n m : ℕ) (leader : AllocatorState) (request : Request) → In n ids →
    (w.member n).status ≡ Up leader → leader.raft_server.memory.role ≡ Leader →
    leader.raft_server.memory.pending m ≡ Some request → request.append ≡ true

-- where member n leads, each of its calls that pends is of its term
abbrev pub PendInTerm : List ℕ → Cluster → Type 0
PendInTerm ids w = (n m : ℕ) (leader : AllocatorState) (request : Request) → In n ids →
    (w.member n).status ≡ Up leader → leader.raft_server.memory.role ≡ Leader →
    leader.raft_server.memory.pending m ≡ Some request → request.term ≡ leader.raft_server.store.term

-- of these rows, and of more behind them that do no harm
pub record EntryLaws (ids : List ℕ) (rows : List Row) : Type 0 where
  pub me : (t : AllocatorState) (number : ℕ) (event : Event) → (step t number event).step_state.allocator.me ≡ t.me
  pub made : (t : AllocatorState) (number : ℕ) (event : Event) →
      CallsAreMade number t (step t number event).step_state
  pub ask : CallsAskNext
  pub touch : StaysInTouch
  pub stay : ListsStay
  pub read : (more : List Row) → DoNoHarm (world_of ids rows) more → CallsReadAsSaid ids (rows ++ more)
  pub accept : (more : List Row) → DoNoHarm (world_of ids rows) more → CallsInStepAreAccepted ids (rows ++ more)
  pub duty : (more : List Row) → DoNoHarm (world_of ids rows) more → AreDutiful ids (rows ++ more)
  pub has : (more : List Row) → DoNoHarm (world_of ids rows) more → HasWhatIsKnown ids (world_of ids (rows ++ more))
  pub appends : (more : List Row) → DoNoHarm (world_of ids rows) more → AppendsPend ids (world_of ids (rows ++ more))
  pub terms : (more : List Row) → DoNoHarm (world_of ids rows) more → PendInTerm ids (world_of ids (rows ++ more))
  pub inside : (more : List Row) → DoNoHarm (world_of ids rows) more → CallsInside ids (world_of ids (rows ++ more))
  pub past : PendingCallsArePast ids (world_of ids rows)
  pub node : (p : ℕ) (server : AllocatorState) → In p ids → ((world_of ids rows).member p).status ≡ Up server →
      server.me ≡ p
