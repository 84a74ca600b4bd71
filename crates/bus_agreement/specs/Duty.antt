-- What each step owes that members take in a list of rows.
use Rattle.std.specs.Prelude.{⊤, ◌≡◌, ◌≢◌, ◌⊎◌, ℕ, ◌+◌, ◌<◌, true, List, ◌∷◌, ◌++◌, max}
use Rattle.can_frame.specs.Log.{IsBlank}
use Rattle.can_frame.specs.declared.entry.Entry.{Entry}
use Rattle.raft_core.specs.Times.{has_waited}
use Rattle.raft_model.specs.Duty.{CommitDuty, TickDuty, WinDuty}
use Rattle.raft_model.specs.Lists.{In}
use Rattle.raft_model.specs.Moves.Elections.{term_limit}
use Rattle.raft_model.specs.Moves.Move.{ProposeEntry}
use Rattle.raft_model.specs.Server.Role.{Leader}
use Rattle.bus_rows.specs.declared.row.Row.{Row}
use Rattle.bus_rows.specs.declared.row.Row.TheVariants.{Rx as RxRow, Tick as TickRow}
use Rattle.transfer_rx.specs.Reassembly.{Arrival}
use Rattle.alloc_spec_laws.specs.Answering.{AnswersRequests}
use Rattle.alloc_spec_laws.specs.Blanks.{AddsBlank}
use Rattle.alloc_spec_laws.specs.FreeNodes.{GivesFreeNode, IsBlankOf}
use Rattle.alloc_spec_laws.specs.Phases.{TellsDuly, when_committed, when_seen, when_told}
use Rattle.alloc_spec.specs.Ending.{call_phase}
use Rattle.alloc_spec.specs.Step.{Event, step}
use Rattle.alloc_spec.specs.Step.Event.{Rx, Tick}
use Rattle.alloc_spec.specs.AllocatorState.{AllocatorState, knows_all}
use Rattle.bus_spec.specs.Cluster.{Cluster, receipt_of, tick_of, world_of}
use Rattle.bus_spec.specs.Members.{MemberStatus}
use Rattle.bus_spec.specs.Members.MemberStatus.{Down, Up, Failed}

-- A step of a running member, over the members of its cluster: what it does, or sets out to do where its disk cuts it
-- off.
pub record DoesItsDuty (members : List ℕ) (t : AllocatorState) (number : ℕ) (event : Event) : Type 0 where
  -- the event is seen; a leader commits, then it tells; then the calls are left
  pub phases : (step t number event).step_state ≡ call_phase number (when_told t number event)
  -- a leader commits as far as a quorum of the members lets it
  pub commit : (when_seen t number event).allocator.raft_server.memory.role ≡ Leader
      → CommitDuty members t.me (when_seen t number event).allocator.raft_server
      (when_committed t number event).allocator.raft_server
  -- a leader tells the next place, where there is room for it
  pub tell : TellsDuly number (when_committed t number event) (when_told t number event)
  -- whoever has waited when it reads its clock, knows all members and does not lead stands for election, where there is
  -- a next term
  pub stand : (now word : ℕ) → event ≡ Tick now word → knows_all t ≡ true
      → has_waited t.times (max t.now now) ≡ true
      → t.raft_server.memory.role ≢ Leader → t.raft_server.store.term < term_limit
      → TickDuty t.raft_server (step t number event).step_state.allocator.raft_server
  -- whoever counts the votes of a quorum leads when the step is over
  pub win : WinDuty members (step t number event).step_state.allocator.raft_server
  -- what it records when it takes a frame is a leader's blank, or has a node ID that is none of a member, stands in no
  -- entry of its log, and of which no NodeStatus was heard within 3,000 ms; and no node is online then that is neither
  -- known nor identified
  pub give : (arrival : Arrival) (entry : Entry) → event ≡ Rx arrival
      → In (ProposeEntry entry) (step t number event).step_state.moves
      → IsBlankOf (when_seen t number event).allocator.raft_server entry
      ⊎ GivesFreeNode t (max t.now arrival.moment) entry
  -- a blank is added by a leader alone: by one that is told its members once a quorum has its log, by any other in the
  -- step in which it wins
  pub blank : (entry : Entry) → In (ProposeEntry entry) (step t number event).step_state.moves → IsBlank entry
      → AddsBlank t number event entry
  -- whoever is asked answers: it offers a response to its queue, for each request of GetNodeInfo, and for each of Raft
  -- of a node on its list of members; a response that finds no room in the queue is offered too
  pub answer : AnswersRequests t number event

-- a stopped member takes no step, nor does one that failed
abbrev pub DoDutyIn : List ℕ → ℕ → Event → MemberStatus → Type 0
DoDutyIn members number event Down = ⊤
DoDutyIn members number event (Up t) = DoesItsDuty members t number event
DoDutyIn members number event (Failed failure) = ⊤

abbrev pub IsDutiful : Cluster → Row → Type 0
IsDutiful w (TickRow n ms word) = DoDutyIn w.ids (w.rows + 1) (tick_of ms word) (w.member n).status
IsDutiful w (RxRow n k ms) = DoDutyIn w.ids (w.rows + 1) (receipt_of w k ms) (w.member n).status
IsDutiful w row = ⊤

-- of a list of rows: each of them, in the world that it comes to
abbrev pub AreDutiful : List ℕ → List Row → Type 0
AreDutiful ids rows = (first rest : List Row) (row : Row) → rows ≡ first ++ (row ∷ rest) →
    IsDutiful (world_of ids first) row
