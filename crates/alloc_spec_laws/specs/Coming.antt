-- When the moves of a step may come in the Raft model.
use Rattle.std.specs.Prelude.{◌≡◌, ◌≢◌, ◌⊎◌, ⊤, ℕ, true, false, List, Option, Some}
use Rattle.can_frame.specs.declared.entry.Entry.{Entry}
use Rattle.can_frame.specs.declared.identifier.Kind.{Kind}
use Rattle.can_frame.specs.declared.identifier.Kind.TheVariants.{Anonymous, Message as Broadcast, Request as RequestKind, Response}
use Rattle.can_frame.specs.DataTypes.{append_entries, get_node_info}
use Rattle.can_frame.specs.Log.{IsBlank, IsInjective}
use Rattle.dsdl_codec.specs.declared.append_answer.AppendAnswer.{AppendAnswer}
use Rattle.dsdl_codec.specs.declared.append_request.AppendRequest.{AppendRequest}
use Rattle.dsdl_codec.specs.declared.vote_answer.VoteAnswer.{VoteAnswer}
use Rattle.dsdl_codec.specs.declared.vote_request.VoteRequest.{VoteRequest}
use Rattle.dsdl_codec.specs.AppendAnswer.{append_answer_of}
use Rattle.dsdl_codec.specs.AppendRequest.{append_request_of}
use Rattle.dsdl_codec.specs.VoteAnswer.{vote_answer_of}
use Rattle.dsdl_codec.specs.VoteRequest.{vote_request_of}
use Rattle.raft_core.specs.Handled as handled
use Rattle.raft_core.specs.StoredPuts.{puts_alone}
use Rattle.raft_core.specs.Times.{Times, is_awaited}
use Rattle.raft_model.specs.Fit.{IsFit}
use Rattle.raft_model.specs.Handlers.{puts_of_all}
use Rattle.raft_model.specs.Lists.{In}
use Rattle.raft_model.specs.Members.{IsAll}
use Rattle.raft_model.specs.Messages.{Message, Request}
use Rattle.raft_model.specs.Messages.Message.{Requests}
use Rattle.raft_model.specs.Moves.{IsHeard}
use Rattle.raft_model.specs.Moves.Move.{ProposeEntry}
use Rattle.raft_model.specs.Server.{RaftServer}
use Rattle.raft_model.specs.Server.Role.{Follower}
use Rattle.raft_model.specs.Stops.{AllEnabled, LocalState, state_after_moves}
use Rattle.transfer_rx.specs.Reassembly.{Answer, Delivery, answer}
use Rattle.transfer_rx.specs.Reassembly.Answer.{Continues, Drops, Gives}
use Rattle.alloc_spec.specs.Accepted.{setting_for}
use Rattle.alloc_spec.specs.StepState.{StepState, messages}
use Rattle.alloc_spec.specs.Services.{is_listed}
use Rattle.alloc_spec.specs.Step.{Event, at_step, begin_phase}
use Rattle.alloc_spec.specs.Step.Event.{Rx, Tick}
use Rattle.alloc_spec.specs.AllocatorState.{AllocatorState, knows_all, members_of}

-- ---- what a delivered transfer of a member says is in the bag; a service that is neither GetNodeInfo nor
-- AppendEntries is RequestVote

pub record RequestsFrom (bag : List Message) (me : ℕ) (d : Delivery) : Type 0 where
  pub votes : d.ident.number ≢ get_node_info.number → d.ident.number ≢ append_entries.number
      → (request : VoteRequest) → vote_request_of d.payload ≡ Some request
      → In (Requests (handled.vote_request_of request d.mark.step d.ident.source me)) bag
  pub appends : d.ident.number ≡ append_entries.number
      → (request : AppendRequest) → append_request_of d.payload ≡ Some request
      → In (Requests (handled.append_request_of request d.mark.step d.ident.source me)) bag

-- a response that the pending call takes answers that very call, or counts for nothing
pub record AnswersFrom (bag : List Message) (raft_server : RaftServer) (times : Times) (d : Delivery)
    (call : Request) : Type 0 where
  pub votes : d.ident.number ≢ get_node_info.number → d.ident.number ≢ append_entries.number
      → (says : VoteAnswer) → vote_answer_of d.payload ≡ Some says →
      is_awaited raft_server times d.ident.source false d.id ≡ true
      → IsHeard bag raft_server.store (handled.answer_of d.mark.step d.ident.source call says.term says.granted)
  pub appends : d.ident.number ≡ append_entries.number
      → (says : AppendAnswer) → append_answer_of d.payload ≡ Some says →
      is_awaited raft_server times d.ident.source true d.id ≡ true
      → IsHeard bag raft_server.store (handled.answer_of d.mark.step d.ident.source call says.term says.success)

abbrev pub SaysFrom : List Message → AllocatorState → Delivery → Kind → Type 0
SaysFrom bag t d Anonymous = ⊤
SaysFrom bag t d Broadcast = ⊤
SaysFrom bag t d RequestKind = is_listed d t ≡ true → RequestsFrom bag t.me d
SaysFrom bag t d Response = is_listed d t ≡ true
    → (call : Request) → t.raft_server.memory.pending d.ident.source ≡ Some call →
    AnswersFrom bag t.raft_server t.times d call

abbrev pub AnswerFrom : List Message → AllocatorState → Answer → Type 0
AnswerFrom bag t (Gives d) = SaysFrom bag t d d.ident.kind
AnswerFrom bag t Continues = ⊤
AnswerFrom bag t (Drops why) = ⊤

-- at the step's moment, when the calls of 1,000 ms are given up
abbrev pub TakesFrom : ℕ → List Message → AllocatorState → Event → Type 0
TakesFrom number bag t (Tick now word) = ⊤
TakesFrom number bag t (Rx arrival) =
    let then_ : AllocatorState = (begin_phase number arrival.moment t).allocator in
    AnswerFrom bag then_ (answer (setting_for then_.me) then_.sessions (at_step then_ arrival))

-- ---- where a step may come

-- the pending calls are the server's own
abbrev pub OwnCalls : ℕ → (ℕ → Option Request) → Type 0
OwnCalls me pending = (peer : ℕ) (request : Request) → pending peer ≡ Some request → request.from ≡ me

-- where the server knows as many members as there are, it knows those that there are; and whoever is no Follower does
pub record KnowsMembers (t : AllocatorState) (members : List ℕ) : Type 0 where
  pub all : knows_all t ≡ true → IsAll (members_of t) members
  pub counting : t.raft_server.memory.role ≢ Follower → knows_all t ≡ true

pub record MayStep (t : AllocatorState) (number : ℕ) (event : Event) (members : List ℕ) (bag : List Message)
    : Type 0 where
  pub knows : KnowsMembers t members
  pub fit : IsFit t.me t.raft_server
  pub calls : OwnCalls t.me t.raft_server.memory.pending
  pub injective : IsInjective t.raft_server.store.log
  pub takes : TakesFrom number bag t event

-- a step of this server that has called nobody yet
pub record Begins (t : AllocatorState) (local_state : LocalState) : Type 0 where
  pub raft_server : local_state.raft_server ≡ t.raft_server
  pub called : (peer : ℕ) → In peer local_state.called → ⊥

-- the step went as a step of the Raft model: its moves may come, with its puts in order, they leave its server, and
-- offer what it said; and what it records has no member's node ID, or is a blank
pub record IsOfTheMachine (members : List ℕ) (me number : ℕ) (bag : List Message) (local_state : LocalState)
    (step_state : StepState) : Type 0 where
  pub come : AllEnabled members me number bag local_state step_state.moves
  pub puts : puts_alone step_state.puts ≡ puts_of_all members me number local_state.raft_server step_state.moves
  pub leave : (state_after_moves members me number local_state step_state.moves).raft_server
      ≡ step_state.allocator.raft_server
  pub say : (message : Message) → In message (messages number step_state) →
      In message (state_after_moves members me number local_state step_state.moves).offered
  pub outside : (entry : Entry) → In (ProposeEntry entry) step_state.moves →
      IsBlank entry ⊎ (In entry.node members → ⊥)

-- what a server keeps, whatever step it takes
pub record KeepsOrder (t : AllocatorState) : Type 0 where
  pub counting : t.raft_server.memory.role ≢ Follower → knows_all t ≡ true
  pub fit : IsFit t.me t.raft_server
  pub calls : OwnCalls t.me t.raft_server.memory.pending

-- of every step that may come, in a cluster of these members, over these messages
abbrev pub WhereItMayStep : (List ℕ → List Message → AllocatorState → ℕ → Event → Type 0) → Type 0
WhereItMayStep Fact = (t : AllocatorState) (number : ℕ) (event : Event) (members : List ℕ) (bag : List Message)
    → MayStep t number event members bag → Fact members bag t number event
