-- What a step may do to the server of the Raft model: what its event brings, and what the moves behind that leave.
use Rattle.std.proofs.Common.{◌≡◌, ◌≢◌, ℕ, Bool, List, refl, sym, ◌∙◌, inl, inr, Some}
use Rattle.std.specs.Prelude.{◌⊎◌, length}
use Rattle.can_frame.specs.declared.identifier.Kind.TheVariants.{Request as RequestKind, Response}
use Rattle.cluster_discovery.specs.Members.{Event as Discovered, Start, members}
use Rattle.dsdl_codec.specs.declared.append_answer.AppendAnswer.{AppendAnswer}
use Rattle.dsdl_codec.specs.declared.append_request.AppendRequest.{AppendRequest}
use Rattle.dsdl_codec.specs.declared.vote_answer.VoteAnswer.{VoteAnswer}
use Rattle.dsdl_codec.specs.declared.vote_request.VoteRequest.{VoteRequest}
use Rattle.dsdl_codec.specs.AppendAnswer.{append_answer_of}
use Rattle.dsdl_codec.specs.AppendRequest as append_codec
use Rattle.dsdl_codec.specs.VoteAnswer.{vote_answer_of}
use Rattle.dsdl_codec.specs.VoteRequest as vote_codec
use Rattle.raft_core.specs.Handled.{append_request_of, vote_request_of}
use Rattle.raft_model.specs.Decisions.{grants, verdict_on}
use Rattle.raft_model.specs.Handlers.{server_after}
use Rattle.raft_model.specs.Messages.{Answer, Request}
use Rattle.raft_model.specs.Moves.{Move}
use Rattle.raft_model.specs.Moves.Appending.{Verdict}
use Rattle.raft_model.specs.Moves.Elections.{with_term}
use Rattle.raft_model.specs.Moves.Move.{TakeAppendAnswer, TakeAppendRequest, TakeVoteAnswer, TakeVoteRequest, TimeOut}
use Rattle.raft_model.specs.Server.{RaftServer}
use Rattle.raft_model.specs.Server.Role.{Leader}
use Rattle.transfer_rx.specs.Reassembly.{Arrival, Delivery, Gives, answer}
use Rattle.alloc_spec.specs.Accepted.{setting_for}
use Rattle.alloc_spec.specs.AllocatorState.{AllocatorState}
use Rattle.service_steps.specs.Requests.{moment_at}
use Rattle.service_steps.proofs.Begins.{IsAsBefore}

-- ---- what moves behind that of an event leave

-- term, vote and role stay; and unless the server leads, log and commit stay
pub record IsLeft (early late : RaftServer) : Type 0 where
  pub term : late.store.term ≡ early.store.term
  pub vote : late.store.vote ≡ early.store.vote
  pub role : late.memory.role ≡ early.memory.role
  pub rest : (early.memory.role ≡ Leader) ⊎ ((late.store.log ≡ early.store.log) × (late.store.commit ≡ early.store.commit))

-- nothing happens
pub all_left : (x : RaftServer) → IsLeft x x
all_left x = record { term = refl; vote = refl; role = refl; rest = inr (refl, refl) }

-- one after another
pub left_then : (x y z : RaftServer) → IsLeft x y → IsLeft y z → IsLeft x z
left_then x y z a b = record {
  term = b.term ∙ a.term;
  vote = b.vote ∙ a.vote;
  role = b.role ∙ a.role;
  rest = elim a.rest [
    | inl leads ↦ inl leads
    | inr same ↦ elim b.rest [
      | inl leads ↦ inl (sym a.role ∙ leads)
      | inr still ↦ inr (still.0 ∙ same.0, still.1 ∙ same.1)
    ]
  ];
}

-- ---- what an event brings

-- a delivery reads as a vote request, which is judged
pub record BringsVote (d : Delivery) (me : ℕ) (server : RaftServer) (request : Request) (granted : Bool) : Type 0 where
  pub kind : d.ident.kind ≡ RequestKind
  pub first : d.ident.number ≢ 1
  pub thirty : d.ident.number ≢ 30
  pub message : VoteRequest
  pub read : vote_codec.vote_request_of d.payload ≡ Some message
  pub is : request ≡ vote_request_of message d.mark.step d.ident.source me
  pub judged : granted ≡ grants (with_term server.store request.term) request

-- a delivery reads as an append request, which is judged
pub record BringsAppend (d : Delivery) (me : ℕ) (server : RaftServer) (request : Request) (verdict : Verdict) : Type 0 where
  pub kind : d.ident.kind ≡ RequestKind
  pub thirty : d.ident.number ≡ 30
  pub message : AppendRequest
  pub read : append_codec.append_request_of d.payload ≡ Some message
  pub is : request ≡ append_request_of message d.mark.step d.ident.source me
  pub judged : verdict ≡ verdict_on server request

-- a delivery reads as an answer to a vote request
pub record BringsVoteAnswer (d : Delivery) (got : Answer) : Type 0 where
  pub kind : d.ident.kind ≡ Response
  pub first : d.ident.number ≢ 1
  pub thirty : d.ident.number ≢ 30
  pub message : VoteAnswer
  pub read : vote_answer_of d.payload ≡ Some message
  pub term : got.term ≡ message.term

-- a delivery reads as an answer to an append request
pub record BringsAppendAnswer (d : Delivery) (got : Answer) : Type 0 where
  pub kind : d.ident.kind ≡ Response
  pub thirty : d.ident.number ≡ 30
  pub message : AppendAnswer
  pub read : append_answer_of d.payload ≡ Some message
  pub term : got.term ≡ message.term

-- the move that a delivery brings
abbrev pub Brings : Delivery → (me : ℕ) → RaftServer → Move → Type 0
Brings d me server (TakeVoteRequest request granted) = BringsVote d me server request granted
Brings d me server (TakeAppendRequest request verdict) = BringsAppend d me server request verdict
Brings d me server (TakeVoteAnswer got) = BringsVoteAnswer d got
Brings d me server (TakeAppendAnswer got) = BringsAppendAnswer d got
Brings d me server move = ⊥

-- the frame completes a delivery, and this brings the move
abbrev pub BringsAtFrame : AllocatorState → Arrival → List ℕ → ℕ → RaftServer → Move → Type 0
BringsAtFrame t arrival list me server move = (d : Delivery)
    × (answer (setting_for t.me) t.sessions (record arrival { moment = moment_at t arrival }) ≡ Gives d) × Brings d me server move

-- the move is that of a tick of a member that knows all members, and these are they
pub record BringsAtTick (start : Start) (list : List ℕ) (me : ℕ) (server : RaftServer) (move : Move) : Type 0 where
  pub is : move ≡ TimeOut
  pub own : me ≡ start.me
  pub events : List Discovered
  pub known : list ≡ members start events
  pub whole : length list ≡ start.size

-- From one server a step goes to another: calls are given up, one move may come that its event brings, and then moves
-- that leave its term, vote and role.
pub record Goes (Brought : List ℕ → ℕ → RaftServer → Move → Type 0) (number : ℕ) (before after : RaftServer) : Type 0 where
  pub early : RaftServer
  pub begun : IsAsBefore before early
  pub late : RaftServer
  pub moved : (late ≡ early) ⊎ ((list : List ℕ) × (me : ℕ) × (move : Move) × Brought list me early move × (late ≡ server_after list me number early move))
  pub left : IsLeft late after
