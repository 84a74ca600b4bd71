-- What a server does with requests and responses of services. Those of Raft count from members on its list alone.
use Rattle.std.specs.Prelude.{ℕ, ◌∷◌, [], Bool, true, false, List, Option, None, Some, if◌then◌else◌}
use Rattle.can_frame.specs.declared.step.What.TheVariants.{App, Info, Vote}
use Rattle.cluster_discovery.specs.Members.{is_on_list}
use Rattle.dsdl_codec.specs.declared.append_answer.AppendAnswer.{AppendAnswer}
use Rattle.dsdl_codec.specs.declared.append_request.AppendRequest.{AppendRequest}
use Rattle.dsdl_codec.specs.declared.node_info.NodeInfo.{NodeInfo}
use Rattle.dsdl_codec.specs.declared.vote_answer.VoteAnswer.{VoteAnswer}
use Rattle.dsdl_codec.specs.declared.vote_request.VoteRequest.{VoteRequest}
use Rattle.dsdl_codec.specs.AppendAnswer.{append_answer_bytes}
use Rattle.dsdl_codec.specs.NodeInfo.{node_info_bytes}
use Rattle.dsdl_codec.specs.VoteAnswer.{vote_answer_bytes}
use Rattle.node_discovery.specs.Watch.{after_info}
use Rattle.raft_core.specs.Handled.{answer_of, append_request_of, vote_request_of, with_blank}
use Rattle.raft_core.specs.Times.{given_at, is_awaited}
use Rattle.raft_model.specs.Decisions.{grants, verdict_on}
use Rattle.raft_model.specs.Messages.{Request}
use Rattle.raft_model.specs.Messages.Message.{Answers}
use Rattle.raft_model.specs.Moves.{Move}
use Rattle.raft_model.specs.Moves.Appending.{Verdict, is_accepted}
use Rattle.raft_model.specs.Moves.Elections.{with_term}
use Rattle.raft_model.specs.Moves.Leading.{answer_to}
use Rattle.raft_model.specs.Moves.Move.{TakeAppendAnswer, TakeAppendRequest, TakeVoteAnswer, TakeVoteRequest}
use Rattle.transfer_rx.specs.Reassembly.{Delivery}
use Rattle.alloc_spec.specs.AllocatorState.{AllocatorState, members_of, status_of}
use Rattle.alloc_spec.specs.StepState.{StepState, with_response_to, with_moves}

-- the source is on the list
abbrev pub is_listed : Delivery → AllocatorState → Bool
is_listed d t = is_on_list (members_of t) d.ident.source

-- ---- GetNodeInfo

-- the 15 bytes UAVCAN-ALLOC-00, and the node ID
abbrev pub uid_of : ℕ → List ℕ
uid_of me = 85 ∷ 65 ∷ 86 ∷ 67 ∷ 65 ∷ 78 ∷ 45 ∷ 65 ∷ 76 ∷ 76 ∷ 79 ∷ 67 ∷ 45 ∷ 48 ∷ 48
    ∷ me ∷ []

-- uavcan.allocator
abbrev pub name : List ℕ
name = 117 ∷ 97 ∷ 118 ∷ 99 ∷ 97 ∷ 110 ∷ 46 ∷ 97 ∷ 108 ∷ 108 ∷ 111 ∷ 99 ∷ 97 ∷ 116 ∷ 111
    ∷ 114 ∷ []

abbrev pub info_of : AllocatorState → NodeInfo
info_of t = record {
  status = status_of t;
  sw_major = 1;
  sw_minor = 0;
  sw_flags = 0;
  sw_commit = 0;
  sw_crc = 0;
  hw_major = 1;
  hw_minor = 0;
  uid = uid_of t.me;
  certificate = record { items = [] };
  name = record { items = name };
}

abbrev pub tells_info : ℕ → Delivery → StepState → StepState
tells_info step d g = with_response_to step Info d (node_info_bytes (info_of g.allocator)) None g

abbrev pub hears_info : Delivery → NodeInfo → StepState → StepState
hears_info d info g =
    record g {
      allocator = record g.allocator
          { watch = after_info g.allocator.watch d.ident.source d.id info.uid g.allocator.now };
    }

-- ---- RequestVote: the move, and then the answer, whether it fits or not

abbrev pub answers_vote : ℕ → Delivery → Request → StepState → StepState
answers_vote step d request g =
    let store = with_term g.allocator.raft_server.store request.term in
    let granted : Bool = grants store request in
    with_response_to step Vote d (vote_answer_bytes (record { term = store.term; granted = granted }) 0)
    (Some (Answers (answer_to g.allocator.me step store request granted)))
    (with_moves step (given_at g.allocator.now) (TakeVoteRequest request granted ∷ []) g)

abbrev pub answers_vote_request : ℕ → Delivery → VoteRequest → StepState → StepState
answers_vote_request step d request g =
    answers_vote step d (vote_request_of request d.mark.step d.ident.source g.allocator.me) g

abbrev pub takes_vote_request : ℕ → Delivery → VoteRequest → StepState → StepState
takes_vote_request step d request g = if is_listed d g.allocator then answers_vote_request step d request g else g

-- an answer is taken by the call that waits for it, and is the answer to that call; by it the moment for a leader's
-- blank may come
abbrev pub answers_call : ℕ → (Request → Move) → Option Request → StepState → StepState
answers_call step move None g = g
answers_call step move (Some request) g =
    let t = g.allocator in with_moves step (given_at t.now)
    (with_blank (members_of t) t.me step t.times t.raft_server (move request ∷ [])) g

abbrev pub vote_answered : Delivery → VoteAnswer → Request → Move
vote_answered d answer request =
    TakeVoteAnswer (answer_of d.mark.step d.ident.source request answer.term answer.granted)

abbrev pub ends_vote_call : ℕ → Delivery → VoteAnswer → StepState → StepState
ends_vote_call step d answer g =
    if is_awaited g.allocator.raft_server g.allocator.times d.ident.source false d.id
    then answers_call step (vote_answered d answer) (g.allocator.raft_server.memory.pending d.ident.source) g else g

abbrev pub takes_vote_answer : ℕ → Delivery → VoteAnswer → StepState → StepState
takes_vote_answer step d answer g = if is_listed d g.allocator then ends_vote_call step d answer g else g

-- ---- AppendEntries, likewise

abbrev pub answers_append : ℕ → Delivery → Request → StepState → StepState
answers_append step d request g =
    let store = with_term g.allocator.raft_server.store request.term in
    let verdict : Verdict = verdict_on g.allocator.raft_server request in
    with_response_to step App d (append_answer_bytes (record { term = store.term; success = is_accepted verdict }) 0)
    (Some (Answers (answer_to g.allocator.me step store request (is_accepted verdict))))
    (with_moves step (given_at g.allocator.now) (TakeAppendRequest request verdict ∷ []) g)

abbrev pub answers_append_request : ℕ → Delivery → AppendRequest → StepState → StepState
answers_append_request step d request g =
    answers_append step d (append_request_of request d.mark.step d.ident.source g.allocator.me) g

abbrev pub takes_append_request : ℕ → Delivery → AppendRequest → StepState → StepState
takes_append_request step d request g = if is_listed d g.allocator then answers_append_request step d request g else g

abbrev pub append_answered : Delivery → AppendAnswer → Request → Move
append_answered d answer request =
    TakeAppendAnswer (answer_of d.mark.step d.ident.source request answer.term answer.success)

abbrev pub ends_append_call : ℕ → Delivery → AppendAnswer → StepState → StepState
ends_append_call step d answer g =
    if is_awaited g.allocator.raft_server g.allocator.times d.ident.source true d.id
    then answers_call step (append_answered d answer) (g.allocator.raft_server.memory.pending d.ident.source) g else g

abbrev pub takes_append_answer : ℕ → Delivery → AppendAnswer → StepState → StepState
takes_append_answer step d answer g = if is_listed d g.allocator then ends_append_call step d answer g else g
