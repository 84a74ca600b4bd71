-- How each step ends: a leader commits, and tells one pair; then the calls that are owed are made.
use Rattle.std.specs.Prelude.{ℕ, Bool, ◌&&◌, nat_lt, List, [], ◌∷◌, drop, Option, None, Some, if◌then◌else◌}
use Rattle.can_frame.specs.declared.step.What.{What}
use Rattle.can_frame.specs.declared.step.What.TheVariants.{AppQ, VoteQ}
use Rattle.dsdl_codec.specs.AppendRequest.{append_request_bytes}
use Rattle.dsdl_codec.specs.VoteRequest.{vote_request_bytes}
use Rattle.raft_core.specs.Calls.{owed}
use Rattle.raft_core.specs.Times.{given_at, given_call}
use Rattle.raft_model.specs.Duty as duty
use Rattle.raft_model.specs.Moves.{next_entry, Move}
use Rattle.raft_model.specs.Messages.{Request}
use Rattle.raft_model.specs.Messages.Message.{Requests}
use Rattle.raft_model.specs.Moves.Elections.{is_leader}
use Rattle.raft_model.specs.Moves.Leading.{append_request, vote_request}
use Rattle.raft_model.specs.Moves.Move.{CallForVote, CallToAppend, TellNothing, TellPair}
use Rattle.raft_model.specs.Server.{RaftServer}
use Rattle.alloc_spec.specs.Transfers.{has_room, id_of}
use Rattle.alloc_spec.specs.AllocatorState.{is_zero, members_of}
use Rattle.alloc_spec.specs.StepState.{StepState, with_move_if, with_moves, with_transfer}
use Rattle.alloc_spec.specs.Exchange.{gives_pair}

abbrev pub commit_phase : ℕ → StepState → StepState
commit_phase step g =
    with_moves step (given_at g.allocator.now)
    (duty.commit_phase (members_of g.allocator) g.allocator.me g.allocator.raft_server) g

-- ---- tell: one place at most; one without a unique ID is passed over

abbrev pub has_to_tell : RaftServer → Bool
has_to_tell raft_server = is_leader raft_server.memory.role && nat_lt raft_server.memory.told raft_server.store.commit

abbrev pub tells_next : ℕ → StepState → StepState
tells_next step g =
    if is_zero (next_entry g.allocator.raft_server).uid
    then with_moves step (given_at g.allocator.now) (TellNothing ∷ []) g
    else gives_pair step TellPair g.allocator.raft_server.memory.told g

abbrev pub tell_phase : ℕ → StepState → StepState
tell_phase step g = if has_to_tell g.allocator.raft_server then tells_next step g else g

-- ---- calls: in the order of the list; one that finds no room is owed again

abbrev pub vote_call_bytes : Request → List ℕ
vote_call_bytes request =
    vote_request_bytes
    (record { term = request.term; last_term = request.previous_term; last_index = request.previous })

abbrev pub append_call_bytes : Request → List ℕ
append_call_bytes request = append_request_bytes (record {
  term = request.term;
  prev_term = request.previous_term;
  prev_index = request.previous;
  commit = request.commit;
  entry = request.entry;
}) 0

-- the request is queued and its move made, if it fits; else it is only listed as not fitted
abbrev pub calls_by : ℕ → What → ℕ → Move → Request → List ℕ → StepState → StepState
calls_by step what peer move request payload g =
    with_move_if (has_room g.allocator.queue payload) step
    (given_call g.allocator.now (id_of g.allocator.ids what peer)) move
    (with_transfer step what peer payload (Some (Requests request)) g)

abbrev pub asks_vote : ℕ → ℕ → Request → StepState → StepState
asks_vote step peer request g = calls_by step VoteQ peer (CallForVote peer) request (vote_call_bytes request) g

abbrev pub asks_append : ℕ → ℕ → ℕ → Bool → Request → StepState → StepState
asks_append step peer previous with_entry request g =
    calls_by step AppQ peer (CallToAppend peer previous with_entry) request (append_call_bytes request) g

abbrev pub calls_owed : ℕ → Option Move → StepState → StepState
calls_owed step None g = g
calls_owed step (Some (CallForVote peer)) g =
    asks_vote step peer (vote_request g.allocator.me step g.allocator.raft_server.store peer) g
calls_owed step (Some (CallToAppend peer previous with_entry)) g =
    asks_append step peer previous with_entry
    (append_request g.allocator.me step g.allocator.raft_server.store peer previous with_entry) g
calls_owed step (Some move) g = g

abbrev pub calls_peer : ℕ → ℕ → StepState → StepState
calls_peer step peer g = calls_owed step (owed g.allocator.raft_server g.allocator.times peer g.allocator.now) g

abbrev pub calls_all : ℕ → List ℕ → StepState → StepState
calls_all step [] g = g
calls_all step (peer ∷ peers) g = calls_all step peers (calls_peer step peer g)

abbrev pub call_phase : ℕ → StepState → StepState
call_phase step g = calls_all step (drop 1 (members_of g.allocator)) g

abbrev pub end_phase : ℕ → StepState → StepState
end_phase step g = call_phase step (tell_phase step (commit_phase step g))
