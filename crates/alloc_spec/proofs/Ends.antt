-- How a step ends only adds puts.
use Rattle.std.proofs.Common.{ℕ, List, [], ◌∷◌, Option, Some, None, refl}
use Rattle.std.specs.Prelude.{drop, slice_index_or}
use Rattle.can_frame.specs.declared.entry.Entry.{Entry}
use Rattle.can_frame.specs.declared.step.What.{What}
use Rattle.can_frame.specs.declared.step.What.TheVariants.{Alloc, AppQ, VoteQ}
use Rattle.can_frame.specs.Log.{blank}
use Rattle.raft_core.specs.Calls.{owed}
use Rattle.raft_core.specs.Times.{given_at, given_call}
use Rattle.raft_model.specs.Duty as duty
use Rattle.raft_model.specs.Moves.{next_entry, Move}
use Rattle.raft_model.specs.Messages.{Message, Request}
use Rattle.raft_model.specs.Messages.Message.{Requests}
use Rattle.raft_model.specs.Moves.Leading.{append_request, vote_request}
use Rattle.raft_model.specs.Moves.Move.{CallForVote, CallToAppend, TellNothing, TellPair}
use Rattle.alloc_spec.specs.Transfers.{has_room, id_of}
use Rattle.alloc_spec.specs.AllocatorState.{is_zero, members_of}
use Rattle.alloc_spec.specs.StepState.{StepState, with_transfer, with_moves}
use Rattle.alloc_spec.specs.Exchange.{allocation_payload, gives_entry, gives_pair}
use Rattle.alloc_spec.specs.Ending.{append_call_bytes, call_phase, calls_all, calls_by, calls_owed, calls_peer, end_phase, commit_phase, has_to_tell, tell_phase, tells_next, vote_call_bytes}
use Rattle.alloc_spec.specs.Extends.{Extends}
use Rattle.alloc_spec.proofs.Extends.{and_more, either_more, itself, no_more, takes_more}

-- a transfer, and a move where it fits
pub sends_more : (step : ℕ) (what : What) (to : ℕ) (payload : List ℕ) (says : Option Message) (g : StepState) → Extends g (with_transfer step what to payload says g)
sends_more step what to payload says g = no_more g (with_transfer step what to payload says g) refl refl refl

pub gives_more : (step : ℕ) (move : Move) (entry : Entry) (g : StepState) → Extends g (gives_entry step move entry g)
gives_more step move entry g =
    let sent : StepState = with_transfer step Alloc 0 (allocation_payload entry.node entry.uid) None g in
    let is_sent : Extends g sent = sends_more step Alloc 0 (allocation_payload entry.node entry.uid) None g in
    either_more (has_room g.allocator.queue (allocation_payload entry.node entry.uid)) g (with_moves step (given_at g.allocator.now) (move ∷ []) sent) sent
    (and_more g sent (with_moves step (given_at g.allocator.now) (move ∷ []) sent) is_sent (takes_more step (given_at g.allocator.now) (move ∷ []) sent)) is_sent

tells_next_more : (step : ℕ) (g : StepState) → Extends g (tells_next step g)
tells_next_more step g = either_more (is_zero (next_entry g.allocator.raft_server).uid) g (with_moves step (given_at g.allocator.now) (TellNothing ∷ []) g) (gives_pair step TellPair g.allocator.raft_server.memory.told g)
    (takes_more step (given_at g.allocator.now) (TellNothing ∷ []) g) (gives_more step TellPair (slice_index_or g.allocator.raft_server.store.log g.allocator.raft_server.memory.told (blank 0)) g)

pub tell_more : (step : ℕ) (g : StepState) → Extends g (tell_phase step g)
tell_more step g = either_more (has_to_tell g.allocator.raft_server) g (tells_next step g) g (tells_next_more step g) (itself g)

calls_by_more : (step : ℕ) (what : What) (peer : ℕ) (move : Move) (request : Request) (payload : List ℕ) (g : StepState) → Extends g (calls_by step what peer move request payload g)
calls_by_more step what peer move request payload g =
    let sent : StepState = with_transfer step what peer payload (Some (Requests request)) g in
    let is_sent : Extends g sent = sends_more step what peer payload (Some (Requests request)) g in
    let called : StepState = with_moves step (given_call g.allocator.now (id_of g.allocator.ids what peer)) (move ∷ []) sent in
    either_more (has_room g.allocator.queue payload) g called sent
    (and_more g sent called is_sent (takes_more step (given_call g.allocator.now (id_of g.allocator.ids what peer)) (move ∷ []) sent)) is_sent

owed_more : (step : ℕ) (move : Option Move) (g : StepState) → Extends g (calls_owed step move g)
owed_more step None g = itself g
owed_more step (Some (CallForVote peer)) g =
    let request : Request = vote_request g.allocator.me step g.allocator.raft_server.store peer in calls_by_more step VoteQ peer (CallForVote peer) request (vote_call_bytes request) g
owed_more step (Some (CallToAppend peer previous with_entry)) g =
    let request : Request = append_request g.allocator.me step g.allocator.raft_server.store peer previous with_entry in
    calls_by_more step AppQ peer (CallToAppend peer previous with_entry) request (append_call_bytes request) g
owed_more step (Some move) g = itself g

all_more : (step : ℕ) (peers : List ℕ) (g : StepState) → Extends g (calls_all step peers g)
all_more step [] g = itself g
all_more step (peer ∷ peers) g =
    let called : StepState = calls_peer step peer g in
    and_more g called (calls_all step peers called) (owed_more step (owed g.allocator.raft_server g.allocator.times peer g.allocator.now) g) (all_more step peers called)

pub call_more : (step : ℕ) (g : StepState) → Extends g (call_phase step g)
call_more step g = all_more step (drop 1 (members_of g.allocator)) g

pub tell_and_call_more : (step : ℕ) (g : StepState) → Extends g (call_phase step (tell_phase step g))
tell_and_call_more step g = and_more g (tell_phase step g) (call_phase step (tell_phase step g)) (tell_more step g) (call_more step (tell_phase step g))

pub commit_more : (step : ℕ) (g : StepState) → Extends g (commit_phase step g)
commit_more step g = takes_more step (given_at g.allocator.now) (duty.commit_phase (members_of g.allocator) g.allocator.me g.allocator.raft_server) g

pub ends_more : (step : ℕ) (g : StepState) → Extends g (end_phase step g)
ends_more step g = and_more g (commit_phase step g) (end_phase step g) (commit_more step g) (tell_and_call_more step (commit_phase step g))
