-- The phases of a step at its clock, and those by which each step ends.
use Rattle.std.proofs.Common.{◌≡◌, ℕ, Bool, true, false, List, [], ◌∷◌, refl, sym, ap, ◌∙◌, Option, Some, None}
use Rattle.std.specs.Prelude.{◌-◌, ◌&&◌, not, drop, nat_le, nat_lt, slice_index_or, if◌then◌else◌}
use Rattle.can_frame.specs.declared.entry.Entry.{Entry}
use Rattle.can_frame.specs.declared.step.What.{What}
use Rattle.can_frame.specs.declared.step.What.TheVariants.{Alloc, AppQ, Disc, InfoQ, Stat, VoteQ}
use Rattle.can_frame.specs.Log.{blank}
use Rattle.can_frame.specs.Zeros.{zeros}
use Rattle.cluster_discovery.specs.Members.{is_due}
use Rattle.dsdl_codec.specs.Discovery.{discovery_bytes}
use Rattle.dsdl_codec.specs.NodeStatus.{node_status_bytes}
use Rattle.node_discovery.specs.Watch.{next_query}
use Rattle.raft_core.specs.Calls.{due, due_unless, owed}
use Rattle.raft_core.specs.Handled.{moves_of_expire, with_blank}
use Rattle.raft_core.specs.Taken.{proposal}
use Rattle.raft_core.specs.Times.{given_at, given_call, given_proposal, given_tick, has_waited, overdue, Times}
use Rattle.raft_model.specs.Duty as duty
use Rattle.raft_model.specs.Duty.{commit_moves, tick_phase}
use Rattle.raft_model.specs.Moves.{next_entry, Move}
use Rattle.raft_model.specs.Messages.{Request}
use Rattle.raft_model.specs.Messages.Message.{Requests}
use Rattle.raft_model.specs.Moves.Elections.{is_leader, term_limit}
use Rattle.raft_model.specs.Moves.Leading.{append_request, vote_request}
use Rattle.raft_model.specs.Moves.Move.{AnswerAgain, CallForVote, CallToAppend, CommitTo, GiveUp, ProposeEntry, TakeAppendAnswer, TakeAppendRequest, TakeVoteAnswer, TakeVoteRequest, TellNothing, TellPair, TimeOut}
use Rattle.raft_model.specs.Server.{RaftServer, Role}
use Rattle.raft_model.specs.Server.Role.{Candidate, Follower, Leader}
use Rattle.alloc_spec.specs.Ending.{append_call_bytes, call_phase, calls_all, calls_by, calls_owed, calls_peer, commit_phase, end_phase, has_to_tell, tell_phase, tells_next, vote_call_bytes}
use Rattle.alloc_spec.specs.Exchange.{allocation_payload, gives_entry}
use Rattle.alloc_spec.specs.StepState.{StepState, with_transfer, initial_state, with_moves}
use Rattle.alloc_spec.specs.Step.{all_nodes, at_moment, begin_phase, expiry_phase}
use Rattle.alloc_spec.specs.Tick.{asks, candidate, discovery_of, discovery_phase, election_moves, election_phase, new_uid, proposes, query_phase, record_phase, records_as, records_node, status_phase, tells_members, tells_status, clock_phase, with_discovery, with_query, with_status}
use Rattle.alloc_spec.specs.AllocatorState.{AllocatorState, is_zero, known, knows_all, may_propose, members_of, start_of, status_of}
use Rattle.alloc_spec.specs.Transfers.{has_room, id_of}
use Rattle.alloc_ghost_erasure.specs.Unmarked.{unmarked_step_state, unmarked_raft_server, unmarked_server, unnumbered_call}
use Rattle.alloc_ghost_erasure.proofs.Moves.{blank_same}
use Rattle.alloc_ghost_erasure.proofs.Steps.{Same, SameMoves, cond_same, itself, lift, room_same, sends_same, takes_same}

-- ---- the beginning: calls are given up

gives_up_same : (s r : ℕ) (g : StepState) → Same (expiry_phase s g) (expiry_phase r (unmarked_step_state g))
gives_up_same s r g =
    takes_same s r (given_at g.allocator.now) (moves_of_expire (overdue g.allocator.times g.allocator.now all_nodes)) (moves_of_expire (overdue g.allocator.times g.allocator.now all_nodes)) g (unmarked_step_state g) refl (itself g)

pub begins_same : (s r now : ℕ) (t u : AllocatorState) → unmarked_server t ≡ unmarked_server u → Same (begin_phase s now t) (begin_phase r now u)
begins_same s r now t u e =
    lift expiry_phase gives_up_same s r (initial_state (at_moment now t)) (initial_state (at_moment now u)) (λ i. initial_state (at_moment now (e i)))

-- ---- a tick

discovery_same : (s r : ℕ) (g : StepState) → Same (discovery_phase s g) (discovery_phase r (unmarked_step_state g))
discovery_same s r g =
    cond_same (is_due (start_of g.allocator) g.allocator.heard g.allocator.now) (tells_members s g) g (tells_members r (unmarked_step_state g)) (unmarked_step_state g)
    (ap with_discovery (sends_same s r Disc 0 (discovery_bytes (discovery_of g.allocator)) None None g)) (itself g)

status_same : (s r : ℕ) (g : StepState) → Same (status_phase s g) (status_phase r (unmarked_step_state g))
status_same s r g =
    cond_same (nat_le 1000 (g.allocator.now - g.allocator.status_at)) (tells_status s g) g (tells_status r (unmarked_step_state g)) (unmarked_step_state g)
    (ap with_status (sends_same s r Stat 0 (node_status_bytes (status_of g.allocator)) None None g)) (itself g)

election_same : (word s r : ℕ) (g : StepState) → Same (election_phase s word g) (election_phase r word (unmarked_step_state g))
election_same word s r g =
    takes_same s r (given_tick g.allocator.now word) (election_moves s g.allocator) (election_moves r (unmarked_server g.allocator)) g (unmarked_step_state g) (same (knows_all g.allocator && has_waited g.allocator.times g.allocator.now)) (itself g)
  where
    p : RaftServer
    p = g.allocator.raft_server

    blank : ℕ → RaftServer → List Move → List Move
    blank step server moves = with_blank (members_of g.allocator) g.allocator.me step g.allocator.times server moves

    by : (stands : Bool) → SameMoves (blank s p (if stands then TimeOut ∷ [] else [])) (blank r (unmarked_raft_server p) (if stands then TimeOut ∷ [] else []))
    by true = blank_same (members_of g.allocator) g.allocator.me s r g.allocator.times p TimeOut TimeOut refl
    by false = refl

    same : (waited : Bool) → SameMoves (blank s p (tick_phase waited p)) (blank r (unmarked_raft_server p) (tick_phase waited p))
    same waited = by (waited && (not (is_leader p.memory.role) && nat_lt p.store.term term_limit))

pub proposes_same : (s r origin : ℕ) (uid : List ℕ) (node : ℕ) (g : StepState) → Same (proposes s origin uid node g) (proposes r origin uid node (unmarked_step_state g))
proposes_same s r origin uid node g =
    takes_same s r (given_proposal g.allocator.now origin) (ProposeEntry (proposal g.allocator.raft_server.store.term uid node) ∷ []) (ProposeEntry (proposal g.allocator.raft_server.store.term uid node) ∷ []) g (unmarked_step_state g) refl (itself g)

record_same : (s r : ℕ) (g : StepState) → Same (record_phase s g) (record_phase r (unmarked_step_state g))
record_same s r g = cond_same (may_propose g.allocator) (records_node s (candidate g.allocator) g) g (records_node r (candidate g.allocator) (unmarked_step_state g)) (unmarked_step_state g) (node_same (candidate g.allocator)) (itself g)
  where
    uid_same : (node : ℕ) (uid : Option (List ℕ)) → Same (records_as s node uid g) (records_as r node uid (unmarked_step_state g))
    uid_same node None = proposes_same s r 3 zeros node g
    uid_same node (Some uid) = proposes_same s r 2 uid node g

    node_same : (node : Option ℕ) → Same (records_node s node g) (records_node r node (unmarked_step_state g))
    node_same None = itself g
    node_same (Some node) = uid_same node (new_uid g.allocator node)

asks_same : (s r : ℕ) (node : Option ℕ) (g : StepState) → Same (asks s node g) (asks r node (unmarked_step_state g))
asks_same s r None g = itself g
asks_same s r (Some node) g =
    cond_same (has_room g.allocator.queue []) (with_origin s g) (sent s g) (with_origin r (unmarked_step_state g)) (sent r (unmarked_step_state g)) (ap (with_query node (id_of g.allocator.ids InfoQ node)) both) both
    ∙ ap (λ (b : Bool). unmarked_step_state (if b then with_origin r (unmarked_step_state g) else sent r (unmarked_step_state g))) (sym (room_same g.allocator.queue []))
  where
    sent : ℕ → StepState → StepState
    sent step x = with_transfer step InfoQ node [] None x

    with_origin : ℕ → StepState → StepState
    with_origin step x = with_query node (id_of x.allocator.ids InfoQ node) (sent step x)

    both : Same (with_transfer s InfoQ node [] None g) (with_transfer r InfoQ node [] None (unmarked_step_state g))
    both = sends_same s r InfoQ node [] None None g

query_same : (s r : ℕ) (g : StepState) → Same (query_phase s g) (query_phase r (unmarked_step_state g))
query_same s r g =
    cond_same (is_leader g.allocator.raft_server.memory.role) (asks s (next_query g.allocator.watch (known g.allocator) g.allocator.now) g) g
    (asks r (next_query g.allocator.watch (known g.allocator) g.allocator.now) (unmarked_step_state g)) (unmarked_step_state g)
    (asks_same s r (next_query g.allocator.watch (known g.allocator) g.allocator.now) g) (itself g)

pub ticks_same : (word s r : ℕ) (g h : StepState) → Same g h → Same (clock_phase s word g) (clock_phase r word h)
ticks_same word s r g h e =
    let e1 : Same (discovery_phase s g) (discovery_phase r h) = lift discovery_phase discovery_same s r g h e in
    let e2 : Same (status_phase s (discovery_phase s g)) (status_phase r (discovery_phase r h)) = lift status_phase status_same s r (discovery_phase s g) (discovery_phase r h) e1 in
    let g2 : StepState = status_phase s (discovery_phase s g) in
    let h2 : StepState = status_phase r (discovery_phase r h) in
    let e3 : Same (election_phase s word g2) (election_phase r word h2) = lift (λ n x. election_phase n word x) (election_same word) s r g2 h2 e2 in
    let e4 : Same (record_phase s (election_phase s word g2)) (record_phase r (election_phase r word h2)) = lift record_phase record_same s r (election_phase s word g2) (election_phase r word h2) e3 in
    lift query_phase query_same s r (record_phase s (election_phase s word g2)) (record_phase r (election_phase r word h2)) e4

-- ---- a pair that is given

pub gives_same : (s r : ℕ) (move : Move) (entry : Entry) (g : StepState) → Same (gives_entry s move entry g) (gives_entry r move entry (unmarked_step_state g))
gives_same s r move entry g =
    cond_same (has_room g.allocator.queue payload) (with_origin s g) (sent s g) (with_origin r (unmarked_step_state g)) (sent r (unmarked_step_state g))
    (takes_same s r (given_at g.allocator.now) (move ∷ []) (move ∷ []) (sent s g) (sent r (unmarked_step_state g)) refl both) both
    ∙ ap (λ (b : Bool). unmarked_step_state (if b then with_origin r (unmarked_step_state g) else sent r (unmarked_step_state g))) (sym (room_same g.allocator.queue payload))
  where
    payload : List ℕ
    payload = allocation_payload entry.node entry.uid

    sent : ℕ → StepState → StepState
    sent step x = with_transfer step Alloc 0 payload None x

    with_origin : ℕ → StepState → StepState
    with_origin step x = with_moves step (given_at x.allocator.now) (move ∷ []) (sent step x)

    both : Same (with_transfer s Alloc 0 payload None g) (with_transfer r Alloc 0 payload None (unmarked_step_state g))
    both = sends_same s r Alloc 0 payload None None g

-- ---- the end

commit_same : (s r : ℕ) (g : StepState) → Same (commit_phase s g) (commit_phase r (unmarked_step_state g))
commit_same s r g =
    takes_same s r (given_at g.allocator.now) (duty.commit_phase (members_of g.allocator) g.allocator.me g.allocator.raft_server) (duty.commit_phase (members_of g.allocator) g.allocator.me (unmarked_raft_server g.allocator.raft_server)) g (unmarked_step_state g)
    refl (itself g)

tell_same : (s r : ℕ) (g : StepState) → Same (tell_phase s g) (tell_phase r (unmarked_step_state g))
tell_same s r g =
    cond_same (has_to_tell g.allocator.raft_server) (tells_next s g) g (tells_next r (unmarked_step_state g)) (unmarked_step_state g)
    (cond_same (is_zero (next_entry g.allocator.raft_server).uid) _ _ _ _
    (takes_same s r (given_at g.allocator.now) (TellNothing ∷ []) (TellNothing ∷ []) g (unmarked_step_state g) refl (itself g))
    (gives_same s r TellPair (slice_index_or g.allocator.raft_server.store.log g.allocator.raft_server.memory.told (blank 0)) g))
    (itself g)

calls_by_same : (s r : ℕ) (what : What) (peer : ℕ) (move : Move) (request other : Request) (payload : List ℕ) (g : StepState)
    → Same (calls_by s what peer move request payload g) (calls_by r what peer move other payload (unmarked_step_state g))
calls_by_same s r what peer move request other payload g =
    cond_same (has_room g.allocator.queue payload) (with_origin s request g) (sent s request g) (with_origin r other (unmarked_step_state g)) (sent r other (unmarked_step_state g))
    (takes_same s r (given_call g.allocator.now (id_of g.allocator.ids what peer)) (move ∷ []) (move ∷ []) (sent s request g) (sent r other (unmarked_step_state g)) refl both) both
    ∙ ap (λ (b : Bool). unmarked_step_state (if b then with_origin r other (unmarked_step_state g) else sent r other (unmarked_step_state g))) (sym (room_same g.allocator.queue payload))
  where
    sent : ℕ → Request → StepState → StepState
    sent step q x = with_transfer step what peer payload (Some (Requests q)) x

    with_origin : ℕ → Request → StepState → StepState
    with_origin step q x = with_moves step (given_call x.allocator.now (id_of x.allocator.ids what peer)) (move ∷ []) (sent step q x)

    both : Same (with_transfer s what peer payload (Some (Requests request)) g) (with_transfer r what peer payload (Some (Requests other)) (unmarked_step_state g))
    both = sends_same s r what peer payload (Some (Requests request)) (Some (Requests other)) g

owed_same : (s r : ℕ) (move : Option Move) (g : StepState) → Same (calls_owed s move g) (calls_owed r move (unmarked_step_state g))
owed_same s r None g = itself g
owed_same s r (Some (CallForVote peer)) g =
    calls_by_same s r VoteQ peer (CallForVote peer) (vote_request g.allocator.me s g.allocator.raft_server.store peer) (vote_request g.allocator.me r g.allocator.raft_server.store peer) (vote_call_bytes (vote_request g.allocator.me s g.allocator.raft_server.store peer)) g
owed_same s r (Some (CallToAppend peer previous with_entry)) g =
    calls_by_same s r AppQ peer (CallToAppend peer previous with_entry) (append_request g.allocator.me s g.allocator.raft_server.store peer previous with_entry) (append_request g.allocator.me r g.allocator.raft_server.store peer previous with_entry)
    (append_call_bytes (append_request g.allocator.me s g.allocator.raft_server.store peer previous with_entry)) g
owed_same s r (Some TimeOut) g = itself g
owed_same s r (Some (TakeVoteRequest request granted)) g = itself g
owed_same s r (Some (TakeVoteAnswer answer)) g = itself g
owed_same s r (Some (TakeAppendRequest request verdict)) g = itself g
owed_same s r (Some (TakeAppendAnswer answer)) g = itself g
owed_same s r (Some (ProposeEntry entry)) g = itself g
owed_same s r (Some (CommitTo index)) g = itself g
owed_same s r (Some TellPair) g = itself g
owed_same s r (Some TellNothing) g = itself g
owed_same s r (Some (AnswerAgain place)) g = itself g
owed_same s r (Some (GiveUp peer)) g = itself g

unless_same : (call : Option Request) (move : Option Move) → due_unless call move ≡ due_unless (unnumbered_call call) move
unless_same None move = refl
unless_same (Some request) move = refl

due_same : (role : Role) (p : RaftServer) (times : Times) (peer now : ℕ) → due role p times peer now ≡ due role (unmarked_raft_server p) times peer now
due_same Follower p times peer now = refl
due_same Candidate p times peer now = refl
due_same Leader p times peer now = refl

peer_same : (peer s r : ℕ) (g : StepState) → Same (calls_peer s peer g) (calls_peer r peer (unmarked_step_state g))
peer_same peer s r g =
    owed_same s r (owed g.allocator.raft_server g.allocator.times peer g.allocator.now) g
    ∙ ap (λ (move : Option Move). unmarked_step_state (calls_owed r move (unmarked_step_state g)))
    (unless_same (g.allocator.raft_server.memory.pending peer) (due g.allocator.raft_server.memory.role g.allocator.raft_server g.allocator.times peer g.allocator.now)
    ∙ ap (due_unless (unnumbered_call (g.allocator.raft_server.memory.pending peer))) (due_same g.allocator.raft_server.memory.role g.allocator.raft_server g.allocator.times peer g.allocator.now))

calls_same : (s r : ℕ) (peers : List ℕ) (g h : StepState) → Same g h → Same (calls_all s peers g) (calls_all r peers h)
calls_same s r [] g h e = e
calls_same s r (peer ∷ peers) g h e = calls_same s r peers (calls_peer s peer g) (calls_peer r peer h) (lift (λ n x. calls_peer n peer x) (peer_same peer) s r g h e)

call_same : (s r : ℕ) (g : StepState) → Same (call_phase s g) (call_phase r (unmarked_step_state g))
call_same s r g = calls_same s r (drop 1 (members_of g.allocator)) g (unmarked_step_state g) (itself g)

pub ends_same : (s r : ℕ) (g h : StepState) → Same g h → Same (end_phase s g) (end_phase r h)
ends_same s r g h e =
    let e1 : Same (commit_phase s g) (commit_phase r h) = lift commit_phase commit_same s r g h e in
    lift call_phase call_same s r (tell_phase s (commit_phase s g)) (tell_phase r (commit_phase r h)) (lift tell_phase tell_same s r (commit_phase s g) (commit_phase r h) e1)
