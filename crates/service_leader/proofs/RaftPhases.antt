-- What a step keeps of a Raft server, of what it waits for and of the moment, phase by phase: a tick, a frame, and the
-- end of the step. Where a blank may follow a move, it is kept behind both, or behind each.
use Rattle.std.proofs.Common.{◌≡◌, ◌≢◌, ℕ, ◌+◌, Bool, true, false, List, [], ◌∷◌, refl, drop, Option, Some, None}
use Rattle.std.specs.Prelude.{◌&&◌, ◌||◌, ◌-◌, length, nat_eq, nat_le, nat_lt, not, slice_index_or}
use Rattle.alloc_exchange.specs.declared.heard.Heard.{Heard}
use Rattle.alloc_exchange.specs.declared.heard.Heard.TheVariants.{Denied, FollowUp, Ignored, Whole}
use Rattle.alloc_exchange.specs.Exchange as exchange
use Rattle.can_frame.specs.declared.identifier.Kind.{Kind}
use Rattle.can_frame.specs.declared.identifier.Kind.TheVariants.{Anonymous, Message, Request as RequestKind, Response}
use Rattle.can_frame.specs.declared.entry.Entry.{Entry}
use Rattle.can_frame.specs.declared.step.What.TheVariants.{Alloc, AppQ, InfoQ, VoteQ}
use Rattle.can_frame.specs.Log.{blank}
use Rattle.can_frame.specs.Timing.{status_interval}
use Rattle.can_frame.specs.Zeros.{zeros}
use Rattle.cluster_discovery.specs.Members.{is_due}
use Rattle.dsdl_codec.specs.declared.append_answer.AppendAnswer.{AppendAnswer}
use Rattle.dsdl_codec.specs.declared.append_request.AppendRequest.{AppendRequest}
use Rattle.dsdl_codec.specs.declared.vote_answer.VoteAnswer.{VoteAnswer}
use Rattle.dsdl_codec.specs.declared.vote_request.VoteRequest.{VoteRequest}
use Rattle.dsdl_codec.specs.Allocation.{allocation_of}
use Rattle.dsdl_codec.specs.AppendAnswer.{append_answer_of}
use Rattle.dsdl_codec.specs.AppendRequest as append_codec
use Rattle.dsdl_codec.specs.Discovery.{discovery_of}
use Rattle.dsdl_codec.specs.NodeInfo.{node_info_of}
use Rattle.dsdl_codec.specs.NodeStatus.{node_status_of}
use Rattle.dsdl_codec.specs.VoteAnswer.{vote_answer_of}
use Rattle.dsdl_codec.specs.VoteRequest as vote_codec
use Rattle.id_selector.specs.Choice.{chosen}
use Rattle.node_discovery.specs.Watch.{next_query, some_unknown}
use Rattle.raft_core.specs.Calls.{due, due_unless}
use Rattle.raft_core.specs.Handled.{answer_of, append_request_of, vote_request_of}
use Rattle.raft_core.specs.Times.{Times, given_at, given_call, given_tick, has_waited, is_awaited, is_silent, times_after}
use Rattle.raft_model.specs.Decisions.{commit_index, grants, verdict_on}
use Rattle.raft_model.specs.Duty.{commit_moves, tick_phase}
use Rattle.raft_model.specs.Handlers.{server_after}
use Rattle.raft_model.specs.Messages.{Request}
use Rattle.raft_model.specs.Messages.Message.{Requests}
use Rattle.raft_model.specs.Moves.{Move, next_entry}
use Rattle.raft_model.specs.Moves.Elections.{is_leader, term_limit, with_term}
use Rattle.raft_model.specs.Moves.Leading.{append_request, vote_request}
use Rattle.raft_model.specs.Moves.Move.{AnswerAgain, CallForVote, CallToAppend, TakeAppendAnswer, TakeAppendRequest, TakeVoteAnswer, TakeVoteRequest, TellNothing, TellPair, TimeOut}
use Rattle.raft_model.specs.Server.{RaftServer, Role}
use Rattle.raft_model.specs.Server.Role.{Candidate, Follower, Leader}
use Rattle.transfer_rx.specs.Reassembly.{Answer as Received, Arrival, Continues, Delivery, Drops, Gives, answer}
use Rattle.alloc_spec.specs.Accepted.{setting_for}
use Rattle.alloc_spec.specs.AllocatorState.{AllocatorState, is_zero, known, knows_all, may_propose, members_of, recorded_at, start_of, taken}
use Rattle.alloc_spec.specs.Delivered.{StepResult, asks_info, by_kind, delivery_phase, hears_discovery, hears_status, reads}
use Rattle.alloc_spec.specs.Ending.{append_call_bytes, calls_all, calls_owed, calls_peer, commit_phase, end_phase, has_to_tell, tell_phase, tells_next, vote_call_bytes}
use Rattle.alloc_spec.specs.Exchange.{allocation_payload, answers_or_records, answers_request, gives_entry, gives_pair, hears_allocation, may_follow, records_at, with_request}
use Rattle.alloc_spec.specs.Services.{answers_append_request, answers_call, answers_vote_request, append_answered, ends_append_call, ends_vote_call, hears_info, is_listed, takes_append_answer, takes_append_request, takes_vote_answer, takes_vote_request, vote_answered}
use Rattle.alloc_spec.specs.Step.{Event, begin_phase, step, with_answer}
use Rattle.alloc_spec.specs.StepState.{StepState, with_moves, with_transfer}
use Rattle.alloc_spec.specs.Tick.{asks, candidate, clock_phase, discovery_phase, election_phase, new_uid, proposes, query_phase, record_phase, records_as, records_node, status_phase, tells_members, tells_status, with_query_if}
use Rattle.alloc_spec.specs.Transfers.{has_room, id_of}
use Rattle.alloc_spec.proofs.Blanks.{move_with_blank, moves_and_blank, tick_with_blank}
use Rattle.alloc_spec_laws.proofs.Choices.{and_left, either, eq_false, eq_true}
use Rattle.alloc_spec_laws.proofs.Proposals.{leader_of}
use Rattle.service_steps.specs.Requests.{moment_at}
use Rattle.service_steps.proofs.FollowUps.{when_come}

-- what may hold of a server: of its node ID, of the Raft server, of its times and of the moment
abbrev pub OfServer : Type 1
OfServer = (me : ℕ) → RaftServer → Times → (now : ℕ) → Type 0

abbrev pub Keeps : OfServer → StepState → Type 0
Keeps H g = H g.allocator.me g.allocator.raft_server g.allocator.times g.allocator.now

-- a leader's log grows, and it holds still
abbrev pub Grows : OfServer → Type 0
Grows H = (log : List Entry) (me : ℕ) (server : RaftServer) (times : Times) (now : ℕ) → server.memory.role ≡ Leader → H me server times now
    → H me (record server { store = record server.store { log = log } }) times now

-- it holds still when a leader records an entry
abbrev pub Records : ℕ → OfServer → Type 0
Records number H = (origin : ℕ) (uid : List ℕ) (node : ℕ) (g : StepState) → g.allocator.raft_server.memory.role ≡ Leader → Keeps H g
    → Keeps H (proposes number origin uid node g)

-- as it does where any log may follow
pub grown : (number : ℕ) (H : OfServer) → Grows H → Records number H
grown number H grows origin uid node g leads h = grows _ g.allocator.me g.allocator.raft_server g.allocator.times g.allocator.now leads h

-- it holds still when a leader commits and tells
pub record EndsQuietly (H : OfServer) : Type 0 where
  pub commits : (place me : ℕ) (server : RaftServer) (times : Times) (now : ℕ) → server.memory.role ≡ Leader → H me server times now
      → H me (record server { store = record server.store { commit = place } }) times now
  pub tells : (told me : ℕ) (server : RaftServer) (times : Times) (now : ℕ) → server.memory.role ≡ Leader → H me server times now
      → H me (record server { memory = record server.memory { told = told } }) times now

-- and when calls are made
pub record Ends (number : ℕ) (H : OfServer) : Type 0 where
  pub quietly : EndsQuietly H
  pub votes : (members : List ℕ) (me peer id : ℕ) (server : RaftServer) (times : Times) (now : ℕ) → server.memory.role ≡ Candidate
      → server.memory.pending peer ≡ None → H me server times now
      → H me (server_after members me number server (CallForVote peer)) (times_after members me (given_call now id) server (CallForVote peer) times) now
  pub appends : (members : List ℕ) (me peer previous id : ℕ) (server : RaftServer) (times : Times) (now : ℕ) → server.memory.role ≡ Leader
      → server.memory.pending peer ≡ None → H me server times now
      → H me (server_after members me number server (CallToAppend peer previous true))
      (times_after members me (given_call now id) server (CallToAppend peer previous true) times) now

-- of the role, the term and the votes alone
abbrev pub OfRole : (Role → ℕ → (ℕ → Bool) → Type 0) → OfServer
OfRole P me server times now = P server.memory.role server.store.term server.memory.votes

-- calls, commits and what is told leave the role, the term and the votes
pub role_ends : (number : ℕ) (P : Role → ℕ → (ℕ → Bool) → Type 0) → Ends number (OfRole P)
role_ends number P = record {
  quietly = record { commits = λ place me server times now leads h. h; tells = λ told me server times now leads h. h };
  votes = λ members me peer id server times now role free h. h;
  appends = λ members me peer previous id server times now role free h. h;
}

-- so does an entry
pub role_grows : (P : Role → ℕ → (ℕ → Bool) → Type 0) → Grows (OfRole P)
role_grows P log me server times now leads h = h

-- ---- as a step ends

module _ (number : ℕ) (H : OfServer) (ends : EndsQuietly H) where
  -- a commit
  committed : (index : Option ℕ) (g : StepState) → g.allocator.raft_server.memory.role ≡ Leader → Keeps H g
      → Keeps H (with_moves number (given_at g.allocator.now) (commit_moves index) g)
  committed None g leads h = h
  committed (Some index) g leads h = ends.commits index g.allocator.me g.allocator.raft_server g.allocator.times g.allocator.now leads h

  -- the phase in which a leader commits
  commits : (g : StepState) → Keeps H g → Keeps H (commit_phase number g)
  commits g h = either (λ (moves : List Move). Keeps H (with_moves number (given_at g.allocator.now) moves g)) (is_leader g.allocator.raft_server.memory.role)
      (commit_moves (commit_index (members_of g.allocator) g.allocator.me g.allocator.raft_server)) []
      (λ e. committed (commit_index (members_of g.allocator) g.allocator.me g.allocator.raft_server) g (leader_of g.allocator.raft_server.memory.role e) h) (λ e. h)

  -- a place that is told, or passed over
  told : (g : StepState) → g.allocator.raft_server.memory.role ≡ Leader → Keeps H g → Keeps H (tells_next number g)
  told g leads h =
      let payload : List ℕ = allocation_payload (next_entry g.allocator.raft_server).node (next_entry g.allocator.raft_server).uid in
      let more = ends.tells (g.allocator.raft_server.memory.told + 1) g.allocator.me g.allocator.raft_server g.allocator.times g.allocator.now leads h in
      either (Keeps H) (is_zero (next_entry g.allocator.raft_server).uid)
      (with_moves number (given_at g.allocator.now) (TellNothing ∷ []) g) (gives_pair number TellPair g.allocator.raft_server.memory.told g)
      (λ z. more)
      (λ z. either (Keeps H) (has_room g.allocator.queue payload)
      (with_moves number (given_at g.allocator.now) (TellPair ∷ []) (with_transfer number Alloc 0 payload None g))
      (with_transfer number Alloc 0 payload None g) (λ r. more) (λ r. h))

  -- the phase in which a leader tells
  tells : (g : StepState) → Keeps H g → Keeps H (tell_phase number g)
  tells g h = either (Keeps H) (has_to_tell g.allocator.raft_server) (tells_next number g) g
      (λ e. told g (leader_of g.allocator.raft_server.memory.role (and_left (is_leader g.allocator.raft_server.memory.role) _ e)) h) (λ e. h)

  -- until the calls
  pub until_calls : (g : StepState) → Keeps H g → Keeps H (tell_phase number (commit_phase number g))
  until_calls g h = tells (commit_phase number g) (commits g h)

module _ (number : ℕ) (H : OfServer) (ends : Ends number H) where
  -- the call that is owed to a peer
  by_role : (q : ℕ) (g : StepState) (pending : Option Request) (role : Role) → g.allocator.raft_server.memory.pending q ≡ pending
      → g.allocator.raft_server.memory.role ≡ role → Keeps H g
      → Keeps H (calls_owed number (due_unless pending (due role g.allocator.raft_server g.allocator.times q g.allocator.now)) g)
  by_role q g (Some request) role p r h = h
  by_role q g None Follower p r h = h
  by_role q g None Candidate p r h =
      let asked : Request = vote_request g.allocator.me number g.allocator.raft_server.store q in
      let offered : StepState = with_transfer number VoteQ q (vote_call_bytes asked) (Some (Requests asked)) g in
      either (λ (call : Option Move). Keeps H (calls_owed number call g)) (g.allocator.times.answered q) None (Some (CallForVote q)) (λ a. h)
      (λ a. either (Keeps H) (has_room g.allocator.queue (vote_call_bytes asked))
      (with_moves number (given_call g.allocator.now (id_of g.allocator.ids VoteQ q)) (CallForVote q ∷ []) offered) offered
      (λ f. ends.votes (members_of g.allocator) g.allocator.me q (id_of g.allocator.ids VoteQ q) g.allocator.raft_server g.allocator.times g.allocator.now r p h)
      (λ f. h))
  by_role q g None Leader p r h =
      let previous : ℕ = g.allocator.raft_server.memory.next q - 1 in
      let asked : Request = append_request g.allocator.me number g.allocator.raft_server.store q previous true in
      let offered : StepState = with_transfer number AppQ q (append_call_bytes asked) (Some (Requests asked)) g in
      either (λ (call : Option Move). Keeps H (calls_owed number call g))
      (nat_le (g.allocator.raft_server.memory.next q) (length g.allocator.raft_server.store.log) || is_silent (g.allocator.times.appended q) g.allocator.now)
      (Some (CallToAppend q previous true)) None
      (λ a. either (Keeps H) (has_room g.allocator.queue (append_call_bytes asked))
      (with_moves number (given_call g.allocator.now (id_of g.allocator.ids AppQ q)) (CallToAppend q previous true ∷ []) offered) offered
      (λ f. ends.appends (members_of g.allocator) g.allocator.me q previous (id_of g.allocator.ids AppQ q) g.allocator.raft_server g.allocator.times g.allocator.now r p h)
      (λ f. h)) (λ a. h)

  -- the calls to all peers
  pub all_called : (peers : List ℕ) (g : StepState) → Keeps H g → Keeps H (calls_all number peers g)
  all_called [] g h = h
  all_called (q ∷ peers) g h = all_called peers (calls_peer number q g)
      (by_role q g (g.allocator.raft_server.memory.pending q) g.allocator.raft_server.memory.role refl refl h)

  -- the end of a step
  pub at_end : (g : StepState) → Keeps H g → Keeps H (end_phase number g)
  at_end g h = all_called (drop 1 (members_of (tell_phase number (commit_phase number g)).allocator)) (tell_phase number (commit_phase number g))
      (until_calls number H ends.quietly g h)

-- ---- a tick

module _ (number : ℕ) (H : OfServer) (records : Records number H) where
  -- a leader records a node
  recorded_as : (node : ℕ) (uid : Option (List ℕ)) (g : StepState) → g.allocator.raft_server.memory.role ≡ Leader → Keeps H g → Keeps H (records_as number node uid g)
  recorded_as node None g leads h = records 3 _ node g leads h
  recorded_as node (Some uid) g leads h = records 2 uid node g leads h

  recorded_node : (node : Option ℕ) (g : StepState) → g.allocator.raft_server.memory.role ≡ Leader → Keeps H g → Keeps H (records_node number node g)
  recorded_node None g leads h = h
  recorded_node (Some node) g leads h = recorded_as node (new_uid g.allocator node) g leads h

  -- a query changes nothing of it
  asked_if : (fits : Bool) (node id : ℕ) (g : StepState) → Keeps H g → Keeps H (with_query_if fits node id g)
  asked_if true node id g h = h
  asked_if false node id g h = h

  asked : (node : Option ℕ) (g : StepState) → Keeps H g → Keeps H (asks number node g)
  asked None g h = h
  asked (Some node) g h = asked_if (has_room g.allocator.queue []) node (id_of g.allocator.ids InfoQ node) (with_transfer number InfoQ node [] None g) h

  -- what is recorded and asked comes behind the tick of Raft
  notes : (x : StepState) → Keeps H x → Keeps H (record_phase number x)
  notes x i = either (Keeps H) (may_propose x.allocator) (records_node number (candidate x.allocator) x) x
      (λ e. recorded_node (candidate x.allocator) x
      (leader_of x.allocator.raft_server.memory.role (and_left (is_leader x.allocator.raft_server.memory.role) _ e)) i) (λ e. i)

  queries : (x : StepState) → Keeps H x → Keeps H (query_phase number x)
  queries x i = either (Keeps H) (is_leader x.allocator.raft_server.memory.role) (asks number (next_query x.allocator.watch (known x.allocator) x.allocator.now) x) x
      (λ e. asked (next_query x.allocator.watch (known x.allocator) x.allocator.now) x i) (λ e. i)

  -- the step behind the tick of Raft, and a blank that may follow it
  abbrev ticked_by : ℕ → StepState → StepState
  ticked_by word g = with_moves number (given_tick g.allocator.now word)
      (tick_phase (knows_all g.allocator && has_waited g.allocator.times g.allocator.now) g.allocator.raft_server) g

  pub tick_and_blank : (word : ℕ) (g : StepState) → Keeps H (ticked_by word g) → Keeps H (election_phase number word g)
  tick_and_blank word g h = tick_with_blank (Keeps H) number word g h (λ moment. records 0 zeros 0 (ticked_by word g) moment.leads h)

  -- what holds behind the tick of Raft holds when the event of a tick is done
  pub behind_election : (word : ℕ) (g : StepState) → Keeps H (election_phase number word (status_phase number (discovery_phase number g)))
      → Keeps H (clock_phase number word g)
  behind_election word g h =
      let elected : StepState = election_phase number word (status_phase number (discovery_phase number g)) in
      queries (record_phase number elected) (notes elected h)

module _ (number : ℕ) (Before H : OfServer) (idle : (me : ℕ) (server : RaftServer) (times : Times) (now : ℕ) → Before me server times now → H me server times now)
    (stands : (members : List ℕ) (me word : ℕ) (server : RaftServer) (times : Times) (now : ℕ) → Before me server times now
    → H me (server_after members me number server TimeOut) (times_after members me (given_tick now word) server TimeOut times) now)
    (grows : Grows H) where
  -- the tick of Raft: the member stands for election, or not; and a leader may add a blank
  elects : (word : ℕ) (g : StepState) → Keeps Before g → Keeps H (election_phase number word g)
  elects word g h = tick_and_blank number H (grown number H grows) word g ticked
    where
      cond : Bool
      cond = (knows_all g.allocator && has_waited g.allocator.times g.allocator.now)
          && (not (is_leader g.allocator.raft_server.memory.role) && nat_lt g.allocator.raft_server.store.term term_limit)

      ticked : Keeps H (with_moves number (given_tick g.allocator.now word)
          (tick_phase (knows_all g.allocator && has_waited g.allocator.times g.allocator.now) g.allocator.raft_server) g)
      ticked = either (λ (moves : List Move). Keeps H (with_moves number (given_tick g.allocator.now word) moves g)) cond (TimeOut ∷ []) []
          (λ e. stands (members_of g.allocator) g.allocator.me word g.allocator.raft_server g.allocator.times g.allocator.now h)
          (λ e. idle g.allocator.me g.allocator.raft_server g.allocator.times g.allocator.now h)

  -- Discovery and NodeStatus come before the tick of Raft
  finds : (x : StepState) → Keeps Before x → Keeps Before (discovery_phase number x)
  finds x i = either (Keeps Before) (is_due (start_of x.allocator) x.allocator.heard x.allocator.now) (tells_members number x) x (λ e. i) (λ e. i)

  states : (x : StepState) → Keeps Before x → Keeps Before (status_phase number x)
  states x i = either (Keeps Before) (nat_le status_interval (x.allocator.now - x.allocator.status_at)) (tells_status number x) x (λ e. i) (λ e. i)

  -- what held before the tick makes this hold when its event is done
  pub when_ticked : (word : ℕ) (g : StepState) → Keeps Before g → Keeps H (clock_phase number word g)
  when_ticked word g h = behind_election number H (grown number H grows) word g
      (elects word (status_phase number (discovery_phase number g)) (states (discovery_phase number g) (finds g h)))

  -- so it holds when the step is over
  pub at_tick : Ends number H → (t : AllocatorState) (now word : ℕ) → Keeps Before (begin_phase number now t)
      → Keeps H (step t number (Event.Tick now word)).step_state
  unfolding step
  at_tick ends t now word h = at_end number H ends (clock_phase number word (begin_phase number now t)) (when_ticked word (begin_phase number now t) h)

-- ---- a frame

-- each message of Raft that the delivery may be makes this hold, of the step as it is then; an answer leaves the step so
pub record Leaves (number : ℕ) (H : OfServer) (d : Delivery) (g : StepState) (answered : Move → StepState) : Type 0 where
  pub vote_request : d.ident.kind ≡ RequestKind → d.ident.number ≢ 1 → d.ident.number ≢ 30 → (message : VoteRequest)
      → vote_codec.vote_request_of d.payload ≡ Some message → is_listed d g.allocator ≡ true
      → let asked = vote_request_of message d.mark.step d.ident.source g.allocator.me in
      Keeps H (with_moves number (given_at g.allocator.now)
      (TakeVoteRequest asked (grants (with_term g.allocator.raft_server.store asked.term) asked) ∷ []) g)
  pub append_request : d.ident.kind ≡ RequestKind → d.ident.number ≡ 30 → (message : AppendRequest)
      → append_codec.append_request_of d.payload ≡ Some message → is_listed d g.allocator ≡ true
      → let asked = append_request_of message d.mark.step d.ident.source g.allocator.me in
      Keeps H (with_moves number (given_at g.allocator.now) (TakeAppendRequest asked (verdict_on g.allocator.raft_server asked) ∷ []) g)
  pub vote_answer : d.ident.kind ≡ Response → d.ident.number ≢ 1 → d.ident.number ≢ 30 → (message : VoteAnswer)
      → vote_answer_of d.payload ≡ Some message → (asked : Request) → is_listed d g.allocator ≡ true
      → is_awaited g.allocator.raft_server g.allocator.times d.ident.source false d.id ≡ true
      → g.allocator.raft_server.memory.pending d.ident.source ≡ Some asked
      → Keeps H (answered (TakeVoteAnswer (answer_of d.mark.step d.ident.source asked message.term message.granted)))
  pub append_answer : d.ident.kind ≡ Response → d.ident.number ≡ 30 → (message : AppendAnswer)
      → append_answer_of d.payload ≡ Some message → (asked : Request) → is_listed d g.allocator ≡ true
      → is_awaited g.allocator.raft_server g.allocator.times d.ident.source true d.id ≡ true
      → g.allocator.raft_server.memory.pending d.ident.source ≡ Some asked
      → Keeps H (answered (TakeAppendAnswer (answer_of d.mark.step d.ident.source asked message.term message.success)))

-- it holds behind the move alone
abbrev pub Takes : (number : ℕ) → OfServer → Delivery → StepState → Type 0
Takes number H d g = Leaves number H d g (λ move. with_moves number (given_at g.allocator.now) (move ∷ []) g)

-- it holds behind the move of an answer and the blank that may follow
abbrev pub Hears : (number : ℕ) → OfServer → Delivery → StepState → Type 0
Hears number H d g = Leaves number H d g (λ move. moves_and_blank number (given_at g.allocator.now) (move ∷ []) g)

module _ (number : ℕ) (H : OfServer) (records : Records number H) where
  -- a leader records what a device told
  recorded : (uid : List ℕ) (node : Option ℕ) (g : StepState) → g.allocator.raft_server.memory.role ≡ Leader → Keeps H g → Keeps H (records_at number uid node g)
  recorded uid None g leads h = h
  recorded uid (Some node) g leads h = records 1 uid node g leads h

  -- a pair is given again
  given : (entry : Entry) (place : ℕ) (g : StepState) → Keeps H g → Keeps H (gives_entry number (AnswerAgain place) entry g)
  given entry place g h =
      let payload : List ℕ = allocation_payload entry.node entry.uid in
      either (Keeps H) (has_room g.allocator.queue payload)
      (with_moves number (given_at g.allocator.now) (AnswerAgain place ∷ []) (with_transfer number Alloc 0 payload None g))
      (with_transfer number Alloc 0 payload None g) (λ r. h) (λ r. h)

  -- a unique ID stands in the log, or a leader records it
  found : (uid : List ℕ) (preference : ℕ) (place : Option ℕ) (g : StepState) → Keeps H g → Keeps H (answers_or_records number uid preference place g)
  found uid preference None g h =
      either (Keeps H) (may_propose g.allocator && not (some_unknown g.allocator.watch (known g.allocator) g.allocator.now))
      (records_at number uid (chosen (taken g.allocator) preference) g) g
      (λ e. recorded uid (chosen (taken g.allocator) preference) g
      (leader_of g.allocator.raft_server.memory.role (and_left (is_leader g.allocator.raft_server.memory.role) _ (and_left (may_propose g.allocator) _ e))) h) (λ e. h)
  found uid preference (Some place) g h =
      either (Keeps H) (nat_lt place g.allocator.raft_server.store.commit) (gives_pair number (AnswerAgain place) place g) g
      (λ e. given (slice_index_or g.allocator.raft_server.store.log place (blank 0)) place g h) (λ e. h)

  -- a request of the exchange
  heard_it : (heard : Heard) (g : StepState) → Keeps H g → Keeps H (answers_request number heard g)
  heard_it (FollowUp bytes) g h = h
  heard_it (Whole uid preference) g h =
      either (Keeps H) (is_zero uid) g (answers_or_records number uid preference (recorded_at g.allocator.raft_server.store.log uid) g) (λ e. h)
      (λ e. found uid preference (recorded_at g.allocator.raft_server.store.log uid) g h)
  heard_it (Ignored why) g h = h
  heard_it Denied g h = h

  -- an answer is taken by the call that waits for it, and a leader may add a blank
  called : (move : Request → Move) (pending : Option Request) (g : StepState)
      → ((asked : Request) → pending ≡ Some asked → Keeps H (moves_and_blank number (given_at g.allocator.now) (move asked ∷ []) g)) → Keeps H g
      → Keeps H (answers_call number move pending g)
  called move None g takes h = h
  called move (Some asked) g takes h = takes asked refl

  module _ (d : Delivery) (g : StepState) (takes : Hears number H d g) (h : Keeps H g) where
    -- what reads as no value changes nothing
    read_it : {A : Type 0} (hears : A → StepState → StepState) (value : Option A) → ((a : A) → value ≡ Some a → Keeps H (hears a g))
        → Keeps H (reads hears value g).step_state
    read_it hears None each = h
    read_it hears (Some value) each = each value refl

    info : (bytes : List ℕ) → Keeps H (asks_info number d bytes g).step_state
    info [] = h
    info (byte ∷ bytes) = h

    abbrev KeepsAt : StepResult → Type 0
    KeepsAt r = Keeps H r.step_state

    -- an append answer is taken, where it is awaited
    answers_append : d.ident.kind ≡ Response → d.ident.number ≡ 30 → KeepsAt (reads (takes_append_answer number d) (append_answer_of d.payload) g)
    answers_append kind thirty = read_it (takes_append_answer number d) (append_answer_of d.payload)
        (λ m read. either (Keeps H) (is_listed d g.allocator) (ends_append_call number d m g) g
        (λ l. either (Keeps H) (is_awaited g.allocator.raft_server g.allocator.times d.ident.source true d.id)
        (answers_call number (append_answered d m) (g.allocator.raft_server.memory.pending d.ident.source) g) g
        (λ a. called (append_answered d m) (g.allocator.raft_server.memory.pending d.ident.source) g (λ asked p. takes.append_answer kind thirty m read asked l a p) h)
        (λ a. h)) (λ l. h))

    -- a vote answer likewise
    answers_vote : d.ident.kind ≡ Response → d.ident.number ≢ 1 → d.ident.number ≢ 30 → KeepsAt (reads (takes_vote_answer number d) (vote_answer_of d.payload) g)
    answers_vote kind one thirty = read_it (takes_vote_answer number d) (vote_answer_of d.payload)
        (λ m read. either (Keeps H) (is_listed d g.allocator) (ends_vote_call number d m g) g
        (λ l. either (Keeps H) (is_awaited g.allocator.raft_server g.allocator.times d.ident.source false d.id)
        (answers_call number (vote_answered d m) (g.allocator.raft_server.memory.pending d.ident.source) g) g
        (λ a. called (vote_answered d m) (g.allocator.raft_server.memory.pending d.ident.source) g (λ asked p. takes.vote_answer kind one thirty m read asked l a p) h)
        (λ a. h)) (λ l. h))

    -- what is delivered, by its kind
    kinds : (kind : Kind) → d.ident.kind ≡ kind → KeepsAt (by_kind number d kind g)
    kinds Anonymous is = read_it (hears_allocation number) (allocation_of d.payload)
        (λ m e. heard_it (exchange.answer g.allocator.accepted m g.allocator.now (may_follow g.allocator)) (with_request m g) h)
    kinds Message is = either KeepsAt (nat_eq d.ident.number 341) _ _
        (λ e. read_it (λ status. hears_status d) (node_status_of d.payload) (λ s f. h))
        (λ e. read_it (hears_discovery d) (discovery_of d.payload) (λ m f. h))
    kinds RequestKind is = either KeepsAt (nat_eq d.ident.number 1) _ _ (λ e. info d.payload)
        (λ e. either KeepsAt (nat_eq d.ident.number 30) _ _
        (λ f. read_it (takes_append_request number d) (append_codec.append_request_of d.payload)
        (λ m read. either (Keeps H) (is_listed d g.allocator) (answers_append_request number d m g) g
        (λ l. takes.append_request is (eq_true d.ident.number 30 f) m read l) (λ l. h)))
        (λ f. read_it (takes_vote_request number d) (vote_codec.vote_request_of d.payload)
        (λ m read. either (Keeps H) (is_listed d g.allocator) (answers_vote_request number d m g) g (λ l. takes.vote_request is (eq_false d.ident.number 1 e) (eq_false d.ident.number 30 f) m read l)
        (λ l. h))))
    kinds Response is = either KeepsAt (nat_eq d.ident.number 1) _ _ (λ e. read_it (hears_info d) (node_info_of d.payload) (λ m f. h))
        (λ e. either KeepsAt (nat_eq d.ident.number 30) _ _ (λ f. answers_append is (eq_true d.ident.number 30 f))
        (λ f. answers_vote is (eq_false d.ident.number 1 e) (eq_false d.ident.number 30 f)))

    -- what is delivered
    delivered : KeepsAt (delivery_phase number d g)
    unfolding delivery_phase
    delivered = kinds d.ident.kind refl

  -- what the receiver makes of the frame
  pub by_answer : (got : Received) (g : StepState) → ((d : Delivery) → got ≡ Gives d → Hears number H d g) → Keeps H g → Keeps H (with_answer number got g).step_state
  by_answer (Gives d) g takes h = delivered d g (takes d refl) h
  by_answer Continues g takes h = h
  by_answer (Drops why) g takes h = h

  -- a blank is an entry
  pub hears : (d : Delivery) (g : StepState) → Takes number H d g → Hears number H d g
  hears d g takes = record {
    vote_request = takes.vote_request;
    append_request = takes.append_request;
    vote_answer = λ kind one thirty message read asked listed awaited pending.
        and_blank (TakeVoteAnswer (answer_of d.mark.step d.ident.source asked message.term message.granted))
        (takes.vote_answer kind one thirty message read asked listed awaited pending);
    append_answer = λ kind thirty message read asked listed awaited pending.
        and_blank (TakeAppendAnswer (answer_of d.mark.step d.ident.source asked message.term message.success))
        (takes.append_answer kind thirty message read asked listed awaited pending);
  }
    where
      and_blank : (move : Move) → Keeps H (with_moves number (given_at g.allocator.now) (move ∷ []) g)
          → Keeps H (moves_and_blank number (given_at g.allocator.now) (move ∷ []) g)
      and_blank move h = move_with_blank (Keeps H) number (given_at g.allocator.now) move g h
          (λ moment. records 0 zeros 0 (with_moves number (given_at g.allocator.now) (move ∷ []) g) moment.leads h)

module _ (number : ℕ) (H : OfServer) (grows : Grows H) where
  -- what holds as a frame comes, and is kept by what it delivers, holds when the step is over
  pub at_frame : Ends number H → (t : AllocatorState) (arrival : Arrival) → Keeps H (when_come t number arrival)
      → ((d : Delivery) → answer (setting_for t.me) t.sessions (record arrival { moment = moment_at t arrival }) ≡ Gives d
      → Takes number H d (when_come t number arrival))
      → Keeps H (step t number (Event.Rx arrival)).step_state
  unfolding step
  at_frame ends t arrival h takes =
      let got : Received = answer (setting_for t.me) t.sessions (record arrival { moment = moment_at t arrival }) in
      let come : StepState = when_come t number arrival in
      at_end number H ends (with_answer number got come).step_state
      (by_answer number H (grown number H grows) got come (λ d gives. hears number H (grown number H grows) d come (takes d gives)) h)
