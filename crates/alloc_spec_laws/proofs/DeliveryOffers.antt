-- What a delivered transfer and the end of a step offer.
use Rattle.std.proofs.Common.{◌≡◌, ◌≢◌, ℕ, ◌<◌, ◌≤◌, Bool, true, false, List, [], ◌∷◌, ◌++◌, inl, inr, sym, ap, subst, arith, Option, Some, None}
use Rattle.std.specs.Prelude.{◌&&◌, not, nat_eq, nat_lt, slice_index_or}
use Rattle.alloc_exchange.specs.declared.heard.Heard.{Heard}
use Rattle.alloc_exchange.specs.declared.heard.Heard.TheVariants.{Denied, FollowUp, Ignored, Whole}
use Rattle.alloc_exchange.specs.Exchange.{answer}
use Rattle.can_frame.specs.declared.entry.Entry.{Entry}
use Rattle.can_frame.specs.declared.identifier.Kind.{Kind}
use Rattle.can_frame.specs.declared.identifier.Kind.TheVariants.{Anonymous, Message as Broadcast, Request as RequestKind, Response}
use Rattle.can_frame.specs.declared.step.What.{What}
use Rattle.can_frame.specs.declared.step.What.TheVariants.{Alloc, Info, Vote, App}
use Rattle.can_frame.specs.Log.{blank}
use Rattle.dsdl_codec.specs.Allocation.{allocation_of}
use Rattle.dsdl_codec.specs.AppendAnswer.{append_answer_bytes, append_answer_of}
use Rattle.dsdl_codec.specs.AppendRequest.{append_request_of}
use Rattle.dsdl_codec.specs.Discovery.{discovery_of}
use Rattle.dsdl_codec.specs.NodeInfo.{node_info_of}
use Rattle.dsdl_codec.specs.NodeStatus.{node_status_of}
use Rattle.dsdl_codec.specs.VoteAnswer.{vote_answer_bytes, vote_answer_of}
use Rattle.dsdl_codec.specs.VoteRequest.{vote_request_of}
use Rattle.id_selector.specs.Choice.{chosen}
use Rattle.node_discovery.specs.Watch.{some_unknown}
use Rattle.raft_core.specs.Handled as handled
use Rattle.raft_core.specs.Times.{given_at, is_awaited}
use Rattle.raft_model.specs.Decisions.{grants, verdict_on}
use Rattle.raft_model.specs.Messages.{Message, Request}
use Rattle.raft_model.specs.Messages.Message.{Answers}
use Rattle.raft_model.specs.Moves.{Move}
use Rattle.raft_model.specs.Moves.Appending.{Verdict, is_accepted}
use Rattle.raft_model.specs.Moves.Elections.{with_term}
use Rattle.raft_model.specs.Moves.Leading.{answer_to}
use Rattle.raft_model.specs.Moves.Move.{AnswerAgain, TakeAppendRequest, TakeVoteRequest}
use Rattle.transfer_rx.specs.Reassembly.{Delivery}
use Rattle.alloc_spec.specs.Delivered.{StepResult, asks_info, by_kind, delivery_phase, hears_discovery, hears_status, reads, request, response}
use Rattle.alloc_spec.specs.Delivered as delivered
use Rattle.alloc_spec.specs.Exchange.{allocation_payload, answers_or_records, answers_request, gives_entry, gives_pair, hears_allocation, hears_whole, may_follow, records, records_at, with_request}
use Rattle.alloc_spec.specs.StepState.{StepState, with_response, with_transfer, with_moves}
use Rattle.alloc_spec.specs.Services.{answers_append, answers_call, answers_vote, append_answered, ends_append_call, ends_vote_call, hears_info, is_listed, takes_append_answer, takes_append_request, takes_vote_answer, takes_vote_request, vote_answered}
use Rattle.alloc_spec.specs.AllocatorState.{is_zero, known, may_propose, recorded_at, taken}
use Rattle.alloc_spec.specs.Transfers.{Ids, Offer, id_after, has_room}
use Rattle.alloc_spec_laws.proofs.Choices.{either}
use Rattle.alloc_spec_laws.proofs.DistinctTransfers.{Listed, no_more, none, rank, sent}
use Rattle.alloc_spec_laws.proofs.TickOffers.{Upto}

-- ---- the event: an Allocation that fitted has not the transfer ID that comes next

pub record IsEarly (ids : Ids) (offer : Offer) : Type 0 where
  pub kind : rank offer.what ≤ 7
  pub next : offer.what ≡ Alloc → offer.fitted ≡ true → offer.id ≢ ids.alloc

abbrev pub Fresh : StepState → Type 0
Fresh g = Listed 3 (IsEarly g.allocator.ids) g.offers

other_than_next : (id : ℕ) → id_after id ≢ id
other_than_next id e = absurd (omega (arith, e))

pub ticked : (g : StepState) → Upto 3 4 g → Fresh g
ticked g h = no_more 3 3 (λ offer. rank offer.what < 4) (IsEarly g.allocator.ids) g.offers h (omega arith) (λ offer b. record {
  kind = omega (arith, b);
  next = λ is fitted. let e : rank offer.what ≡ 7 = ap rank is in absurd (omega (arith, b, e));
})

-- nothing was offered
abbrev pub IsSilent : StepState → Type 0
IsSilent g = g.offers ≡ []

pub still : (g : StepState) → IsSilent g → Fresh g
still g e = subst (λ (l : List Offer). Listed 3 (IsEarly g.allocator.ids) l) (sym e)
    (no_more 0 3 (IsEarly g.allocator.ids) (IsEarly g.allocator.ids) [] (none (IsEarly g.allocator.ids)) (omega arith) (λ offer i. i))

one : (g : StepState) (new : Offer) → g.offers ≡ new ∷ [] → IsEarly g.allocator.ids new → Fresh g
one g new e is = subst (λ (l : List Offer). Listed 3 (IsEarly g.allocator.ids) l) (sym e) (record {
  few = omega arith;
  apart = ((λ offer i. absurd i), tt);
  each = λ offer i. elim i [ inl s ↦ subst (λ (o : Offer). IsEarly g.allocator.ids o) (sym s) is | inr j ↦ absurd j ];
})

responding : (step to id re : ℕ) (what : What) (payload : List ℕ) (says : Option Message) (g : StepState) → IsSilent g → rank what < 7
    → Fresh (with_response step what to id payload re says g)
responding step to id re what payload says g s low =
    one (with_response step what to id payload re says g)
    (record { what = what; to = to; id = id; payload = payload; re = re; says = says; fitted = has_room g.allocator.queue payload })
    (ap (λ (l : List Offer). l ++ (record { what = what; to = to; id = id; payload = payload; re = re; says = says; fitted = has_room g.allocator.queue payload } ∷ [])) s)
    (record { kind = omega (arith, low); next = λ is fitted. let e : rank what ≡ 7 = ap rank is in absurd (omega (arith, low, e)) })

allocating : (step to : ℕ) (payload : List ℕ) (says : Option Message) (g : StepState) → IsSilent g → Fresh (with_transfer step Alloc to payload says g)
allocating step to payload says g s =
    one (with_transfer step Alloc to payload says g)
    (sent Alloc to payload says g)
    (ap (λ (l : List Offer). l ++ (sent Alloc to payload says g ∷ [])) s)
    (record { kind = omega arith; next = λ is fitted. rw (fitted) (λ e. other_than_next g.allocator.ids.alloc (sym e)) })

-- ---- an Allocation

giving : (step : ℕ) (move : Move) (entry : Entry) (g : StepState) → IsSilent g → Fresh (gives_entry step move entry g)
giving step move entry g s =
    either Fresh (has_room g.allocator.queue (allocation_payload entry.node entry.uid)) _ _
    (λ e. allocating step 0 (allocation_payload entry.node entry.uid) None g s)
    (λ e. allocating step 0 (allocation_payload entry.node entry.uid) None g s)

recording : (step : ℕ) (uid : List ℕ) (preference : ℕ) (g : StepState) → IsSilent g → Fresh (records step uid preference g)
recording step uid preference g s =
    either Fresh (may_propose g.allocator && not (some_unknown g.allocator.watch (known g.allocator) g.allocator.now)) (records_at step uid (chosen (taken g.allocator) preference) g) g
    (λ e. go (chosen (taken g.allocator) preference)) (λ e. still g s)
  where
    go : (node : Option ℕ) → Fresh (records_at step uid node g)
    go None = still g s
    go (Some node) = still (records_at step uid (Some node) g) s

hearing_whole : (step : ℕ) (uid : List ℕ) (preference : ℕ) (g : StepState) → IsSilent g → Fresh (hears_whole step uid preference g)
hearing_whole step uid preference g s =
    either Fresh (is_zero uid) g (answers_or_records step uid preference (recorded_at g.allocator.raft_server.store.log uid) g)
    (λ e. still g s) (λ e. go (recorded_at g.allocator.raft_server.store.log uid))
  where
    go : (place : Option ℕ) → Fresh (answers_or_records step uid preference place g)
    go None = recording step uid preference g s
    go (Some place) =
        either Fresh (nat_lt place g.allocator.raft_server.store.commit) (gives_pair step (AnswerAgain place) place g) g
        (λ e. giving step (AnswerAgain place) (slice_index_or g.allocator.raft_server.store.log place (blank 0)) g s) (λ e. still g s)

answering : (step : ℕ) (heard : Heard) (g : StepState) → IsSilent g → Fresh (answers_request step heard g)
answering step (FollowUp bytes) g s = allocating step 0 (allocation_payload 0 bytes.items) None g s
answering step (Whole uid preference) g s = hearing_whole step uid preference g s
answering step (Ignored why) g s = still g s
answering step Denied g s = still g s

-- ---- services

call_answered : (step : ℕ) (move : Request → Move) (call : Option Request) (g : StepState) → IsSilent g → Fresh (answers_call step move call g)
call_answered step move None g s = still g s
call_answered step move (Some request) g s = still (answers_call step move (Some request) g) s

vote_comes : (step : ℕ) (d : Delivery) (request : Request) (g : StepState) → IsSilent g → Fresh (answers_vote step d request g)
vote_comes step d request g s =
    let store = with_term g.allocator.raft_server.store request.term in
    let granted : Bool = grants store request in
    responding step d.ident.source d.id d.mark.step Vote (vote_answer_bytes (record { term = store.term; granted = granted }) 0)
    (Some (Answers (answer_to g.allocator.me step store request granted)))
    (with_moves step (given_at g.allocator.now) (TakeVoteRequest request granted ∷ []) g) s (omega arith)

append_comes : (step : ℕ) (d : Delivery) (request : Request) (g : StepState) → IsSilent g → Fresh (answers_append step d request g)
append_comes step d request g s =
    let store = with_term g.allocator.raft_server.store request.term in
    let verdict : Verdict = verdict_on g.allocator.raft_server request in
    responding step d.ident.source d.id d.mark.step App (append_answer_bytes (record { term = store.term; success = is_accepted verdict }) 0)
    (Some (Answers (answer_to g.allocator.me step store request (is_accepted verdict))))
    (with_moves step (given_at g.allocator.now) (TakeAppendRequest request verdict ∷ []) g) s (omega arith)

-- ---- by its data type

read : {A : Type 0} (does : A → StepState → StepState) (value : Option A) (g : StepState) → IsSilent g → ((value : A) → Fresh (does value g))
    → Fresh (reads does value g).step_state
read does None g s f = still g s
read does (Some value) g s f = f value

asking : (step : ℕ) (d : Delivery) (bytes : List ℕ) (g : StepState) → IsSilent g → Fresh (asks_info step d bytes g).step_state
asking step d [] g s = responding step d.ident.source d.id d.mark.step Info _ None g s (omega arith)
asking step d (byte ∷ bytes) g s = still g s

abbrev Shows : StepResult → Type 0
Shows step_result = Fresh step_result.step_state

message_comes : (d : Delivery) (g : StepState) → IsSilent g → Shows (delivered.message d g)
message_comes d g s =
    either Shows (nat_eq d.ident.number 341) (reads (λ status. hears_status d) (node_status_of d.payload) g)
    (reads (hears_discovery d) (discovery_of d.payload) g)
    (λ e. read (λ status. hears_status d) (node_status_of d.payload) g s (λ status. still (hears_status d g) s))
    (λ e. read (hears_discovery d) (discovery_of d.payload) g s (λ message. still (hears_discovery d message g) s))

request_comes : (step : ℕ) (d : Delivery) (g : StepState) → IsSilent g → Shows (request step d g)
request_comes step d g s =
    either Shows (nat_eq d.ident.number 1) (asks_info step d d.payload g) _ (λ e. asking step d d.payload g s)
    (λ e. either Shows (nat_eq d.ident.number 30) (reads (takes_append_request step d) (append_request_of d.payload) g)
    (reads (takes_vote_request step d) (vote_request_of d.payload) g)
    (λ e. read (takes_append_request step d) (append_request_of d.payload) g s (λ asked.
    either Fresh (is_listed d g.allocator) _ g (λ e. append_comes step d (handled.append_request_of asked d.mark.step d.ident.source g.allocator.me) g s) (λ e. still g s)))
    (λ e. read (takes_vote_request step d) (vote_request_of d.payload) g s (λ asked.
    either Fresh (is_listed d g.allocator) _ g (λ e. vote_comes step d (handled.vote_request_of asked d.mark.step d.ident.source g.allocator.me) g s) (λ e. still g s))))

response_comes : (step : ℕ) (d : Delivery) (g : StepState) → IsSilent g → Shows (response step d g)
response_comes step d g s =
    either Shows (nat_eq d.ident.number 1) (reads (hears_info d) (node_info_of d.payload) g) _
    (λ e. read (hears_info d) (node_info_of d.payload) g s (λ info. still (hears_info d info g) s))
    (λ e. either Shows (nat_eq d.ident.number 30) (reads (takes_append_answer step d) (append_answer_of d.payload) g)
    (reads (takes_vote_answer step d) (vote_answer_of d.payload) g)
    (λ e. read (takes_append_answer step d) (append_answer_of d.payload) g s (λ says.
    either Fresh (is_listed d g.allocator) (ends_append_call step d says g) g
    (λ e. either Fresh (is_awaited g.allocator.raft_server g.allocator.times d.ident.source true d.id) _ g
    (λ e. call_answered step (append_answered d says) (g.allocator.raft_server.memory.pending d.ident.source) g s) (λ e. still g s)) (λ e. still g s)))
    (λ e. read (takes_vote_answer step d) (vote_answer_of d.payload) g s (λ says.
    either Fresh (is_listed d g.allocator) (ends_vote_call step d says g) g
    (λ e. either Fresh (is_awaited g.allocator.raft_server g.allocator.times d.ident.source false d.id) _ g
    (λ e. call_answered step (vote_answered d says) (g.allocator.raft_server.memory.pending d.ident.source) g s) (λ e. still g s)) (λ e. still g s))))

kind_comes : (step : ℕ) (d : Delivery) (kind : Kind) (g : StepState) → IsSilent g → Shows (by_kind step d kind g)
kind_comes step d Anonymous g s = read (hears_allocation step) (allocation_of d.payload) g s
    (λ message. answering step (answer g.allocator.accepted message g.allocator.now (may_follow g.allocator)) (with_request message g) s)
kind_comes step d Broadcast g s = message_comes d g s
kind_comes step d RequestKind g s = request_comes step d g s
kind_comes step d Response g s = response_comes step d g s

pub delivery_comes : (step : ℕ) (d : Delivery) (g : StepState) → IsSilent g → Shows (delivery_phase step d g)
unfolding delivery_phase
delivery_comes step d g s = kind_comes step d d.ident.kind g s
