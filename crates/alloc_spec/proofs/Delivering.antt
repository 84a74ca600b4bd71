-- What is done with a whole transfer only adds puts.
use Rattle.std.proofs.Common.{ℕ, Bool, true, false, List, [], ◌∷◌, Option, Some, None, refl}
use Rattle.std.specs.Prelude.{◌&&◌, nat_eq, nat_lt, not, slice_index_or, if◌then◌else◌}
use Rattle.alloc_exchange.specs.declared.heard.Heard.{Heard}
use Rattle.alloc_exchange.specs.declared.heard.Heard.TheVariants.{Denied, FollowUp, Ignored, Whole}
use Rattle.alloc_exchange.specs.Exchange.{answer}
use Rattle.can_frame.specs.declared.identifier.Kind.{Kind}
use Rattle.can_frame.specs.declared.identifier.Kind.TheVariants.{Anonymous, Message, Request, Response}
use Rattle.can_frame.specs.Log.{blank}
use Rattle.dsdl_codec.specs.declared.allocation.Allocation.{Allocation}
use Rattle.dsdl_codec.specs.declared.append_answer.AppendAnswer.{AppendAnswer}
use Rattle.dsdl_codec.specs.declared.append_request.AppendRequest.{AppendRequest}
use Rattle.dsdl_codec.specs.declared.vote_answer.VoteAnswer.{VoteAnswer}
use Rattle.dsdl_codec.specs.declared.vote_request.VoteRequest.{VoteRequest}
use Rattle.dsdl_codec.specs.Allocation.{allocation_of}
use Rattle.dsdl_codec.specs.AppendAnswer.{append_answer_of}
use Rattle.dsdl_codec.specs.AppendRequest.{append_request_of}
use Rattle.dsdl_codec.specs.Discovery.{discovery_of}
use Rattle.dsdl_codec.specs.NodeInfo.{node_info_of}
use Rattle.dsdl_codec.specs.NodeStatus.{node_status_of}
use Rattle.dsdl_codec.specs.VoteAnswer.{vote_answer_of}
use Rattle.dsdl_codec.specs.VoteRequest.{vote_request_of}
use Rattle.id_selector.specs.Choice.{chosen}
use Rattle.node_discovery.specs.Watch.{some_unknown}
use Rattle.raft_core.specs.Handled as handled
use Rattle.raft_core.specs.Times.{given_at, is_awaited}
use Rattle.raft_model.specs.Decisions.{grants, verdict_on}
use Rattle.raft_model.specs.Messages.{Request as Call}
use Rattle.raft_model.specs.Moves.{Move}
use Rattle.raft_model.specs.Moves.Elections.{with_term}
use Rattle.raft_model.specs.Moves.Move.{AnswerAgain, TakeAppendRequest, TakeVoteRequest}
use Rattle.transfer_rx.specs.Reassembly.{Answer, Continues, Delivery, Drops, Gives}
use Rattle.alloc_spec.specs.Delivered.{asks_info, by_kind, delivery_phase, hears_discovery, hears_status, message, reads, request, response}
use Rattle.alloc_spec.specs.Exchange.{answers_or_records, answers_request, hears_allocation, hears_whole, may_follow, records, records_at, with_request}
use Rattle.alloc_spec.specs.Extends.{Extends}
use Rattle.alloc_spec.specs.StepState.{StepState, with_moves}
use Rattle.alloc_spec.specs.Services.{answers_append, answers_append_request, answers_call, answers_vote, answers_vote_request, append_answered, ends_append_call, ends_vote_call, hears_info, is_listed, takes_append_answer, takes_append_request, takes_vote_answer, takes_vote_request, tells_info, vote_answered}
use Rattle.alloc_spec.specs.Step.{with_answer}
use Rattle.alloc_spec.specs.AllocatorState.{is_zero, known, may_propose, members_of, recorded_at, taken}
use Rattle.alloc_spec.proofs.Ends.{gives_more}
use Rattle.alloc_spec.proofs.Extending.{proposes_more}
use Rattle.alloc_spec.proofs.Extends.{and_more, either_more, itself, no_more, takes_more}

reads_more : {A : Type 0} (does : A → StepState → StepState) (value : Option A) (g : StepState) → ((a : A) → Extends g (does a g)) → Extends g (reads does value g).step_state
reads_more does None g more = itself g
reads_more does (Some a) g more = more a

-- ---- services

answers_vote_more : (step : ℕ) (d : Delivery) (r : Call) (g : StepState) → Extends g (answers_vote step d r g)
answers_vote_more step d r g =
    let moved : StepState = with_moves step (given_at g.allocator.now) (TakeVoteRequest r (grants (with_term g.allocator.raft_server.store r.term) r) ∷ []) g in
    and_more g moved (answers_vote step d r g) (takes_more step (given_at g.allocator.now) (TakeVoteRequest r (grants (with_term g.allocator.raft_server.store r.term) r) ∷ []) g) (no_more moved (answers_vote step d r g) refl refl refl)

vote_request_more : (step : ℕ) (d : Delivery) (asked : VoteRequest) (g : StepState) → Extends g (takes_vote_request step d asked g)
vote_request_more step d asked g = either_more (is_listed d g.allocator) g (answers_vote_request step d asked g) g (answers_vote_more step d (handled.vote_request_of asked d.mark.step d.ident.source g.allocator.me) g) (itself g)

answers_append_more : (step : ℕ) (d : Delivery) (r : Call) (g : StepState) → Extends g (answers_append step d r g)
answers_append_more step d r g =
    let moved : StepState = with_moves step (given_at g.allocator.now) (TakeAppendRequest r (verdict_on g.allocator.raft_server r) ∷ []) g in
    and_more g moved (answers_append step d r g) (takes_more step (given_at g.allocator.now) (TakeAppendRequest r (verdict_on g.allocator.raft_server r) ∷ []) g) (no_more moved (answers_append step d r g) refl refl refl)

append_request_more : (step : ℕ) (d : Delivery) (asked : AppendRequest) (g : StepState) → Extends g (takes_append_request step d asked g)
append_request_more step d asked g = either_more (is_listed d g.allocator) g (answers_append_request step d asked g) g (answers_append_more step d (handled.append_request_of asked d.mark.step d.ident.source g.allocator.me) g) (itself g)

call_more : (step : ℕ) (move : Call → Move) (pending : Option Call) (g : StepState) → Extends g (answers_call step move pending g)
call_more step move None g = itself g
call_more step move (Some r) g = takes_more step (given_at g.allocator.now)
    (handled.with_blank (members_of g.allocator) g.allocator.me step g.allocator.times g.allocator.raft_server (move r ∷ [])) g

vote_answer_more : (step : ℕ) (d : Delivery) (says : VoteAnswer) (g : StepState) → Extends g (takes_vote_answer step d says g)
vote_answer_more step d says g = either_more (is_listed d g.allocator) g (ends_vote_call step d says g) g
    (either_more (is_awaited g.allocator.raft_server g.allocator.times d.ident.source false d.id) g (answers_call step (vote_answered d says) (g.allocator.raft_server.memory.pending d.ident.source) g) g (call_more step (vote_answered d says) (g.allocator.raft_server.memory.pending d.ident.source) g) (itself g)) (itself g)

append_answer_more : (step : ℕ) (d : Delivery) (says : AppendAnswer) (g : StepState) → Extends g (takes_append_answer step d says g)
append_answer_more step d says g = either_more (is_listed d g.allocator) g (ends_append_call step d says g) g
    (either_more (is_awaited g.allocator.raft_server g.allocator.times d.ident.source true d.id) g (answers_call step (append_answered d says) (g.allocator.raft_server.memory.pending d.ident.source) g) g (call_more step (append_answered d says) (g.allocator.raft_server.memory.pending d.ident.source) g) (itself g)) (itself g)

info_more : (step : ℕ) (d : Delivery) (payload : List ℕ) (g : StepState) → Extends g (asks_info step d payload g).step_state
info_more step d [] g = no_more g (tells_info step d g) refl refl refl
info_more step d (byte ∷ bytes) g = itself g

-- ---- the exchange

records_at_more : (step : ℕ) (uid : List ℕ) (node : Option ℕ) (g : StepState) → Extends g (records_at step uid node g)
records_at_more step uid None g = itself g
records_at_more step uid (Some node) g = proposes_more step _ uid node g

records_more : (step : ℕ) (uid : List ℕ) (preference : ℕ) (g : StepState) → Extends g (records step uid preference g)
records_more step uid preference g = either_more (may_propose g.allocator && not (some_unknown g.allocator.watch (known g.allocator) g.allocator.now)) g (records_at step uid (chosen (taken g.allocator) preference) g) g
    (records_at_more step uid (chosen (taken g.allocator) preference) g) (itself g)

recorded_more : (step : ℕ) (uid : List ℕ) (preference : ℕ) (place : Option ℕ) (g : StepState) → Extends g (answers_or_records step uid preference place g)
recorded_more step uid preference None g = records_more step uid preference g
recorded_more step uid preference (Some place) g = either_more (nat_lt place g.allocator.raft_server.store.commit) g _ g (gives_more step (AnswerAgain place) (slice_index_or g.allocator.raft_server.store.log place (blank 0)) g) (itself g)

whole_more : (step : ℕ) (uid : List ℕ) (preference : ℕ) (g : StepState) → Extends g (hears_whole step uid preference g)
whole_more step uid preference g = either_more (is_zero uid) g g (answers_or_records step uid preference (recorded_at g.allocator.raft_server.store.log uid) g) (itself g) (recorded_more step uid preference (recorded_at g.allocator.raft_server.store.log uid) g)

heard_more : (step : ℕ) (heard : Heard) (g : StepState) → Extends g (answers_request step heard g)
heard_more step (FollowUp bytes) g = no_more g (answers_request step (FollowUp bytes) g) refl refl refl
heard_more step (Whole uid preference) g = whole_more step uid preference g
heard_more step (Ignored why) g = itself g
heard_more step Denied g = itself g

allocation_more : (step : ℕ) (asked : Allocation) (g : StepState) → Extends g (hears_allocation step asked g)
allocation_more step asked g =
    let heard : StepState = with_request asked g in
    and_more g heard (hears_allocation step asked g) (no_more g heard refl refl refl) (heard_more step (answer g.allocator.accepted asked g.allocator.now (may_follow g.allocator)) heard)

-- ---- by the data type

message_more : (d : Delivery) (g : StepState) → Extends g (message d g).step_state
message_more d g = by (nat_eq d.ident.number 341)
  where
    by : (b : Bool) → Extends g (if b then reads (λ status. hears_status d) (node_status_of d.payload) g else reads (hears_discovery d) (discovery_of d.payload) g).step_state
    by true = reads_more (λ status. hears_status d) (node_status_of d.payload) g (λ status. no_more g (hears_status d g) refl refl refl)
    by false = reads_more (hears_discovery d) (discovery_of d.payload) g (λ told. no_more g (hears_discovery d told g) refl refl refl)

request_more : (step : ℕ) (d : Delivery) (g : StepState) → Extends g (request step d g).step_state
request_more step d g = by (nat_eq d.ident.number 1) (nat_eq d.ident.number 30)
  where
    by : (a b : Bool) → Extends g (if a then asks_info step d d.payload g else (if b then reads (takes_append_request step d) (append_request_of d.payload) g else reads (takes_vote_request step d) (vote_request_of d.payload) g)).step_state
    by true b = info_more step d d.payload g
    by false true = reads_more (takes_append_request step d) (append_request_of d.payload) g (λ asked. append_request_more step d asked g)
    by false false = reads_more (takes_vote_request step d) (vote_request_of d.payload) g (λ asked. vote_request_more step d asked g)

response_more : (step : ℕ) (d : Delivery) (g : StepState) → Extends g (response step d g).step_state
response_more step d g = by (nat_eq d.ident.number 1) (nat_eq d.ident.number 30)
  where
    by : (a b : Bool) → Extends g (if a then reads (hears_info d) (node_info_of d.payload) g else (if b then reads (takes_append_answer step d) (append_answer_of d.payload) g else reads (takes_vote_answer step d) (vote_answer_of d.payload) g)).step_state
    by true b = reads_more (hears_info d) (node_info_of d.payload) g (λ info. no_more g (hears_info d info g) refl refl refl)
    by false true = reads_more (takes_append_answer step d) (append_answer_of d.payload) g (λ says. append_answer_more step d says g)
    by false false = reads_more (takes_vote_answer step d) (vote_answer_of d.payload) g (λ says. vote_answer_more step d says g)

kind_more : (step : ℕ) (d : Delivery) (kind : Kind) (g : StepState) → Extends g (by_kind step d kind g).step_state
kind_more step d Anonymous g = reads_more (hears_allocation step) (allocation_of d.payload) g (λ asked. allocation_more step asked g)
kind_more step d Message g = message_more d g
kind_more step d Request g = request_more step d g
kind_more step d Response g = response_more step d g

pub delivers_more : (step : ℕ) (d : Delivery) (g : StepState) → Extends g (delivery_phase step d g).step_state
unfolding delivery_phase
delivers_more step d g = kind_more step d d.ident.kind g

pub answer_more : (step : ℕ) (a : Answer) (g : StepState) → Extends g (with_answer step a g).step_state
answer_more step (Gives delivery) g = delivers_more step delivery g
answer_more step Continues g = itself g
answer_more step (Drops why) g = itself g
