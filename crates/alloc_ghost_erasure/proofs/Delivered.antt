-- What is done with a whole transfer.
use Rattle.std.proofs.Common.{◌≡◌, ℕ, Bool, true, false, List, [], ◌∷◌, refl, ap, ◌∙◌, Option, Some, None}
use Rattle.std.specs.Prelude.{◌&&◌, nat_eq, nat_lt, not, slice_index_or, if◌then◌else◌}
use Rattle.alloc_exchange.specs.declared.heard.Heard.{Heard}
use Rattle.alloc_exchange.specs.declared.heard.Heard.TheVariants.{Denied, FollowUp, Ignored, Whole}
use Rattle.alloc_exchange.specs.Exchange.{answer}
use Rattle.can_frame.specs.declared.identifier.Kind.{Kind}
use Rattle.can_frame.specs.declared.identifier.Kind.TheVariants.{Anonymous, Message as Broadcast, Request as RequestKind, Response}
use Rattle.can_frame.specs.declared.step.What.TheVariants.{Alloc, App, Info, Vote}
use Rattle.can_frame.specs.Log.{blank}
use Rattle.dsdl_codec.specs.declared.append_answer.AppendAnswer.{AppendAnswer}
use Rattle.dsdl_codec.specs.declared.append_request.AppendRequest.{AppendRequest}
use Rattle.dsdl_codec.specs.declared.vote_answer.VoteAnswer.{VoteAnswer}
use Rattle.dsdl_codec.specs.declared.vote_request.VoteRequest.{VoteRequest}
use Rattle.dsdl_codec.specs.Allocation.{allocation_of}
use Rattle.dsdl_codec.specs.AppendAnswer.{append_answer_bytes, append_answer_of}
use Rattle.dsdl_codec.specs.AppendRequest.{append_request_of}
use Rattle.dsdl_codec.specs.Discovery.{discovery_of}
use Rattle.dsdl_codec.specs.NodeInfo.{node_info_bytes, node_info_of}
use Rattle.dsdl_codec.specs.NodeStatus.{node_status_of}
use Rattle.dsdl_codec.specs.VoteAnswer.{vote_answer_bytes, vote_answer_of}
use Rattle.dsdl_codec.specs.VoteRequest.{vote_request_of}
use Rattle.id_selector.specs.Choice.{chosen}
use Rattle.node_discovery.specs.Watch.{some_unknown}
use Rattle.raft_core.specs.Handled as handled
use Rattle.raft_core.specs.Times.{Sending, awaits, given_at, is_awaited}
use Rattle.raft_model.specs.Decisions.{grants, verdict_on}
use Rattle.raft_model.specs.Messages.{Request}
use Rattle.raft_model.specs.Messages.Message.{Answers}
use Rattle.raft_model.specs.Moves.{Move}
use Rattle.raft_model.specs.Moves.Appending.{Verdict, is_accepted}
use Rattle.raft_model.specs.Server.{Store}
use Rattle.raft_model.specs.Moves.Elections.{with_term}
use Rattle.raft_model.specs.Moves.Leading.{answer_to}
use Rattle.raft_model.specs.Moves.Move.{AnswerAgain, TakeAppendRequest, TakeVoteRequest}
use Rattle.transfer_rx.specs.Reassembly.{Delivery}
use Rattle.transfer_rx.specs.Unmarked.{no_mark}
use Rattle.alloc_spec.specs.Delivered.{StepResult, asks_info, bad, by_kind, delivery_phase, hears_discovery, hears_status, reads, request, response, took}
use Rattle.alloc_spec.specs.Delivered as delivered
use Rattle.alloc_spec.specs.Exchange.{allocation_payload, answers_or_records, answers_request, hears_allocation, hears_whole, may_follow, records_at, with_request}
use Rattle.alloc_spec.specs.StepState.{StepState, with_moves}
use Rattle.alloc_spec.specs.Services.{answers_append_request, answers_call, answers_vote_request, append_answered, ends_append_call, ends_vote_call, hears_info, info_of, is_listed, takes_append_answer, takes_append_request, takes_vote_answer, takes_vote_request, tells_info, vote_answered}
use Rattle.alloc_spec.specs.AllocatorState.{is_zero, known, may_propose, members_of, recorded_at, taken}
use Rattle.alloc_ghost_erasure.specs.Unmarked.{unmarked_step_state, unmarked_raft_server, unmarked_step_result, unnumbered, unnumbered_call}
use Rattle.alloc_ghost_erasure.proofs.Moves.{blank_same, unnumbered_move}
use Rattle.alloc_ghost_erasure.proofs.Phases.{gives_same, proposes_same}
use Rattle.alloc_ghost_erasure.proofs.Steps.{Same, answers_same, cond_same, itself, sends_same, takes_same}

abbrev pub SameSight : StepResult → StepResult → Type 0
SameSight x y = unmarked_step_result x ≡ unmarked_step_result y

-- a transfer without its marks
abbrev pub unmarked_delivery : Delivery → Delivery
unmarked_delivery d = record d { mark = no_mark; whole = false }

took_same : (g h : StepState) → Same g h → SameSight (took g) (took h)
took_same g h e = λ i. took (e i)

reads_same : {A : Type 0} (does does' : A → StepState → StepState) (value : Option A) (g : StepState) → ((a : A) → Same (does a g) (does' a (unmarked_step_state g)))
    → SameSight (reads does value g) (reads does' value (unmarked_step_state g))
reads_same does does' None g e = λ i. bad (itself g i)
reads_same does does' (Some a) g e = took_same (does a g) (does' a (unmarked_step_state g)) (e a)

step_result_same : (b : Bool) (x y v w : StepResult) → SameSight x v → SameSight y w → SameSight (if b then x else y) (if b then v else w)
step_result_same true x y v w e f = e
step_result_same false x y v w e f = f

-- ---- services

vote_request_same : (s r : ℕ) (d : Delivery) (asked : VoteRequest) (g : StepState) → Same (takes_vote_request s d asked g) (takes_vote_request r (unmarked_delivery d) asked (unmarked_step_state g))
vote_request_same s r d asked g =
    cond_same (is_listed d g.allocator) (answers_vote_request s d asked g) g (answers_vote_request r (unmarked_delivery d) asked (unmarked_step_state g)) (unmarked_step_state g)
    (answers_same s r Vote d.ident.source d.id (vote_answer_bytes (record { term = store.term; granted = granted }) 0) d.mark.step 0
    (Some (Answers (answer_to g.allocator.me s store call granted))) (Some (Answers (answer_to g.allocator.me r store (unnumbered call) granted)))
    (with_moves s (given_at g.allocator.now) (TakeVoteRequest call granted ∷ []) g) (with_moves r (given_at g.allocator.now) (TakeVoteRequest (unnumbered call) granted ∷ []) (unmarked_step_state g))
    (takes_same s r (given_at g.allocator.now) (TakeVoteRequest call granted ∷ []) (TakeVoteRequest (unnumbered call) granted ∷ []) g (unmarked_step_state g) refl (itself g)))
    (itself g)
  where
    call : Request
    call = handled.vote_request_of asked d.mark.step d.ident.source g.allocator.me

    store : Store
    store = with_term g.allocator.raft_server.store call.term

    granted : Bool
    granted = grants store call

append_request_same : (s r : ℕ) (d : Delivery) (asked : AppendRequest) (g : StepState) → Same (takes_append_request s d asked g) (takes_append_request r (unmarked_delivery d) asked (unmarked_step_state g))
append_request_same s r d asked g =
    cond_same (is_listed d g.allocator) (answers_append_request s d asked g) g (answers_append_request r (unmarked_delivery d) asked (unmarked_step_state g)) (unmarked_step_state g)
    (answers_same s r App d.ident.source d.id (append_answer_bytes (record { term = store.term; success = is_accepted verdict }) 0) d.mark.step 0
    (Some (Answers (answer_to g.allocator.me s store call (is_accepted verdict)))) (Some (Answers (answer_to g.allocator.me r store (unnumbered call) (is_accepted verdict))))
    (with_moves s (given_at g.allocator.now) (TakeAppendRequest call verdict ∷ []) g) (with_moves r (given_at g.allocator.now) (TakeAppendRequest (unnumbered call) verdict ∷ []) (unmarked_step_state g))
    (takes_same s r (given_at g.allocator.now) (TakeAppendRequest call verdict ∷ []) (TakeAppendRequest (unnumbered call) verdict ∷ []) g (unmarked_step_state g) refl (itself g)))
    (itself g)
  where
    call : Request
    call = handled.append_request_of asked d.mark.step d.ident.source g.allocator.me

    store : Store
    store = with_term g.allocator.raft_server.store call.term

    verdict : Verdict
    verdict = verdict_on g.allocator.raft_server call

awaits_same : (call : Option Request) (sending : Option Sending) (append : Bool) (id : ℕ) → awaits call sending append id ≡ awaits (unnumbered_call call) sending append id
awaits_same None sending append id = refl
awaits_same (Some call) None append id = refl
awaits_same (Some call) (Some sending) append id = refl

answered_same : (s r : ℕ) (move other : Request → Move) (call : Option Request) (g : StepState) → ((q : Request) → unnumbered_move (move q) ≡ unnumbered_move (other (unnumbered q)))
    → Same (answers_call s move call g) (answers_call r other (unnumbered_call call) (unmarked_step_state g))
answered_same s r move other None g e = itself g
answered_same s r move other (Some call) g e =
    let t = g.allocator in
    takes_same s r (given_at t.now) (handled.with_blank (members_of t) t.me s t.times t.raft_server (move call ∷ []))
    (handled.with_blank (members_of t) t.me r t.times (unmarked_raft_server t.raft_server) (other (unnumbered call) ∷ [])) g (unmarked_step_state g)
    (blank_same (members_of t) t.me s r t.times t.raft_server (move call) (other (unnumbered call)) (e call)) (itself g)

vote_answer_same : (s r : ℕ) (d : Delivery) (says : VoteAnswer) (g : StepState) → Same (takes_vote_answer s d says g) (takes_vote_answer r (unmarked_delivery d) says (unmarked_step_state g))
vote_answer_same s r d says g =
    cond_same (is_listed d g.allocator) (ends_vote_call s d says g) g (ends_vote_call r (unmarked_delivery d) says (unmarked_step_state g)) (unmarked_step_state g)
    (cond_same (is_awaited g.allocator.raft_server g.allocator.times d.ident.source false d.id) _ g ended (unmarked_step_state g)
    (answered_same s r (vote_answered d says) (vote_answered (unmarked_delivery d) says) (g.allocator.raft_server.memory.pending d.ident.source) g (λ q. refl)) (itself g)
    ∙ ap (λ (b : Bool). unmarked_step_state (if b then ended else unmarked_step_state g)) (awaits_same (g.allocator.raft_server.memory.pending d.ident.source) (g.allocator.times.sending d.ident.source) false d.id))
    (itself g)
  where
    ended : StepState
    ended = answers_call r (vote_answered (unmarked_delivery d) says) (unnumbered_call (g.allocator.raft_server.memory.pending d.ident.source)) (unmarked_step_state g)

append_answer_same : (s r : ℕ) (d : Delivery) (says : AppendAnswer) (g : StepState) → Same (takes_append_answer s d says g) (takes_append_answer r (unmarked_delivery d) says (unmarked_step_state g))
append_answer_same s r d says g =
    cond_same (is_listed d g.allocator) (ends_append_call s d says g) g (ends_append_call r (unmarked_delivery d) says (unmarked_step_state g)) (unmarked_step_state g)
    (cond_same (is_awaited g.allocator.raft_server g.allocator.times d.ident.source true d.id) _ g ended (unmarked_step_state g)
    (answered_same s r (append_answered d says) (append_answered (unmarked_delivery d) says) (g.allocator.raft_server.memory.pending d.ident.source) g (λ q. refl)) (itself g)
    ∙ ap (λ (b : Bool). unmarked_step_state (if b then ended else unmarked_step_state g)) (awaits_same (g.allocator.raft_server.memory.pending d.ident.source) (g.allocator.times.sending d.ident.source) true d.id))
    (itself g)
  where
    ended : StepState
    ended = answers_call r (append_answered (unmarked_delivery d) says) (unnumbered_call (g.allocator.raft_server.memory.pending d.ident.source)) (unmarked_step_state g)

info_same : (s r : ℕ) (d : Delivery) (payload : List ℕ) (g : StepState) → SameSight (asks_info s d payload g) (asks_info r (unmarked_delivery d) payload (unmarked_step_state g))
info_same s r d [] g =
    took_same (tells_info s d g) (tells_info r (unmarked_delivery d) (unmarked_step_state g))
    (answers_same s r Info d.ident.source d.id (node_info_bytes (info_of g.allocator)) d.mark.step 0 None None g (unmarked_step_state g) (itself g))
info_same s r d (byte ∷ bytes) g = λ i. bad (itself g i)

-- ---- the exchange

whole_same : (s r : ℕ) (uid : List ℕ) (preference : ℕ) (g : StepState) → Same (hears_whole s uid preference g) (hears_whole r uid preference (unmarked_step_state g))
whole_same s r uid preference g =
    cond_same (is_zero uid) g _ (unmarked_step_state g) _ (itself g) (found (recorded_at g.allocator.raft_server.store.log uid))
  where
    recorded : (node : Option ℕ) → Same (records_at s uid node g) (records_at r uid node (unmarked_step_state g))
    recorded None = itself g
    recorded (Some node) = proposes_same s r 1 uid node g

    found : (place : Option ℕ) → Same (answers_or_records s uid preference place g) (answers_or_records r uid preference place (unmarked_step_state g))
    found None = cond_same (may_propose g.allocator && not (some_unknown g.allocator.watch (known g.allocator) g.allocator.now)) _ g _ (unmarked_step_state g) (recorded (chosen (taken g.allocator) preference)) (itself g)
    found (Some place) = cond_same (nat_lt place g.allocator.raft_server.store.commit) _ g _ (unmarked_step_state g) (gives_same s r (AnswerAgain place) (slice_index_or g.allocator.raft_server.store.log place (blank 0)) g) (itself g)

heard_same : (s r : ℕ) (heard : Heard) (g : StepState) → Same (answers_request s heard g) (answers_request r heard (unmarked_step_state g))
heard_same s r (FollowUp bytes) g = sends_same s r Alloc 0 (allocation_payload 0 bytes.items) None None g
heard_same s r (Whole uid preference) g = whole_same s r uid preference g
heard_same s r (Ignored why) g = itself g
heard_same s r Denied g = itself g

-- ---- by the data type

message_same : (d : Delivery) (g : StepState) → SameSight (delivered.message d g) (delivered.message (unmarked_delivery d) (unmarked_step_state g))
message_same d g =
    step_result_same (nat_eq d.ident.number 341) _ _ _ _
    (reads_same (λ status. hears_status d) (λ status. hears_status (unmarked_delivery d)) (node_status_of d.payload) g (λ status. ap (hears_status d) (itself g)))
    (reads_same (hears_discovery d) (hears_discovery (unmarked_delivery d)) (discovery_of d.payload) g (λ told. ap (hears_discovery d told) (itself g)))

request_same : (s r : ℕ) (d : Delivery) (g : StepState) → SameSight (request s d g) (request r (unmarked_delivery d) (unmarked_step_state g))
request_same s r d g =
    step_result_same (nat_eq d.ident.number 1) _ _ _ _ (info_same s r d d.payload g)
    (step_result_same (nat_eq d.ident.number 30) _ _ _ _
    (reads_same (takes_append_request s d) (takes_append_request r (unmarked_delivery d)) (append_request_of d.payload) g (λ asked. append_request_same s r d asked g))
    (reads_same (takes_vote_request s d) (takes_vote_request r (unmarked_delivery d)) (vote_request_of d.payload) g (λ asked. vote_request_same s r d asked g)))

response_same : (s r : ℕ) (d : Delivery) (g : StepState) → SameSight (response s d g) (response r (unmarked_delivery d) (unmarked_step_state g))
response_same s r d g =
    step_result_same (nat_eq d.ident.number 1) _ _ _ _ (reads_same (hears_info d) (hears_info (unmarked_delivery d)) (node_info_of d.payload) g (λ info. ap (hears_info d info) (itself g)))
    (step_result_same (nat_eq d.ident.number 30) _ _ _ _
    (reads_same (takes_append_answer s d) (takes_append_answer r (unmarked_delivery d)) (append_answer_of d.payload) g (λ says. append_answer_same s r d says g))
    (reads_same (takes_vote_answer s d) (takes_vote_answer r (unmarked_delivery d)) (vote_answer_of d.payload) g (λ says. vote_answer_same s r d says g)))

kind_same : (s r : ℕ) (d : Delivery) (kind : Kind) (g : StepState) → SameSight (by_kind s d kind g) (by_kind r (unmarked_delivery d) kind (unmarked_step_state g))
kind_same s r d Anonymous g = reads_same (hears_allocation s) (hears_allocation r) (allocation_of d.payload) g (λ asked. heard_same s r (answer g.allocator.accepted asked g.allocator.now (may_follow g.allocator)) (with_request asked g))
kind_same s r d Broadcast g = message_same d g
kind_same s r d RequestKind g = request_same s r d g
kind_same s r d Response g = response_same s r d g

pub delivers_same : (s r : ℕ) (d : Delivery) (g : StepState) → SameSight (delivery_phase s d g) (delivery_phase r (unmarked_delivery d) (unmarked_step_state g))
unfolding delivery_phase
delivers_same s r d g = kind_same s r d d.ident.kind g
