-- A leader leads on: at each tick, and at each frame that tells no higher term.
use Rattle.std.proofs.Common.{◌≡◌, ℕ, Bool, true, false, List, [], ◌∷◌, ◌⊎◌, inl, inr, refl, sym, ◌∙◌, ap, subst, max, Option, Some, None}
use Rattle.std.specs.Prelude.{◌&&◌, ◌==◌, nat_eq, nat_lt, not, slice_index_or, if◌then◌else◌}
use Rattle.alloc_exchange.specs.declared.heard.Heard.{Heard}
use Rattle.alloc_exchange.specs.declared.heard.Heard.TheVariants.{Denied, FollowUp, Ignored, Whole}
use Rattle.alloc_exchange.specs.Exchange as exchange
use Rattle.can_frame.specs.declared.identifier.Kind.{Kind}
use Rattle.can_frame.specs.declared.identifier.Kind.TheVariants.{Anonymous, Message, Request as RequestKind, Response}
use Rattle.can_frame.specs.declared.entry.Entry.{Entry}
use Rattle.can_frame.specs.declared.step.What.TheVariants.{Alloc}
use Rattle.can_frame.specs.Log.{blank}
use Rattle.dsdl_codec.specs.Allocation.{allocation_of}
use Rattle.dsdl_codec.specs.AppendAnswer.{append_answer_of}
use Rattle.dsdl_codec.specs.AppendRequest as append_codec
use Rattle.dsdl_codec.specs.Discovery.{discovery_of}
use Rattle.dsdl_codec.specs.NodeInfo.{node_info_of}
use Rattle.dsdl_codec.specs.NodeStatus.{node_status_of}
use Rattle.dsdl_codec.specs.VoteAnswer.{vote_answer_of}
use Rattle.dsdl_codec.specs.VoteRequest as vote_codec
use Rattle.id_selector.specs.Choice.{chosen}
use Rattle.node_discovery.specs.Watch.{some_unknown}
use Rattle.raft_core.specs.Handled.{answer_of, append_request_of, vote_request_of}
use Rattle.raft_core.specs.Times.{given_at, is_awaited, overdue}
use Rattle.raft_model.specs.Decisions.{grants, verdict_on}
use Rattle.raft_model.specs.Messages.{Answer, Request}
use Rattle.raft_model.specs.Moves.{Move}
use Rattle.raft_model.specs.Moves.Appending.{Verdict, acknowledges, matched_memory}
use Rattle.raft_model.specs.Moves.Appending.Verdict.{Outdated}
use Rattle.raft_model.specs.Moves.Elections.{counting_memory, counts, is_candidate, memory_without_call, stepped_down, with_term}
use Rattle.raft_model.specs.Moves.Move.{TimeOut, AnswerAgain, TakeAppendAnswer, TakeAppendRequest, TakeVoteAnswer, TakeVoteRequest}
use Rattle.raft_model.specs.Server.{Memory, RaftServer, Role, Store}
use Rattle.raft_model.specs.Server.Role.{Follower}
use Rattle.transfer_rx.specs.Reassembly.{Answer as Received, Arrival, Continues, Delivery, Drops, Gives, answer}
use Rattle.alloc_spec.specs.Accepted.{setting_for}
use Rattle.alloc_spec.specs.AllocatorState.{AllocatorState, is_zero, known, may_propose, members_of, recorded_at, taken}
use Rattle.alloc_spec.specs.Delivered.{StepResult, asks_info, by_kind, delivery_phase, hears_discovery, hears_status, reads}
use Rattle.alloc_spec.specs.Ending.{end_phase}
use Rattle.alloc_spec.specs.Exchange.{allocation_payload, gives_entry, answers_or_records, answers_request, gives_pair, hears_allocation, may_follow, records_at, with_request}
use Rattle.alloc_spec.specs.Services.{answers_append_request, answers_call, answers_vote_request, append_answered, ends_append_call, ends_vote_call, hears_info, is_listed, takes_append_answer, takes_append_request, takes_vote_answer, takes_vote_request, vote_answered}
use Rattle.alloc_spec.specs.Step.{all_nodes, at_moment, step, with_answer}
use Rattle.alloc_spec.specs.Step.Event.{Rx, Tick}
use Rattle.alloc_spec.specs.StepState.{StepState, with_moves, with_transfer}
use Rattle.alloc_spec.specs.Transfers.{has_room}
use Rattle.alloc_spec_laws.proofs.Choices.{either}
use Rattle.service_steps.specs.Requests.{moment_at}
use Rattle.service_steps.proofs.Begins.{IsAsBefore}
use Rattle.service_steps.proofs.FollowUps.{begun, when_come}
use Rattle.std.proofs.Common.{◌<◌}
use Rattle.std.proofs.lemmas.Bool.{cases_Bool}
use Rattle.alloc_spec.specs.Step.{begin_phase}
use Rattle.std.specs.Prelude.{nat_le, ◌-◌, ◌||◌}
use Rattle.can_frame.specs.declared.step.What.TheVariants.{InfoQ}
use Rattle.can_frame.specs.Timing.{status_interval}
use Rattle.cluster_discovery.specs.Members.{is_due}
use Rattle.node_discovery.specs.Watch.{next_query}
use Rattle.raft_core.specs.Times.{given_tick, has_waited}
use Rattle.raft_model.specs.Decisions.{commit_index, rule}
use Rattle.raft_model.specs.Duty.{commit_moves, tick_phase}
use Rattle.raft_model.specs.Moves.Elections.{is_leader, term_limit}
use Rattle.raft_model.specs.Server.Role.{Leader}
use Rattle.alloc_spec.specs.AllocatorState.{knows_all, start_of}
use Rattle.alloc_spec.specs.Tick.{asks, candidate, clock_phase, discovery_phase, election_phase, new_uid, query_phase, record_phase, records_as, records_node, status_phase, tells_members, tells_status, with_query_if}
use Rattle.alloc_spec.specs.Transfers.{id_of}
use Rattle.alloc_spec_laws.proofs.Choices.{lt_true}
use Rattle.service_steps.specs.Leading.{HearsHigher, TellsHigher}
use Rattle.alloc_spec.proofs.Blanks.{move_with_blank, moves_and_blank}
use Rattle.service_steps.proofs.Begins.{expired}
use Rattle.service_steps.proofs.Ends.{IsKept, rest_keeps}

abbrev Leads : StepState → Type 0
Leads g = g.allocator.raft_server.memory.role ≡ Leader

-- a leader does not stand for election
nobody : (waited room : Bool) → (waited && (false && room)) ≡ false
nobody true room = refl
nobody false room = refl

pub no_election : (waited : Bool) (server : RaftServer) → server.memory.role ≡ Leader → tick_phase waited server ≡ []
no_election waited server role =
    let none : (waited && (not (is_leader server.memory.role) && nat_lt server.store.term term_limit)) ≡ false
    = ap (λ (r : Role). waited && (not (is_leader r) && nat_lt server.store.term term_limit)) role ∙ nobody waited (nat_lt server.store.term term_limit) in
    ap (λ (b : Bool). if b then TimeOut ∷ [] else []) none

-- ---- as a step ends

module _ (number : ℕ) where
  kept : IsKept number Leads
  kept = record {
    passes = λ g e h. h;
    tells = λ given g e h. h;
    votes = λ given peer g h. h;
    appends = λ given peer previous with_entry g h. h;
    sends = λ what to payload says g h. h;
  }

  commits : (g : StepState) (leads : Bool) (index : Option ℕ) → Leads g → Leads (with_moves number (given_at g.allocator.now) (if leads then commit_moves index else []) g)
  commits g true None h = h
  commits g true (Some index) h = h
  commits g false index h = h

  ends : (g : StepState) → Leads g → Leads (end_phase number g)
  ends g h = rest_keeps number Leads kept g (commits g (is_leader g.allocator.raft_server.memory.role) (commit_index (members_of g.allocator) g.allocator.me g.allocator.raft_server) h)

  -- ---- a tick

  elects : (word : ℕ) (waited : Bool) (g : StepState) → Leads g → Leads (moves_and_blank number (given_tick g.allocator.now word) (tick_phase waited g.allocator.raft_server) g)
  elects word waited g h =
      subst (λ (moves : List Move). Leads (moves_and_blank number (given_tick g.allocator.now word) moves g)) (sym (no_election waited g.allocator.raft_server h)) h

  recorded_as : (node : ℕ) (uid : Option (List ℕ)) (g : StepState) → Leads g → Leads (records_as number node uid g)
  recorded_as node None g h = h
  recorded_as node (Some uid) g h = h

  recorded_node : (node : Option ℕ) (g : StepState) → Leads g → Leads (records_node number node g)
  recorded_node None g h = h
  recorded_node (Some node) g h = recorded_as node (new_uid g.allocator node) g h

  asked_if : (fits : Bool) (node id : ℕ) (g : StepState) → Leads g → Leads (with_query_if fits node id g)
  asked_if true node id g h = h
  asked_if false node id g h = h

  asked : (node : Option ℕ) (g : StepState) → Leads g → Leads (asks number node g)
  asked None g h = h
  asked (Some node) g h = asked_if (has_room g.allocator.queue []) node (id_of g.allocator.ids InfoQ node) (with_transfer number InfoQ node [] None g) h

  finds : (x : StepState) → Leads x → Leads (discovery_phase number x)
  finds x i = either Leads (is_due (start_of x.allocator) x.allocator.heard x.allocator.now) (tells_members number x) x (λ e. i) (λ e. i)

  states : (x : StepState) → Leads x → Leads (status_phase number x)
  states x i = either Leads (nat_le status_interval (x.allocator.now - x.allocator.status_at)) (tells_status number x) x (λ e. i) (λ e. i)

  notes : (x : StepState) → Leads x → Leads (record_phase number x)
  notes x i = either Leads (may_propose x.allocator) (records_node number (candidate x.allocator) x) x (λ e. recorded_node (candidate x.allocator) x i) (λ e. i)

  queries : (x : StepState) → Leads x → Leads (query_phase number x)
  queries x i = either Leads (is_leader x.allocator.raft_server.memory.role) (asks number (next_query x.allocator.watch (known x.allocator) x.allocator.now) x) x
      (λ e. asked (next_query x.allocator.watch (known x.allocator) x.allocator.now) x i) (λ e. i)

  ticks : (word : ℕ) (g : StepState) → Leads g → Leads (clock_phase number word g)
  ticks word g h =
      let stated : StepState = status_phase number (discovery_phase number g) in
      let elected : StepState = election_phase number word stated in
      queries (record_phase number elected) (notes elected (elects word (knows_all stated.allocator && has_waited stated.allocator.times stated.allocator.now) stated
      (states (discovery_phase number g) (finds g h))))

-- ---- a frame

-- it leads, or the transfer tells a higher term
module _ (number term : ℕ) (d : Delivery) where
  abbrev Still : StepState → Type 0
  Still g = Leads g ⊎ TellsHigher term d

  recorded : (uid : List ℕ) (node : Option ℕ) (g : StepState) → Leads g → Leads (records_at number uid node g)
  recorded uid None g h = h
  recorded uid (Some node) g h = h

  given : (entry : Entry) (move : Move) (g : StepState) → Leads g
      → ((x : StepState) → Leads x → Leads (with_moves number (given_at x.allocator.now) (move ∷ []) x)) → Leads (gives_entry number move entry g)
  given entry move g h does =
      let payload : List ℕ = allocation_payload entry.node entry.uid in
      either Leads (has_room g.allocator.queue payload)
      (with_moves number (given_at g.allocator.now) (move ∷ []) (with_transfer number Alloc 0 payload None g)) (with_transfer number Alloc 0 payload None g)
      (λ r. does (with_transfer number Alloc 0 payload None g) h) (λ r. h)

  found : (uid : List ℕ) (preference : ℕ) (place : Option ℕ) (g : StepState) → Leads g → Leads (answers_or_records number uid preference place g)
  found uid preference None g h =
      either Leads (may_propose g.allocator && not (some_unknown g.allocator.watch (known g.allocator) g.allocator.now))
      (records_at number uid (chosen (taken g.allocator) preference) g) g (λ e. recorded uid (chosen (taken g.allocator) preference) g h) (λ e. h)
  found uid preference (Some place) g h =
      either Leads (nat_lt place g.allocator.raft_server.store.commit) (gives_pair number (AnswerAgain place) place g) g
      (λ e. given (slice_index_or g.allocator.raft_server.store.log place (blank 0)) (AnswerAgain place) g h (λ x i. i)) (λ e. h)

  heard_it : (heard : Heard) (g : StepState) → Leads g → Leads (answers_request number heard g)
  heard_it (FollowUp bytes) g h = h
  heard_it (Whole uid preference) g h =
      either Leads (is_zero uid) g (answers_or_records number uid preference (recorded_at g.allocator.raft_server.store.log uid) g) (λ e. h)
      (λ e. found uid preference (recorded_at g.allocator.raft_server.store.log uid) g h)
  heard_it (Ignored why) g h = h
  heard_it Denied g h = h

  outdated : (server : RaftServer) (asked : Request) → server.memory.role ≡ Leader → nat_lt server.store.term asked.term ≡ false → verdict_on server asked ≡ Outdated
  outdated server asked leads low = ap (λ (b : Bool). if b then rule (with_term server.store asked.term) asked else Outdated) (old (asked.term == server.store.term))
    where
      old : (same : Bool) → (nat_lt server.store.term asked.term || (same && not (is_leader server.memory.role))) ≡ false
      old true = rw (low) (rw (leads) refl)
      old false = rw (low) refl

  appended : (asked : Request) (g : StepState) → (term < asked.term → TellsHigher term d) → g.allocator.raft_server.store.term ≡ term → Leads g
      → Still (with_moves number (given_at g.allocator.now) (TakeAppendRequest asked (verdict_on g.allocator.raft_server asked) ∷ []) g)
  appended asked g higher same h = elim (cases_Bool (nat_lt g.allocator.raft_server.store.term asked.term)) [
    | inl e ↦ inr (higher (subst (λ (n : ℕ). n < asked.term) same (lt_true g.allocator.raft_server.store.term asked.term e)))
    | inr e ↦ inl (subst (λ (v : Verdict). Leads (with_moves number (given_at g.allocator.now) (TakeAppendRequest asked v ∷ []) g))
        (sym (outdated g.allocator.raft_server asked h e)) h)
  ]

  voted : (granted : Bool) (asked : Request) (g : StepState) → (term < asked.term → TellsHigher term d) → g.allocator.raft_server.store.term ≡ term → Leads g
      → Still (with_moves number (given_at g.allocator.now) (TakeVoteRequest asked granted ∷ []) g)
  voted granted asked g higher same h =
      either (λ (m : Memory). (m.role ≡ Leader) ⊎ TellsHigher term d) (nat_lt g.allocator.raft_server.store.term asked.term)
      (record g.allocator.raft_server.memory { role = Follower }) g.allocator.raft_server.memory
      (λ e. inr (higher (subst (λ (n : ℕ). n < asked.term) same (lt_true g.allocator.raft_server.store.term asked.term e)))) (λ e. inl h)

  append_ended : (got : Answer) (g : StepState) → (term < got.term → TellsHigher term d) → g.allocator.raft_server.store.term ≡ term → Leads g
      → Still (with_moves number (given_at g.allocator.now) (TakeAppendAnswer got ∷ []) g)
  append_ended got g higher same h =
      let server : RaftServer = g.allocator.raft_server in
      either (λ (m : Memory). (m.role ≡ Leader) ⊎ TellsHigher term d) (nat_lt server.store.term got.term) (stepped_down server.memory got.from)
      (if acknowledges server got then matched_memory server.memory got else memory_without_call server.memory got.from)
      (λ e. inr (higher (subst (λ (n : ℕ). n < got.term) same (lt_true server.store.term got.term e))))
      (λ e. inl (either (λ (m : Memory). m.role ≡ Leader) (acknowledges server got) (matched_memory server.memory got) (memory_without_call server.memory got.from)
      (λ f. h) (λ f. h)))

  vote_ended : (got : Answer) (g : StepState) → (term < got.term → TellsHigher term d) → g.allocator.raft_server.store.term ≡ term → Leads g
      → Still (with_moves number (given_at g.allocator.now) (TakeVoteAnswer got ∷ []) g)
  vote_ended got g higher same h =
      let server : RaftServer = g.allocator.raft_server in
      let none : counts server got ≡ false = ap (λ (r : Role). is_candidate r && ((got.term == server.store.term) && got.success)) h in
      either (λ (m : Memory). (m.role ≡ Leader) ⊎ TellsHigher term d) (nat_lt server.store.term got.term) (stepped_down server.memory got.from)
      (if counts server got then counting_memory (members_of g.allocator) server got else memory_without_call server.memory got.from)
      (λ e. inr (higher (subst (λ (n : ℕ). n < got.term) same (lt_true server.store.term got.term e))))
      (λ e. inl (either (λ (m : Memory). m.role ≡ Leader) (counts server got) (counting_memory (members_of g.allocator) server got) (memory_without_call server.memory got.from)
      (λ f. absurd (cc (f, none))) (λ f. h)))

  called : (move : Request → Move) (pending : Option Request) (g : StepState)
      → ((asked : Request) → Still (with_moves number (given_at g.allocator.now) (move asked ∷ []) g)) → Leads g → Still (answers_call number move pending g)
  called move None g does h = inl h
  called move (Some asked) g does h = move_with_blank Still number (given_at g.allocator.now) (move asked) g (does asked) (λ moment. inl moment.leads)

  -- ---- by kind

  read_it : {A : Type 0} (does : A → StepState → StepState) (value : Option A) (g : StepState) → ((a : A) → value ≡ Some a → Still (does a g)) → Leads g
      → Still (reads does value g).step_state
  read_it does None g each h = inl h
  read_it does (Some value) g each h = each value refl

  info : (bytes : List ℕ) (g : StepState) → Leads g → Leads (asks_info number d bytes g).step_state
  info [] g h = h
  info (byte ∷ bytes) g h = h

  abbrev StillAt : StepResult → Type 0
  StillAt r = Still r.step_state

  kinds : (kind : Kind) (g : StepState) → g.allocator.raft_server.store.term ≡ term → Leads g → StillAt (by_kind number d kind g)
  kinds Anonymous g same h = read_it (hears_allocation number) (allocation_of d.payload) g
      (λ m e. inl (heard_it (exchange.answer g.allocator.accepted m g.allocator.now (may_follow g.allocator)) (with_request m g) h)) h
  kinds Message g same h = either StillAt (nat_eq d.ident.number 341) _ _
      (λ e. read_it (λ status. hears_status d) (node_status_of d.payload) g (λ s f. inl h) h)
      (λ e. read_it (hears_discovery d) (discovery_of d.payload) g (λ m f. inl h) h)
  kinds RequestKind g same h = either StillAt (nat_eq d.ident.number 1) _ _ (λ e. inl (info d.payload g h))
      (λ e. either StillAt (nat_eq d.ident.number 30) _ _
      (λ f. read_it (takes_append_request number d) (append_codec.append_request_of d.payload) g
      (λ m read. either Still (is_listed d g.allocator) (answers_append_request number d m g) g
      (λ l. appended (append_request_of m d.mark.step d.ident.source g.allocator.me) g (λ above. inl (m, read, above)) same h) (λ l. inl h)) h)
      (λ f. read_it (takes_vote_request number d) (vote_codec.vote_request_of d.payload) g
      (λ m read. either Still (is_listed d g.allocator) (answers_vote_request number d m g) g
      (λ l. let asked : Request = vote_request_of m d.mark.step d.ident.source g.allocator.me in
      voted (grants (with_term g.allocator.raft_server.store asked.term) asked) asked g (λ above. inr (inl (m, read, above))) same h) (λ l. inl h)) h))
  kinds Response g same h = either StillAt (nat_eq d.ident.number 1) _ _
      (λ e. read_it (hears_info d) (node_info_of d.payload) g (λ m f. inl h) h)
      (λ e. either StillAt (nat_eq d.ident.number 30) _ _
      (λ f. read_it (takes_append_answer number d) (append_answer_of d.payload) g
      (λ m read. either Still (is_listed d g.allocator) (ends_append_call number d m g) g
      (λ l. either Still (is_awaited g.allocator.raft_server g.allocator.times d.ident.source true d.id) (answers_call number (append_answered d m) (g.allocator.raft_server.memory.pending d.ident.source) g) g
      (λ a. called (append_answered d m) (g.allocator.raft_server.memory.pending d.ident.source) g
      (λ asked. append_ended (answer_of d.mark.step d.ident.source asked m.term m.success) g (λ above. inr (inr (inl (m, read, above)))) same h) h) (λ a. inl h)) (λ l. inl h)) h)
      (λ f. read_it (takes_vote_answer number d) (vote_answer_of d.payload) g
      (λ m read. either Still (is_listed d g.allocator) (ends_vote_call number d m g) g
      (λ l. either Still (is_awaited g.allocator.raft_server g.allocator.times d.ident.source false d.id) (answers_call number (vote_answered d m) (g.allocator.raft_server.memory.pending d.ident.source) g) g
      (λ a. called (vote_answered d m) (g.allocator.raft_server.memory.pending d.ident.source) g
      (λ asked. vote_ended (answer_of d.mark.step d.ident.source asked m.term m.granted) g (λ above. inr (inr (inr (m, read, above)))) same h) h) (λ a. inl h)) (λ l. inl h)) h))

  delivered : (g : StepState) → g.allocator.raft_server.store.term ≡ term → Leads g → StillAt (delivery_phase number d g)
  unfolding delivery_phase
  delivered g same h = kinds d.ident.kind g same h

pub leads_on_at_ticks : (t : AllocatorState) (number now word : ℕ) → t.raft_server.memory.role ≡ Leader → Leads (step t number (Tick now word)).step_state
unfolding step
leads_on_at_ticks t number now word role = ends number (clock_phase number word (begin_phase number now t)) (ticks number word (begin_phase number now t) (before.role ∙ role))
  where
    before : IsAsBefore t.raft_server (begin_phase number now t).allocator.raft_server
    before = expired (members_of (at_moment now t)) t.me number (overdue t.times (max t.now now) all_nodes) t.raft_server

by_answer : (t : AllocatorState) (number : ℕ) (arrival : Arrival) (got : Received) → answer (setting_for t.me) t.sessions (record arrival { moment = moment_at t arrival }) ≡ got
    → (when_come t number arrival).allocator.raft_server.store.term ≡ t.raft_server.store.term → Leads (when_come t number arrival)
    → Leads (end_phase number (with_answer number got (when_come t number arrival)).step_state) ⊎ HearsHigher t arrival
by_answer t number arrival (Gives d) e same h = elim (delivered number t.raft_server.store.term d (when_come t number arrival) same h) [
  | inl leads ↦ inl (ends number (with_answer number (Gives d) (when_come t number arrival)).step_state leads)
  | inr higher ↦ inr (record { delivery = d; gives = e; higher = higher })
]
by_answer t number arrival Continues e same h = inl (ends number (when_come t number arrival) h)
by_answer t number arrival (Drops why) e same h = inl (ends number (when_come t number arrival) h)

pub leads_on_at_frames : (t : AllocatorState) (number : ℕ) (arrival : Arrival) → t.raft_server.memory.role ≡ Leader
    → Leads (step t number (Rx arrival)).step_state ⊎ HearsHigher t arrival
unfolding step
leads_on_at_frames t number arrival role =
    by_answer t number arrival (answer (setting_for t.me) t.sessions (record arrival { moment = moment_at t arrival })) refl
    (ap (λ (s : Store). s.term) before.store) (before.role ∙ role)
  where
    before : IsAsBefore t.raft_server (when_come t number arrival).allocator.raft_server
    before = begun t number arrival
