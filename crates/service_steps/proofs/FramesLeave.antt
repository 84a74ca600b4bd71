-- No frame makes a follower anything else.
use Rattle.std.proofs.Common.{◌≡◌, ℕ, Bool, true, false, List, [], ◌∷◌, ◌⊎◌, inl, inr, refl, sym, ◌∙◌, ap, subst, max, Option, Some, None}
use Rattle.std.specs.Prelude.{◌&&◌, ◌==◌, nat_eq, nat_lt, not, slice_index_or, if◌then◌else◌}
use Rattle.alloc_exchange.specs.declared.heard.Heard.{Heard}
use Rattle.alloc_exchange.specs.declared.heard.Heard.TheVariants.{Denied, FollowUp, Ignored, Whole}
use Rattle.alloc_exchange.specs.Exchange as exchange
use Rattle.can_frame.specs.declared.identifier.Kind.{Kind}
use Rattle.can_frame.specs.declared.identifier.Kind.TheVariants.{Anonymous, Message, Request as RequestKind, Response}
use Rattle.can_frame.specs.declared.entry.Entry.{Entry}
use Rattle.can_frame.specs.declared.step.What.TheVariants.{Alloc}
use Rattle.can_frame.specs.Log.{blank}
use Rattle.dsdl_codec.specs.Allocation.{allocation_of}
use Rattle.dsdl_codec.specs.AppendAnswer.{append_answer_of}
use Rattle.dsdl_codec.specs.AppendRequest as append_codec
use Rattle.dsdl_codec.specs.Discovery.{discovery_of}
use Rattle.dsdl_codec.specs.NodeInfo.{node_info_of}
use Rattle.dsdl_codec.specs.NodeStatus.{node_status_of}
use Rattle.dsdl_codec.specs.VoteAnswer.{vote_answer_of}
use Rattle.dsdl_codec.specs.VoteRequest as vote_codec
use Rattle.id_selector.specs.Choice.{chosen}
use Rattle.node_discovery.specs.Watch.{some_unknown}
use Rattle.raft_core.specs.Handled.{answer_of, append_request_of, vote_request_of}
use Rattle.raft_core.specs.Times.{Times, end_call, end_vote_call, given_at, is_awaited, overdue, raise, step_down, win}
use Rattle.raft_model.specs.Decisions.{grants, verdict_on}
use Rattle.raft_model.specs.Messages.{Answer, Request}
use Rattle.raft_model.specs.Moves.{Move}
use Rattle.raft_model.specs.Moves.Appending.{Verdict, acknowledges, matched_memory}
use Rattle.raft_model.specs.Moves.Appending.Verdict.{Added, Held, Outdated, Refused}
use Rattle.raft_model.specs.Moves.Elections.{counting_memory, counts, has_quorum, is_candidate, memory_without_call, stepped_down, votes_with, with_term}
use Rattle.raft_model.specs.Moves.Move.{AnswerAgain, TakeAppendAnswer, TakeAppendRequest, TakeVoteAnswer, TakeVoteRequest}
use Rattle.raft_model.specs.Server.{Memory, RaftServer, Role}
use Rattle.raft_model.specs.Server.Role.{Follower}
use Rattle.transfer_rx.specs.Reassembly.{Answer as Received, Arrival, Continues, Delivery, Drops, Gives, answer}
use Rattle.alloc_spec.specs.Accepted.{setting_for}
use Rattle.alloc_spec.specs.AllocatorState.{AllocatorState, is_zero, known, may_propose, members_of, recorded_at, taken}
use Rattle.alloc_spec.specs.Delivered.{StepResult, asks_info, by_kind, delivery_phase, hears_discovery, hears_status, reads}
use Rattle.alloc_spec.specs.Ending.{end_phase}
use Rattle.alloc_spec.specs.Exchange.{allocation_payload, gives_entry, answers_or_records, answers_request, gives_pair, hears_allocation, may_follow, records_at, with_request}
use Rattle.alloc_spec.specs.Services.{answers_append_request, answers_call, answers_vote_request, append_answered, ends_append_call, ends_vote_call, hears_info, is_listed, takes_append_answer, takes_append_request, takes_vote_answer, takes_vote_request, vote_answered}
use Rattle.alloc_spec.specs.Step.{Event, all_nodes, at_moment, step, with_answer}
use Rattle.alloc_spec.specs.Step.Event.{Rx, Tick}
use Rattle.alloc_spec.specs.StepState.{StepState, with_moves, with_transfer}
use Rattle.alloc_spec.specs.Transfers.{has_room}
use Rattle.alloc_spec_laws.proofs.Choices.{either}
use Rattle.service_steps.specs.InTime.{AreSoon, after_steps}
use Rattle.service_steps.specs.Requests.{moment_at}
use Rattle.service_steps.proofs.Begins.{IsAsBefore}
use Rattle.service_steps.proofs.FollowUps.{begun, when_come}
use Rattle.service_steps.proofs.StaysFollower.{since_stays, stays_follower}
use Rattle.alloc_spec.proofs.Blanks.{move_with_blank}
use Rattle.service_steps.proofs.WaitsAnew.{IsAnew, follows}

module _ (number since now : ℕ) where
  abbrev IsSince : Times → Type 0
  IsSince times = (times.since ≡ since) ⊎ (times.since ≡ now)

  -- a follower, whose wait began then, or begins now
  abbrev IsStill : StepState → Type 0
  IsStill g = (g.allocator.raft_server.memory.role ≡ Follower) × IsSince g.allocator.times × (g.allocator.now ≡ now)

  -- ---- Allocations

  recorded : (uid : List ℕ) (node : Option ℕ) (g : StepState) → IsStill g → IsStill (records_at number uid node g)
  recorded uid None g h = h
  recorded uid (Some node) g h = h

  given : (entry : Entry) (move : Move) (g : StepState) → IsStill g
      → ((x : StepState) → IsStill x → IsStill (with_moves number (given_at x.allocator.now) (move ∷ []) x)) → IsStill (gives_entry number move entry g)
  given entry move g h does =
      let payload : List ℕ = allocation_payload entry.node entry.uid in
      either IsStill (has_room g.allocator.queue payload)
      (with_moves number (given_at g.allocator.now) (move ∷ []) (with_transfer number Alloc 0 payload None g)) (with_transfer number Alloc 0 payload None g)
      (λ r. does (with_transfer number Alloc 0 payload None g) h) (λ r. h)

  found : (uid : List ℕ) (preference : ℕ) (place : Option ℕ) (g : StepState) → IsStill g → IsStill (answers_or_records number uid preference place g)
  found uid preference None g h =
      either IsStill (may_propose g.allocator && not (some_unknown g.allocator.watch (known g.allocator) g.allocator.now))
      (records_at number uid (chosen (taken g.allocator) preference) g) g (λ e. recorded uid (chosen (taken g.allocator) preference) g h) (λ e. h)
  found uid preference (Some place) g h =
      either IsStill (nat_lt place g.allocator.raft_server.store.commit) (gives_pair number (AnswerAgain place) place g) g
      (λ e. given (slice_index_or g.allocator.raft_server.store.log place (blank 0)) (AnswerAgain place) g h (λ x i. i)) (λ e. h)

  heard_it : (heard : Heard) (g : StepState) → IsStill g → IsStill (answers_request number heard g)
  heard_it (FollowUp bytes) g h = h
  heard_it (Whole uid preference) g h =
      either IsStill (is_zero uid) g (answers_or_records number uid preference (recorded_at g.allocator.raft_server.store.log uid) g) (λ e. h)
      (λ e. found uid preference (recorded_at g.allocator.raft_server.store.log uid) g h)
  heard_it (Ignored why) g h = h
  heard_it Denied g h = h

  -- ---- services

  raised : (term : ℕ) (server : RaftServer) (times : Times) (moment : ℕ) → server.memory.role ≡ Follower → IsSince times → IsSince (raise moment term server times)
  raised term server times moment role h =
      either IsSince (nat_lt server.store.term term) (step_down moment server.memory.role times) times
      (λ e. subst (λ (r : Role). IsSince (step_down moment r times)) (sym role) h) (λ e. h)

  appended : (verdict : Verdict) (asked : Request) (g : StepState) → IsStill g → IsStill (with_moves number (given_at g.allocator.now) (TakeAppendRequest asked verdict ∷ []) g)
  appended Outdated asked g h = h
  appended Refused asked g h = (refl, inr (h.2), h.2)
  appended Held asked g h = (refl, inr (h.2), h.2)
  appended (Added entry) asked g h = (refl, inr (h.2), h.2)

  voted : (granted : Bool) (asked : Request) (g : StepState) → IsStill g → IsStill (with_moves number (given_at g.allocator.now) (TakeVoteRequest asked granted ∷ []) g)
  voted granted asked g h = (
    either (λ (m : Memory). m.role ≡ Follower) (nat_lt g.allocator.raft_server.store.term asked.term)
        (record g.allocator.raft_server.memory { role = Follower }) g.allocator.raft_server.memory (λ e. refl) (λ e. h.0),
    either IsSince granted (record g.allocator.times { since = g.allocator.now }) (raise g.allocator.now asked.term g.allocator.raft_server g.allocator.times)
        (λ e. inr (h.2)) (λ e. raised asked.term g.allocator.raft_server g.allocator.times g.allocator.now h.0 h.1),
    h.2,
  )

  append_ended : (got : Answer) (g : StepState) → IsStill g → IsStill (with_moves number (given_at g.allocator.now) (TakeAppendAnswer got ∷ []) g)
  append_ended got g h =
      let server : RaftServer = g.allocator.raft_server in (
        either (λ (m : Memory). m.role ≡ Follower) (nat_lt server.store.term got.term) (stepped_down server.memory got.from)
            (if acknowledges server got then matched_memory server.memory got else memory_without_call server.memory got.from) (λ e. refl)
            (λ e. either (λ (m : Memory). m.role ≡ Follower) (acknowledges server got) (matched_memory server.memory got) (memory_without_call server.memory got.from)
            (λ f. h.0) (λ f. h.0)),
        raised got.term server (end_call got.from g.allocator.times) g.allocator.now h.0 h.1,
        h.2,
      )

  vote_ended : (got : Answer) (g : StepState) → IsStill g → IsStill (with_moves number (given_at g.allocator.now) (TakeVoteAnswer got ∷ []) g)
  vote_ended got g h =
      let server : RaftServer = g.allocator.raft_server in
      let none : counts server got ≡ false = ap (λ (r : Role). is_candidate r && ((got.term == server.store.term) && got.success)) h.0 in (
        either (λ (m : Memory). m.role ≡ Follower) (nat_lt server.store.term got.term) (stepped_down server.memory got.from)
            (if counts server got then counting_memory (members_of g.allocator) server got else memory_without_call server.memory got.from) (λ e. refl)
            (λ e. either (λ (m : Memory). m.role ≡ Follower) (counts server got) (counting_memory (members_of g.allocator) server got) (memory_without_call server.memory got.from)
            (λ f. absurd (cc (f, none))) (λ f. h.0)),
        either IsSince (nat_lt server.store.term got.term) (step_down g.allocator.now server.memory.role (end_vote_call got.from g.allocator.times))
            (if counts server got && has_quorum (members_of g.allocator) (votes_with server.memory got) then win (end_vote_call got.from g.allocator.times) else end_vote_call got.from g.allocator.times)
            (λ e. subst (λ (r : Role). IsSince (step_down g.allocator.now r (end_vote_call got.from g.allocator.times))) (sym (h.0)) (h.1))
            (λ e. either IsSince (counts server got && has_quorum (members_of g.allocator) (votes_with server.memory got)) (win (end_vote_call got.from g.allocator.times)) (end_vote_call got.from g.allocator.times)
            (λ f. h.1) (λ f. h.1)),
        h.2,
      )

  called : (move : Request → Move) (pending : Option Request) (g : StepState)
      → ((asked : Request) → IsStill (with_moves number (given_at g.allocator.now) (move asked ∷ []) g)) → IsStill g → IsStill (answers_call number move pending g)
  called move None g does h = h
  called move (Some asked) g does h = move_with_blank IsStill number (given_at g.allocator.now) (move asked) g (does asked) (λ moment. does asked)

  -- ---- by kind

  abbrev Still : StepResult → Type 0
  Still r = IsStill r.step_state

  read_it : {A : Type 0} (does : A → StepState → StepState) (value : Option A) (g : StepState) → ((a : A) → IsStill (does a g)) → IsStill g → Still (reads does value g)
  read_it does None g each h = h
  read_it does (Some value) g each h = each value

  info : (d : Delivery) (bytes : List ℕ) (g : StepState) → IsStill g → Still (asks_info number d bytes g)
  info d [] g h = h
  info d (byte ∷ bytes) g h = h

  kinds : (d : Delivery) (kind : Kind) (g : StepState) → IsStill g → Still (by_kind number d kind g)
  kinds d Anonymous g h = read_it (hears_allocation number) (allocation_of d.payload) g
      (λ m. heard_it (exchange.answer g.allocator.accepted m g.allocator.now (may_follow g.allocator)) (with_request m g) h) h
  kinds d Message g h = either Still (nat_eq d.ident.number 341) _ _
      (λ e. read_it (λ status. hears_status d) (node_status_of d.payload) g (λ s. h) h)
      (λ e. read_it (hears_discovery d) (discovery_of d.payload) g (λ m. h) h)
  kinds d RequestKind g h = either Still (nat_eq d.ident.number 1) _ _ (λ e. info d d.payload g h)
      (λ e. either Still (nat_eq d.ident.number 30) _ _
      (λ f. read_it (takes_append_request number d) (append_codec.append_request_of d.payload) g
      (λ m. either IsStill (is_listed d g.allocator) (answers_append_request number d m g) g
      (λ l. appended (verdict_on g.allocator.raft_server (append_request_of m d.mark.step d.ident.source g.allocator.me)) (append_request_of m d.mark.step d.ident.source g.allocator.me) g h) (λ l. h)) h)
      (λ f. read_it (takes_vote_request number d) (vote_codec.vote_request_of d.payload) g
      (λ m. either IsStill (is_listed d g.allocator) (answers_vote_request number d m g) g
      (λ l. let asked : Request = vote_request_of m d.mark.step d.ident.source g.allocator.me in
      voted (grants (with_term g.allocator.raft_server.store asked.term) asked) asked g h) (λ l. h)) h))
  kinds d Response g h = either Still (nat_eq d.ident.number 1) _ _
      (λ e. read_it (hears_info d) (node_info_of d.payload) g (λ m. h) h)
      (λ e. either Still (nat_eq d.ident.number 30) _ _
      (λ f. read_it (takes_append_answer number d) (append_answer_of d.payload) g
      (λ m. either IsStill (is_listed d g.allocator) (ends_append_call number d m g) g
      (λ l. either IsStill (is_awaited g.allocator.raft_server g.allocator.times d.ident.source true d.id) (answers_call number (append_answered d m) (g.allocator.raft_server.memory.pending d.ident.source) g) g
      (λ a. called (append_answered d m) (g.allocator.raft_server.memory.pending d.ident.source) g (λ asked. append_ended (answer_of d.mark.step d.ident.source asked m.term m.success) g h) h) (λ a. h)) (λ l. h)) h)
      (λ f. read_it (takes_vote_answer number d) (vote_answer_of d.payload) g
      (λ m. either IsStill (is_listed d g.allocator) (ends_vote_call number d m g) g
      (λ l. either IsStill (is_awaited g.allocator.raft_server g.allocator.times d.ident.source false d.id) (answers_call number (vote_answered d m) (g.allocator.raft_server.memory.pending d.ident.source) g) g
      (λ a. called (vote_answered d m) (g.allocator.raft_server.memory.pending d.ident.source) g (λ asked. vote_ended (answer_of d.mark.step d.ident.source asked m.term m.granted) g h) h) (λ a. h)) (λ l. h)) h))

  delivered : (d : Delivery) (g : StepState) → IsStill g → Still (delivery_phase number d g)
  unfolding delivery_phase
  delivered d g h = kinds d d.ident.kind g h

  taken_in : (got : Received) (g : StepState) → IsStill g → Still (with_answer number got g)
  taken_in (Gives d) g h = delivered d g h
  taken_in Continues g h = h
  taken_in (Drops why) g h = h

  ends : (g : StepState) → IsStill g → ((end_phase number g).allocator.raft_server.memory.role ≡ Follower) × IsSince (end_phase number g).allocator.times
  ends g (role, inl e, moment) = let k : IsAnew since (end_phase number g) = follows number since g (e, role) in (k.1, inl k.0)
  ends g (role, inr e, moment) = let k : IsAnew now (end_phase number g) = follows number now g (e, role) in (k.1, inr k.0)

pub frames_leave : (t : AllocatorState) (number : ℕ) (arrival : Arrival) → t.raft_server.memory.role ≡ Follower
    → ((step t number (Rx arrival)).step_state.allocator.raft_server.memory.role ≡ Follower)
    × (((step t number (Rx arrival)).step_state.allocator.times.since ≡ t.times.since) ⊎ ((step t number (Rx arrival)).step_state.allocator.times.since ≡ moment_at t arrival))
unfolding step
frames_leave t number arrival role =
    ends number t.times.since (moment_at t arrival)
    (with_answer number (answer (setting_for t.me) t.sessions (record arrival { moment = moment_at t arrival })) (when_come t number arrival)).step_state (taken_in number t.times.since (moment_at t arrival)
    (answer (setting_for t.me) t.sessions (record arrival { moment = moment_at t arrival })) (when_come t number arrival) (
      before.role ∙ role,
      inl (since_stays (members_of (at_moment arrival.moment t)) t.me number (given_at (max t.now arrival.moment)) (overdue t.times (max t.now arrival.moment) all_nodes) t.raft_server t.times),
      refl,
    ))
  where
    before : IsAsBefore t.raft_server (when_come t number arrival).allocator.raft_server
    before = begun t number arrival

pub follows_on : (t : AllocatorState) (events : List (ℕ × Event)) → t.raft_server.memory.role ≡ Follower → AreSoon t events
    → (after_steps t events).raft_server.memory.role ≡ Follower
follows_on t [] role soon = role
follows_on t ((number, Tick now word) ∷ events) role (soon, rest) = follows_on (step t number (Tick now word)).step_state.allocator events
    ((stays_follower t number now word role soon).1) rest
follows_on t ((number, Rx arrival) ∷ events) role (soon, rest) = follows_on (step t number (Rx arrival)).step_state.allocator events
    ((frames_leave t number arrival role).0) rest
