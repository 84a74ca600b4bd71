-- What a frame does to the wait of the server that it comes to: the wait goes on, or it begins anew for a reason.
use Rattle.std.proofs.Common.{◌≡◌, ◌≢◌, ℕ, ◌<◌, max, Bool, true, false, [], ◌∷◌, ◌⊎◌, inl, inr, refl, ◌∙◌, ap, subst, Some}
use Rattle.std.specs.Prelude.{◌&&◌, ◌==◌, ◌||◌, nat_lt, not, if◌then◌else◌}
use Rattle.can_frame.specs.declared.identifier.Kind.TheVariants.{Request as RequestKind}
use Rattle.cluster_discovery.specs.Members.{is_on_list}
use Rattle.dsdl_codec.specs.declared.append_request.AppendRequest.{AppendRequest}
use Rattle.dsdl_codec.specs.declared.vote_request.VoteRequest.{VoteRequest}
use Rattle.dsdl_codec.specs.AppendRequest as append_codec
use Rattle.dsdl_codec.specs.VoteRequest as vote_codec
use Rattle.raft_core.specs.Handled.{answer_of, append_request_of, vote_request_of}
use Rattle.raft_core.specs.Times.{Times, begin_wait, end_call, end_vote_call, given_at, overdue, step_down, win}
use Rattle.raft_model.specs.Decisions.{grants, is_current, rule, verdict_on}
use Rattle.raft_model.specs.Messages.{Answer, Request}
use Rattle.raft_model.specs.Moves.Appending.{Verdict, acknowledges, matched_memory}
use Rattle.raft_model.specs.Moves.Appending.Verdict.{Added, Held, Outdated, Refused}
use Rattle.raft_model.specs.Moves.Elections.{counting_memory, counts, has_quorum, is_leader, memory_without_call, stepped_down, votes_with, with_term}
use Rattle.raft_model.specs.Moves.Move.{TakeAppendAnswer, TakeAppendRequest, TakeVoteAnswer, TakeVoteRequest}
use Rattle.raft_model.specs.Server.{Memory, RaftServer, Role, Store}
use Rattle.raft_model.specs.Server.Role.{Candidate, Follower, Leader}
use Rattle.transfer_rx.specs.Reassembly.{Answer as Received, Arrival, Delivery, Gives, answer}
use Rattle.alloc_spec.specs.Accepted.{setting_for}
use Rattle.alloc_spec.specs.AllocatorState.{AllocatorState, members_of}
use Rattle.alloc_spec.specs.Ending.{end_phase}
use Rattle.alloc_spec.specs.Services.{is_listed}
use Rattle.alloc_spec.specs.Step.{all_nodes, at_moment, step, with_answer}
use Rattle.alloc_spec.specs.Step.Event.{Rx}
use Rattle.alloc_spec.specs.StepState.{StepState, with_moves}
use Rattle.alloc_spec_laws.proofs.Choices.{and_left, and_right, eq_true, lt_true, not_true, tell}
use Rattle.service_steps.specs.InTime.{HearsLeader}
use Rattle.service_steps.specs.Requests.{moment_at}
use Rattle.service_steps.proofs.Begins.{IsAsBefore}
use Rattle.service_steps.proofs.FollowUps.{begun, when_come}
use Rattle.service_steps.proofs.StaysFollower.{since_stays}
use Rattle.service_leader.proofs.RaftPhases.{OfServer, Records, Takes, by_answer, hears}
use Rattle.service_candidate.proofs.WaitsKept.{Keeps, ends, word_stays}

-- ---- reasons

-- the frame completes an append request that makes the server follow
pub record HearsOne (t : AllocatorState) (arrival : Arrival) : Type 0 where
  pub delivery : Delivery
  pub request : AppendRequest
  pub hears : HearsLeader t arrival delivery request

-- the frame completes a vote request of a member on the list, and the server gives its vote
pub record VotesFor (t : AllocatorState) (arrival : Arrival) : Type 0 where
  pub delivery : Delivery
  pub gives : answer (setting_for t.me) t.sessions (record arrival { moment = moment_at t arrival }) ≡ Gives delivery
  pub kind : delivery.ident.kind ≡ RequestKind
  pub no_info : delivery.ident.number ≢ 1
  pub no_append : delivery.ident.number ≢ 30
  pub request : VoteRequest
  pub read : vote_codec.vote_request_of delivery.payload ≡ Some request
  pub listed : is_on_list (members_of t) delivery.ident.source ≡ true
  pub grants_it : let asked : Request = vote_request_of request delivery.mark.step delivery.ident.source t.me in
      grants (with_term t.raft_server.store asked.term) asked ≡ true

-- The wait of a server in this role began at `since`. It goes on; or it began anew at this moment, for this reason, or
-- since the server follows, which it did not before.
abbrev pub Left : (since now : ℕ) → Role → (Reason : Type 0) → (since_then : ℕ) → (role_then : Role) → Type 0
Left since now role Reason since_then role_then = (since_then ≡ since)
    ⊎ ((since_then ≡ now) × (Reason ⊎ ((role ≢ Follower) × (role_then ≡ Follower))))

-- who steps down begins to wait, unless it follows already
down : (moment : ℕ) (role : Role) (times : Times) → ((step_down moment role times).since ≡ times.since)
    ⊎ (((step_down moment role times).since ≡ moment) × (role ≢ Follower))
down moment Follower times = inl refl
down moment Candidate times = inr (refl, λ e. cc e)
down moment Leader times = inr (refl, λ e. cc e)

down_word : (moment : ℕ) (role : Role) (times : Times) → (step_down moment role times).word ≡ times.word
down_word moment Follower times = refl
down_word moment Candidate times = refl
down_word moment Leader times = refl

-- ---- by what is delivered

module _ (number since now word : ℕ) (role : Role) (Reason : Type 0) where
  -- so it is left by now, with the same word
  abbrev LeftAt : ℕ → ℕ → Role → Type 0
  LeftAt since_then word_then role_then = Left since now role Reason since_then role_then × (word_then ≡ word)

  abbrev IsLeft : StepState → Type 0
  IsLeft g = LeftAt g.allocator.times.since g.allocator.times.word g.allocator.raft_server.memory.role

  -- as it was so far
  abbrev IsAsWas : StepState → Type 0
  IsAsWas g = (g.allocator.times.since ≡ since) × (g.allocator.times.word ≡ word) × (g.allocator.raft_server.memory.role ≡ role) × (g.allocator.now ≡ now)

  goes_on : (g : StepState) → IsAsWas g → IsLeft g
  goes_on g h = (inl h.0, h.1)

  abbrev Of : OfServer
  Of me server times moment = LeftAt times.since times.word server.memory.role

  records : Records number Of
  records origin uid node g leads h = h

  -- ---- services

  -- a higher term that comes makes the server follow
  raised : (higher : Bool) (before : Role) (moment : ℕ) (times : Times) (stays : Role) → moment ≡ now → before ≡ role → times.since ≡ since → times.word ≡ word
      → LeftAt (if higher then step_down moment before times else times).since (if higher then step_down moment before times else times).word
      (if higher then Follower else stays)
  raised true before moment times stays m r s w = (
    elim (down moment before times) [
      | inl e ↦ inl (e ∙ s)
      | inr k ↦ inr (k.0 ∙ m, inr ((λ e. k.1 (r ∙ e)), refl))
    ],
    down_word moment before times ∙ w,
  )
  raised false before moment times stays m r s w = (inl s, w)

  appended : (verdict : Verdict) (asked : Request) (g : StepState) → IsAsWas g → (verdict ≢ Outdated → Reason)
      → IsLeft (with_moves number (given_at g.allocator.now) (TakeAppendRequest asked verdict ∷ []) g)
  appended Outdated asked g h why = goes_on g h
  appended Refused asked g h why = (inr (h.3, inl (why (λ e. cc e))), h.1)
  appended Held asked g h why = (inr (h.3, inl (why (λ e. cc e))), h.1)
  appended (Added entry) asked g h why = (inr (h.3, inl (why (λ e. cc e))), h.1)

  voted_by : (granted higher : Bool) (memory : Memory) (moment : ℕ) (times : Times) → moment ≡ now → memory.role ≡ role → times.since ≡ since
      → times.word ≡ word → (granted ≡ true → Reason)
      → LeftAt (if granted then begin_wait moment times else (if higher then step_down moment memory.role times else times)).since
      (if granted then begin_wait moment times else (if higher then step_down moment memory.role times else times)).word
      (if higher then record memory { role = Follower } else memory).role
  voted_by true higher memory moment times m r s w why = (inr (m, inl (why refl)), w)
  voted_by false true memory moment times m r s w why = raised true memory.role moment times memory.role m r s w
  voted_by false false memory moment times m r s w why = (inl s, w)

  voted : (granted : Bool) (asked : Request) (g : StepState) → IsAsWas g → (granted ≡ true → Reason)
      → IsLeft (with_moves number (given_at g.allocator.now) (TakeVoteRequest asked granted ∷ []) g)
  voted granted asked g h why = voted_by granted (nat_lt g.allocator.raft_server.store.term asked.term) g.allocator.raft_server.memory g.allocator.now
      g.allocator.times h.3 h.2 h.0 h.1 why

  append_ended_by : (higher : Bool) (memory other : Memory) (from moment : ℕ) (times : Times) → moment ≡ now → memory.role ≡ role → times.since ≡ since
      → times.word ≡ word
      → LeftAt (if higher then step_down moment memory.role (end_call from times) else end_call from times).since
      (if higher then step_down moment memory.role (end_call from times) else end_call from times).word
      (if higher then stepped_down memory from else other).role
  append_ended_by true memory other from moment times m r s w = raised true memory.role moment (end_call from times) memory.role m r s w
  append_ended_by false memory other from moment times m r s w = (inl s, w)

  append_ended : (got : Answer) (g : StepState) → IsAsWas g → IsLeft (with_moves number (given_at g.allocator.now) (TakeAppendAnswer got ∷ []) g)
  append_ended got g h =
      let server : RaftServer = g.allocator.raft_server in
      append_ended_by (nat_lt server.store.term got.term) server.memory
      (if acknowledges server got then matched_memory server.memory got else memory_without_call server.memory got.from) got.from g.allocator.now
      g.allocator.times h.3 h.2 h.0 h.1

  vote_ended_by : (higher wins : Bool) (memory other : Memory) (from moment : ℕ) (times : Times) → moment ≡ now → memory.role ≡ role → times.since ≡ since
      → times.word ≡ word
      → LeftAt (if higher then step_down moment memory.role (end_vote_call from times)
      else (if wins then win (end_vote_call from times) else end_vote_call from times)).since
      (if higher then step_down moment memory.role (end_vote_call from times)
      else (if wins then win (end_vote_call from times) else end_vote_call from times)).word
      (if higher then stepped_down memory from else other).role
  vote_ended_by true wins memory other from moment times m r s w = raised true memory.role moment (end_vote_call from times) memory.role m r s w
  vote_ended_by false true memory other from moment times m r s w = (inl s, w)
  vote_ended_by false false memory other from moment times m r s w = (inl s, w)

  vote_ended : (got : Answer) (g : StepState) → IsAsWas g → IsLeft (with_moves number (given_at g.allocator.now) (TakeVoteAnswer got ∷ []) g)
  vote_ended got g h =
      let server : RaftServer = g.allocator.raft_server in
      vote_ended_by (nat_lt server.store.term got.term) (counts server got && has_quorum (members_of g.allocator) (votes_with server.memory got)) server.memory
      (if counts server got then counting_memory (members_of g.allocator) server got else memory_without_call server.memory got.from) got.from g.allocator.now
      g.allocator.times h.3 h.2 h.0 h.1

  module _ (d : Delivery) (g : StepState) (h : IsAsWas g)
      (why_append : (m : AppendRequest) → d.ident.kind ≡ RequestKind → d.ident.number ≡ 30 → append_codec.append_request_of d.payload ≡ Some m
      → is_listed d g.allocator ≡ true
      → verdict_on g.allocator.raft_server (append_request_of m d.mark.step d.ident.source g.allocator.me) ≢ Outdated → Reason)
      (why_vote : (m : VoteRequest) → d.ident.kind ≡ RequestKind → d.ident.number ≢ 1 → d.ident.number ≢ 30
      → vote_codec.vote_request_of d.payload ≡ Some m → is_listed d g.allocator ≡ true
      → (let asked : Request = vote_request_of m d.mark.step d.ident.source g.allocator.me in grants (with_term g.allocator.raft_server.store asked.term) asked ≡ true)
      → Reason) where
    takes : Takes number Of d g
    takes = record {
      vote_request = λ kind one thirty m read listed. let asked : Request = vote_request_of m d.mark.step d.ident.source g.allocator.me in
          voted (grants (with_term g.allocator.raft_server.store asked.term) asked) asked g h (why_vote m kind one thirty read listed);
      append_request = λ kind thirty m read listed. let asked : Request = append_request_of m d.mark.step d.ident.source g.allocator.me in
          appended (verdict_on g.allocator.raft_server asked) asked g h (why_append m kind thirty read listed);
      vote_answer = λ kind one thirty m read asked listed awaited pending. vote_ended (answer_of d.mark.step d.ident.source asked m.term m.granted) g h;
      append_answer = λ kind thirty m read asked listed awaited pending. append_ended (answer_of d.mark.step d.ident.source asked m.term m.success) g h;
    }

-- ---- an append request that is not outdated is current

by_current : (server : RaftServer) (request : Request) → is_current server request ≡ true
    → (server.store.term < request.term) ⊎ ((request.term ≡ server.store.term) × (server.memory.role ≢ Leader))
by_current server request e = by (nat_lt server.store.term request.term) refl e
  where
    by : (b : Bool) → nat_lt server.store.term request.term ≡ b → (b || ((request.term == server.store.term) && not (is_leader server.memory.role))) ≡ true
        → (server.store.term < request.term) ⊎ ((request.term ≡ server.store.term) × (server.memory.role ≢ Leader))
    by true l f = inl (lt_true server.store.term request.term l)
    by false l f = inr (
      eq_true request.term server.store.term (and_left (request.term == server.store.term) (not (is_leader server.memory.role)) f),
      λ leads. let no_leader = not_true (is_leader server.memory.role) (and_right (request.term == server.store.term) (not (is_leader server.memory.role)) f) in
          cc (no_leader, ap is_leader leads),
    )

current : (server : RaftServer) (request : Request) → verdict_on server request ≢ Outdated
    → (server.store.term < request.term) ⊎ ((request.term ≡ server.store.term) × (server.memory.role ≢ Leader))
current server request not_old = elim (tell (is_current server request)) [
  | inl e ↦ by_current server request e
  | inr e ↦ absurd (not_old (ap (λ (b : Bool). if b then rule (with_term server.store request.term) request else Outdated) e))
]

-- ---- the step

-- why a frame makes the wait begin anew, but that the server steps down
abbrev pub Why : AllocatorState → Arrival → Type 0
Why t arrival = HearsOne t arrival ⊎ VotesFor t arrival

abbrev IsLeftBehind : AllocatorState → ℕ → Arrival → (since word term : ℕ) → Role → Type 0
IsLeftBehind t number arrival since word term role =
    LeftAt number t.times.since (moment_at t arrival) t.times.word t.raft_server.memory.role (Why t arrival) since word role

-- what a frame leaves of the wait
pub frame_leaves : (t : AllocatorState) (number : ℕ) (arrival : Arrival) → let after = (step t number (Rx arrival)).step_state.allocator in
    Left t.times.since (moment_at t arrival) t.raft_server.memory.role (Why t arrival) after.times.since after.raft_server.memory.role
    × (after.times.word ≡ t.times.word)
unfolding step
frame_leaves t number arrival =
    let got : Received = answer (setting_for t.me) t.sessions (record arrival { moment = moment_at t arrival }) in
    let come : StepState = when_come t number arrival in
    let role : Role = t.raft_server.memory.role in
    let records_so : Records number (Of number t.times.since (moment_at t arrival) t.times.word role (Why t arrival)) =
    records number t.times.since (moment_at t arrival) t.times.word role (Why t arrival) in
    ended (with_answer number got come).step_state
    (by_answer number (Of number t.times.since (moment_at t arrival) t.times.word role (Why t arrival)) records_so got come
    (λ d gives. hears number (Of number t.times.since (moment_at t arrival) t.times.word role (Why t arrival)) records_so d come
    (takes number t.times.since (moment_at t arrival) t.times.word role (Why t arrival) d come as_was (heard d gives) (asked_vote d gives)))
    (goes_on number t.times.since (moment_at t arrival) t.times.word role (Why t arrival) come as_was))
  where
    before : IsAsBefore t.raft_server (when_come t number arrival).allocator.raft_server
    before = begun t number arrival

    as_was : IsAsWas number t.times.since (moment_at t arrival) t.times.word t.raft_server.memory.role (Why t arrival) (when_come t number arrival)
    as_was = (
      since_stays (members_of (at_moment arrival.moment t)) t.me number (given_at (max t.now arrival.moment)) (overdue t.times (max t.now arrival.moment) all_nodes)
          t.raft_server t.times,
      word_stays (members_of (at_moment arrival.moment t)) t.me number (given_at (max t.now arrival.moment)) (overdue t.times (max t.now arrival.moment) all_nodes)
          t.raft_server t.times,
      before.role,
      refl,
    )

    ended : (h : StepState) → IsLeft number t.times.since (moment_at t arrival) t.times.word t.raft_server.memory.role (Why t arrival) h → Keeps (IsLeftBehind t number arrival) (end_phase number h)
    ended h left = ends number (IsLeftBehind t number arrival) h left

    heard : (d : Delivery) → answer (setting_for t.me) t.sessions (record arrival { moment = moment_at t arrival }) ≡ Gives d → (m : AppendRequest)
        → d.ident.kind ≡ RequestKind → d.ident.number ≡ 30 → append_codec.append_request_of d.payload ≡ Some m
        → is_listed d (when_come t number arrival).allocator ≡ true
        → verdict_on (when_come t number arrival).allocator.raft_server (append_request_of m d.mark.step d.ident.source t.me) ≢ Outdated → (Why t arrival)
    heard d gives m kind thirty read listed not_old = inl (record {
      delivery = d;
      request = m;
      hears = record {
        gives = gives;
        kind = kind;
        number = thirty;
        read = read;
        listed = listed;
        current = elim (current (when_come t number arrival).allocator.raft_server (append_request_of m d.mark.step d.ident.source t.me) not_old) [
          | inl above ↦ inl (subst (λ (s : Store). s.term < m.term) before.store above)
          | inr same ↦ inr (same.0 ∙ ap (λ (s : Store). s.term) before.store, λ leads. same.1 (before.role ∙ leads))
        ];
      };
    })

    asked_vote : (d : Delivery) → answer (setting_for t.me) t.sessions (record arrival { moment = moment_at t arrival }) ≡ Gives d → (m : VoteRequest)
        → d.ident.kind ≡ RequestKind → d.ident.number ≢ 1 → d.ident.number ≢ 30 → vote_codec.vote_request_of d.payload ≡ Some m
        → is_listed d (when_come t number arrival).allocator ≡ true
        → (let asked : Request = vote_request_of m d.mark.step d.ident.source t.me in
        grants (with_term (when_come t number arrival).allocator.raft_server.store asked.term) asked ≡ true)
        → (Why t arrival)
    asked_vote d gives m kind one thirty read listed granted = inr (record {
      delivery = d;
      gives = gives;
      kind = kind;
      no_info = one;
      no_append = thirty;
      request = m;
      read = read;
      listed = listed;
      grants_it = subst (λ (s : Store). grants (with_term s m.term) (vote_request_of m d.mark.step d.ident.source t.me) ≡ true) before.store granted;
    })
