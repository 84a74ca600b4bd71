-- A call stays pending in each step in which its answer does not come, until the call timeout, while the server has such a
-- role.
use Rattle.std.proofs.Common.{◌≡◌, ◌≢◌, ℕ, ◌+◌, ◌<◌, Bool, true, false, [], ◌∷◌, refl, sym, ◌∙◌, ap, subst, inl, inr, max, Option, None, Some}
use Rattle.std.specs.Prelude.{◌⊎◌, ◌&&◌, ◌==◌, nat_lt, not, if◌then◌else◌}
use Rattle.std.proofs.lemmas.Bool.Decides.{eqb_tells}
use Rattle.can_frame.specs.declared.identifier.Kind.TheVariants.{Response}
use Rattle.raft_core.specs.Handled.{answer_of, append_request_of, vote_request_of}
use Rattle.raft_core.specs.Times.{Sending, Times, awaits, begin_wait, end_call, end_vote_call, given_at, is_awaited, overdue, raise, step_down, win}
use Rattle.raft_model.specs.Decisions.{grants, verdict_on}
use Rattle.raft_model.specs.Lists.{at, at_other}
use Rattle.raft_model.specs.Messages.{Answer, Request}
use Rattle.raft_model.specs.Moves.Appending.{Verdict, acknowledges, matched_memory}
use Rattle.raft_model.specs.Moves.Appending.Verdict.{Added, Held, Outdated, Refused}
use Rattle.raft_model.specs.Moves.Elections.{counts, has_quorum, is_candidate, memory_without_call, stepped_down, term_puts, votes_with, win_memory, with_term, with_vote}
use Rattle.raft_model.specs.Moves.Leading.{append_request, vote_request}
use Rattle.raft_model.specs.Moves.Move.{TakeAppendAnswer, TakeAppendRequest, TakeVoteAnswer, TakeVoteRequest}
use Rattle.raft_model.specs.Server.{Memory, RaftServer, Role, put_all}
use Rattle.raft_model.specs.Server.Role.{Candidate, Follower, Leader}
use Rattle.transfer_rx.specs.Reassembly.{Arrival, Delivery, Gives, answer}
use Rattle.alloc_spec.specs.Accepted.{setting_for}
use Rattle.alloc_spec.specs.AllocatorState.{AllocatorState, members_of}
use Rattle.alloc_spec.specs.Step.{Event, all_nodes, at_moment, begin_phase, step}
use Rattle.alloc_spec.specs.StepState.{StepState, with_moves}
use Rattle.alloc_spec_laws.proofs.Choices.{and_left, and_right, either, eq_true, not_true}
use Rattle.service_steps.specs.Requests.{moment_at}
use Rattle.service_steps.proofs.Begins.{expired}
use Rattle.service_steps.proofs.FollowUps.{when_come}
use Rattle.service_leader.proofs.AnswersAwaited.{young_kept}
use Rattle.service_leader.proofs.RaftPhases.{Ends, Grows, Keeps, OfServer, Takes, at_frame}

-- ---- what is kept with a call as a move changes other things

down_same : (now : ℕ) (role : Role) (times : Times) → (step_down now role times).sending ≡ times.sending
down_same now Follower times = refl
down_same now Candidate times = refl
down_same now Leader times = refl

raised_same : (now term : ℕ) (server : RaftServer) (times : Times) → (raise now term server times).sending ≡ times.sending
raised_same now term server times =
    either (λ (ts : Times). ts.sending ≡ times.sending) (nat_lt server.store.term term) (step_down now server.memory.role times) times
    (λ e. down_same now server.memory.role times) (λ e. refl)

-- no call is made to a peer to which one is pending, and a call to another one leaves it
still_called : (m peer id now : ℕ) (request asked : Request) (sending : Sending) (server : RaftServer) (times : Times) → server.memory.pending peer ≡ None
    → (server.memory.pending m ≡ Some request) × (times.sending m ≡ Some sending)
    → (at server.memory.pending peer (Some asked) m ≡ Some request) × (at times.sending peer (Some (record { id = id; moment = now })) m ≡ Some sending)
still_called m peer id now request asked sending server times free h = elim (eqb_tells m peer) [
  | inl z ↦ absurd (cc (sym free ∙ (sym (ap server.memory.pending z.1) ∙ h.0)))
  | inr z ↦ (
    at_other server.memory.pending peer m (Some asked) z.1 ∙ h.0,
    at_other times.sending peer m (Some (record { id = id; moment = now })) z.1 ∙ h.1,
  )
]

-- A server in such a role has such a one too when it follows, or this holds of it then; and this holds of one that wins.
pub record IsRole (Keep : Role → Type 0) (New : Role → ℕ → Type 0) : Type 0 where
  pub follows : (role : Role) (term : ℕ) → Keep role → Keep Follower ⊎ New Follower term
  pub wins : (role : Role) (term : ℕ) → is_candidate role ≡ true → Keep role → New Leader term

module _ (number m : ℕ) (Keep : Role → Type 0) (New : Role → ℕ → Type 0) (request : Request) (sending : Sending) where
  -- the server has such a role, and this call to peer m is pending, since this moment
  abbrev pub Pends : OfServer
  Pends me server times now = Keep server.memory.role × (server.memory.pending m ≡ Some request) × (times.sending m ≡ Some sending)

  -- or this holds of its role and its term
  abbrev pub Still : OfServer
  Still me server times now = Pends me server times now ⊎ New server.memory.role server.store.term

  -- an entry leaves it
  pub grows : Grows Still
  grows log me server times now leads h = h

  -- so do other calls
  pub ends : Ends number Still
  ends = record {
    quietly = record { commits = λ place me server times now leads h. h; tells = λ told me server times now leads h. h };
    votes = λ members me peer id server times now role free h. elim h [
      | inl k ↦ let kept = still_called m peer id now request (vote_request me number server.store peer) sending server times free (k.1, k.2) in
          inl (k.0, kept.0, kept.1)
      | inr new ↦ inr new
    ];
    appends = λ members me peer previous id server times now role free h. elim h [
      | inl k ↦ let kept = still_called m peer id now request (append_request me number server.store peer previous true) sending server times free (k.1, k.2) in
          inl (k.0, kept.0, kept.1)
      | inr new ↦ inr new
    ];
  }

  -- ---- what it is delivered: not the answer

  module _ (roles : IsRole Keep New) (d : Delivery)
      (no_vote : request.append ≡ false → d.ident.kind ≡ Response → d.ident.number ≢ 1 → d.ident.number ≢ 30 → d.ident.source ≡ m → sending.id ≡ d.id → ⊥)
      (no_append : request.append ≡ true → d.ident.kind ≡ Response → d.ident.number ≡ 30 → d.ident.source ≡ m → sending.id ≡ d.id → ⊥)
      (g : StepState) (h : Keeps Pends g) where
    abbrev server : RaftServer
    server = g.allocator.raft_server

    abbrev times : Times
    times = g.allocator.times

    -- of a memory in a term, and of what is kept with the call
    abbrev After : ℕ → Memory → Option Sending → Type 0
    After term memory s = (Keep memory.role × (memory.pending m ≡ Some request) × (s ≡ Some sending)) ⊎ New memory.role term

    -- who follows then
    lowers : (term : ℕ) (memory : Memory) (s : Option Sending) → memory.role ≡ Follower → memory.pending m ≡ Some request → s ≡ Some sending → After term memory s
    lowers term memory s role p e = elim (roles.follows server.memory.role term h.0) [
      | inl k ↦ inl (subst Keep (sym role) k, p, e)
      | inr new ↦ inr (subst (λ (r : Role). New r term) (sym role) new)
    ]

    -- a vote request leaves the calls
    vote_asked : (granted : Bool) (asked : Request) → Keeps Still (with_moves number (given_at g.allocator.now) (TakeVoteRequest asked granted ∷ []) g)
    vote_asked granted asked = by (nat_lt server.store.term asked.term)
      where
        kept : (if granted then begin_wait g.allocator.now times else raise g.allocator.now asked.term server times).sending m ≡ Some sending
        kept = either (λ (ts : Times). ts.sending m ≡ Some sending) granted (begin_wait g.allocator.now times) (raise g.allocator.now asked.term server times)
            (λ e. h.2) (λ e. ap (λ (f : ℕ → Option Sending). f m) (raised_same g.allocator.now asked.term server times) ∙ h.2)

        by : (higher : Bool) → After (with_moves number (given_at g.allocator.now) (TakeVoteRequest asked granted ∷ []) g).allocator.raft_server.store.term
            (if higher then record server.memory { role = Follower } else server.memory)
            ((if granted then begin_wait g.allocator.now times else raise g.allocator.now asked.term server times).sending m)
        by true = lowers _ (record server.memory { role = Follower }) _ refl h.1 kept
        by false = inl (h.0, h.1, kept)

    -- so does an append request
    append_asked : (asked : Request) (verdict : Verdict) → Keeps Still (with_moves number (given_at g.allocator.now) (TakeAppendRequest asked verdict ∷ []) g)
    append_asked asked Outdated = inl h
    append_asked asked Refused = lowers _ (record server.memory { role = Follower }) (times.sending m) refl h.1 h.2
    append_asked asked Held = lowers _ (record server.memory { role = Follower }) (times.sending m) refl h.1 h.2
    append_asked asked (Added entry) = lowers _ (record server.memory { role = Follower }) (times.sending m) refl h.1 h.2

    -- an answer of another peer
    module _ (got : Answer) (differs : m ≢ got.from) where
      memory_kept : at server.memory.pending got.from None m ≡ Some request
      memory_kept = at_other server.memory.pending got.from m None differs ∙ h.1

      times_kept : at times.sending got.from None m ≡ Some sending
      times_kept = at_other times.sending got.from m None differs ∙ h.2

      abbrev term_then : ℕ
      term_then = (put_all server.store (term_puts server.store got.term)).term

      -- its vote ends its own call, or makes the member the leader
      vote_answered : Keeps Still (with_moves number (given_at g.allocator.now) (TakeVoteAnswer got ∷ []) g)
      vote_answered = by (nat_lt server.store.term got.term) (counts server got) (has_quorum (members_of g.allocator) (votes_with server.memory got)) refl
        where
          by : (higher counted wins : Bool) → counts server got ≡ counted → After term_then
              (if higher then stepped_down server.memory got.from
              else (if counted then (if wins then win_memory server.store (with_vote server.memory got) else with_vote server.memory got)
              else memory_without_call server.memory got.from))
              ((if higher then step_down g.allocator.now server.memory.role (end_vote_call got.from times)
              else (if counted && wins then win (end_vote_call got.from times) else end_vote_call got.from times)).sending m)
          by true counted wins e = lowers term_then (stepped_down server.memory got.from) _ refl memory_kept
              (ap (λ (f : ℕ → Option Sending). f m) (down_same g.allocator.now server.memory.role (end_vote_call got.from times)) ∙ times_kept)
          by false true true e = inr (roles.wins server.memory.role term_then (and_left (is_candidate server.memory.role) _ e) h.0)
          by false true false e = inl (h.0, memory_kept, times_kept)
          by false false wins e = inl (h.0, memory_kept, times_kept)

      -- its append answer ends its own call
      append_answered : Keeps Still (with_moves number (given_at g.allocator.now) (TakeAppendAnswer got ∷ []) g)
      append_answered = by (nat_lt server.store.term got.term) (acknowledges server got)
        where
          kept : (raise g.allocator.now got.term server (end_call got.from times)).sending m ≡ Some sending
          kept = ap (λ (f : ℕ → Option Sending). f m) (raised_same g.allocator.now got.term server (end_call got.from times)) ∙ times_kept

          by : (higher counted : Bool) → After term_then
              (if higher then stepped_down server.memory got.from
              else (if counted then matched_memory server.memory got else memory_without_call server.memory got.from))
              ((raise g.allocator.now got.term server (end_call got.from times)).sending m)
          by true counted = lowers term_then (stepped_down server.memory got.from) _ refl memory_kept kept
          by false true = inl (h.0, memory_kept, kept)
          by false false = inl (h.0, memory_kept, kept)

    -- what is awaited of the peer is an answer of the kind of the call, under its ID
    awaited_is : (is_append : Bool) → m ≡ d.ident.source → is_awaited server times d.ident.source is_append d.id ≡ true
        → ((if is_append then request.append else not request.append) && (sending.id == d.id)) ≡ true
    awaited_is is_append e awaited =
        sym (λ i. awaits ((ap server.memory.pending (sym e) ∙ h.1) i) ((ap times.sending (sym e) ∙ h.2) i) is_append d.id) ∙ awaited

    -- what is delivered leaves the call
    takes : Takes number Still d g
    takes = record {
      vote_request = λ kind one thirty message read listed. let asked = vote_request_of message d.mark.step d.ident.source g.allocator.me in
          vote_asked (grants (with_term server.store asked.term) asked) asked;
      append_request = λ kind thirty message read listed. let asked = append_request_of message d.mark.step d.ident.source g.allocator.me in
          append_asked asked (verdict_on server asked);
      vote_answer = λ kind one thirty message read asked listed awaited pending. elim (eqb_tells m d.ident.source) [
        | inl z ↦
            let is = awaited_is false z.1 awaited in
            absurd (no_vote (not_true request.append (and_left (not request.append) (sending.id == d.id) is)) kind one thirty (sym z.1)
            (eq_true sending.id d.id (and_right (not request.append) (sending.id == d.id) is)))
        | inr z ↦ vote_answered (answer_of d.mark.step d.ident.source asked message.term message.granted) z.1
      ];
      append_answer = λ kind thirty message read asked listed awaited pending. elim (eqb_tells m d.ident.source) [
        | inl z ↦
            let is = awaited_is true z.1 awaited in
            absurd (no_append (and_left request.append (sending.id == d.id) is) kind thirty (sym z.1)
            (eq_true sending.id d.id (and_right request.append (sending.id == d.id) is)))
        | inr z ↦ append_answered (answer_of d.mark.step d.ident.source asked message.term message.success) z.1
      ];
    }

-- ---- the step

module _ (t : AllocatorState) (number m : ℕ) (Keep : Role → Type 0) (New : Role → ℕ → Type 0) (request : Request) (sending : Sending)
    (role : Keep t.raft_server.memory.role) (pending : t.raft_server.memory.pending m ≡ Some request) (sent : t.times.sending m ≡ Some sending) where
  -- as a step begins, before the call timeout
  pub begins : (now : ℕ) → max t.now now < sending.moment + 1000 → Keeps (Pends number m Keep New request sending) (begin_phase number now t)
  begins now soon =
      let keeps = young_kept t number m now sending sent soon in
      let before = expired (members_of (at_moment now t)) t.me number (overdue t.times (max t.now now) all_nodes) t.raft_server in
      (subst Keep (sym before.role) role, keeps.pending ∙ pending, keeps.sending ∙ sent)

  -- a frame
  pub stays_at_frame : IsRole Keep New → (arrival : Arrival) → max t.now arrival.moment < sending.moment + 1000
      → ((d : Delivery) → answer (setting_for t.me) t.sessions (record arrival { moment = moment_at t arrival }) ≡ Gives d → request.append ≡ false
      → d.ident.kind ≡ Response → d.ident.number ≢ 1 → d.ident.number ≢ 30 → d.ident.source ≡ m → sending.id ≡ d.id → ⊥)
      → ((d : Delivery) → answer (setting_for t.me) t.sessions (record arrival { moment = moment_at t arrival }) ≡ Gives d → request.append ≡ true
      → d.ident.kind ≡ Response → d.ident.number ≡ 30 → d.ident.source ≡ m → sending.id ≡ d.id → ⊥)
      → Keeps (Still number m Keep New request sending) (step t number (Event.Rx arrival)).step_state
  stays_at_frame roles arrival soon no_vote no_append = at_frame number (Still number m Keep New request sending) (grows number m Keep New request sending)
      (ends number m Keep New request sending) t arrival (inl (begins arrival.moment soon))
      (λ d gives. takes number m Keep New request sending roles d (no_vote d gives) (no_append d gives) (when_come t number arrival) (begins arrival.moment soon))
