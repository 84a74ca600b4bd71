-- Who is no candidate becomes none in a step at which a frame comes.
use Rattle.std.proofs.Common.{◌≡◌, ◌≢◌, ℕ, Bool, true, false, [], ◌∷◌, refl, sym, ◌∙◌, ap}
use Rattle.std.specs.Prelude.{◌&&◌, ◌==◌, nat_lt, if◌then◌else◌}
use Rattle.raft_core.specs.Handled.{answer_of, append_request_of, vote_request_of}
use Rattle.raft_core.specs.Times.{given_at}
use Rattle.raft_model.specs.Decisions.{grants, verdict_on}
use Rattle.raft_model.specs.Messages.{Answer, Request}
use Rattle.raft_model.specs.Moves.Appending.{Verdict, acknowledges, matched_memory}
use Rattle.raft_model.specs.Moves.Appending.Verdict.{Added, Held, Outdated, Refused}
use Rattle.raft_model.specs.Moves.Elections.{counting_memory, counts, is_candidate, memory_without_call, stepped_down, with_term}
use Rattle.raft_model.specs.Moves.Move.{TakeAppendAnswer, TakeAppendRequest, TakeVoteAnswer, TakeVoteRequest}
use Rattle.raft_model.specs.Server.{Memory, Role}
use Rattle.raft_model.specs.Server.Role.{Candidate, Follower, Leader}
use Rattle.transfer_rx.specs.Reassembly.{Arrival, Delivery}
use Rattle.alloc_spec.specs.AllocatorState.{AllocatorState, members_of}
use Rattle.alloc_spec.specs.Step.{Event, step}
use Rattle.alloc_spec.specs.StepState.{StepState, with_moves}
use Rattle.alloc_spec_laws.proofs.Choices.{either}
use Rattle.service_steps.proofs.FollowUps.{begun, when_come}
use Rattle.service_leader.proofs.RaftPhases.{Keeps, OfRole, Takes, at_frame, role_ends, role_grows}

no_candidate : (role : Role) → role ≢ Candidate → is_candidate role ≡ false
no_candidate Follower other = refl
no_candidate Candidate other = absurd (other refl)
no_candidate Leader other = refl

-- the role is none of a candidate
abbrev IsNone : Role → ℕ → (ℕ → Bool) → Type 0
IsNone role term votes = role ≢ Candidate

module _ (number : ℕ) (d : Delivery) (g : StepState) (h : Keeps (OfRole IsNone) g) where
  abbrev memory : Memory
  memory = g.allocator.raft_server.memory

  vote_asked : (asked : Request) (granted : Bool) → Keeps (OfRole IsNone) (with_moves number (given_at g.allocator.now) (TakeVoteRequest asked granted ∷ []) g)
  vote_asked asked granted = either (λ (its : Memory). its.role ≢ Candidate) (nat_lt g.allocator.raft_server.store.term asked.term) (record memory { role = Follower }) memory
      (λ e f. cc f) (λ e. h)

  append_asked : (asked : Request) (verdict : Verdict) → Keeps (OfRole IsNone) (with_moves number (given_at g.allocator.now) (TakeAppendRequest asked verdict ∷ []) g)
  append_asked asked Outdated = h
  append_asked asked Refused = λ f. cc f
  append_asked asked Held = λ f. cc f
  append_asked asked (Added entry) = λ f. cc f

  vote_answered : (got : Answer) → Keeps (OfRole IsNone) (with_moves number (given_at g.allocator.now) (TakeVoteAnswer got ∷ []) g)
  vote_answered got = by (nat_lt g.allocator.raft_server.store.term got.term) (counts g.allocator.raft_server got)
      (ap (λ (b : Bool). b && ((got.term == g.allocator.raft_server.store.term) && got.success)) (no_candidate memory.role h))
    where
      by : (higher counted : Bool) → counted ≡ false
          → (if higher then stepped_down memory got.from else (if counted then counting_memory (members_of g.allocator) g.allocator.raft_server got
          else memory_without_call memory got.from)).role ≢ Candidate
      by true counted e = λ f. cc f
      by false true e = absurd (cc e)
      by false false e = h

  append_answered : (got : Answer) → Keeps (OfRole IsNone) (with_moves number (given_at g.allocator.now) (TakeAppendAnswer got ∷ []) g)
  append_answered got = by (nat_lt g.allocator.raft_server.store.term got.term) (acknowledges g.allocator.raft_server got)
    where
      by : (higher counted : Bool) → (if higher then stepped_down memory got.from else (if counted then matched_memory memory got
          else memory_without_call memory got.from)).role ≢ Candidate
      by true counted = λ f. cc f
      by false true = h
      by false false = h

  takes : Takes number (OfRole IsNone) d g
  takes = record {
    vote_request = λ kind one thirty message read listed. let asked = vote_request_of message d.mark.step d.ident.source g.allocator.me in
        vote_asked asked (grants (with_term g.allocator.raft_server.store asked.term) asked);
    append_request = λ kind thirty message read listed. let asked = append_request_of message d.mark.step d.ident.source g.allocator.me in
        append_asked asked (verdict_on g.allocator.raft_server asked);
    vote_answer = λ kind one thirty message read asked listed awaited pending. vote_answered (answer_of d.mark.step d.ident.source asked message.term message.granted);
    append_answer = λ kind thirty message read asked listed awaited pending. append_answered (answer_of d.mark.step d.ident.source asked message.term message.success);
  }

pub none_at_frame : (t : AllocatorState) (number : ℕ) (arrival : Arrival) → t.raft_server.memory.role ≢ Candidate
    → (step t number (Event.Rx arrival)).step_state.allocator.raft_server.memory.role ≢ Candidate
none_at_frame t number arrival none = at_frame number (OfRole IsNone) (role_grows IsNone) (role_ends number IsNone) t arrival come
    (λ d gives. takes number d (when_come t number arrival) come)
  where
    come : Keeps (OfRole IsNone) (when_come t number arrival)
    come e = none (sym (begun t number arrival).role ∙ e)
