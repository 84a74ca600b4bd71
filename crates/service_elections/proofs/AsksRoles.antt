-- What a frame makes of the role and the term: a follower, or it leaves them, or a candidate wins by a vote.
use Rattle.std.proofs.Common.{◌≡◌, ◌≢◌, ℕ, ◌≤◌, arith, Bool, true, List, refl, sym, ◌∙◌, ap, subst, inl, inr}
use Rattle.std.specs.Prelude.{◌⊎◌, ◌&&◌, ◌==◌, nat_lt, if◌then◌else◌}
use Rattle.can_frame.specs.declared.identifier.Kind.TheVariants.{Response}
use Rattle.raft_model.specs.Handlers.{server_after}
use Rattle.raft_model.specs.Moves.{Move}
use Rattle.raft_model.specs.Moves.Appending.{acknowledges, matched_memory}
use Rattle.raft_model.specs.Moves.Appending.Verdict.{Added, Held, Outdated, Refused}
use Rattle.raft_model.specs.Moves.Elections.{counting_memory, counts, has_quorum, is_candidate, memory_without_call, stepped_down, votes_with, win_memory, with_vote}
use Rattle.raft_model.specs.Moves.Move.{AnswerAgain, CallForVote, CallToAppend, CommitTo, GiveUp, ProposeEntry, TakeAppendAnswer, TakeAppendRequest}
use Rattle.raft_model.specs.Moves.Move.{TakeVoteAnswer, TakeVoteRequest, TellNothing, TellPair, TimeOut}
use Rattle.raft_model.specs.Server.{Memory, RaftServer, Role, Store}
use Rattle.raft_model.specs.Server.Role.{Candidate, Follower, Leader}
use Rattle.transfer_rx.specs.Reassembly.{Arrival, Delivery, Gives, answer}
use Rattle.alloc_spec.specs.Accepted.{setting_for}
use Rattle.alloc_spec.specs.AllocatorState.{AllocatorState}
use Rattle.alloc_spec.specs.Step.{Event, step}
use Rattle.alloc_spec_laws.proofs.Choices.{and_left, either, lt_tells}
use Rattle.service_steps.specs.Requests.{moment_at}
use Rattle.service_candidate.proofs.TermsBrings.{Brings}
use Rattle.service_candidate.proofs.TermsGo.{goes_at_frame}
use Rattle.service_candidate.proofs.TermsMoves.{Takes, same_store, takes_append_answer, takes_append_request, takes_vote_answer, takes_vote_request}

-- it is a follower, or the role and the term are as they were, or a candidate leads in its term, by a vote
abbrev pub RoleBy : (won : Type 0) → (before after : Role) → (term term_then : ℕ) → Type 0
RoleBy won before after term term_then = (after ≡ Follower)
    ⊎ (((after ≡ before) × (term_then ≡ term)) ⊎ ((before ≡ Candidate) × (after ≡ Leader) × (term_then ≡ term) × won))

candidate_is : (role : Role) → is_candidate role ≡ true → role ≡ Candidate
candidate_is Follower e = absurd (cc e)
candidate_is Candidate e = refl
candidate_is Leader e = absurd (cc e)

-- the frame completes a response that is of no other service
pub record BringsVote (t : AllocatorState) (arrival : Arrival) : Type 0 where
  pub delivery : Delivery
  pub gives : answer (setting_for t.me) t.sessions (record arrival { moment = moment_at t arrival }) ≡ Gives delivery
  pub kind : delivery.ident.kind ≡ Response
  pub first : delivery.ident.number ≢ 1
  pub thirty : delivery.ident.number ≢ 30

-- an answer may win, and any other message may not
abbrev IsVote : Delivery → Type 0
IsVote d = (d.ident.kind ≡ Response) × (d.ident.number ≢ 1) × (d.ident.number ≢ 30)

module _ (d : Delivery) (list : List ℕ) (me number : ℕ) (server : RaftServer) where
  abbrev By : Move → Type 0
  By move = RoleBy (IsVote d) server.memory.role (server_after list me number server move).memory.role server.store.term
      (server_after list me number server move).store.term

  -- a message of a higher term makes a follower, and one of another term leaves the term
  by_term : (move : Move) (its : ℕ) → Takes its server (server_after list me number server move)
      → (its ≤ server.store.term → (server_after list me number server move).store.term ≡ server.store.term → By move) → By move
  by_term move its takes low = elim (lt_tells server.store.term its) [
    | inl z ↦ inl (takes.raised z.1)
    | inr z ↦ low z.1 (takes.term_is ∙ ap (λ (s : Store). s.term) (same_store server.store its z.1))
  ]

  -- a memory that is chosen by whether the term rises, where it does not
  chosen : (P : Memory → Type 0) (its : ℕ) (x y : Memory) → its ≤ server.store.term → P y → P (if nat_lt server.store.term its then x else y)
  chosen P its x y low h = elim (lt_tells server.store.term its) [
    | inl z ↦ absurd (let up = z.1 in omega (arith, up, low))
    | inr z ↦ subst (λ (b : Bool). P (if b then x else y)) (sym z.0) h
  ]

  abbrev To : ℕ → Memory → Type 0
  To term memory = RoleBy (IsVote d) server.memory.role memory.role server.store.term term

  by_move : (move : Move) → Brings d me server move → By move
  by_move (TakeVoteRequest request granted) is =
      by_term (TakeVoteRequest request granted) request.term (takes_vote_request list me number server request granted is.judged).0
      (λ low same. chosen (To (server_after list me number server (TakeVoteRequest request granted)).store.term) request.term
      (record server.memory { role = Follower }) server.memory low (inr (inl (refl, same))))
  by_move (TakeAppendRequest request Outdated) is =
      by_term (TakeAppendRequest request Outdated) request.term (takes_append_request list me number server request Outdated is.judged).0
      (λ low same. inr (inl (refl, same)))
  by_move (TakeAppendRequest request Refused) is = inl refl
  by_move (TakeAppendRequest request Held) is = inl refl
  by_move (TakeAppendRequest request (Added entry)) is = inl refl
  by_move (TakeVoteAnswer got) is =
      by_term (TakeVoteAnswer got) got.term (takes_vote_answer list me number server got)
      (λ low same. let term = (server_after list me number server (TakeVoteAnswer got)).store.term in
      chosen (To term) got.term (stepped_down server.memory got.from)
      (if counts server got then counting_memory list server got else memory_without_call server.memory got.from) low
      (either (To term) (counts server got) (counting_memory list server got) (memory_without_call server.memory got.from)
      (λ c. either (To term) (has_quorum list (votes_with server.memory got)) (win_memory server.store (with_vote server.memory got)) (with_vote server.memory got)
      (λ q. inr (inr (
        candidate_is server.memory.role (and_left (is_candidate server.memory.role) ((got.term == server.store.term) && got.success) c),
        refl,
        same,
        (is.kind, is.first, is.thirty),
      )))
      (λ q. inr (inl (refl, same))))
      (λ c. inr (inl (refl, same)))))
  by_move (TakeAppendAnswer got) is =
      by_term (TakeAppendAnswer got) got.term (takes_append_answer list me number server got)
      (λ low same. let term = (server_after list me number server (TakeAppendAnswer got)).store.term in
      chosen (To term) got.term (stepped_down server.memory got.from)
      (if acknowledges server got then matched_memory server.memory got else memory_without_call server.memory got.from) low
      (either (To term) (acknowledges server got) (matched_memory server.memory got) (memory_without_call server.memory got.from)
      (λ c. inr (inl (refl, same))) (λ c. inr (inl (refl, same)))))
  by_move TimeOut is = absurd is
  by_move (ProposeEntry entry) is = absurd is
  by_move (CommitTo index) is = absurd is
  by_move TellPair is = absurd is
  by_move TellNothing is = absurd is
  by_move (CallForVote peer) is = absurd is
  by_move (CallToAppend peer previous with_entry) is = absurd is
  by_move (AnswerAgain place) is = absurd is
  by_move (GiveUp peer) is = absurd is

-- so it is with a whole frame
pub frame_role : (number : ℕ) (t : AllocatorState) (arrival : Arrival) → let after = (step t number (Event.Rx arrival)).step_state.allocator.raft_server in
    RoleBy (BringsVote t arrival) t.raft_server.memory.role after.memory.role t.raft_server.store.term after.store.term
frame_role number t arrival =
    let g = goes_at_frame number t arrival in
    let after = (step t number (Event.Rx arrival)).step_state.allocator.raft_server in
    let term = ap (λ (s : Store). s.term) g.begun.store in
    elim g.moved [
      | inl same ↦ inr (inl (
        g.left.role ∙ (ap (λ (s : RaftServer). s.memory.role) same ∙ g.begun.role),
        g.left.term ∙ (ap (λ (s : RaftServer). s.store.term) same ∙ term),
      ))
      | inr m ↦ elim (by_move m.3.0 m.0 m.1 number g.early m.2 m.3.2) [
        | inl f ↦ inl (g.left.role ∙ (ap (λ (s : RaftServer). s.memory.role) m.4 ∙ f))
        | inr (inl k) ↦ inr (inl (
          g.left.role ∙ (ap (λ (s : RaftServer). s.memory.role) m.4 ∙ (k.0 ∙ g.begun.role)),
          g.left.term ∙ (ap (λ (s : RaftServer). s.store.term) m.4 ∙ (k.1 ∙ term)),
        ))
        | inr (inr w) ↦ inr (inr (
          sym g.begun.role ∙ w.0,
          g.left.role ∙ (ap (λ (s : RaftServer). s.memory.role) m.4 ∙ w.1),
          g.left.term ∙ (ap (λ (s : RaftServer). s.store.term) m.4 ∙ (w.2 ∙ term)),
          record { delivery = m.3.0; gives = m.3.1; kind = w.3.0; first = w.3.1; thirty = w.3.2 },
        ))
      ]
    ]
