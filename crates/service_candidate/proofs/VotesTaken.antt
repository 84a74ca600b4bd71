-- A vote answer that comes in time to its request is taken by the candidate.
use Rattle.std.proofs.Common.{◌≡◌, ℕ, ◌+◌, ◌<◌, ◌≤◌, arith, Bool, true, false, List, [], ◌∷◌, refl, sym, ◌∙◌, ap, inl, inr, None, Some}
use Rattle.std.specs.Prelude.{◌==◌, ◌&&◌, max, if◌then◌else◌}
use Rattle.can_frame.specs.declared.step.What.TheVariants.{Vote}
use Rattle.dsdl_codec.specs.declared.vote_answer.VoteAnswer.{VoteAnswer}
use Rattle.dsdl_codec.specs.VoteAnswer.{vote_answer_of}
use Rattle.raft_core.specs.Handled.{answer_of, moves_of_expire}
use Rattle.raft_core.specs.Times.{given_at, overdue}
use Rattle.raft_model.specs.Handlers.{server_after, server_after_all}
use Rattle.raft_model.specs.Lists.{at}
use Rattle.raft_model.specs.Messages.{Answer, Request}
use Rattle.raft_model.specs.Moves.Elections.{counting_memory, counts, has_quorum, is_candidate, memory_without_call, stepped_down, term_puts, votes_with, win_memory, with_vote}
use Rattle.raft_model.specs.Moves.Move.{GiveUp, TakeVoteAnswer}
use Rattle.raft_model.specs.Server.{Memory, RaftServer, Role, Store, put_all}
use Rattle.raft_model.specs.Server.Put.{PutTerm, PutVote}
use Rattle.raft_model.specs.Server.Role.{Candidate, Follower, Leader}
use Rattle.bus_rows.specs.declared.row.Row.{Row}
use Rattle.transfer_rx.specs.Reassembly.{Arrival}
use Rattle.alloc_spec.specs.AllocatorState.{AllocatorState, members_of}
use Rattle.alloc_spec.specs.Delivered.{StepResult, took}
use Rattle.alloc_spec.specs.Services.{answers_call, vote_answered}
use Rattle.alloc_spec.specs.Step.{all_nodes, at_moment, step, with_end_phase}
use Rattle.alloc_spec.specs.Step.Event.{Rx}
use Rattle.alloc_spec.specs.StepState.{StepState, with_moves}
use Rattle.alloc_spec.specs.Transfers.{SentTransfer}
use Rattle.alloc_spec_laws.proofs.Choices.{lt_tells}
use Rattle.service_steps.proofs.Begins.{IsAsBefore}
use Rattle.service_steps.proofs.FollowUps.{begun, same_number}
use Rattle.service_candidate.specs.Votes.{TakesVote, WaitsForVote}
use Rattle.service_leader.proofs.RaftPhases.{Keeps, OfRole}
use Rattle.service_calm.specs.Comes.{Delivers, delivery_of}
use Rattle.service_leader.proofs.AnswersAwaited.{IsAwaited, comes_awaited, to_end, vote_ends}
use Rattle.service_leader.proofs.Deliveries.{come, step_taken}
use Rattle.bus_spec.specs.Cluster.{Cluster, arrival_at, frame_at}

-- ---- a higher term, and the same one

-- a higher term is stored
pub raised_term : (store : Store) (term : ℕ) → store.term < term → (put_all store (term_puts store term)).term ≡ term
raised_term store term less = elim (lt_tells store.term term) [
  | inl z ↦ ap (λ (b : Bool). (put_all store (if b then PutTerm term ∷ PutVote None ∷ [] else [])).term) z.0
  | inr z ↦ absurd (omega (arith, less, z.1))
]

-- another one changes nothing
pub same_term : (store : Store) (term : ℕ) → term ≤ store.term → (put_all store (term_puts store term)).term ≡ store.term
same_term store term low = elim (lt_tells store.term term) [
  | inl z ↦ absurd (omega (arith, low, z.1))
  | inr z ↦ ap (λ (b : Bool). (put_all store (if b then PutTerm term ∷ PutVote None ∷ [] else [])).term) z.0
]

-- calls that are given up leave the votes
pub votes_kept : (list : List ℕ) (me number : ℕ) (nodes : List ℕ) (server : RaftServer)
    → (server_after_all list me number server (moves_of_expire nodes)).memory.votes ≡ server.memory.votes
votes_kept list me number [] server = refl
votes_kept list me number (node ∷ nodes) server = votes_kept list me number nodes (server_after list me number server (GiveUp node))

-- ---- the step

module _ (n moment : ℕ) (y : SentTransfer) (request : Request) (says : VoteAnswer) (w : Cluster) (row : Row) (delivers : Delivers n y w row)
    (me : delivers.server.me ≡ n) (what : y.offer.what ≡ Vote) (read : vote_answer_of y.offer.payload ≡ Some says)
    (waits : WaitsForVote y.by y.offer.id moment request delivers.server) (soon : max delivers.server.now delivers.ms < moment + 1000) where
  abbrev t : AllocatorState
  t = delivers.server

  abbrev m : ℕ
  m = y.by

  abbrev number : ℕ
  number = w.rows + 1

  abbrev arrival : Arrival
  arrival = arrival_at (frame_at w.frames delivers.k) delivers.ms

  -- as the answer comes
  abbrev g : StepState
  g = come n y w row delivers

  abbrev taken : Answer
  taken = answer_of y.step m request says.term says.granted

  before : IsAsBefore t.raft_server g.allocator.raft_server
  before = begun t number arrival

  votes : g.allocator.raft_server.memory.votes ≡ t.raft_server.memory.votes
  votes = votes_kept (members_of (at_moment arrival.moment t)) t.me number (overdue t.times (max t.now delivers.ms) all_nodes) t.raft_server

  its : IsAwaited y request t g
  its = comes_awaited n moment y request w row delivers waits.listed waits.pending waits.kept soon

  -- the step takes the answer, and ends
  step_is : step t number (Rx arrival) ≡ with_end_phase number (took (answers_call number (vote_answered (delivery_of y) says) (Some request) g))
  step_is = step_taken n y w row delivers me ∙ ap (λ (s : StepResult). with_end_phase number s) (vote_ends number y request t g its says what read waits.vote)

  abbrev server : RaftServer
  server = g.allocator.raft_server

  abbrev members : List ℕ
  members = members_of g.allocator

  -- behind the move
  abbrev moved : StepState
  moved = with_moves number (given_at g.allocator.now) (TakeVoteAnswer taken ∷ []) g

  -- what the move leaves of role, term and votes, the step leaves
  at_its_end : (P : Role → ℕ → (ℕ → Bool) → Type 0) → Keeps (OfRole P) moved → Keeps (OfRole P) (step t number (Rx arrival)).step_state
  at_its_end P h = to_end P (vote_answered (delivery_of y) says) request t number (Rx arrival) g step_is h

  own_term : server.store.term ≡ t.raft_server.store.term
  own_term = ap (λ (s : Store). s.term) before.store

  -- the memory behind the move, by what is tested
  abbrev memory_by : (higher counted : Bool) → Memory
  memory_by higher counted = if higher then stepped_down server.memory m
      else (if counted then counting_memory members server taken else memory_without_call server.memory m)

  -- an answer of a higher term
  down : t.raft_server.store.term < says.term → (moved.allocator.raft_server.memory.role ≡ Follower) × (moved.allocator.raft_server.store.term ≡ says.term)
  down less = (
    elim (lt_tells server.store.term says.term) [
      | inl z ↦ ap (λ (b : Bool). (memory_by b (counts server taken)).role) z.0
      | inr z ↦ absurd (omega (arith, less, z.1, own_term))
    ],
    raised_term server.store says.term (omega (arith, less, own_term)),
  )

  -- an answer of its own term that gives a candidate a vote
  module _ (stands : t.raft_server.memory.role ≡ Candidate) (equal : says.term ≡ t.raft_server.store.term) (given : says.granted ≡ true) where
    -- the vote counts
    counted : counts server taken ≡ true
    counted = (λ i. is_candidate ((before.role ∙ stands) i) && (((equal ∙ sym own_term) i == server.store.term) && given i))
        ∙ ap (λ (b : Bool). b && true) (same_number server.store.term)

    memory_is : moved.allocator.raft_server.memory ≡ counting_memory members server taken
    memory_is = elim (lt_tells server.store.term says.term) [
      | inl z ↦ absurd (omega (arith, z.1, equal, own_term))
      | inr z ↦ ap (λ (b : Bool). memory_by b (counts server taken)) z.0 ∙ ap (λ (b : Bool). memory_by false b) counted
    ]

    -- the votes are those from before the step
    same_quorum : has_quorum members (votes_with server.memory taken) ≡ has_quorum (members_of t) (votes_with t.raft_server.memory taken)
    same_quorum = ap (λ (v : ℕ → Bool). has_quorum members (at v m true)) votes

    abbrev memory_of : Bool → Memory
    memory_of b = if b then win_memory server.store (with_vote server.memory taken) else with_vote server.memory taken

    -- a quorum wins
    won : has_quorum (members_of t) (votes_with t.raft_server.memory taken) ≡ true → moved.allocator.raft_server.memory.role ≡ Leader
    won q = ap (λ (mem : Memory). mem.role) memory_is ∙ ap (λ (b : Bool). (memory_of b).role) (same_quorum ∙ q)

    -- fewer votes are kept
    not_yet : has_quorum (members_of t) (votes_with t.raft_server.memory taken) ≡ false
        → (moved.allocator.raft_server.memory.role ≡ Candidate) × (moved.allocator.raft_server.memory.votes ≡ votes_with t.raft_server.memory taken)
    not_yet q = (
      ap (λ (mem : Memory). mem.role) memory_is ∙ (ap (λ (b : Bool). (memory_of b).role) (same_quorum ∙ q) ∙ (before.role ∙ stands)),
      ap (λ (mem : Memory). mem.votes) memory_is ∙ (ap (λ (b : Bool). (memory_of b).votes) (same_quorum ∙ q) ∙ ap (λ (v : ℕ → Bool). at v m true) votes),
    )

  -- what the answer leaves
  pub takes : TakesVote taken t (step t number (Rx arrival)).step_state.allocator
  takes = record {
    raised = λ less. at_its_end (λ role term given. (role ≡ Follower) × (term ≡ says.term)) (down less);
    kept = λ low. at_its_end (λ role term given. term ≡ t.raft_server.store.term) (same_term server.store says.term (omega (arith, low, own_term)) ∙ own_term);
    wins = λ stands equal given quorum. at_its_end (λ role term votes. role ≡ Leader) (won stands equal given quorum);
    counts = λ stands equal given quorum. at_its_end (λ role term votes. (role ≡ Candidate) × (votes ≡ votes_with t.raft_server.memory taken))
        (not_yet stands equal given quorum);
  }
