-- A list of moves over a server's own list of members, and over the members.
use Rattle.std.proofs.Common.{◌≡◌, ◌≢◌, ℕ, true, List, [], ◌∷◌, ◌++◌, refl, sym, ◌∙◌, ap, subst, inl, inr, ◌⊎◌}
use Rattle.std.specs.Prelude.{◌&&◌, ◌==◌}
use Rattle.raft_model.specs.Messages.{Message, Answer, Request}
use Rattle.raft_model.specs.Server.{Role, RaftServer, Put, put_all}
use Rattle.raft_model.specs.Server.Role.{Follower, Candidate, Leader}
use Rattle.raft_model.specs.History.{History}
use Rattle.raft_model.specs.Ledger.{ledger_through}
use Rattle.raft_model.specs.Moves.{Move, Verdict, acknowledges, append_memory, calls, votes_with, counts, is_candidate, memory_after, move_history, offers, own_vote, puts, puts_history}
use Rattle.raft_model.specs.Moves.Move.{TimeOut, TakeVoteRequest, TakeVoteAnswer, TakeAppendRequest, TakeAppendAnswer, ProposeEntry, CommitTo, TellPair, TellNothing, CallForVote, CallToAppend, AnswerAgain, GiveUp}
use Rattle.raft_model.specs.Moves.Verdict.{Outdated, Refused, Held, Added}
use Rattle.raft_model.specs.Handlers.{server_after, server_after_all, puts_of_all, offers_of_all}
use Rattle.raft_model.specs.Stops.{LocalState, state_after_move, state_after_moves, AllEnabled}
use Rattle.raft_model.specs.Members.{IsAll, KnowsEnough, counts_votes}
use Rattle.raft_model.proofs.Apart.{candidate_no_follower, false_true}
use Rattle.raft_model.proofs.Complete.{and_left}
use Rattle.raft_model.proofs.Members.{same_come, same_memory, same_puts, same_quorum}
use Rattle.raft_model.proofs.Quorum.{tell}
use Rattle.raft_model.proofs.Whole.{lt_tells}

-- ---- a Follower stays one in every move but a time out

appended : (server : RaftServer) (request : Request) (verdict : Verdict) → server.memory.role ≡ Follower
    → (append_memory server request verdict).role ≡ Follower
appended server request Outdated e = e
appended server request Refused e = refl
appended server request Held e = refl
appended server request (Added entry) e = refl

-- a Follower counts no votes
counts_none : (server : RaftServer) (answer : Answer) → server.memory.role ≡ Follower → counts server answer ≡ true → ⊥
counts_none server answer e c =
    candidate_no_follower server.memory.role
    (candidate server.memory.role (and_left (is_candidate server.memory.role) ((answer.term == server.store.term) && answer.success) c)) e
  where
    candidate : (role : Role) → is_candidate role ≡ true → role ≡ Candidate
    candidate Follower h = absurd (false_true h)
    candidate Candidate h = refl
    candidate Leader h = absurd (false_true h)

follows : (list : List ℕ) (member step : ℕ) (server : RaftServer) (move : Move) → server.memory.role ≡ Follower
    → (move ≡ TimeOut) ⊎ ((memory_after list member step server move).role ≡ Follower)
follows list member step server TimeOut e = inl refl
follows list member step server (TakeVoteRequest request granted) e = inr (elim (lt_tells server.store.term request.term)
    [ inl z ↦ rw (z.0) refl | inr z ↦ rw (z.0) e ])
follows list member step server (TakeVoteAnswer answer) e = inr (elim (lt_tells server.store.term answer.term) [
  | inl z ↦ rw (z.0) refl
  | inr z ↦ rw (z.0) (elim (tell (counts server answer)) [ inl k ↦ absurd (counts_none server answer e k) | inr k ↦ rw (k) e ])
])
follows list member step server (TakeAppendRequest request verdict) e = inr (appended server request verdict e)
follows list member step server (TakeAppendAnswer answer) e = inr (elim (lt_tells server.store.term answer.term) [
  | inl z ↦ rw (z.0) refl
  | inr z ↦ rw (z.0) (elim (tell (acknowledges server answer)) [ inl k ↦ rw (k) e | inr k ↦ rw (k) e ])
])
follows list member step server (ProposeEntry entry) e = inr e
follows list member step server (CommitTo index) e = inr e
follows list member step server TellPair e = inr e
follows list member step server TellNothing e = inr e
follows list member step server (CallForVote peer) e = inr e
follows list member step server (CallToAppend peer previous with_entry) e = inr e
follows list member step server (AnswerAgain place) e = inr e
follows list member step server (GiveUp peer) e = inr e

-- ---- one move

module _ (list members : List ℕ) (member step : ℕ) where
  -- where a move counts votes
  counted_over_all : (server : RaftServer) (move : Move) (moves : List Move) → KnowsEnough list members server (move ∷ moves)
      → counts_votes server move ≡ true → IsAll list members
  counted_over_all server TimeOut moves knows c = knows.standing (inl refl)
  counted_over_all server (TakeVoteAnswer answer) moves knows c = knows.counting (λ e. counts_none server answer e c)
  counted_over_all server _ moves knows c = absurd (false_true c)

  -- the moves after one count over all too
  knows_later : (server : RaftServer) (move : Move) (moves : List Move) → KnowsEnough list members server (move ∷ moves)
      → KnowsEnough list members (server_after list member step server move) moves
  knows_later server move moves knows = record {
    counting = λ n. either (follower_or server.memory.role) n;
    standing = λ i. knows.standing (inr i);
  }
    where
      follower_or : (role : Role) → (role ≡ Follower) ⊎ (role ≢ Follower)
      follower_or Follower = inl refl
      follower_or Candidate = inr (λ e. cc)
      follower_or Leader = inr (λ e. cc)

      either : (server.memory.role ≡ Follower) ⊎ (server.memory.role ≢ Follower)
          → (memory_after list member step server move).role ≢ Follower → IsAll list members
      either (inr other) n = knows.counting other
      either (inl e) n = elim (follows list member step server move e) [
        | inl stands ↦ knows.standing (inl (sym stands))
        | inr stays ↦ absurd (n stays)
      ]

  same_after : (server : RaftServer) (move : Move) → (counts_votes server move ≡ true → IsAll list members)
      → server_after list member step server move ≡ server_after members member step server move
  same_after server move all = λ i. record {
    store = put_all server.store (same_puts list members member server move i);
    memory = same_memory list members member step server move all i;
  }

  same_history : (server : RaftServer) (move : Move) (history : History) → (counts_votes server move ≡ true → IsAll list members)
      → move_history list member server move history ≡ move_history members member server move history
  same_history server TimeOut history all = rw (same_quorum list members (own_vote member) (all refl)) refl
  same_history server (TakeVoteAnswer answer) history all = elim (tell (counts server answer)) [
    | inl c ↦ rw (same_quorum list members (votes_with server.memory answer) (all c)) refl
    | inr c ↦ rw (c) refl
  ]
  same_history server _ history all = refl

  same_moved : (local_state : LocalState) (move : Move) → (counts_votes local_state.raft_server move ≡ true → IsAll list members)
      → state_after_move list member step local_state move ≡ state_after_move members member step local_state move
  same_moved local_state move all = λ i. record {
    raft_server = same_after local_state.raft_server move all i;
    history = remembered i;
    ledger = ledger_through local_state.ledger local_state.raft_server.store (same_puts list members member local_state.raft_server move i);
    offered = offers member step local_state.raft_server move ++ local_state.offered;
    called = calls move ++ local_state.called;
  }
    where
      remembered : move_history list member local_state.raft_server move
          (puts_history member move local_state.raft_server.store (puts list member local_state.raft_server move) local_state.history)
          ≡ move_history members member local_state.raft_server move
          (puts_history member move local_state.raft_server.store (puts members member local_state.raft_server move) local_state.history)
      remembered = same_history local_state.raft_server move (puts_history member move local_state.raft_server.store (puts list member local_state.raft_server move) local_state.history) all
          ∙ ap (λ (xs : List Put). move_history members member local_state.raft_server move
          (puts_history member move local_state.raft_server.store xs local_state.history)) (same_puts list members member local_state.raft_server move)

  -- ---- all of them

  pub all_after : (server : RaftServer) (moves : List Move) → KnowsEnough list members server moves
      → server_after_all list member step server moves ≡ server_after_all members member step server moves
  all_after server [] knows = refl
  all_after server (move ∷ moves) knows =
      all_after (server_after list member step server move) moves (knows_later server move moves knows)
      ∙ ap (λ (p : RaftServer). server_after_all members member step p moves) (same_after server move (counted_over_all server move moves knows))

  pub all_puts : (server : RaftServer) (moves : List Move) → KnowsEnough list members server moves
      → puts_of_all list member step server moves ≡ puts_of_all members member step server moves
  all_puts server [] knows = refl
  all_puts server (move ∷ moves) knows =
      ap (λ (xs : List Put). xs ++ puts_of_all list member step (server_after list member step server move) moves)
      (same_puts list members member server move)
      ∙ ap (λ (xs : List Put). puts members member server move ++ xs)
      (all_puts (server_after list member step server move) moves (knows_later server move moves knows)
      ∙ ap (λ (p : RaftServer). puts_of_all members member step p moves) (same_after server move (counted_over_all server move moves knows)))

  pub all_offers : (server : RaftServer) (moves : List Move) → KnowsEnough list members server moves
      → offers_of_all list member step server moves ≡ offers_of_all members member step server moves
  all_offers server [] knows = refl
  all_offers server (move ∷ moves) knows = ap (λ (xs : List Message). xs ++ offers member step server move)
      (all_offers (server_after list member step server move) moves (knows_later server move moves knows)
      ∙ ap (λ (p : RaftServer). offers_of_all members member step p moves) (same_after server move (counted_over_all server move moves knows)))

  pub all_local_state : (local_state : LocalState) (moves : List Move) → KnowsEnough list members local_state.raft_server moves
      → state_after_moves list member step local_state moves ≡ state_after_moves members member step local_state moves
  all_local_state local_state [] knows = refl
  all_local_state local_state (move ∷ moves) knows =
      all_local_state (state_after_move list member step local_state move) moves (knows_later local_state.raft_server move moves knows)
      ∙ ap (λ (x : LocalState). state_after_moves members member step x moves) (same_moved local_state move (counted_over_all local_state.raft_server move moves knows))

  pub all_come : (bag : List Message) (local_state : LocalState) (moves : List Move) → KnowsEnough list members local_state.raft_server moves
      → AllEnabled list member step bag local_state moves → AllEnabled members member step bag local_state moves
  all_come bag local_state [] knows come = tt
  all_come bag local_state (move ∷ moves) knows come = (
    same_come list members member bag local_state.called local_state.raft_server move knows.counting come.0,
    subst (λ (x : LocalState). AllEnabled members member step bag x moves)
        (same_moved local_state move (counted_over_all local_state.raft_server move moves knows))
        (all_come bag (state_after_move list member step local_state move) moves (knows_later local_state.raft_server move moves knows) come.1),
  )
