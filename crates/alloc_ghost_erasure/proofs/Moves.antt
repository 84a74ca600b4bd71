-- Moves of the Raft model, without the numbers of steps.
use Rattle.std.proofs.Common.{◌≡◌, ℕ, Bool, true, false, List, [], ◌∷◌, ◌++◌, map, refl, sym, ap, ◌∙◌, Option, Some, None}
use Rattle.std.specs.Prelude.{◌==◌, nat_lt, if◌then◌else◌}
use Rattle.raft_core.specs.Handled.{blank_behind, is_moment, puts_with_origins, origin_of, with_blank}
use Rattle.raft_core.specs.StoredPuts.{with_origin}
use Rattle.raft_core.specs.Times.{HandedIn, Times, times_after, times_after_all}
use Rattle.raft_model.specs.Handlers.{server_after, server_after_all}
use Rattle.raft_model.specs.Lists.{at}
use Rattle.raft_model.specs.Messages.{Answer, Request}
use Rattle.raft_model.specs.Moves.{Move, memory_after, puts}
use Rattle.raft_model.specs.Moves.Appending.{acknowledges, matched_memory}
use Rattle.raft_model.specs.Moves.Appending.Verdict.{Added, Held, Outdated, Refused}
use Rattle.raft_model.specs.Moves.Elections.{votes_with, counts, memory_without_call, has_quorum, own_vote}
use Rattle.raft_model.specs.Moves.Leading.{append_request, vote_request}
use Rattle.raft_model.specs.Moves.Move.{AnswerAgain, CallForVote, CallToAppend, CommitTo, GiveUp, ProposeEntry, TakeAppendAnswer, TakeAppendRequest, TakeVoteAnswer, TakeVoteRequest, TellNothing, TellPair, TimeOut}
use Rattle.raft_model.specs.Server.{Memory, RaftServer, Store, put_all}
use Rattle.raft_model.specs.Server.Role.{Follower}
use Rattle.alloc_ghost_erasure.specs.Unmarked.{unmarked_memory, unmarked_raft_server, unnumbered, unnumbered_call}
use Rattle.alloc_ghost_erasure.proofs.Twice.{twice_call, twice_memory, twice_raft_server}

abbrev pub unnumbered_answer : Answer → Answer
unnumbered_answer answer = record answer { step = 0; request = unnumbered answer.request }

abbrev pub unnumbered_move : Move → Move
unnumbered_move (TakeVoteRequest request granted) = TakeVoteRequest (unnumbered request) granted
unnumbered_move (TakeVoteAnswer answer) = TakeVoteAnswer (unnumbered_answer answer)
unnumbered_move (TakeAppendRequest request verdict) = TakeAppendRequest (unnumbered request) verdict
unnumbered_move (TakeAppendAnswer answer) = TakeAppendAnswer (unnumbered_answer answer)
unnumbered_move move = move

pub twice_move : (move : Move) → unnumbered_move (unnumbered_move move) ≡ unnumbered_move move
twice_move TimeOut = refl
twice_move (TakeVoteRequest request granted) = refl
twice_move (TakeVoteAnswer answer) = refl
twice_move (TakeAppendRequest request verdict) = refl
twice_move (TakeAppendAnswer answer) = refl
twice_move (ProposeEntry entry) = refl
twice_move (CommitTo index) = refl
twice_move TellPair = refl
twice_move TellNothing = refl
twice_move (CallForVote peer) = refl
twice_move (CallToAppend peer previous with_entry) = refl
twice_move (AnswerAgain place) = refl
twice_move (GiveUp peer) = refl

-- ---- memory

-- the calls, with one of them changed
at_same : (pending : ℕ → Option Request) (place peer : ℕ) (x y : Option Request) (here : Bool) → unnumbered_call x ≡ unnumbered_call y
    → unnumbered_call (if here then x else pending peer) ≡ unnumbered_call (if here then y else unnumbered_call (pending peer))
at_same pending place peer x y true e = e
at_same pending place peer x y false e = sym (twice_call (pending peer))

abbrev with_pending : Memory → (ℕ → Option Request) → Memory
with_pending memory pending = record memory { pending = pending }

-- whatever else of the memory changed
call_same : (memory : Memory) (pending : ℕ → Option Request) (place : ℕ) (x y : Option Request) → unnumbered_call x ≡ unnumbered_call y
    → unmarked_memory (with_pending memory (at pending place x)) ≡ unmarked_memory (with_pending memory (at (λ peer. unnumbered_call (pending peer)) place y))
call_same memory pending place x y e = λ i. with_pending memory (λ peer. at_same pending place peer x y (peer == place) e i)

pending_same : (memory : Memory) (pending : ℕ → Option Request)
    → unmarked_memory (with_pending memory pending) ≡ unmarked_memory (with_pending memory (λ peer. unnumbered_call (pending peer)))
pending_same memory pending = sym (twice_memory (with_pending memory pending))

either_same : (b : Bool) (x y v w : Memory) → unmarked_memory x ≡ unmarked_memory v → unmarked_memory y ≡ unmarked_memory w
    → unmarked_memory (if b then x else y) ≡ unmarked_memory (if b then v else w)
either_same true x y v w e f = e
either_same false x y v w e f = f

ended_same : (memory : Memory) (peer : ℕ) → unmarked_memory (memory_without_call memory peer) ≡ unmarked_memory (memory_without_call (unmarked_memory memory) peer)
ended_same memory peer = call_same memory memory.pending peer None None refl

memory_same : (members : List ℕ) (me s r : ℕ) (p : RaftServer) (move : Move)
    → unmarked_memory (memory_after members me s p move) ≡ unmarked_memory (memory_after members me r (unmarked_raft_server p) (unnumbered_move move))
memory_same members me s r p TimeOut = either_same (has_quorum members (own_vote me)) _ _ _ _ refl refl
memory_same members me s r p (TakeVoteRequest request granted) =
    either_same (nat_lt p.store.term request.term) _ p.memory _ _ (pending_same (record p.memory { role = Follower }) p.memory.pending) (pending_same p.memory p.memory.pending)
memory_same members me s r p (TakeVoteAnswer answer) =
    either_same (nat_lt p.store.term answer.term) _ _ _ _ (call_same (record p.memory { role = Follower }) p.memory.pending answer.from None None refl)
    (either_same (counts p answer) _ _ _ _
    (either_same (has_quorum members (votes_with p.memory answer)) _ _ _ _ refl (call_same (record p.memory { votes = votes_with p.memory answer }) p.memory.pending answer.from None None refl))
    (ended_same p.memory answer.from))
memory_same members me s r p (TakeAppendRequest request Outdated) = pending_same p.memory p.memory.pending
memory_same members me s r p (TakeAppendRequest request Refused) = pending_same (record p.memory { role = Follower }) p.memory.pending
memory_same members me s r p (TakeAppendRequest request Held) = pending_same (record p.memory { role = Follower }) p.memory.pending
memory_same members me s r p (TakeAppendRequest request (Added entry)) = pending_same (record p.memory { role = Follower }) p.memory.pending
memory_same members me s r p (TakeAppendAnswer answer) =
    either_same (nat_lt p.store.term answer.term) _ _ _ _ (call_same (record p.memory { role = Follower }) p.memory.pending answer.from None None refl)
    (either_same (acknowledges p answer) _ _ _ _ (call_same (matched_memory p.memory answer) p.memory.pending answer.from None None refl) (ended_same p.memory answer.from))
memory_same members me s r p (ProposeEntry entry) = pending_same p.memory p.memory.pending
memory_same members me s r p (CommitTo index) = pending_same p.memory p.memory.pending
memory_same members me s r p TellPair = pending_same (memory_after members me s p TellPair) p.memory.pending
memory_same members me s r p TellNothing = pending_same (memory_after members me s p TellNothing) p.memory.pending
memory_same members me s r p (CallForVote peer) = call_same p.memory p.memory.pending peer (Some (vote_request me s p.store peer)) (Some (vote_request me r p.store peer)) refl
memory_same members me s r p (CallToAppend peer previous with_entry) =
    call_same p.memory p.memory.pending peer (Some (append_request me s p.store peer previous with_entry)) (Some (append_request me r p.store peer previous with_entry)) refl
memory_same members me s r p (AnswerAgain place) = pending_same p.memory p.memory.pending
memory_same members me s r p (GiveUp peer) = ended_same p.memory peer

-- ---- puts, times and origins: they do not look at pending calls

puts_same : (members : List ℕ) (me : ℕ) (p : RaftServer) (move : Move) → puts members me p move ≡ puts members me (unmarked_raft_server p) (unnumbered_move move)
puts_same members me p TimeOut = refl
puts_same members me p (TakeVoteRequest request true) = refl
puts_same members me p (TakeVoteRequest request false) = refl
puts_same members me p (TakeVoteAnswer answer) = refl
puts_same members me p (TakeAppendRequest request Outdated) = refl
puts_same members me p (TakeAppendRequest request Refused) = refl
puts_same members me p (TakeAppendRequest request Held) = refl
puts_same members me p (TakeAppendRequest request (Added entry)) = refl
puts_same members me p (TakeAppendAnswer answer) = refl
puts_same members me p (ProposeEntry entry) = refl
puts_same members me p (CommitTo index) = refl
puts_same members me p TellPair = refl
puts_same members me p TellNothing = refl
puts_same members me p (CallForVote peer) = refl
puts_same members me p (CallToAppend peer previous with_entry) = refl
puts_same members me p (AnswerAgain place) = refl
puts_same members me p (GiveUp peer) = refl

times_same : (members : List ℕ) (me : ℕ) (given : HandedIn) (p : RaftServer) (move : Move) (times : Times)
    → times_after members me given p move times ≡ times_after members me given (unmarked_raft_server p) (unnumbered_move move) times
times_same members me given p TimeOut times = refl
times_same members me given p (TakeVoteRequest request granted) times = refl
times_same members me given p (TakeVoteAnswer answer) times = refl
times_same members me given p (TakeAppendRequest request Outdated) times = refl
times_same members me given p (TakeAppendRequest request Refused) times = refl
times_same members me given p (TakeAppendRequest request Held) times = refl
times_same members me given p (TakeAppendRequest request (Added entry)) times = refl
times_same members me given p (TakeAppendAnswer answer) times = refl
times_same members me given p (ProposeEntry entry) times = refl
times_same members me given p (CommitTo index) times = refl
times_same members me given p TellPair times = refl
times_same members me given p TellNothing times = refl
times_same members me given p (CallForVote peer) times = refl
times_same members me given p (CallToAppend peer previous with_entry) times = refl
times_same members me given p (AnswerAgain place) times = refl
times_same members me given p (GiveUp peer) times = refl

origin_same : (given : HandedIn) (move : Move) → origin_of given move ≡ origin_of given (unnumbered_move move)
origin_same given TimeOut = refl
origin_same given (TakeVoteRequest request granted) = refl
origin_same given (TakeVoteAnswer answer) = refl
origin_same given (TakeAppendRequest request verdict) = refl
origin_same given (TakeAppendAnswer answer) = refl
origin_same given (ProposeEntry entry) = refl
origin_same given (CommitTo index) = refl
origin_same given TellPair = refl
origin_same given TellNothing = refl
origin_same given (CallForVote peer) = refl
origin_same given (CallToAppend peer previous with_entry) = refl
origin_same given (AnswerAgain place) = refl
origin_same given (GiveUp peer) = refl

-- ---- a move, and all moves, of servers that differ in their calls' numbers alone

after_same : (members : List ℕ) (me s r : ℕ) (p : RaftServer) (move : Move)
    → unmarked_raft_server (server_after members me s p move) ≡ unmarked_raft_server (server_after members me r (unmarked_raft_server p) (unnumbered_move move))
after_same members me s r p move = λ i. record { store = put_all p.store (puts_same members me p move i); memory = memory_same members me s r p move i }

module _ (members : List ℕ) (me s r : ℕ) (given : HandedIn) where
  after_moves : (p q : RaftServer) (move : Move) → unmarked_raft_server p ≡ unmarked_raft_server q
      → unmarked_raft_server (server_after members me s p move) ≡ unmarked_raft_server (server_after members me r q (unnumbered_move move))
  after_moves p q move e =
      after_same members me s r p move
      ∙ ap (λ (x : RaftServer). unmarked_raft_server (server_after members me r x (unnumbered_move move))) e
      ∙ ap (λ (m : Move). unmarked_raft_server (server_after members me r (unmarked_raft_server q) m)) (sym (twice_move move))
      ∙ sym (after_same members me r r q (unnumbered_move move))

  puts_of : (p q : RaftServer) (move : Move) → unmarked_raft_server p ≡ unmarked_raft_server q → puts members me p move ≡ puts members me q (unnumbered_move move)
  puts_of p q move e =
      puts_same members me p move
      ∙ ap (λ (x : RaftServer). puts members me x (unnumbered_move move)) e
      ∙ ap (λ (m : Move). puts members me (unmarked_raft_server q) m) (sym (twice_move move))
      ∙ sym (puts_same members me q (unnumbered_move move))

  times_of : (p q : RaftServer) (move : Move) (times : Times) → unmarked_raft_server p ≡ unmarked_raft_server q
      → times_after members me given p move times ≡ times_after members me given q (unnumbered_move move) times
  times_of p q move times e =
      times_same members me given p move times
      ∙ ap (λ (x : RaftServer). times_after members me given x (unnumbered_move move) times) e
      ∙ ap (λ (m : Move). times_after members me given (unmarked_raft_server q) m times) (sym (twice_move move))
      ∙ sym (times_same members me given q (unnumbered_move move) times)

  pub plains_same : (moves : List Move) (p q : RaftServer) → unmarked_raft_server p ≡ unmarked_raft_server q
      → unmarked_raft_server (server_after_all members me s p moves) ≡ unmarked_raft_server (server_after_all members me r q (map unnumbered_move moves))
  plains_same [] p q e = e
  plains_same (move ∷ moves) p q e = plains_same moves (server_after members me s p move) (server_after members me r q (unnumbered_move move)) (after_moves p q move e)

  pub all_times_same : (moves : List Move) (p q : RaftServer) (times : Times) → unmarked_raft_server p ≡ unmarked_raft_server q
      → times_after_all members me s given p moves times ≡ times_after_all members me r given q (map unnumbered_move moves) times
  all_times_same [] p q times e = refl
  all_times_same (move ∷ moves) p q times e =
      all_times_same moves (server_after members me s p move) (server_after members me r q (unnumbered_move move)) (times_after members me given p move times) (after_moves p q move e)
      ∙ ap (λ (x : Times). times_after_all members me r given (server_after members me r q (unnumbered_move move)) (map unnumbered_move moves) x) (times_of p q move times e)

  pub all_puts_same : (moves : List Move) (p q : RaftServer) → unmarked_raft_server p ≡ unmarked_raft_server q
      → puts_with_origins members me s given p moves ≡ puts_with_origins members me r given q (map unnumbered_move moves)
  all_puts_same [] p q e = refl
  all_puts_same (move ∷ moves) p q e =
      λ i. with_origin (origin_same given move i) (puts_of p q move e i)
      ++ all_puts_same moves (server_after members me s p move) (server_after members me r q (unnumbered_move move)) (after_moves p q move e) i

-- ---- a leader's blank behind a move

-- nor does it look at pending calls whether it is the moment for one
pub blank_same : (members : List ℕ) (me s r : ℕ) (times : Times) (p : RaftServer) (move other : Move) → unnumbered_move move ≡ unnumbered_move other
    → map unnumbered_move (with_blank members me s times p (move ∷ [])) ≡ map unnumbered_move (with_blank members me r times (unmarked_raft_server p) (other ∷ []))
blank_same members me s r times p move other e =
    λ i. e i ∷ map unnumbered_move (blank_behind (is_moment members me times p (after i)) (after i))
  where
    after : unmarked_raft_server (server_after members me s p move) ≡ unmarked_raft_server (server_after members me r (unmarked_raft_server p) other)
    after = after_same members me s r p move ∙ ap (λ (m : Move). unmarked_raft_server (server_after members me r (unmarked_raft_server p) m)) e
        ∙ ap (λ (x : RaftServer). unmarked_raft_server (server_after members me r x (unnumbered_move other))) (sym (twice_raft_server p))
        ∙ sym (after_same members me r r (unmarked_raft_server p) other)
