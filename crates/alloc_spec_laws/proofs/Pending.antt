-- What moves make of the pending calls, and of what is kept with each.
use Rattle.std.proofs.Common.{◌≡◌, ℕ, Bool, true, false, List, [], ◌∷◌, ◌⊎◌, inl, inr, refl, ◌∙◌, ap, Option, None}
use Rattle.std.specs.Prelude.{◌==◌, ◌&&◌, nat_lt, if◌then◌else◌}
use Rattle.raft_core.specs.Times.{HandedIn, Sending, Times, begin_wait, end_call, end_vote_call, raise, stand, step_down, times_after, times_after_all, win}
use Rattle.raft_model.specs.Handlers.{calls_of_all, server_after, server_after_all}
use Rattle.raft_model.specs.Lists.{In, at}
use Rattle.raft_model.specs.Messages.{Answer, Request}
use Rattle.raft_model.specs.Moves.{Move, memory_after}
use Rattle.raft_model.specs.Moves.Appending.{acknowledges, matched_memory}
use Rattle.raft_model.specs.Moves.Appending.Verdict.{Added, Held, Outdated, Refused}
use Rattle.raft_model.specs.Moves.Elections.{votes_with, counts, memory_without_call, has_quorum, own_vote, stand_memory, stepped_down, win_memory, with_vote}
use Rattle.raft_model.specs.Moves.Move.{AnswerAgain, CallForVote, CallToAppend, CommitTo, GiveUp, ProposeEntry, TakeAppendAnswer, TakeAppendRequest, TakeVoteAnswer, TakeVoteRequest, TellNothing, TellPair, TimeOut}
use Rattle.raft_model.specs.Server.{Memory, RaftServer, Role}
use Rattle.raft_model.specs.Server.Role.{Candidate, Follower, Leader}
use Rattle.alloc_spec_laws.proofs.Choices.{either, tell}
use Rattle.alloc_spec_laws.proofs.Lists.{in_back, in_front}

-- the call to a peer stays with what is kept of it, or both are gone
pub record Stays (peer : ℕ) (memory later : Memory) (times later_times : Times) : Type 0 where
  pub pending : later.pending peer ≡ memory.pending peer
  pub sending : later_times.sending peer ≡ times.sending peer

pub record Ends (peer : ℕ) (later : Memory) (later_times : Times) : Type 0 where
  pub pending : later.pending peer ≡ None
  pub sending : later_times.sending peer ≡ None

abbrev pub StaysOrEnds : ℕ → Memory → Memory → Times → Times → Type 0
StaysOrEnds peer memory later times later_times = Stays peer memory later times later_times ⊎ Ends peer later later_times

-- the call to one node ends
gone : {A : Type 0} (values : ℕ → Option A) (place other : ℕ) → (other == place) ≡ true → at values place None other ≡ None
gone {A} values place other e = ap (λ (b : Bool). if b then None else values other) e

left : {A : Type 0} (values : ℕ → Option A) (place other : ℕ) → (other == place) ≡ false → at values place None other ≡ values other
left {A} values place other e = ap (λ (b : Bool). if b then None else values other) e

ended_one : (peer node : ℕ) (memory later : Memory) (times later_times : Times) → later.pending ≡ at memory.pending node None
    → later_times.sending ≡ at times.sending node None → StaysOrEnds peer memory later times later_times
ended_one peer node memory later times later_times p s = elim (tell (peer == node)) [
  | inl b ↦ inr (record {
    pending = ap (λ (f : ℕ → Option Request). f peer) p ∙ gone memory.pending node peer b;
    sending = ap (λ (f : ℕ → Option Sending). f peer) s ∙ gone times.sending node peer b;
  })
  | inr b ↦ inl (record {
    pending = ap (λ (f : ℕ → Option Request). f peer) p ∙ left memory.pending node peer b;
    sending = ap (λ (f : ℕ → Option Sending). f peer) s ∙ left times.sending node peer b;
  })
]

-- ---- one move

down_sends : (now : ℕ) (role : Role) (times : Times) → (step_down now role times).sending ≡ times.sending
down_sends now Follower times = refl
down_sends now Candidate times = refl
down_sends now Leader times = refl

raised_sends : (now term : ℕ) (server : RaftServer) (times : Times) → (raise now term server times).sending ≡ times.sending
raised_sends now term server times =
    either (λ (ts : Times). ts.sending ≡ times.sending) (nat_lt server.store.term term) (step_down now server.memory.role times) times
    (λ e. down_sends now server.memory.role times) (λ e. refl)

module _ (peer : ℕ) where
  -- neither is touched
  untouched : (memory later : Memory) (times later_times : Times) → later.pending ≡ memory.pending → later_times.sending ≡ times.sending
      → StaysOrEnds peer memory later times later_times
  untouched memory later times later_times p s =
      inl (record { pending = ap (λ (f : ℕ → Option Request). f peer) p; sending = ap (λ (f : ℕ → Option Sending). f peer) s })

  stood : (members : List ℕ) (me : ℕ) (given : HandedIn) (server : RaftServer) (times : Times) (q : Bool)
      → StaysOrEnds peer server.memory (if q then win_memory server.store (stand_memory me server.memory) else stand_memory me server.memory) times
      (if q then win (stand given times) else stand given times)
  stood members me given server times true = inr (record { pending = refl; sending = refl })
  stood members me given server times false = inr (record { pending = refl; sending = refl })

  asked_vote : (given : HandedIn) (server : RaftServer) (times : Times) (request : Request) (granted : Bool) (higher : Bool)
      → StaysOrEnds peer server.memory (if higher then record server.memory { role = Follower } else server.memory) times
      (if granted then begin_wait given.now times else raise given.now request.term server times)
  asked_vote given server times request true true = untouched _ _ _ _ refl refl
  asked_vote given server times request true false = untouched _ _ _ _ refl refl
  asked_vote given server times request false true = untouched _ _ _ _ refl (raised_sends given.now request.term server times)
  asked_vote given server times request false false = untouched _ _ _ _ refl (raised_sends given.now request.term server times)

  vote_answered : (given : HandedIn) (server : RaftServer) (times : Times) (answer : Answer) (higher counted_one won : Bool)
      → StaysOrEnds peer server.memory
      (if higher then stepped_down server.memory answer.from
      else (if counted_one then (if won then win_memory server.store (with_vote server.memory answer) else with_vote server.memory answer)
      else memory_without_call server.memory answer.from)) times
      (if higher then step_down given.now server.memory.role (end_vote_call answer.from times)
      else (if counted_one && won then win (end_vote_call answer.from times) else end_vote_call answer.from times))
  vote_answered given server times answer true c q = ended_one peer answer.from _ _ times _ refl (down_sends given.now server.memory.role _)
  vote_answered given server times answer false true true = inr (record { pending = refl; sending = refl })
  vote_answered given server times answer false true false = ended_one peer answer.from _ _ times _ refl refl
  vote_answered given server times answer false false q = ended_one peer answer.from _ _ times _ refl refl

  append_answered : (given : HandedIn) (server : RaftServer) (times : Times) (answer : Answer) (higher counted_one : Bool)
      → StaysOrEnds peer server.memory
      (if higher then stepped_down server.memory answer.from
      else (if counted_one then matched_memory server.memory answer else memory_without_call server.memory answer.from)) times
      (raise given.now answer.term server (end_call answer.from times))
  append_answered given server times answer true c = ended_one peer answer.from _ _ times _ refl (raised_sends given.now answer.term server _)
  append_answered given server times answer false true = ended_one peer answer.from _ _ times _ refl (raised_sends given.now answer.term server _)
  append_answered given server times answer false false = ended_one peer answer.from _ _ times _ refl (raised_sends given.now answer.term server _)

  -- a move that calls nobody keeps the call to a peer, or ends it
  after_move : (members : List ℕ) (me step : ℕ) (given : HandedIn) (server : RaftServer) (move : Move) (times : Times)
      → ((node : ℕ) → In node (calls_of_all (move ∷ [])) → ⊥)
      → StaysOrEnds peer server.memory (memory_after members me step server move) times (times_after members me given server move times)
  after_move members me step given server TimeOut times free = stood members me given server times (has_quorum members (own_vote me))
  after_move members me step given server (TakeVoteRequest request granted) times free =
      asked_vote given server times request granted (nat_lt server.store.term request.term)
  after_move members me step given server (TakeVoteAnswer answer) times free =
      vote_answered given server times answer (nat_lt server.store.term answer.term) (counts server answer) (has_quorum members (votes_with server.memory answer))
  after_move members me step given server (TakeAppendRequest request Outdated) times free = untouched _ _ _ _ refl refl
  after_move members me step given server (TakeAppendRequest request Refused) times free = untouched _ _ _ _ refl refl
  after_move members me step given server (TakeAppendRequest request Held) times free = untouched _ _ _ _ refl refl
  after_move members me step given server (TakeAppendRequest request (Added entry)) times free = untouched _ _ _ _ refl refl
  after_move members me step given server (TakeAppendAnswer answer) times free =
      append_answered given server times answer (nat_lt server.store.term answer.term) (acknowledges server answer)
  after_move members me step given server (ProposeEntry entry) times free = untouched _ _ _ _ refl refl
  after_move members me step given server (CommitTo index) times free = untouched _ _ _ _ refl refl
  after_move members me step given server TellPair times free = untouched _ _ _ _ refl refl
  after_move members me step given server TellNothing times free = untouched _ _ _ _ refl refl
  after_move members me step given server (CallForVote node) times free = absurd (free node (inl refl))
  after_move members me step given server (CallToAppend node previous with_entry) times free = absurd (free node (inl refl))
  after_move members me step given server (AnswerAgain place) times free = untouched _ _ _ _ refl refl
  after_move members me step given server (GiveUp node) times free = ended_one peer node _ _ times _ refl refl

  -- ---- moves in order

  and_then : (a b c : Memory) (ta tb tc : Times) → StaysOrEnds peer a b ta tb → StaysOrEnds peer b c tb tc → StaysOrEnds peer a c ta tc
  and_then a b c ta tb tc (inl x) (inl y) = inl (record { pending = y.pending ∙ x.pending; sending = y.sending ∙ x.sending })
  and_then a b c ta tb tc (inr x) (inl y) = inr (record { pending = y.pending ∙ x.pending; sending = y.sending ∙ x.sending })
  and_then a b c ta tb tc x (inr y) = inr y

  pub after_moves : (members : List ℕ) (me step : ℕ) (given : HandedIn) (moves : List Move) (server : RaftServer) (times : Times)
      → ((node : ℕ) → In node (calls_of_all moves) → ⊥)
      → StaysOrEnds peer server.memory (server_after_all members me step server moves).memory times
      (times_after_all members me step given server moves times)
  after_moves members me step given [] server times free = inl (record { pending = refl; sending = refl })
  after_moves members me step given (move ∷ moves) server times free =
      and_then _ _ _ _ _ _
      (after_move members me step given server move times (λ node i. free node (in_back node (calls_of_all moves) (calls_of_all (move ∷ [])) i)))
      (after_moves members me step given moves (server_after members me step server move) (times_after members me given server move times)
      (λ node i. free node (in_front node (calls_of_all moves) _ i)))
