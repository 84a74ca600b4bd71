-- The moves of a server, row by row: when a move is enabled, its puts in order, its effect on memory and history, and
-- the messages that it offers. What a row says is defined in `Elections`, `Appending` and `Leading`, below this module.
-- `member` is the node ID of the server, `step` the number of its step, `server` what it has before the move.
pub mod Elections
pub mod Appending
pub mod Leading
pub use Elections.*
pub use Appending.*
pub use Leading.*
use Rattle.std.specs.Prelude.{⊤, ◌≡◌, ◌≢◌, ◌⊎◌, ℕ, ◌+◌, ◌-◌, ◌<◌, ◌≤◌, Bool, true, false, List, [], ◌∷◌, ◌++◌, length}
use Rattle.std.specs.Prelude.{slice_index_or, Some, nat_lt, if◌then◌else◌}
use Rattle.raft_model.specs.Lists.{In}
use Rattle.can_frame.specs.declared.entry.Entry.{Entry}
use Rattle.can_frame.specs.Log.{blank}
use Rattle.can_frame.specs.Zeros.{zeros}
use Rattle.raft_model.specs.Messages.{Request, Answer, Message}
use Rattle.raft_model.specs.Messages.Message.{Requests, Answers, Pairs}
use Rattle.raft_model.specs.Server.{Store, Memory, RaftServer, Put, put, put_all}
use Rattle.raft_model.specs.Server.Role.{Candidate, Leader}
use Rattle.raft_model.specs.Server.Put.{PutVote, PutEntry, PutLonger, PutCommit}
use Rattle.raft_model.specs.History.{History, with_vote_kept, with_candidacy, with_leader, with_longer_list}

pub data Move : Type 0 where
  TimeOut : Move
  TakeVoteRequest : (request : Request) (granted : Bool) → Move
  TakeVoteAnswer : (answer : Answer) → Move
  TakeAppendRequest : (request : Request) (verdict : Verdict) → Move
  TakeAppendAnswer : (answer : Answer) → Move
  ProposeEntry : (entry : Entry) → Move
  CommitTo : (index : ℕ) → Move
  TellPair : Move
  TellNothing : Move
  CallForVote : (peer : ℕ) → Move
  CallToAppend : (peer previous : ℕ) (with_entry : Bool) → Move
  AnswerAgain : (place : ℕ) → Move
  GiveUp : (peer : ℕ) → Move

-- the entry that a leader tells next
abbrev pub next_entry : RaftServer → Entry
next_entry server = slice_index_or server.store.log server.memory.told (blank 0)

-- An answer that counts for nothing, since it refuses, or its term is below the server's own; and some answer of its
-- term and its verdict was said, by whichever server and to whichever request. So the model has an answer to an earlier
-- call that is taken for the answer to the pending one.
pub record IsLate (bag : List Message) (store : Store) (answer : Answer) : Type 0 where
  pub said : Answer
  pub was_said : In (Answers said) bag
  pub term : said.term ≡ answer.term
  pub success : said.success ≡ answer.success
  pub for_nothing : (answer.success ≡ false) ⊎ (answer.term < store.term)

-- the answer was said, or is late
abbrev pub IsHeard : List Message → Store → Answer → Type 0
IsHeard bag store answer = In (Answers answer) bag ⊎ IsLate bag store answer

module _ (members : List ℕ) (member : ℕ) (bag : List Message) (called : List ℕ) (server : RaftServer) where
  -- when a move is enabled at a server that is up
  abbrev pub IsEnabled : Move → Type 0
  IsEnabled TimeOut = (server.memory.role ≢ Leader) × (server.store.term < term_limit)
  IsEnabled (TakeVoteRequest request granted) = In (Requests request) bag × (request.to ≡ member)
      × (request.append ≡ false) × IsGranted (with_term server.store request.term) request granted
  IsEnabled (TakeVoteAnswer answer) = IsHeard bag server.store answer × (answer.request.from ≡ member)
      × (answer.request.append ≡ false) × (server.memory.pending answer.from ≡ Some answer.request)
  IsEnabled (TakeAppendRequest request verdict) = In (Requests request) bag × (request.to ≡ member)
      × (request.append ≡ true) × IsJudged server request verdict
  IsEnabled (TakeAppendAnswer answer) = IsHeard bag server.store answer × (answer.request.from ≡ member)
      × (answer.request.append ≡ true) × (server.memory.pending answer.from ≡ Some answer.request)
  IsEnabled (ProposeEntry entry) = MayPropose server entry
  IsEnabled (CommitTo index) = (server.memory.role ≡ Leader) × IsCommitIndex members member server index
  IsEnabled TellPair = (server.memory.role ≡ Leader) × (server.memory.told < server.store.commit)
      × ((next_entry server).uid ≢ zeros)
  IsEnabled TellNothing = (server.memory.role ≡ Leader) × (server.memory.told < server.store.commit)
      × ((next_entry server).uid ≡ zeros)
  IsEnabled (CallForVote peer) = (server.memory.role ≡ Candidate) × MayCall members member called server peer
  IsEnabled (CallToAppend peer previous with_entry) = (server.memory.role ≡ Leader)
      × (previous ≤ length server.store.log) × MayCall members member called server peer
  IsEnabled (AnswerAgain place) = (place < server.store.commit)
      × ((slice_index_or server.store.log place (blank 0)).uid ≢ zeros)
  IsEnabled (GiveUp peer) = ⊤

module _ (members : List ℕ) (member : ℕ) (server : RaftServer) where
  -- the puts of a move, in order; the other moves have none
  abbrev pub puts : Move → List Put
  puts TimeOut = stand_puts member server.store
  puts (TakeVoteRequest request granted) = term_puts server.store request.term
      ++ grant_puts (with_term server.store request.term) request granted
  puts (TakeVoteAnswer answer) = term_puts server.store answer.term
  puts (TakeAppendRequest request verdict) = term_puts server.store request.term
      ++ append_puts (with_term server.store request.term) request verdict
  puts (TakeAppendAnswer answer) = term_puts server.store answer.term
  puts (ProposeEntry entry) = PutEntry entry ∷ PutLonger entry ∷ []
  puts (CommitTo index) = PutCommit index ∷ []
  puts move = []

module _ (members : List ℕ) (member step : ℕ) (server : RaftServer) where
  -- memory after a move; the other moves leave it
  abbrev pub memory_after : Move → Memory
  memory_after TimeOut =
      if has_quorum members (own_vote member) then win_memory server.store (stand_memory member server.memory)
      else stand_memory member server.memory
  memory_after (TakeVoteRequest request granted) = term_memory server request.term
  memory_after (TakeVoteAnswer answer) =
      if nat_lt server.store.term answer.term then stepped_down server.memory answer.from
      else (if counts server answer then counting_memory members server answer
      else memory_without_call server.memory answer.from)
  memory_after (TakeAppendRequest request verdict) = append_memory server request verdict
  memory_after (TakeAppendAnswer answer) =
      if nat_lt server.store.term answer.term then stepped_down server.memory answer.from
      else (if acknowledges server answer then matched_memory server.memory answer
      else memory_without_call server.memory answer.from)
  memory_after TellPair = record server.memory { told = server.memory.told + 1 }
  memory_after TellNothing = record server.memory { told = server.memory.told + 1 }
  memory_after (CallForVote peer) =
      memory_with_call server.memory peer (vote_request member step server.store peer)
  memory_after (CallToAppend peer previous with_entry) =
      memory_with_call server.memory peer (append_request member step server.store peer previous with_entry)
  memory_after (GiveUp peer) = memory_without_call server.memory peer
  memory_after move = server.memory

module _ (member step : ℕ) (server : RaftServer) where
  -- the messages that a move offers
  abbrev pub offers : Move → List Message
  offers (TakeVoteRequest request granted) =
      Answers (answer_to member step (with_term server.store request.term) request granted) ∷ []
  offers (TakeAppendRequest request verdict) =
      Answers (answer_to member step (with_term server.store request.term) request (is_accepted verdict)) ∷ []
  offers TellPair = Pairs (pair_at member step server.store server.memory.told) ∷ []
  offers (CallForVote peer) = Requests (vote_request member step server.store peer) ∷ []
  offers (CallToAppend peer previous with_entry) =
      Requests (append_request member step server.store peer previous with_entry) ∷ []
  offers (AnswerAgain place) = Pairs (pair_at member step server.store place) ∷ []
  offers move = []

-- the peers that a move calls
abbrev pub calls : Move → List ℕ
calls (CallForVote peer) = peer ∷ []
calls (CallToAppend peer previous with_entry) = peer ∷ []
calls move = []

-- what the model remembers as soon as a put of it is done, where `store` is what was stored before it:
-- a candidacy and a granted vote with the put of that vote, a leader's entry with the put of last
abbrev pub put_history : ℕ → Move → Store → Put → History → History
put_history member TimeOut store (PutVote (Some candidate)) history = with_candidacy history member store.term store.log
put_history member (TakeVoteRequest request granted) store (PutVote (Some candidate)) history =
    with_vote_kept history member request.from request.term store.log
put_history member (ProposeEntry entry) store (PutLonger added) history = with_longer_list history store.term added
put_history member move store change history = history

abbrev pub puts_history : ℕ → Move → Store → List Put → History → History
puts_history member move store [] history = history
puts_history member move store (first ∷ rest) history = puts_history member move (put store first) rest
    (put_history member move store first history)

module _ (members : List ℕ) (member : ℕ) (server : RaftServer) where
  -- what the model remembers besides when the move is done: a win, and a vote granted again
  abbrev pub move_history : Move → History → History
  move_history TimeOut history =
      if has_quorum members (own_vote member)
      then with_leader history member (server.store.term + 1) server.store.log
      else history
  move_history (TakeVoteRequest request granted) history =
      grant_history member (with_term server.store request.term) request granted history
  move_history (TakeVoteAnswer answer) history =
      if nat_lt server.store.term answer.term then history
      else (if counts server answer then counting_history members member server answer history else history)
  move_history move history = history
