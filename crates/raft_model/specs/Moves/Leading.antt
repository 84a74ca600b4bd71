-- A leader's entries and its commit, and what a server says: calls, answers to them, and answers to devices.
use Rattle.std.specs.Prelude.{◌≡◌, ◌≢◌, ℕ, ◌<◌, ◌≤◌, Bool, true, false, List, [], ◌∷◌, ◌++◌, length, ◌==◌}
use Rattle.std.specs.Prelude.{slice_index_or, Option, Some, None, nat_le, nat_lt, if◌then◌else◌}
use Rattle.raft_model.specs.Lists.{In, at, how_many}
use Rattle.can_frame.specs.declared.entry.Entry.{Entry}
use Rattle.can_frame.specs.Log.{IsInjective, IsWellFormed, blank, last_term, log_limit}
use Rattle.raft_model.specs.Log.{term_at}
use Rattle.raft_model.specs.Messages.{Request, Answer, Pair}
use Rattle.raft_model.specs.Server.{Store, Memory, RaftServer, quorum}
use Rattle.raft_model.specs.Server.Role.{Leader}

-- a blank, a pair or a reservation of its term, for which there is room and which keeps the log injective
pub record MayPropose (server : RaftServer) (entry : Entry) : Type 0 where
  pub leads : server.memory.role ≡ Leader
  pub room : length server.store.log < log_limit
  pub own_term : entry.term ≡ server.store.term
  pub kind : IsWellFormed entry
  pub injective : IsInjective (server.store.log ++ (entry ∷ []))

-- the leader itself, and each peer whose matched index is as high
abbrev pub has_matched : ℕ → RaftServer → ℕ → ℕ → Bool
has_matched member server index peer = if peer == member then true else nat_le index (server.memory.matched peer)

-- an entry of its own term above commit, which a quorum has matched, the leader included
pub record CanCommit (members : List ℕ) (member : ℕ) (server : RaftServer) (index : ℕ) : Type 0 where
  pub above : server.store.commit < index
  pub inside : index ≤ length server.store.log
  pub own_term : term_at server.store.log index ≡ server.store.term
  pub held : quorum members ≤ how_many (has_matched member server index) members

-- the greatest index that can be committed
pub record IsCommitIndex (members : List ℕ) (member : ℕ) (server : RaftServer) (index : ℕ) : Type 0 where
  pub can : CanCommit members member server index
  pub greatest : (place : ℕ) → CanCommit members member server place → place ≤ index

-- Calls and answers to devices.

abbrev pub vote_request : ℕ → ℕ → Store → ℕ → Request
vote_request member step store peer = record {
  step = step;
  from = member;
  to = peer;
  append = false;
  term = store.term;
  previous = length store.log;
  previous_term = last_term store.log;
  commit = 0;
  entry = None;
}

-- the entry at the place after the previous index, where one is wanted and there
abbrev pub entry_after : List Entry → ℕ → Bool → Option Entry
entry_after log previous with_entry =
    if with_entry then (if nat_lt previous (length log) then Some (slice_index_or log previous (blank 0)) else None)
    else None

abbrev pub append_request : ℕ → ℕ → Store → ℕ → ℕ → Bool → Request
append_request member step store peer previous with_entry = record {
  step = step;
  from = member;
  to = peer;
  append = true;
  term = store.term;
  previous = previous;
  previous_term = term_at store.log previous;
  commit = store.commit;
  entry = entry_after store.log previous with_entry;
}

abbrev pub answer_to : ℕ → ℕ → Store → Request → Bool → Answer
answer_to member step store request success = record
    { step = step; from = member; request = request; term = store.term; success = success }

-- the pair of the entry that has so many before it
abbrev pub pair_at : ℕ → ℕ → Store → ℕ → Pair
pair_at member step store place = record {
  step = step;
  from = member;
  uid = (slice_index_or store.log place (blank 0)).uid;
  node = (slice_index_or store.log place (blank 0)).node;
}

-- the request is the pending call to the peer
abbrev pub memory_with_call : Memory → ℕ → Request → Memory
memory_with_call memory peer request = record memory { pending = at memory.pending peer (Some request) }

-- no call is pending to this other member, and none was made to it before in this step
pub record MayCall (members : List ℕ) (member : ℕ) (called : List ℕ) (server : RaftServer) (peer : ℕ) : Type 0 where
  pub other : peer ≢ member
  pub listed : In peer members
  pub free : server.memory.pending peer ≡ None
  pub first : In peer called → ⊥
