-- One plain server: what it has stored, what it has in memory, and the puts that change what is stored.
use Rattle.std.specs.Prelude.{◌≡◌, ⊤, ℕ, ◌/◌, ◌+◌, Bool, false, true, List, [], ◌∷◌, ◌++◌, length, take, Option, None}
use Rattle.std.specs.Prelude.{Some}
use Rattle.can_frame.specs.declared.entry.Entry.{Entry}
use Rattle.raft_model.specs.Messages.{Request}

pub data Role : Type 0 where
  Follower : Role
  Candidate : Role
  Leader : Role

-- what a stop keeps
pub record Store : Type 0 where
  pub term : ℕ
  pub vote : Option ℕ
  pub log : List Entry
  pub commit : ℕ

-- what a stop loses; `told` is the last index that a leader announced (Raft's lastApplied); per peer a next index, a
-- matched index and the pending call
pub record Memory : Type 0 where
  pub up : Bool
  pub role : Role
  pub told : ℕ
  pub votes : ℕ → Bool
  pub next : ℕ → ℕ
  pub matched : ℕ → ℕ
  pub pending : ℕ → Option Request

pub record RaftServer : Type 0 where
  pub store : Store
  pub memory : Memory

-- the entries that this server has committed
abbrev pub committed : Store → List Entry
committed store = take store.commit store.log

-- so many members are a quorum
abbrev pub quorum : List ℕ → ℕ
quorum members = length members / 2 + 1

-- one durable change
pub data Put : Type 0 where
  PutTerm : (term : ℕ) → Put
  PutVote : (vote : Option ℕ) → Put
  PutEntry : (entry : Entry) → Put  -- the entry past the last, which the log has not until last is put
  PutLonger : (entry : Entry) → Put  -- last, now one more: the entry just written is in the log
  PutShorter : (place : ℕ) → Put  -- last, now this place
  PutCommit : (place : ℕ) → Put

-- what is stored after a put
abbrev pub put : Store → Put → Store
put store (PutTerm term) = record store { term = term }
put store (PutVote vote) = record store { vote = vote }
put store (PutEntry entry) = store
put store (PutLonger entry) = record store { log = store.log ++ (entry ∷ []) }
put store (PutShorter place) = record store { log = take place store.log }
put store (PutCommit place) = record store { commit = place }

-- what is stored after these puts, in this order
abbrev pub put_all : Store → List Put → Store
put_all store [] = store
put_all store (first ∷ rest) = put_all (put store first) rest

-- `PutLonger entry` comes only directly after `PutEntry entry`
abbrev pub AreWritten : Option Entry → List Put → Type 0
AreWritten written [] = ⊤
AreWritten written (PutEntry entry ∷ rest) = AreWritten (Some entry) rest
AreWritten written (PutLonger entry ∷ rest) = (written ≡ Some entry) × AreWritten None rest
AreWritten written (PutTerm term ∷ rest) = AreWritten None rest
AreWritten written (PutVote vote ∷ rest) = AreWritten None rest
AreWritten written (PutShorter place ∷ rest) = AreWritten None rest
AreWritten written (PutCommit place ∷ rest) = AreWritten None rest

-- an empty store
abbrev pub empty_store : Store
empty_store = record { term = 0; vote = None; log = []; commit = 0 }

-- memory as it is from a stop to the next opening
abbrev pub memory_when_down : Memory
memory_when_down = record {
  up = false;
  role = Role.Follower;
  told = 0;
  votes = λ peer. false;
  next = λ peer. 0;
  matched = λ peer. 0;
  pending = λ peer. None;
}

-- memory after opening: Follower, nothing announced, no votes counted, no calls
abbrev pub memory_when_opened : Memory
memory_when_opened = record memory_when_down { up = true }
