-- What the moves of an election change: a higher term, standing and winning, votes.
use Rattle.std.specs.Prelude.{◌≡◌, ℕ, ◌+◌, Bool, true, false, List, [], ◌∷◌, length, ◌==◌, ◌&&◌, ◌⊎◌, Option, Some}
use Rattle.std.specs.Prelude.{None, nat_le, nat_lt, if◌then◌else◌}
use Rattle.raft_model.specs.Lists.{at, how_many}
use Rattle.can_frame.specs.Log.{last_term}
use Rattle.raft_model.specs.Log.{NotAbove}
use Rattle.raft_model.specs.Messages.{Request, Answer}
use Rattle.raft_model.specs.Server.{Role, Store, Memory, RaftServer, quorum, Put, put_all}
use Rattle.raft_model.specs.Server.Role.{Follower, Candidate, Leader}
use Rattle.raft_model.specs.Server.Put.{PutTerm, PutVote}
use Rattle.raft_model.specs.History.{History, with_vote_kept, with_leader}

-- no term is above it
abbrev pub term_limit : ℕ
term_limit = 4294967295

abbrev pub is_candidate : Role → Bool
is_candidate Follower = false
is_candidate Candidate = true
is_candidate Leader = false

abbrev pub is_leader : Role → Bool
is_leader Follower = false
is_leader Candidate = false
is_leader Leader = true

-- A higher term: that term, vote none; role Follower.

abbrev pub term_puts : Store → ℕ → List Put
term_puts store term = if nat_lt store.term term then PutTerm term ∷ PutVote None ∷ [] else []

abbrev pub with_term : Store → ℕ → Store
with_term store term = put_all store (term_puts store term)

abbrev pub term_memory : RaftServer → ℕ → Memory
term_memory server term =
    if nat_lt server.store.term term then record server.memory { role = Follower } else server.memory

-- Standing and winning.

-- these votes are a quorum
abbrev pub has_quorum : List ℕ → (ℕ → Bool) → Bool
has_quorum members votes = nat_le (quorum members) (how_many votes members)

-- term plus 1, vote none, vote itself
abbrev pub stand_puts : ℕ → Store → List Put
stand_puts member store = PutTerm (store.term + 1) ∷ PutVote None ∷ PutVote (Some member) ∷ []

-- the votes of a candidate that has its own vote alone
abbrev pub own_vote : ℕ → ℕ → Bool
own_vote member peer = peer == member

abbrev pub stand_memory : ℕ → Memory → Memory
stand_memory member memory = record memory { role = Candidate; votes = own_vote member; pending = λ peer. None }

abbrev pub win_memory : Store → Memory → Memory
win_memory store memory = record memory {
  role = Leader;
  told = store.commit;
  next = λ peer. length store.log + 1;
  matched = λ peer. 0;
  pending = λ peer. None;
}

-- Votes.

-- a vote is granted exactly where the terms are equal, the vote is none or the sender, and the sender's log is not
-- behind
pub record MayGrant (store : Store) (request : Request) : Type 0 where
  pub own_term : request.term ≡ store.term
  pub free : (store.vote ≡ None) ⊎ (store.vote ≡ Some request.from)
  pub not_above : NotAbove (last_term store.log) (length store.log) request.previous_term request.previous

abbrev pub IsGranted : Store → Request → Bool → Type 0
IsGranted store request true = MayGrant store request
IsGranted store request false = MayGrant store request → ⊥

-- a first grant is stored, a repeated one has no put
abbrev pub vote_puts : Option ℕ → ℕ → List Put
vote_puts None candidate = PutVote (Some candidate) ∷ []
vote_puts (Some earlier) candidate = []

abbrev pub grant_puts : Store → Request → Bool → List Put
grant_puts store request true = vote_puts store.vote request.from
grant_puts store request false = []

-- a repeated grant is kept when its move is done
abbrev pub vote_history : ℕ → Store → Request → Option ℕ → History → History
vote_history member store request None history = history
vote_history member store request (Some earlier) history =
    with_vote_kept history member request.from request.term store.log

abbrev pub grant_history : ℕ → Store → Request → Bool → History → History
grant_history member store request true history = vote_history member store request store.vote history
grant_history member store request false history = history

-- a grant counts for a Candidate of this term
abbrev pub counts : RaftServer → Answer → Bool
counts server answer = is_candidate server.memory.role && ((answer.term == server.store.term) && answer.success)

abbrev pub votes_with : Memory → Answer → ℕ → Bool
votes_with memory answer = at memory.votes answer.from true

-- the call that an answer answers ends
abbrev pub memory_without_call : Memory → ℕ → Memory
memory_without_call memory peer = record memory { pending = at memory.pending peer None }

-- an answer with a higher term makes a Follower
abbrev pub stepped_down : Memory → ℕ → Memory
stepped_down memory peer = record (memory_without_call memory peer) { role = Follower }

-- a grant is counted, and a quorum wins
abbrev pub with_vote : Memory → Answer → Memory
with_vote memory answer = record (memory_without_call memory answer.from) { votes = votes_with memory answer }

abbrev pub counting_memory : List ℕ → RaftServer → Answer → Memory
counting_memory members server answer =
    if has_quorum members (votes_with server.memory answer)
    then win_memory server.store (with_vote server.memory answer) else with_vote server.memory answer

abbrev pub counting_history : List ℕ → ℕ → RaftServer → Answer → History → History
counting_history members member server answer history =
    if has_quorum members (votes_with server.memory answer)
    then with_leader history member server.store.term server.store.log else history
