-- The stored state and its puts, in the words of the Raft model and in those of `raft_log`.
use Rattle.std.specs.Prelude.{◌≡◌, ◌≤◌, ⊤, ℕ, zero, suc, List, [], ◌∷◌, ◌++◌, take, Option, Some, None, IfSome, is_none}
use Rattle.disk_model.specs.declared.disk.Disk.{Ghosts}
use Rattle.kv_store.specs.declared.fault.Fault.{Fault}
use Rattle.raft_log.specs.declared.durable.Durable.{Durable}
use Rattle.raft_log.specs.Calls.{FaultIsSticky, WritesInOrder}
use Rattle.raft_log.specs.DurableViews.{durable_disk, durable_fault, durable_state}
use Rattle.raft_log.specs.Stored.{Stored, after_put, Put as StoredPut}
use Rattle.raft_model.specs.Moves.{Move}
use Rattle.raft_model.specs.Moves.Move.{TakeVoteRequest}
use Rattle.raft_model.specs.Server.{Put, Store}
use Rattle.raft_model.specs.Server.Put.{PutTerm, PutVote, PutEntry, PutLonger, PutShorter, PutCommit}

-- a vote of 0 is none
abbrev pub vote_of : ℕ → Option ℕ
vote_of zero = None
vote_of (suc n) = Some (suc n)

abbrev pub number_of_vote : Option ℕ → ℕ
number_of_vote None = 0
number_of_vote (Some node) = node

abbrev pub store_of : Stored → Store
store_of state = record { term = state.term; vote = vote_of state.vote; log = state.log; commit = state.commit }

-- a put of the Raft model, which knows no origins, and beside it the origin of the entry that it puts; a put of no
-- entry uses none
pub record PutWithOrigin : Type 0 where
  pub put : Put
  pub origin : ℕ

-- puts of one origin
abbrev pub with_origin : ℕ → List Put → List PutWithOrigin
with_origin origin [] = []
with_origin origin (put ∷ puts) = record { put = put; origin = origin } ∷ with_origin origin puts

-- the puts alone
abbrev pub puts_alone : List PutWithOrigin → List Put
puts_alone [] = []
puts_alone (first ∷ rest) = first.put ∷ puts_alone rest

-- a put of the Raft model as it is made of a stored state, with this origin of its entry: a log that is longer, or
-- shorter, is put by its last
abbrev pub put_from : ℕ → Put → Stored → StoredPut
put_from origin (PutTerm term) state = StoredPut.PutTerm term
put_from origin (PutVote vote) state = StoredPut.PutVote (number_of_vote vote)
put_from origin (PutEntry entry) state = StoredPut.PutEntry entry origin
put_from origin (PutLonger entry) state =
    StoredPut.PutLast (state.log ++ (entry ∷ [])) (state.origins ++ (Some origin ∷ []))
put_from origin (PutShorter count) state = StoredPut.PutLast (take count state.log) (take count state.origins)
put_from origin (PutCommit index) state = StoredPut.PutCommit index

abbrev pub stored_put : PutWithOrigin → Stored → StoredPut
stored_put first state = put_from first.origin first.put state

abbrev pub stored_puts : List PutWithOrigin → Stored → List StoredPut
stored_puts [] state = []
stored_puts (first ∷ rest) state =
    stored_put first state ∷ stored_puts rest (after_put (stored_put first state) state)

-- a put of a vote is for none, or for a node, whose ID is not 0: then what is stored says the same as the Raft model
abbrev pub VotesForNode : Put → Type 0
VotesForNode (PutTerm term) = ⊤
VotesForNode (PutVote None) = ⊤
VotesForNode (PutVote (Some node)) = 1 ≤ node
VotesForNode (PutEntry entry) = ⊤
VotesForNode (PutLonger entry) = ⊤
VotesForNode (PutShorter count) = ⊤
VotesForNode (PutCommit index) = ⊤

abbrev pub VoteForNodes : List Put → Type 0
VoteForNodes [] = ⊤
VoteForNodes (put ∷ puts) = VotesForNode put × VoteForNodes puts

-- a vote request is of a node
abbrev pub IsOfNode : Move → Type 0
IsOfNode (TakeVoteRequest request granted) = 1 ≤ request.from
IsOfNode move = ⊤

abbrev pub AreOfNodes : List Move → Type 0
AreOfNodes [] = ⊤
AreOfNodes (move ∷ moves) = IsOfNode move × AreOfNodes moves

-- of a store that had failed before: nothing changed
pub record IsStill {D : Type 0} {ghosts : Ghosts D} (old new : Durable D ghosts) : Type 0 where
  pub disk : durable_disk new ≡ durable_disk old
  pub state : durable_state new ≡ durable_state old
  pub fault : durable_fault new ≡ durable_fault old

-- what a call that ended with this fault, or with none, tells of faults: of a store that had none before, what
-- `raft_log` says of its calls; and of one that had one, nothing changed
pub record CallFaultIsSticky {D : Type 0} {disk : Ghosts D} (old new : Durable D disk) (failed : Option Fault)
    : Type 0 where
  pub works : durable_fault old ≡ None → FaultIsSticky old new failed
  pub still : (fault : Fault) → durable_fault old ≡ Some fault → IsStill old new
  pub kept : IfSome failed (λ fault. durable_fault new ≡ Some fault)

-- these puts of the Raft model are made in order, each with its origin, up to the first that fails, whose fault is
-- answered; so without a put none is
pub record CallWrites {D : Type 0} {disk : Ghosts D} (puts : List PutWithOrigin) (old new : Durable D disk)
    (failed : Option Fault) : Type 0 where
  pub made : WritesInOrder (stored_puts puts (durable_state old)) old new (is_none failed)
  pub needed : puts ≡ [] → failed ≡ None
  pub faults : CallFaultIsSticky old new failed
