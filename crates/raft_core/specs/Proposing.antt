-- How a proposal, or a reservation, ends.
use Rattle.std.specs.Prelude.{◌≡◌, ◌≢◌, ◌↔◌, ⊤, ℕ, List, [], ◌∷◌, Result, Ok, Err}
use Rattle.std.specs.Result.{result_err}
use Rattle.can_frame.specs.declared.entry.Entry.{Entry}
use Rattle.disk_model.specs.declared.disk.Disk.{Ghosts}
use Rattle.kv_store.specs.declared.fault.Fault.{Fault}
use Rattle.outside.specs.Faults.{Rose}
use Rattle.raft_log.specs.declared.durable.Durable.{Durable}
use Rattle.raft_log.specs.DurableViews.{durable_disk, durable_state}
use Rattle.raft_model.specs.Moves.Leading.{MayPropose}
use Rattle.raft_model.specs.Moves.Move.{ProposeEntry}
use Rattle.raft_model.specs.Server.{RaftServer, Put}
use Rattle.raft_model.specs.Server.Put.{PutEntry, PutLonger}
use Rattle.raft_core.specs.declared.propose.Proposed.{Proposed}
use Rattle.raft_core.specs.declared.propose.Proposed.TheVariants.{Added, NotLeader, LogFull, Taken}
use Rattle.raft_core.specs.declared.raft.Raft.{Raft}
use Rattle.raft_core.specs.Handled.{MakesMoves}
use Rattle.raft_core.specs.RaftViews.{raft_me, raft_role}
use Rattle.raft_core.specs.Stands.{StandsFor, role_of}
use Rattle.raft_core.specs.StoredPuts.{CallWrites, IsStill, CallFaultIsSticky, with_origin, store_of}
use Rattle.raft_core.specs.Taken.{proposal}
use Rattle.raft_core.specs.Times.{HandedIn, Times}

-- no rule refuses the entry: it is appended, or the store fails
abbrev pub IsTried : Result Proposed Fault → Type 0
IsTried (Ok Added) = ⊤
IsTried (Ok NotLeader) = ⊥
IsTried (Ok LogFull) = ⊥
IsTried (Ok Taken) = ⊥
IsTried (Err fault) = ⊤

-- an entry that is appended
abbrev pub entry_puts : Entry → List Put
entry_puts entry = PutEntry entry ∷ PutLonger entry ∷ []

-- a leader is to append the entry of its term with this unique ID and this node ID, and to store it with this origin
pub record Appends {D : Type 0} {disk : Ghosts D} (raft : Raft) (uid : List ℕ) (node origin : ℕ)
    (old new : Durable D disk) (result : Result Proposed Fault) : Type 0 where
  -- it is tried exactly where the Raft model may propose it
  pub tried : (server : RaftServer) → server.store ≡ store_of (durable_state old) →
      server.memory.role ≡ role_of (raft_role raft) →
      IsTried result ↔ MayPropose server (proposal server.store.term uid node)
  -- and then its puts are made
  pub puts : IsTried result →
      CallWrites (with_origin origin (entry_puts (proposal (durable_state old).term uid node)))
      old new (result_err result)
  pub moves : (members : List ℕ) (step : ℕ) (server : RaftServer) (times : Times) →
      StandsFor raft members (durable_state old) server times →
      (given : HandedIn) → given.origin ≡ origin →
      let entry = proposal server.store.term uid node in MayPropose server entry →
      MakesMoves members (raft_me raft) step given (ProposeEntry entry ∷ []) server times old new raft
      (result_err result)
  -- else nothing changes
  pub refused : (IsTried result → ⊥) → new ≡ old
  pub unchanged : result ≢ Ok Added →
      (Rose (disk.faults (durable_disk old)) (disk.faults (durable_disk new)) → ⊥) → IsStill old new
  pub faults : CallFaultIsSticky old new (result_err result)
