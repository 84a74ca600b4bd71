-- What is said in a run stays writable where a member opens or stops: nothing is posted, and one server changes at most.
use Rattle.std.proofs.Common.{ℕ, List, [], sym, subst, inl, inr}
use Rattle.std.proofs.lemmas.Bool.Decides.{eqb_tells}
use Rattle.raft_model.specs.Lists.{at, at_here, at_other}
use Rattle.raft_model.specs.Runs.{World, after}
use Rattle.raft_model.specs.Runs.Event.{Opens, Stops}
use Rattle.raft_model.specs.Server.{RaftServer, memory_when_down, memory_when_opened}
use Rattle.bus_agreement.specs.Said.{IsRunWritable, IsStoreWritable}

-- all that is stored, with another server at one place
pub stores_with : (ids : List ℕ) (server : ℕ → RaftServer) (n : ℕ) (raft_server : RaftServer) → ((m : ℕ) → IsStoreWritable ids (server m).store)
    → IsStoreWritable ids raft_server.store → (m : ℕ) → IsStoreWritable ids (at server n raft_server m).store
stores_with ids server n raft_server each here m = elim (eqb_tells m n) [
  | inl same ↦ subst (λ (p : RaftServer). IsStoreWritable ids p.store) (sym (at_here server n m raft_server same.1)) here
  | inr apart ↦ subst (λ (p : RaftServer). IsStoreWritable ids p.store) (sym (at_other server n m raft_server apart.1)) (each m)
]

-- an opening keeps what is stored
pub opened_written : (ids : List ℕ) (run : World) (n : ℕ) → IsRunWritable ids run → IsRunWritable ids (after run (Opens n))
opened_written ids run n is = record {
  stores = stores_with ids run.server n (record { store = (run.server n).store; memory = memory_when_opened }) is.stores (is.stores n);
  bag = is.bag;
}

-- so does a stop between two steps
pub stopped_written : (ids : List ℕ) (run : World) (n number : ℕ) → IsRunWritable ids run → IsRunWritable ids (after run (Stops n number []))
stopped_written ids run n number is = record {
  stores = stores_with ids run.server n (record { store = (run.server n).store; memory = memory_when_down }) is.stores (is.stores n);
  bag = is.bag;
}
