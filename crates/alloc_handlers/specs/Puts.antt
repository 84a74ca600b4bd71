-- Puts of a step that are made by several calls.
use Rattle.std.specs.Prelude.{◌++◌, [], List, Option, None, Some}
use Rattle.disk_model.specs.declared.disk.Disk.{Ghosts}
use Rattle.kv_store.specs.declared.fault.Fault.{Fault}
use Rattle.raft_log.specs.declared.durable.Durable.{Durable}
use Rattle.raft_core.specs.StoredPuts.{CallWrites, CallFaultIsSticky, PutWithOrigin}

-- the puts of a call go on those before it; where one failed, later ones are not made
pub record PutsGoOn (D : Type 0) (disk : Ghosts D) : Type 0 where
  pub nothing : (durable : Durable D disk) → CallWrites [] durable durable None
  pub joined : (xs ys : List PutWithOrigin) (old mid new : Durable D disk) (failed : Option Fault) →
      CallWrites xs old mid None → CallWrites ys mid new failed → CallWrites (xs ++ ys) old new failed
  pub cut_off : (xs ys : List PutWithOrigin) (old new : Durable D disk) (fault : Fault) →
      CallWrites xs old new (Some fault) → CallWrites (xs ++ ys) old new (Some fault)
  pub faults : (old mid new : Durable D disk) (failed : Option Fault) → CallFaultIsSticky old mid None →
      CallFaultIsSticky mid new failed → CallFaultIsSticky old new failed
