-- What the members of a cluster have stored and committed, and what they offer to the bus.
use Rattle.std.specs.Prelude.{◌≡◌, ◌≢◌, ◌⊎◌, ℕ, ◌<◌, Bool, List, ◌++◌, Some}
use Rattle.can_frame.specs.declared.entry.Entry.{Entry}
use Rattle.can_frame.specs.declared.identifier.Ident.{Ident}
use Rattle.can_frame.specs.declared.identifier.Kind.TheVariants.{Message}
use Rattle.can_frame.specs.declared.step.What.TheVariants.{Alloc}
use Rattle.can_frame.specs.Identifier.{identifier_of}
use Rattle.can_frame.specs.Log.{HasPair}
use Rattle.dsdl_codec.specs.Allocation.{allocation_of}
use Rattle.dsdl_codec.specs.declared.allocation.Allocation.{Allocation}
use Rattle.kv_store.specs.KeyDisk.{KeyDisk}
use Rattle.raft_core.specs.StoredPuts.{store_of}
use Rattle.raft_log.specs.Stored.{Stored}
use Rattle.raft_model.specs.Lists.{In}
use Rattle.raft_model.specs.Server as raft
use Rattle.raft_model.specs.Server.{Store}
use Rattle.transfer_tx.specs.Queue.{Queued, queued_frames}
use Rattle.alloc_spec.specs.Transfers.{SentTransfer, frames_of, outgoing}
use Rattle.bus_spec.specs.Cluster.{Cluster}
use Rattle.bus_spec.specs.Members.{MemberStatus, stored_after}
use Rattle.bus_spec.specs.Members.MemberStatus.{Down, Up, Failed}
use Rattle.bus_spec.specs.Choices.{chosen_store}

-- What a member has stored, running or stopped: what its disk stands for. After a failed step a known number of puts
-- took effect; whether the next one did is unknown until a stop, and the choice fixes it.
abbrev pub stored_on : (ℕ → Bool) → MemberStatus → KeyDisk Stored → Store
stored_on choice Down disk = store_of disk.store
stored_on choice (Up server) disk = store_of disk.store
stored_on choice (Failed failure) disk = chosen_store choice failure

abbrev pub stored : (ℕ → Bool) → Cluster → ℕ → Store
stored choice w n = stored_on choice (w.member n).status (w.member n).disk

abbrev pub committed : (ℕ → Bool) → Cluster → ℕ → List Entry
committed choice w n = raft.committed (stored choice w n)

-- What a stop now would find on a member's disk: what is stored; of a failed step what is stored after the puts that
-- are done for sure, or after one more.
abbrev pub IsFound : MemberStatus → KeyDisk Stored → Store → Type 0
IsFound Down disk found = found ≡ store_of disk.store
IsFound (Up server) disk found = found ≡ store_of disk.store
IsFound (Failed failure) disk found = (found ≡ stored_after failure 0) ⊎ (found ≡ stored_after failure 1)

-- ---- what waits for the bus

-- the frames of an Allocation from node n wait in a queue, one after another, as a step put them there
pub record IsOffered (queue : List Queued) (n : ℕ) (answer : Allocation) : Type 0 where
  pub payload : List ℕ
  pub reads : allocation_of payload ≡ Some answer
  pub id : ℕ
  pub small : id < 32
  pub step : ℕ
  pub re : ℕ
  pub front : List Queued
  pub back : List Queued
  pub waits : queue ≡ front ++ (queued_frames (outgoing n Alloc 0 id payload) step re ++ back)

-- ---- what is on the bus

-- the frame is one of an Allocation, message 1, by its identifier, and of node n
pub record IsOfAllocation (frame : Queued) (n : ℕ) : Type 0 where
  pub ident : Ident
  pub read : identifier_of frame.id ≡ Some ident
  pub kind : ident.kind ≡ Message
  pub number : ident.number ≡ 1
  pub source : ident.source ≡ n

-- The frame is one of those into which an Allocation is cut that member n made in a step; and where this Allocation
-- gives a node ID, that is with its unique ID a pair of the list.
pub record IsGivenFrom (list : List Entry) (made : List SentTransfer) (frame : Queued) (n : ℕ) : Type 0 where
  pub whose : SentTransfer
  pub was_made : In whose made
  pub by : whose.by ≡ n
  pub what : whose.offer.what ≡ Alloc
  pub one : In frame (frames_of whose)
  pub pair : (answer : Allocation) → allocation_of whose.offer.payload ≡ Some answer → answer.node ≢ 0
      → HasPair list answer.uid.items answer.node
