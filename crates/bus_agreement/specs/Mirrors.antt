-- What the headline asks of the run of the Raft model that a world shows.
use Rattle.std.specs.Prelude.{◌≡◌, ◌≢◌, ℕ, Bool, List, Some}
use Rattle.can_frame.specs.declared.entry.Entry.{Entry}
use Rattle.can_frame.specs.declared.step.What.TheVariants.{Alloc}
use Rattle.dsdl_codec.specs.Allocation.{allocation_of}
use Rattle.dsdl_codec.specs.declared.allocation.Allocation.{Allocation}
use Rattle.kv_store.specs.KeyDisk.{restarted_on}
use Rattle.outside.specs.declared.pattern.Pattern.{Pattern}
use Rattle.raft_core.specs.StoredPuts.{store_of}
use Rattle.raft_model.specs.Lists.{In}
use Rattle.raft_model.specs.Messages.{Message}
use Rattle.raft_model.specs.Messages.Message.{Pairs}
use Rattle.raft_model.specs.Runs as raft
use Rattle.alloc_spec.specs.AllocatorState.{AllocatorState}
use Rattle.alloc_spec.specs.Transfers.{SentTransfer, frames_of}
use Rattle.transfer_tx.specs.Queue.{Queued}
use Rattle.bus_spec.specs.Cluster.{Cluster}
use Rattle.bus_spec.specs.Members.MemberStatus.{Up}
use Rattle.bus_spec.specs.Logs.{IsFound, IsOfAllocation, IsOffered, stored}
use Rattle.bus_agreement.specs.Said.{IsProper}

-- an allocation that waits in a queue, and gives a node ID, is an answer in the bag of the run, from this member
abbrev pub OffersAreMade : Cluster → raft.World → Type 0
OffersAreMade w run = (n : ℕ) (server : AllocatorState) (answer : Allocation) → In n w.ids →
    (w.member n).status ≡ Up server
    → IsOffered server.queue n answer → answer.node ≢ 0
    → (step : ℕ)
    × In (Pairs (record { step = step; from = n; uid = answer.uid.items; node = answer.node })) run.bag

-- the frame is of an Allocation that member n made, and a node ID that this one gives is an answer in the bag
pub record IsMadeBy (made : List SentTransfer) (bag : List Message) (frame : Queued) (n : ℕ) : Type 0 where
  pub whose : SentTransfer
  pub was_made : In whose made
  pub by : whose.by ≡ n
  pub what : whose.offer.what ≡ Alloc
  pub one : In frame (frames_of whose)
  pub said : (answer : Allocation) → allocation_of whose.offer.payload ≡ Some answer → answer.node ≢ 0
      → In (Pairs (record { step = whose.step; from = n; uid = answer.uid.items; node = answer.node })) bag

-- each frame on the bus that is an Allocation's by its identifier is a member's
abbrev pub BusIsMade : List SentTransfer → Cluster → raft.World → Type 0
BusIsMade made w run = (frame : Queued) (n : ℕ) → In frame w.frames → IsOfAllocation frame n
    → In n w.ids × IsMadeBy made run.bag frame n

pub record Mirrors (choice : ℕ → Bool) (w : Cluster) (run : raft.World) : Type 0 where
  -- each member has stored what its server in the run has
  pub stored : (n : ℕ) → In n w.ids → (run.server n).store ≡ stored choice w n
  -- a member that runs is its server in the run
  pub serves : (n : ℕ) (server : AllocatorState) → In n w.ids → (w.member n).status ≡ Up server →
      run.server n ≡ server.raft_server
  -- a stop would find what is stored, or what a choice may say of a failed step
  pub found : (n : ℕ) (pattern : Pattern) → In n w.ids →
      IsFound (w.member n).status (w.member n).disk (store_of (restarted_on pattern (w.member n).disk).store)
  -- each entry of a log has bytes, and no member's node ID
  pub entries : (n : ℕ) (entry : Entry) → In entry (run.server n).store.log → IsProper w.ids entry
  pub offers : OffersAreMade w run
