-- Devices, beside the headline. Whatever frames are delivered, lost or repeated, whatever clocks read and wherever
-- inside store writes allocators stop: the node ID that a device has is the one that the headline's list has for its
-- unique ID, from then on. So two devices with different unique IDs never have the same node ID, at one moment or at
-- two; and devices with one unique ID never have two node IDs.
--
-- A device has a node ID if it is an allocatee of the rows and holds it; or if it is any other device, with whatever
-- receiver and timers, that takes a node ID by the standard's rule alone: from an Allocation with a source, its whole
-- unique ID and a node ID other than 0, which it put together from all frames of one transfer.
--
-- A schedule is cut at any two places, as for the headline: "now" is after any row, or before all of them, and "later"
-- is now or after any row from then on. What is held now need not be held later: the allocatee may have left.
use Rattle.std.specs.Prelude.{◌≡◌, ◌⊎◌, ℕ, ◌<◌, ◌≤◌, Bool, List, ◌++◌, Some}
use Rattle.allocatee.specs.Allocatee.{Device}
use Rattle.can_frame.specs.declared.step.What.TheVariants.{Alloc}
use Rattle.can_frame.specs.Log.{HasPair}
use Rattle.dsdl_codec.specs.Allocation.{allocation_of}
use Rattle.dsdl_codec.specs.declared.allocation.Allocation.{Allocation}
use Rattle.raft_model.specs.Lists.{In}
use Rattle.bus_rows.specs.declared.row.Row.{Row}
use Rattle.transfer_tx.specs.Queue.{Queued, queued_frames}
use Rattle.alloc_spec.specs.Transfers.{outgoing}
use Rattle.bus_spec.specs.Cluster.{Cluster, cluster, world_of}
use Rattle.bus_spec.specs.Choices.{AgreesWithDisk}
use Rattle.bus_spec.specs.Logs.{IsOfAllocation}
use Rattle.bus_agreement.specs.Headline.{the_list}

-- at place a there is an allocatee with this unique ID, and it holds this node ID
pub record Holds (w : Cluster) (a : ℕ) (uid : List ℕ) (node : ℕ) : Type 0 where
  pub device : Device
  pub there : w.allocatee a ≡ Some device
  pub its_uid : device.asking.uid ≡ uid
  pub its_node : device.asking.holds ≡ Some node

-- All frames of one Allocation were on the bus, whose identifiers read as one of a source; it has this whole unique ID
-- and this node ID, which is not 0. A transfer is not torn: its frames were made together, in one step
pub record IsGivenOnBus (w : Cluster) (uid : List ℕ) (node : ℕ) : Type 0 where
  pub source : ℕ
  pub payload : List ℕ
  pub answer : Allocation
  pub reads : allocation_of payload ≡ Some answer
  pub its_uid : answer.uid.items ≡ uid
  pub its_node : answer.node ≡ node
  pub some : 1 ≤ node
  pub id : ℕ
  pub small : id < 32
  pub step : ℕ
  pub re : ℕ
  pub there : (frame : Queued) → In frame (queued_frames (outgoing source Alloc 0 id payload) step re)
      → In frame w.frames × IsOfAllocation frame source

-- a device with this unique ID has this node ID, or may have taken it by the standard's rule
abbrev pub MayHave : Cluster → List ℕ → ℕ → Type 0
MayHave w uid node = ((a : ℕ) × Holds w a uid node) ⊎ IsGivenOnBus w uid node

pub record Allocatees (choice : ℕ → Bool) (now later : Cluster) : Type 0 where
  -- what one has now is a pair of the list later (and now, where later is now)
  pub held : (uid : List ℕ) (node : ℕ) → MayHave now uid node → HasPair (the_list choice later) uid node
  -- whoever has a node ID now and whoever has it later have the same unique ID
  pub apart : (uid other : List ℕ) (node : ℕ) → MayHave now uid node → MayHave later other node → uid ≡ other
  -- whoever has a unique ID now and whoever has it later have the same node ID, if each has one
  pub same : (uid : List ℕ) (node other : ℕ) → MayHave now uid node → MayHave later uid other → node ≡ other

-- Of a list of rows: from each of its moments to each later one, for every choice that fits the rows up to the later
-- one. That there is such a choice is said by `HasHeadline`.
abbrev pub HasAllocatees : List ℕ → List Row → Type 0
HasAllocatees ids rows = (first more rest : List Row) (choice : ℕ → Bool) → rows ≡ first ++ (more ++ rest)
    → AgreesWithDisk choice (cluster ids) (first ++ more)
    → Allocatees choice (world_of ids first) (world_of ids (first ++ more))
