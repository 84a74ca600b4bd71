-- What holds of the allocatees of a world, of the frames of its bus, and of the transfers that its members made.
use Rattle.std.specs.Prelude.{◌≡◌, ℕ, ◌≤◌, List, Some, All}
use Rattle.allocatee.specs.Accepted as device
use Rattle.allocatee.specs.Allocatee.{Device}
use Rattle.allocatee.specs.Given.{IsAnonymous}
use Rattle.can_frame.specs.declared.step.What.TheVariants.{Alloc}
use Rattle.dsdl_codec.specs.declared.allocation.Allocation.{Allocation}
use Rattle.dsdl_codec.specs.Allocation.{allocation_of}
use Rattle.raft_model.specs.Lists.{In}
use Rattle.transfer_tx.specs.Queue.{Queued}
use Rattle.alloc_spec.specs.Transfers.{SentTransfer}
use Rattle.bus_agreement.specs.Frames.{AreHeard}

-- a member made an Allocation that gives the node ID to the device with this unique ID
pub record IsGiven (made : List SentTransfer) (uid : List ℕ) (node : ℕ) : Type 0 where
  pub whose : SentTransfer
  pub was_made : In whose made
  pub what : whose.offer.what ≡ Alloc
  pub answer : Allocation
  pub reads : allocation_of whose.offer.payload ≡ Some answer
  pub own : answer.uid.items ≡ uid
  pub gives : answer.node ≡ node
  pub some : 1 ≤ node

-- what waits in its queue is anonymous, its sessions keep frames of the bus, and the node ID that it holds was given
pub record IsAsking (made : List SentTransfer) (frames : List Queued) (x : Device) : Type 0 where
  pub queue : All IsAnonymous x.asking.queue
  pub heard : AreHeard frames device.setting x.sessions
  pub held : (node : ℕ) → x.asking.holds ≡ Some node → IsGiven made x.asking.uid node
