-- What an Allocation gives, and a pair as an entry of a list.
use Rattle.std.specs.Prelude.{◌≡◌, ◌≢◌, ℕ, ◌<◌, ◌≤◌, List, length, Some, slice_index_or}
use Rattle.can_frame.specs.declared.entry.Entry.{Entry}
use Rattle.can_frame.specs.declared.step.What.{What}
use Rattle.can_frame.specs.declared.step.What.TheVariants.{Alloc}
use Rattle.can_frame.specs.Log.{blank}
use Rattle.can_frame.specs.Zeros.{zeros}
use Rattle.dsdl_codec.specs.Allocation.{allocation_of}
use Rattle.dsdl_codec.specs.declared.allocation.Allocation.{Allocation}
use Rattle.alloc_spec.specs.Transfers.{GivenPair}

-- the payload of a transfer reads as an Allocation with a node ID, and with the bytes of a unique ID, however many
pub record Gives (what : What) (payload : List ℕ) (given : GivenPair) : Type 0 where
  pub kind : what ≡ Alloc
  pub answer : Allocation
  pub reads : allocation_of payload ≡ Some answer
  pub some : 1 ≤ answer.node
  pub is : given ≡ (answer.uid.items, answer.node)

-- the pair is that of an entry of the list, and its unique ID some device's
pub record IsGivenIn (list : List Entry) (given : GivenPair) : Type 0 where
  pub place : ℕ
  pub inside : place < length list
  pub uid : (slice_index_or list place (blank 0)).uid ≡ given.0
  pub node : (slice_index_or list place (blank 0)).node ≡ given.1
  pub device : given.0 ≢ zeros
