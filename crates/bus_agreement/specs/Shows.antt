-- What holds between the world of a list of rows, the transfers that its members made, and the run of the Raft model
-- that it shows.
use Rattle.std.specs.Prelude.{◌≡◌, ◌≢◌, ℕ, ◌<◌, ◌≤◌, ◌^◌, Bool, true, List, length, Some, None}
use Rattle.can_frame.specs.declared.step.What.TheVariants.{Alloc, Disc}
use Rattle.dsdl_codec.specs.declared.allocation.Allocation.{Allocation}
use Rattle.dsdl_codec.specs.declared.discovery.Discovery.{Discovery}
use Rattle.dsdl_codec.specs.Allocation.{allocation_of}
use Rattle.dsdl_codec.specs.Discovery.{discovery_of}
use Rattle.kv_store.specs.KeyDisk.{Unsynced, KeyDisk, restarted_on}
use Rattle.outside.specs.declared.pattern.Pattern.{Pattern}
use Rattle.raft_core.specs.StoredPuts.{store_of}
use Rattle.raft_log.specs.KeyDisk.{found_by}
use Rattle.raft_log.specs.Stored.{Stored}
use Rattle.raft_model.specs.Lists.{In}
use Rattle.raft_model.specs.Messages.{Message}
use Rattle.raft_model.specs.Runs as raft
use Rattle.raft_model.specs.Server.{memory_when_down}
use Rattle.transfer_tx.specs.Queue.{Queued}
use Rattle.allocatee.specs.Allocatee.{Device}
use Rattle.alloc_spec_laws.specs.Coming.{KeepsOrder}
use Rattle.alloc_spec_laws.specs.Proposals.{HasUids}
use Rattle.alloc_spec_laws.specs.Sound.{IsSound}
use Rattle.alloc_spec.specs.Accepted.{setting_for}
use Rattle.alloc_spec.specs.AllocatorState.{AllocatorState, members_of}
use Rattle.alloc_spec.specs.Transfers.{SentTransfer}
use Rattle.bus_spec.specs.Cluster.{Cluster}
use Rattle.bus_spec.specs.Members.{Failure, MemberStatus, stored_after}
use Rattle.bus_spec.specs.Members.MemberStatus.{Down, Up, Failed}
use Rattle.bus_spec.specs.Choices.{chosen_store}
use Rattle.bus_agreement.specs.Asking.{IsAsking}
use Rattle.bus_agreement.specs.Frames.{AreHeard, AreTransfers, IsOnBus, IsPiece}
use Rattle.bus_agreement.specs.Said.{AreAnswered, AreCalled, AreSaid, AreWritable}

-- ---- members

-- what a server that runs is in the run
pub record IsInRun (ids : List ℕ) (run : raft.World) (m : ℕ) (server : AllocatorState)
    (disk : KeyDisk Stored) : Type 0 where
  pub me : server.me ≡ m
  pub size : server.size ≡ length ids
  pub raft_server : run.server m ≡ server.raft_server
  pub up : server.raft_server.memory.up ≡ true
  pub stored : store_of disk.store ≡ server.raft_server.store
  -- nothing that it wrote waits for a sync
  pub nothing_unsynced : disk.unsynced ≡ None
  pub sound : IsSound server
  pub order : KeepsOrder server
  -- the unique IDs that it was told have 16 bytes
  pub uids : HasUids server.watch

-- what it made, heard and called: the frames that wait in its queue are of transfers that it made; its sessions keep
-- frames of the bus; its pending calls were made; it lists members alone
pub record IsAtWork (made : List SentTransfer) (ids : List ℕ) (frames : List Queued) (m : ℕ)
    (server : AllocatorState) : Type 0 where
  pub queue : (frame : Queued) → In frame server.queue → IsPiece made m frame
  pub heard : AreHeard frames (setting_for m) server.sessions
  pub called : AreCalled made server
  pub among : (peer : ℕ) → In peer (members_of server) → In peer ids

pub record ShowsUp (made : List SentTransfer) (ids : List ℕ) (frames : List Queued) (run : raft.World) (m : ℕ)
    (server : AllocatorState) (disk : KeyDisk Stored) : Type 0 where
  pub runs : IsInRun ids run m server disk
  pub works : IsAtWork made ids frames m server

-- a member that failed is down in the run, with what the choice says is stored; a stop would find the puts that are
-- done for sure, or one more
pub record ShowsFailed (choice : ℕ → Bool) (run : raft.World) (m : ℕ) (failure : Failure)
    (disk : KeyDisk Stored) : Type 0 where
  pub down : (run.server m).memory ≡ memory_when_down
  pub stored : (run.server m).store ≡ chosen_store choice failure
  pub found : (pattern : Pattern) →
      store_of (restarted_on pattern disk).store ≡ stored_after failure (found_by pattern disk)

-- a member that is stopped: a selector that waits for a sync makes no difference to what is stored
pub record ShowsDown (run : raft.World) (m : ℕ) (disk : KeyDisk Stored) : Type 0 where
  pub down : (run.server m).memory ≡ memory_when_down
  pub stored : (run.server m).store ≡ store_of disk.store
  pub nothing_unsynced : (unsynced : Unsynced Stored) → disk.unsynced ≡ Some unsynced
      → store_of unsynced.before ≡ store_of disk.store

abbrev pub ShowsMember : (ℕ → Bool) → List SentTransfer → List ℕ → List Queued → raft.World → ℕ →
    MemberStatus → KeyDisk Stored → Type 0
ShowsMember choice made ids frames run m Down disk = ShowsDown run m disk
ShowsMember choice made ids frames run m (Up server) disk = ShowsUp made ids frames run m server disk
ShowsMember choice made ids frames run m (Failed failure) disk = ShowsFailed choice run m failure disk

-- ---- transfers and messages

-- transfers that were made are distinct; each says what it should, and answers what was asked
pub record HoldsOfMade (made : List SentTransfer) (ids : List ℕ) (bag : List Message) : Type 0 where
  pub transfers : AreTransfers ids made
  pub said : AreSaid made bag
  pub written : AreWritable ids bag
  pub answered : AreAnswered made
  -- a Discovery names members alone
  pub discoveries : (x : SentTransfer) (message : Discovery) (peer : ℕ) → In x made → x.offer.what ≡ Disc
      → discovery_of x.offer.payload ≡ Some message → In peer message.known.items → In peer ids
  -- an Allocation with a node ID has a whole unique ID
  pub allocations : (x : SentTransfer) (answer : Allocation) → In x made → x.offer.what ≡ Alloc
      → allocation_of x.offer.payload ≡ Some answer → answer.node ≢ 0 → length answer.uid.items ≡ 16

-- ---- the whole

pub record Shows (choice : ℕ → Bool) (made : List SentTransfer) (w : Cluster) (run : raft.World) : Type 0 where
  pub members : run.members ≡ w.ids
  pub steps : run.steps ≤ w.rows
  pub lives : (m : ℕ) → In m w.ids →
      ShowsMember choice made w.ids w.frames run m (w.member m).status (w.member m).disk
  pub asking : (a : ℕ) (x : Device) → w.allocatee a ≡ Some x → IsAsking made w.frames x
  pub bus : (frame : Queued) → In frame w.frames → IsOnBus made w.ids frame
  -- identifiers of 29 bits
  pub narrow : (frame : Queued) → In frame w.frames → frame.id < 2 ^ 29
  pub holds : HoldsOfMade made w.ids run.bag
  pub past : (x : SentTransfer) → In x made → x.step ≤ w.rows
