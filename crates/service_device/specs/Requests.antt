-- What it is that the requests of the only device of a calm tell its unique ID, part by part.
use Rattle.std.specs.Prelude.{◌≡◌, ◌⊎◌, ℕ, ◌<◌, max, true, false, Bool, List, [], ◌∷◌, ◌++◌, length, take, drop, Some}
use Rattle.alloc_exchange.specs.declared.heard.Heard.TheVariants.{Whole}
use Rattle.alloc_exchange.specs.Exchange.{Accepted, IsEndOfStage, after, answer, bytes_so_far}
use Rattle.can_frame.specs.declared.step.What.TheVariants.{Alloc}
use Rattle.dsdl_codec.specs.Allocation.{allocation_of}
use Rattle.dsdl_codec.specs.declared.allocation.Allocation.{Allocation}
use Rattle.raft_model.specs.Lists.{In}
use Rattle.bus_rows.specs.declared.row.Row.{Row}
use Rattle.transfer_tx.specs.Queue.{Queued}
use Rattle.allocatee.specs.declared.timer.FollowUp.{FollowUp}
use Rattle.allocatee.specs.Allocatee.{Device, opening}
use Rattle.allocatee.specs.Asking.{Asking}
use Rattle.alloc_spec.specs.Transfers.{SentTransfer}
use Rattle.alloc_spec.specs.AllocatorState.{AllocatorState}
use Rattle.service_steps.specs.Requests.{IsRequest}
use Rattle.bus_rows.specs.Timed.{Timed, rows_in}
use Rattle.service_alone.specs.Calm.{Pace}
use Rattle.service_calm.specs.Calm.{AreCalm, AreRunning, Device as OfDevice, Member, Party, no_traffic}
use Rattle.service_device.specs.Settled.{IsAsked}
use Rattle.bus_spec.specs.Cluster.{Cluster, after_rows, arrival_at, cluster, world_of}
use Rattle.bus_spec.specs.Lawful.{DoNoHarm}
use Rattle.bus_spec.specs.Members.MemberStatus.{Up}
use Rattle.bus_spec.specs.Refinement.{transfers_of_rows}

-- ---- what a device tells

-- The request has the first 6 bytes of this unique ID; or, behind 6 or 12 of them, the next 6 or as many as are left.
abbrev pub TellsPart : List ℕ → Allocation → Type 0
TellsPart uid message = ((message.first_part ≡ true) × (message.uid.items ≡ take 6 uid))
    ⊎ ((known : ℕ) × ((known ≡ 6) ⊎ (known ≡ 12)) × (message.first_part ≡ false)
    × (message.uid.items ≡ take 6 (drop known uid)))

-- the requests that were accepted tell a beginning of this unique ID, where any were
abbrev pub TellBeginning : List ℕ → List Accepted → Type 0
TellBeginning uid accepted = (more : List ℕ) × (uid ≡ bytes_so_far accepted ++ more)

-- so it is of those that member n has accepted, where it runs
abbrev pub HasAcceptedBeginning : List ℕ → ℕ → Cluster → Type 0
HasAcceptedBeginning uid n w = (server : AllocatorState) → (w.member n).status ≡ Up server →
    TellBeginning uid server.accepted

-- Where the accepted requests tell a beginning of a unique ID of 16 bytes, and a request tells a part of it: those that
-- are accepted behind it tell a beginning, and what it makes whole is the unique ID.
abbrev pub PartsAreJoined : Type 0
PartsAreJoined = (uid : List ℕ) (accepted : List Accepted) (message : Allocation) (moment : ℕ) (follows : Bool) →
    length uid ≡ 16 → TellsPart uid message → TellBeginning uid accepted →
    TellBeginning uid (after accepted message moment follows)
    × ((other : List ℕ) (preferred : ℕ) → answer accepted message moment follows ≡ Whole other preferred → other ≡ uid)

-- ---- what comes to members

-- the frame is a request that tells a part of this unique ID, whenever it comes
abbrev pub IsRequestFor : List ℕ → Queued → Type 0
IsRequestFor uid frame = (moment : ℕ) → (message : Allocation) × IsRequest (arrival_at frame moment) message
    × TellsPart uid message

-- The device has this unique ID, prefers a node ID of seven bits, and its next transfer ID has five. A follow-up that
-- waits for its moment follows 6 or 12 bytes, and each frame that waits is a request that tells a part.
pub record TellsParts (uid : List ℕ) (asking : Asking) : Type 0 where
  pub its_uid : asking.uid ≡ uid
  pub small : asking.preferred < 128
  pub id : asking.id < 32
  pub follows : (follow_up : FollowUp) → asking.follow_up ≡ Some follow_up →
      (follow_up.known ≡ 6) ⊎ (follow_up.known ≡ 12)
  pub waits : (frame : Queued) → In frame asking.queue → IsRequestFor uid frame

-- device a is so, where it is there
abbrev pub TellsAt : ℕ → List ℕ → Cluster → Type 0
TellsAt a uid w = (d : Device) → w.allocatee a ≡ Some d → TellsParts uid d.asking

-- a device that has just come tells parts
abbrev pub DevicesThatComeTell : Type 0
DevicesThatComeTell = (uid : List ℕ) (preferred now word : ℕ) → preferred < 128 →
    TellsParts uid (opening uid preferred now word).asking

-- By these rows each device whose unique ID has 16 bytes, and which prefers a node ID of seven bits, tells parts of its
-- unique ID: whatever it was told, and by whom.
abbrev pub DevicesTellParts : List ℕ → List Row → Type 0
DevicesTellParts ids rows = (a : ℕ) (d : Device) → (world_of ids rows).allocatee a ≡ Some d →
    length d.asking.uid ≡ 16 → d.asking.preferred < 128 → TellsParts d.asking.uid d.asking

-- each Allocation that a member has made by these rows has 6, 12 or 16 bytes of a unique ID
abbrev pub AllocationsHaveParts : List ℕ → List Row → Type 0
AllocationsHaveParts ids rows = (x : SentTransfer) (message : Allocation) →
    In x (transfers_of_rows (cluster ids) rows []) → x.offer.what ≡ Alloc →
    allocation_of x.offer.payload ≡ Some message → IsEndOfStage (length message.uid.items)

-- The calm goes on from the world of these rows, and does no harm: its members run and have accepted a beginning of
-- this unique ID. It has no other device than a, which tells parts of it. It is not asked what is in the members'
-- queues.
pub record IsTellingCalm (ids : List ℕ) (rows : List Row) (group : List Party) (clocks : Party → ℕ) (pace : Pace)
    (start a : ℕ) (uid : List ℕ) (whole : List Timed) : Type 0 where
  pub listed : (p : ℕ) → In (Member p) group → In p ids
  pub running : AreRunning group (world_of ids rows)
  pub alone : (b : ℕ) → In (OfDevice b) group → b ≡ a
  pub size : length uid ≡ 16
  pub calm : AreCalm group clocks pace (no_traffic start) (world_of ids rows) whole
  pub device : TellsAt a uid (world_of ids rows)
  pub harmless : DoNoHarm (world_of ids rows) (rows_in whole)
  pub begins : (p : ℕ) → In (Member p) group → HasAcceptedBeginning uid p (world_of ids rows)

-- in each such calm the requests that a member has accepted tell a beginning of the unique ID, behind each front
abbrev pub RequestsAreTheDevices : List ℕ → List Row → Type 0
RequestsAreTheDevices ids rows = (group : List Party) (clocks : Party → ℕ) (pace : Pace) (start a m : ℕ)
    (uid : List ℕ) (front rest : List Timed) →
    IsTellingCalm ids rows group clocks pace start a uid (front ++ rest) → In (Member m) group →
    HasAcceptedBeginning uid m (after_rows (world_of ids rows) (rows_in front))

-- and the device goes on to tell parts
abbrev pub DevicesGoOnTelling : List ℕ → List Row → Type 0
DevicesGoOnTelling ids rows = (group : List Party) (clocks : Party → ℕ) (pace : Pace) (start a : ℕ) (uid : List ℕ)
    (front rest : List Timed) → IsTellingCalm ids rows group clocks pace start a uid (front ++ rest) →
    TellsAt a uid (after_rows (world_of ids rows) (rows_in front))

-- and what a request that comes makes whole is the unique ID, whoever leads
abbrev pub WholeIsTheDevices : List ℕ → List Row → Type 0
WholeIsTheDevices ids rows = (group : List Party) (clocks : Party → ℕ) (pace : Pace) (start a m : ℕ)
    (uid : List ℕ) (front rest : List Timed) (timed : Timed) (message : Allocation) (follows : Bool)
    (other : List ℕ) (preferred : ℕ) → let there = after_rows (world_of ids rows) (rows_in front) in
    IsTellingCalm ids rows group clocks pace start a uid (front ++ timed ∷ rest) → In (Member m) group →
    (asked : IsAsked m message there timed.row) →
    answer asked.comes.server.accepted message (max asked.comes.server.now asked.comes.ms) follows
    ≡ Whole other preferred → other ≡ uid
