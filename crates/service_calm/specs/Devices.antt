-- What it is that members hear the requests of devices, and devices the Allocations of members.
use Rattle.std.specs.Prelude.{⊤, ◌≡◌, ◌⊎◌, ℕ, ◌+◌, ◌*◌, ◌<◌, ◌≤◌, max, false, true, List, [], ◌∷◌, ◌++◌, drop, length, take, Some}
use Rattle.can_frame.specs.declared.step.What.TheVariants.{Alloc}
use Rattle.can_frame.specs.Cutting.{frame_count}
use Rattle.can_frame.specs.Identifier.{identifier_number}
use Rattle.can_frame.specs.Timing.{transfer_timeout}
use Rattle.dsdl_codec.specs.declared.allocation.Allocation.{Allocation}
use Rattle.raft_model.specs.Lists.{In}
use Rattle.bus_rows.specs.declared.row.Row.{Row}
use Rattle.bus_rows.specs.declared.row.Row.TheVariants.{ARx, ATick, Rx}
use Rattle.transfer_rx.specs.Keys.{key_of}
use Rattle.transfer_rx.specs.Outcome.{blocks_used}
use Rattle.transfer_rx.specs.Reassembly.{Gives, answer}
use Rattle.transfer_tx.specs.Run.{of_identifier}
use Rattle.allocatee.specs.Accepted.{setting}
use Rattle.allocatee.specs.Allocatee.{Device, Tick, answer_to, step}
use Rattle.allocatee.specs.declared.timer.FollowUp.{FollowUp}
use Rattle.alloc_spec.specs.Accepted.{setting_for}
use Rattle.alloc_spec.specs.AllocatorState.{AllocatorState}
use Rattle.alloc_spec.specs.Transfers.{Offer, SentTransfer, id_of, ident_of}
use Rattle.service_steps.specs.Requests.{IsRequest, delivery_of}
use Rattle.bus_rows.specs.Timed.{Timed, rows_in}
use Rattle.service_alone.specs.Calm.{Pace, end_of}
use Rattle.service_calm.specs.Calm.{AreCalm, AreRunning, Device as OfDevice, Member, Party, no_traffic}
use Rattle.service_calm.specs.Comes as transfer
use Rattle.service_calm.specs.Comes.{Sends, Throughout, sent_by}
use Rattle.service_calm.specs.Sessions.{AllAdmit}
use Rattle.bus_spec.specs.Cluster.{Cluster, after_row, after_rows, arrival_at, frame_at, world_of}
use Rattle.bus_spec.specs.Members.MemberStatus.{Up}

-- ---- a device asks

-- What a request of the device says: the node ID that it prefers; and the first 6 bytes of its unique ID, or in a
-- follow-up the next 6, or as many as are left, behind those of the answer that it follows.
abbrev pub IsRequestOf : Device → Allocation → Type 0
IsRequestOf d message = (message.node ≡ d.asking.preferred)
    × (((message.first_part ≡ true) × (message.uid.items ≡ take 6 d.asking.uid))
    ⊎ ((follow_up : FollowUp) × (d.asking.follow_up ≡ Some follow_up) × (message.first_part ≡ false)
    × (message.uid.items ≡ take 6 (drop follow_up.known d.asking.uid))))

-- in this row device a asks: it reads its clock, and offers a request for which its queue has room
pub record Asks (a : ℕ) (w : Cluster) (row : Row) : Type 0 where
  pub device : Device
  pub there : w.allocatee a ≡ Some device
  pub ms : ℕ
  pub word : ℕ
  pub reads : row ≡ ATick a ms word
  pub offers : (step device (w.rows + 1) (Tick ms word)).sent ≡ record { what = Alloc; to = 0; fitted = true } ∷ []

-- ---- a member hears it

-- In this row a frame comes to member m, whose clock is ahead by `ahead`. It was made in the step with this number, and
-- is a request that says this. The member's receiver delivers it, whatever sessions it has.
pub record HearsRequest (m ahead number : ℕ) (message : Allocation) (w : Cluster) (timed : Timed) : Type 0 where
  pub k : ℕ
  pub ms : ℕ
  pub comes : timed.row ≡ Rx m k ms
  pub clock : ms ≡ timed.at + ahead
  pub made : (frame_at w.frames k).mark ≡ record { step = number; re = 0; place = 0 }
  pub request : IsRequest (arrival_at (frame_at w.frames k) ms) message
  pub server : AllocatorState
  pub runs : (w.member m).status ≡ Up server
  pub gives : answer (setting_for m) server.sessions (arrival_at (frame_at w.frames k) (max server.now ms))
      ≡ Gives (delivery_of (arrival_at (frame_at w.frames k) (max server.now ms)) request.ident)

-- member m hears it in one of these rows, by this moment
pub record HearsRequestBy (m ahead number : ℕ) (message : Allocation) (last : ℕ) (w : Cluster)
    (whole : List Timed) : Type 0 where
  pub front : List Timed
  pub timed : Timed
  pub rest : List Timed
  pub split : whole ≡ front ++ timed ∷ rest
  pub soon : timed.at ≤ last
  pub hears : HearsRequest m ahead number message (after_rows w (rows_in front)) timed

-- In each calm from the world of these rows on: where a device asks, whatever waits in its queue, each member of the
-- group hears the request within two delays, one in the queue and one on the bus, or the calm is over by then. The
-- device prefers a node ID of seven bits: more have no place in a request. That the member's server then answers is not
-- asked here.
abbrev pub RequestsComeInCalm : List ℕ → List Row → Type 0
RequestsComeInCalm ids rows = (group : List Party) (clocks : Party → ℕ) (pace : Pace) (start a m : ℕ)
    (front rest : List Timed) (timed : Timed) → let w = world_of ids rows in
    let whole = front ++ timed ∷ rest in ((p : ℕ) → In (Member p) group → In p ids) → AreRunning group w →
    In (Member m) group → AreCalm group clocks pace (no_traffic start) w whole →
    (asks : Asks a (after_rows w (rows_in front)) timed.row) → asks.device.asking.preferred < 128 →
    timed.at + 2 * pace.delay < end_of timed.at rest → let there = after_rows w (rows_in front) in
    (message : Allocation) × IsRequestOf asks.device message
    × HearsRequestBy m (clocks (Member m)) (there.rows + 1) message (timed.at + 2 * pace.delay) there (timed ∷ rest)

-- ---- a device hears an Allocation

-- in this row a frame comes to device a, whose receiver delivers this transfer
pub record DeliversTo (a : ℕ) (x : SentTransfer) (w : Cluster) (row : Row) : Type 0 where
  pub k : ℕ
  pub ms : ℕ
  pub word : ℕ
  pub comes : row ≡ ARx a k ms word
  pub device : Device
  pub there : w.allocatee a ≡ Some device
  pub gives : answer_to device (arrival_at (frame_at w.frames k) ms) ≡ Gives (transfer.delivery_of x)

-- device a delivers this transfer in one of these rows, by this moment
pub record ComesToBy (a : ℕ) (x : SentTransfer) (last : ℕ) (w : Cluster) (whole : List Timed) : Type 0 where
  pub front : List Timed
  pub timed : Timed
  pub rest : List Timed
  pub split : whole ≡ front ++ timed ∷ rest
  pub soon : timed.at ≤ last
  pub delivers : DeliversTo a x (after_rows w (rows_in front)) timed.row

-- when the calm begins member n runs, no frame of an Allocation of it waits, and device a is there
pub record AreReadyToTell (n a : ℕ) (w : Cluster) : Type 0 where
  pub sender : AllocatorState
  pub sends : (w.member n).status ≡ Up sender
  pub none_waits : of_identifier (identifier_number (ident_of n Alloc 0)) sender.queue ≡ []
  pub device : Device
  pub there : w.allocatee a ≡ Some device

-- an Allocation of member n with this ID may begin at the device, in the session of its key, where there is one that is
-- not forgotten
abbrev pub AllocationMayBegin : (n : ℕ) → Device → (id : ℕ) → Type 0
AllocationMayBegin n d id = AllAdmit d.asking.moment (key_of (ident_of n Alloc 0)) id d.sessions

-- an Allocation is a node ID and the bytes of a unique ID, 16 at most: so many frames, and one block of a receiver holds
-- it
abbrev pub frames_of_allocation : ℕ
frames_of_allocation = 3

abbrev pub blocks_of_allocation : ℕ
blocks_of_allocation = 1

-- each Allocation that member n sends in these rows has no more frames
abbrev pub SendsShortAllocations : ℕ → Cluster → List Timed → Type 0
SendsShortAllocations n w [] = ⊤
SendsShortAllocations n w (timed ∷ rest) =
    ((offer : Offer) → Sends n w timed.row offer → offer.what ≡ Alloc →
    frame_count (length offer.payload) ≤ frames_of_allocation) × SendsShortAllocations n (after_row w timed.row) rest

-- the receiver of device a has a session left, and a block
abbrev pub DeviceHasMemory : ℕ → Cluster → Type 0
DeviceHasMemory a w = (d : Device) → w.allocatee a ≡ Some d →
    (length d.sessions < setting.sessions) × (blocks_used d.sessions + blocks_of_allocation ≤ setting.blocks)

-- In each calm from the world of these rows on, in which twice the delay is no longer than a transfer is remembered:
-- each Allocation that a member of the group sends comes whole to each device of the group, within two delays, or the
-- calm is over by then. The first one has the next ID of the sender's counter. What the device does with it is not asked
-- here.
abbrev pub AllocationsComeInCalm : List ℕ → List Row → Type 0
AllocationsComeInCalm ids rows = (group : List Party) (clocks : Party → ℕ) (pace : Pace) (start n a : ℕ)
    (front rest : List Timed) (timed : Timed) (offer : Offer) → let w = world_of ids rows in
    let whole = front ++ timed ∷ rest in ((p : ℕ) → In (Member p) group → In p ids) → AreRunning group w →
    In (Member n) group → In (OfDevice a) group → 2 * pace.delay ≤ transfer_timeout → (ready : AreReadyToTell n a w) →
    AllocationMayBegin n ready.device (id_of ready.sender.ids Alloc 0) →
    AreCalm group clocks pace (no_traffic start) w whole → Throughout (DeviceHasMemory a) w whole →
    SendsShortAllocations n w whole → Sends n (after_rows w (rows_in front)) timed.row offer → offer.what ≡ Alloc →
    timed.at + 2 * pace.delay < end_of timed.at rest → let x = sent_by n (after_rows w (rows_in front)) offer in
    ComesToBy a x (timed.at + 2 * pace.delay) (after_rows w (rows_in front)) (timed ∷ rest)
