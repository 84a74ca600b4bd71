-- What it is that a device which asks is heard out in a calm, by a leader that has settled.
use Rattle.std.specs.Prelude.{◌≡◌, ◌≢◌, ℕ, ◌+◌, ◌*◌, ◌<◌, ◌≤◌, true, max, List, [], ◌∷◌, ◌++◌, length, None, Some}
use Rattle.alloc_exchange.specs.declared.heard.Heard.TheVariants.{Whole}
use Rattle.alloc_exchange.specs.Exchange.{answer, recent_requests}
use Rattle.can_frame.specs.declared.entry.Entry.{Entry}
use Rattle.can_frame.specs.declared.step.What.TheVariants.{Alloc}
use Rattle.can_frame.specs.Identifier.{identifier_number}
use Rattle.can_frame.specs.Log.{HasPair}
use Rattle.bus_agreement.specs.Allocatees.{Holds}
use Rattle.dsdl_codec.specs.declared.allocation.Allocation.{Allocation}
use Rattle.raft_model.specs.Lists.{In}
use Rattle.bus_rows.specs.declared.row.Row.{Row}
use Rattle.transfer_tx.specs.Run.{of_identifier}
use Rattle.allocatee.specs.Allocatee.{Device, opening}
use Rattle.alloc_spec.specs.AllocatorState.{AllocatorState}
use Rattle.alloc_spec.specs.Transfers.{ident_of, queue_places}
use Rattle.service_steps.specs.Requests.{IsRequest}
use Rattle.bus_rows.specs.Timed.{Timed, rows_in}
use Rattle.service_alone.specs.Calm.{HasSettled, Pace, end_of}
use Rattle.service_calm.specs.Calm.{Device as OfDevice, Member, Party}
use Rattle.service_calm.specs.Comes.{Throughout}
use Rattle.service_calm.specs.Devices.{DeviceHasMemory}
use Rattle.service_device.specs.Settled.{IsAsked, IsCalmUnder}
use Rattle.bus_spec.specs.Cluster.{Cluster, after_rows, arrival_at, frame_at, world_of}
use Rattle.bus_spec.specs.Members.MemberStatus.{Up}

-- ---- who sends Allocations

-- Member m has nothing to tell devices: no frame of an Allocation waits in its queue, and at this moment of its clock
-- no request counts any more that it accepted. So it is mostly: who does not lead accepts none for longer.
pub record HasNothingToSay (m now : ℕ) (w : Cluster) : Type 0 where
  pub server : AllocatorState
  pub runs : (w.member m).status ≡ Up server
  pub none_waits : of_identifier (identifier_number (ident_of m Alloc 0)) server.queue ≡ []
  pub old : recent_requests server.accepted now ≡ []

-- an Allocation has so many frames at most
abbrev pub frames_of_allocation : ℕ
frames_of_allocation = 3

-- where member n runs, its queue has room for an Allocation
abbrev pub HasRoomToTell : ℕ → Cluster → Type 0
HasRoomToTell n w = (server : AllocatorState) → (w.member n).status ≡ Up server →
    length server.queue + frames_of_allocation ≤ queue_places

-- ---- the device is heard out

-- In this row a request of a device comes to member n, whose clock is ahead by `ahead`, and makes this unique ID whole,
-- with the node ID that the device prefers. What n then does with it is not asked.
pub record HearsWhole (n ahead : ℕ) (uid : List ℕ) (preferred : ℕ) (w : Cluster) (timed : Timed) : Type 0 where
  pub message : Allocation
  pub asked : IsAsked n message w timed.row
  pub clock : asked.comes.ms ≡ timed.at + ahead
  pub request : IsRequest (arrival_at (frame_at w.frames asked.comes.k) asked.comes.ms) message
  pub whole : answer asked.comes.server.accepted message (max asked.comes.server.now asked.comes.ms) true
      ≡ Whole uid preferred

-- Device a has this unique ID and no node ID yet. No follow-up waits for its moment, and it does not ask anew before
-- its clock reads `until`, or later.
pub record WaitsToBeTold (a : ℕ) (uid : List ℕ) (until : ℕ) (w : Cluster) : Type 0 where
  pub device : Device
  pub there : w.allocatee a ≡ Some device
  pub its_uid : device.asking.uid ≡ uid
  pub none_yet : device.asking.holds ≡ None
  pub asked_all : device.asking.follow_up ≡ None
  pub quiet : until < device.asking.request.since + device.asking.request.length

-- Member n hears the whole unique ID in one of these rows, by this moment. Before the row it has settled with this log,
-- and device a waits to be told, so long at least that an answer may come within two delays: `wait` more than the
-- moment.
pub record HearsWholeBy (n a : ℕ) (log : List Entry) (ahead wait : ℕ) (uid : List ℕ) (preferred start last : ℕ)
    (w : Cluster) (whole : List Timed) : Type 0 where
  pub front : List Timed
  pub timed : Timed
  pub rest : List Timed
  pub split : whole ≡ front ++ timed ∷ rest
  pub soon : timed.at ≤ last
  pub settled : HasSettled n log (end_of start front + ahead) (after_rows w (rows_in front))
  pub hears : HearsWhole n ahead uid preferred (after_rows w (rows_in front)) timed
  pub waits : WaitsToBeTold a uid (timed.at + wait) (after_rows w (rows_in front))

-- In milliseconds, so long it takes at most to ask for a node ID and to be heard out. The device's own timers take
-- 1,000 at first, and 400 before each of two follow-ups; each time the device reads its clock within a period. Five
-- frames, three requests and two answers, come within two delays each.
abbrev pub time_to_be_heard : Pace → ℕ
time_to_be_heard pace = 1800 + 3 * pace.period + 10 * pace.delay

-- ---- where it is

-- When the calm begins, device a of the group has just come, and it is the only one. Its unique ID has 16 bytes. Member
-- n has settled with this log, no frame of an Allocation waits in its queue, and the other members have nothing to
-- tell. It is not asked that the log knows the unique ID, nor that there is a place for it.
pub record HasJustCome (group : List Party) (clocks : Party → ℕ) (start n a : ℕ) (uid : List ℕ) (preferred : ℕ)
    (log : List Entry) (w : Cluster) : Type 0 where
  pub of_group : In (OfDevice a) group
  pub alone : (b : ℕ) → In (OfDevice b) group → b ≡ a
  pub whole : length uid ≡ 16
  pub small : preferred < 128
  pub word : ℕ
  pub there : w.allocatee a ≡ Some (opening uid preferred (start + clocks (OfDevice a)) word)
  pub settled : HasSettled n log (start + clocks (Member n)) w
  pub none_waits : of_identifier (identifier_number (ident_of n Alloc 0)) settled.server.queue ≡ []
  pub others : (m : ℕ) → In (Member m) group → m ≢ n → HasNothingToSay m (start + clocks (Member m)) w

-- in all rows of the calm the device has memory for what comes, and n has room to tell
pub record HaveRoom (n a : ℕ) (w : Cluster) (whole : List Timed) : Type 0 where
  pub memory : Throughout (DeviceHasMemory a) w whole
  pub room : Throughout (HasRoomToTell n) w whole

-- In each calm from the world of these rows on, at a pace of which a period and four delays take 100 ms at most: a
-- device that has just come is heard out by a leader that has settled, in this time, or the calm is over by then.
abbrev pub DevicesAreHeardOut : List ℕ → List Row → Type 0
DevicesAreHeardOut ids rows = (group : List Party) (clocks : Party → ℕ) (pace : Pace) (start n a term : ℕ)
    (uid : List ℕ) (preferred : ℕ) (log : List Entry) (whole : List Timed) → let w = world_of ids rows in
    IsCalmUnder ids rows group clocks pace start n term [] whole →
    HasJustCome group clocks start n a uid preferred log w →
    HaveRoom n a w whole → pace.period + 4 * pace.delay ≤ 100 →
    start + time_to_be_heard pace < end_of start whole →
    HearsWholeBy n a log (clocks (Member n)) (2 * pace.delay + clocks (OfDevice a)) uid preferred start
    (start + time_to_be_heard pace) w whole

-- ---- the device is told again

-- Behind some front of these rows, which ends by this moment, device a holds this node ID, and member n has settled
-- with this log.
pub record HoldsBy (n a : ℕ) (log : List Entry) (ahead : ℕ) (uid : List ℕ) (node start last : ℕ) (w : Cluster)
    (whole : List Timed) : Type 0 where
  pub front : List Timed
  pub rest : List Timed
  pub split : whole ≡ front ++ rest
  pub soon : end_of start front ≤ last
  pub holds : Holds (after_rows w (rows_in front)) a uid node
  pub settled : HasSettled n log (end_of start front + ahead) (after_rows w (rows_in front))

-- the last answer takes two delays more
abbrev pub time_to_be_told : Pace → ℕ
time_to_be_told pace = time_to_be_heard pace + 2 * pace.delay

-- In each such calm: where the leader's log has the device's unique ID, the device holds the node ID that it has there,
-- in this time, or the calm is over by then. Then the leader has settled with the same log.
abbrev pub KnownDevicesAreTold : List ℕ → List Row → Type 0
KnownDevicesAreTold ids rows = (group : List Party) (clocks : Party → ℕ) (pace : Pace) (start n a term : ℕ)
    (uid : List ℕ) (preferred node : ℕ) (log : List Entry) (whole : List Timed) → let w = world_of ids rows in
    IsCalmUnder ids rows group clocks pace start n term [] whole →
    HasJustCome group clocks start n a uid preferred log w →
    HasPair log uid node → HaveRoom n a w whole → pace.period + 4 * pace.delay ≤ 100 →
    start + time_to_be_told pace < end_of start whole →
    HoldsBy n a log (clocks (Member n)) uid node start (start + time_to_be_told pace) w whole
