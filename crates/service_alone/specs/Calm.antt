-- When the bus of an allocator that is alone is calm, and what it does then: each device that comes is served in time.
use Rattle.std.specs.Prelude.{⊤, ◌≡◌, ◌≢◌, ℕ, ◌+◌, ◌*◌, ◌<◌, ◌≤◌, false, true, is_some, List, [], ◌∷◌, ◌++◌, length, drop, Option, None, Some}
use Rattle.alloc_exchange.specs.Exchange.{last_moment}
use Rattle.can_frame.specs.declared.entry.Entry.{Entry}
use Rattle.can_frame.specs.declared.step.What.TheVariants.{Stat}
use Rattle.can_frame.specs.Identifier.{identifier_number}
use Rattle.can_frame.specs.Log.{HasPair, HasUid, log_limit}
use Rattle.can_frame.specs.Zeros.{zeros}
use Rattle.cluster_discovery.specs.Members.{owes}
use Rattle.disk_model.specs.Memory.{nothing_set}
use Rattle.node_discovery.specs.History.{is_online}
use Rattle.node_discovery.specs.Watch.{history}
use Rattle.raft_core.specs.Taken.{proposal}
use Rattle.raft_model.specs.Lists.{In}
use Rattle.raft_model.specs.Moves.Elections.{term_limit}
use Rattle.raft_model.specs.Server.Role.{Leader}
use Rattle.bus_rows.specs.declared.row.Row.{Row}
use Rattle.bus_rows.specs.Timed.{Timed, rows_in}
use Rattle.bus_rows.specs.declared.row.Row.TheVariants.{AOpen, ARx, ASend, ATick, Rx, Send, Tick}
use Rattle.allocatee.specs.Allocatee.{Device}
use Rattle.transfer_tx.specs.Queue.{Queued}
use Rattle.alloc_spec.specs.AllocatorState.{AllocatorState, is_known, start_of}
use Rattle.alloc_spec.specs.Transfers.{ident_of}
use Rattle.bus_agreement.specs.Allocatees.{Holds}
use Rattle.service_steps.specs.ComingBack.{HasGrown}
use Rattle.service_alone.specs.Alone.{CanGoOn, IsLeft, found}
use Rattle.bus_spec.specs.Allocatees.{is_place, next_from}
use Rattle.bus_spec.specs.Cluster.{Cluster, after_row, after_rows, world_of}
use Rattle.bus_spec.specs.Lawful.{AreLawful}
use Rattle.bus_spec.specs.Members.{MemberStatus, next_frame}
use Rattle.bus_spec.specs.Members.MemberStatus.{Down, Failed, Up}

-- the moment of the last of these rows, or the one before them
abbrev pub end_of : ℕ → List Timed → ℕ
end_of start [] = start
end_of start (timed ∷ rest) = end_of timed.at rest

-- In milliseconds: in calm the device reads its clock at least once in each `period`, and of the allocator that is not
-- asked; on a quiet bus, on which no device is, the allocator does. A queue in which frames wait is empty within
-- `delay`, and a frame takes at most `delay` from the bus to its receiver.
pub record Pace : Type 0 where
  pub period : ℕ
  pub delay : ℕ

-- by how much the clocks of the allocator and of the device are ahead of the moments
pub record Clocks : Type 0 where
  pub allocator : ℕ
  pub device : ℕ

-- ---- what is under way

-- a frame that came to the bus and not yet to its receiver: its number, and when it came to the bus
pub record OnItsWay : Type 0 where
  pub number : ℕ
  pub since : ℕ

-- what is under way between the allocator and the device
pub record Traffic : Type 0 where
  -- the moment of the last row
  pub at : ℕ
  -- when the device last read its clock, or came
  pub ticked : ℕ
  -- since when frames wait in the queue of the allocator, and in that of the device, where some do
  pub allocator_waits : ℕ
  pub device_waits : ℕ
  -- the frames on their way from the one to the other, oldest first
  pub to_allocator : List OnItsWay
  pub to_device : List OnItsWay

-- when the device comes: nothing is under way
abbrev pub no_traffic : ℕ → Traffic
no_traffic start = record {
  at = start;
  ticked = start;
  allocator_waits = start;
  device_waits = start;
  to_allocator = [];
  to_device = [];
}

-- the frames that wait in a member's queue, and in a device's
abbrev pub queue_of : MemberStatus → List Queued
queue_of Down = []
queue_of (Up server) = server.queue
queue_of (Failed failure) = []

abbrev pub queue_at : Option Device → List Queued
queue_at None = []
queue_at (Some device) = device.asking.queue

-- frames wait since a moment; in a row at `at` the queue was empty before or is afterwards, or they wait on
abbrev pub waits_after : (at since : ℕ) (before after : List Queued) → ℕ
waits_after at since [] after = at
waits_after at since (frame ∷ frames) [] = at
waits_after at since (frame ∷ frames) (other ∷ others) = since

abbrev pub ticked_after : (at ticked : ℕ) → Row → ℕ
ticked_after at ticked (ATick a ms word) = at
ticked_after at ticked row = ticked

-- the frame that comes to the bus next
abbrev pub next_on_bus : ℕ → Cluster → OnItsWay
next_on_bus at w = record { number = length w.frames + 1; since = at }

abbrev pub to_device_after : ℕ → Cluster → Row → List OnItsWay → List OnItsWay
to_device_after at w (Send n) frames = frames ++ next_on_bus at w ∷ []
to_device_after at w (ARx a k ms word) frames = drop 1 frames
to_device_after at w row frames = frames

abbrev pub to_allocator_after : ℕ → Cluster → Row → List OnItsWay → List OnItsWay
to_allocator_after at w (ASend a) frames = frames ++ next_on_bus at w ∷ []
to_allocator_after at w (Rx n k ms) frames = drop 1 frames
to_allocator_after at w row frames = frames

-- frame k comes next
abbrev pub IsNext : ℕ → List OnItsWay → Type 0
IsNext k [] = ⊥
IsNext k (first ∷ frames) = k ≡ first.number

-- at this moment none of these frames is late
abbrev pub NoneIsLate : (at delay : ℕ) → List OnItsWay → Type 0
NoneIsLate at delay [] = ⊤
NoneIsLate at delay (first ∷ frames) = (at ≤ first.since + delay) × NoneIsLate at delay frames

-- between allocator n and device a, after a row
abbrev pub traffic_after : (n a : ℕ) → Traffic → Cluster → Timed → Traffic
traffic_after n a traffic w timed = let then_w : Cluster = after_row w timed.row in record {
  at = timed.at;
  ticked = ticked_after timed.at traffic.ticked timed.row;
  allocator_waits = waits_after timed.at traffic.allocator_waits (queue_of (w.member n).status)
      (queue_of (then_w.member n).status);
  device_waits = waits_after timed.at traffic.device_waits (queue_at (w.allocatee a)) (queue_at (then_w.allocatee a));
  to_allocator = to_allocator_after timed.at w timed.row traffic.to_allocator;
  to_device = to_device_after timed.at w timed.row traffic.to_device;
}

module _ (n a : ℕ) (clocks : Clocks) (pace : Pace) where
  -- ---- calm rows

  -- Allocator n and device a read their clocks, send what waits, and receive each other's frames: each once, and in
  -- their order. Nobody opens, stops, fails or leaves, nothing comes from outside, and other devices do nothing.
  abbrev pub IsCalmRow : Traffic → Cluster → ℕ → Row → Type 0
  IsCalmRow traffic w at (Tick m ms word) = (m ≡ n) × (ms ≡ at + clocks.allocator)
  IsCalmRow traffic w at (Rx m k ms) = (m ≡ n) × (ms ≡ at + clocks.allocator) × IsNext k traffic.to_allocator
  IsCalmRow traffic w at (Send m) = (m ≡ n) × (is_some (next_frame (w.member n).status) ≡ true)
  IsCalmRow traffic w at (ATick b ms word) = (b ≡ a) × (ms ≡ at + clocks.device)
  IsCalmRow traffic w at (ARx b k ms word) = (b ≡ a) × (ms ≡ at + clocks.device) × IsNext k traffic.to_device
  IsCalmRow traffic w at (ASend b) = (b ≡ a) × (is_some (next_from (w.allocatee a)) ≡ true)
  IsCalmRow traffic w at row = ⊥

  -- by this moment, the next one at which something happens, no time is exceeded
  pub record IsInTime (traffic : Traffic) (w : Cluster) (at : ℕ) : Type 0 where
    pub moments : traffic.at ≤ at
    pub ticks : at ≤ traffic.ticked + pace.period
    pub allocator_sends : queue_of (w.member n).status ≢ [] → at ≤ traffic.allocator_waits + pace.delay
    pub device_sends : queue_at (w.allocatee a) ≢ [] → at ≤ traffic.device_waits + pace.delay
    pub allocator_hears : NoneIsLate at pace.delay traffic.to_allocator
    pub device_hears : NoneIsLate at pace.delay traffic.to_device

  -- rows of a calm bus, whatever they are: each is calm, and comes in time
  abbrev pub AreCalm : Traffic → Cluster → List Timed → Type 0
  AreCalm traffic w [] = ⊤
  AreCalm traffic w (timed ∷ rest) = IsInTime traffic w timed.at × IsCalmRow traffic w timed.at timed.row
      × AreCalm (traffic_after n a traffic w timed) (after_row w timed.row) rest

-- No calm comes to an end by itself: whatever the world in which it began, and however it went on by now, rows of the
-- same pace can go on, for as long as one wants. So what is said of all calm rows is said of some.
abbrev pub CalmGoesOn : Type 0
CalmGoesOn = (n a start more : ℕ) (clocks : Clocks) (pace : Pace) (w : Cluster) (whole : List Timed) →
    1 ≤ pace.period → AreCalm n a clocks pace (no_traffic start) w whole →
    (rest : List Timed) × AreCalm n a clocks pace (no_traffic start) w (whole ++ rest)
    × (end_of start whole + more ≤ end_of start (whole ++ rest))

-- ---- the allocator, when the device comes

-- no frame waits in the queue of allocator n
abbrev pub NothingWaits : ℕ → Cluster → Type 0
NothingWaits n w = queue_of (w.member n).status ≡ []

-- The allocator leads, has committed and told its whole log, which is this one. No call of its disk is set to fail. Its
-- clock has not fallen: nothing that it keeps the moment of is later than now. No node is online that it does not know,
-- and it owes no Discovery.
pub record HasSettled (n : ℕ) (log : List Entry) (now : ℕ) (w : Cluster) : Type 0 where
  pub server : AllocatorState
  pub runs : (w.member n).status ≡ Up server
  pub faults : ℕ
  pub disk : (w.member n).disk.calls ≡ nothing_set faults
  pub leads : server.raft_server.memory.role ≡ Leader
  pub log_is : server.raft_server.store.log ≡ log
  pub committed : server.raft_server.store.commit ≡ length log
  pub told : server.raft_server.memory.told ≡ length log
  pub clock : server.now ≤ now
  pub status : server.status_at ≤ now
  pub requests : last_moment server.accepted ≤ now
  pub known : (other : ℕ) → is_known server other ≡ false → is_online (history other server.watch) server.now ≡ false
  pub discovery : owes (start_of server) server.heard ≡ false

-- the allocator has settled, and has nothing to send
pub record IsAtRest (n : ℕ) (log : List Entry) (now : ℕ) (w : Cluster) : Type 0 where
  pub settled : HasSettled n log now w
  pub sent : NothingWaits n w

-- the allocator has settled, and nothing waits in its queue but its NodeStatus, three frames at most
pub record IsReady (n : ℕ) (log : List Entry) (now : ℕ) (w : Cluster) : Type 0 where
  pub settled : HasSettled n log now w
  pub statuses : (frame : Queued) → In frame (queue_of (w.member n).status) →
      frame.id ≡ identifier_number (ident_of n Stat 0)
  pub few : length (queue_of (w.member n).status) ≤ 3

-- the allocator is at rest with this log, or with a blank more
pub record HasComeToRest (n : ℕ) (before : List Entry) (now : ℕ) (w : Cluster) : Type 0 where
  pub log : List Entry
  pub grown : HasGrown before log
  pub rests : IsAtRest n log now w

-- Where its log has room for a blank, and two terms are left, an allocator that is alone can come to rest with what it
-- has stored: after any rows, by eight more at most, which take 4,000 ms at most.
abbrev pub ComesToRest : ℕ → List Row → Type 0
ComesToRest n rows = (now : ℕ) → let store = found (world_of (n ∷ []) rows) n in
    length store.log < log_limit → store.term + 1 < term_limit →
    CanGoOn (n ∷ []) rows 8 now 4000 (HasComeToRest n store.log (now + 4000))

-- a node ID is left for a new unique ID, and a place in the log
pub record HasPlaceFor (n : ℕ) (log : List Entry) (uid : List ℕ) : Type 0 where
  pub whole : length uid ≡ 16
  pub device : uid ≢ zeros
  pub new : HasUid log uid → ⊥
  pub left : (node : ℕ) × IsLeft n log node
  pub room : length log < log_limit

-- ---- the device is served

-- some front of these rows ends by this moment, its rows are lawful, and of its end and the world then this holds
pub record HappensBy (start last : ℕ) (w : Cluster) (whole : List Timed) (Happens : ℕ → Cluster → Type 0) : Type 0 where
  pub front : List Timed
  pub rest : List Timed
  pub split : whole ≡ front ++ rest
  pub soon : end_of start front ≤ last
  pub lawful : AreLawful w (rows_in front)
  pub happens : Happens (end_of start front) (after_rows w (rows_in front))

-- A device comes to this world, at the moment `start`. In each calm continuation, at a pace of which a period and four
-- delays take 100 ms at most, this happens within 2,100 ms, or the calm is over by then. It is said of the device, of
-- what the allocator's clock reads then, and of the world. The row of its coming may be refused, where its place is
-- taken: of that nothing is said. The device's own timers take 1,000 and twice 400 ms at most,
-- and each stage of the exchange a period and four delays more.
abbrev pub HappensToDevice : ℕ → Cluster → (start : ℕ) → Clocks → List ℕ → (ℕ → ℕ → Cluster → Type 0) → Type 0
HappensToDevice n before start clocks uid Happens = (a preferred word : ℕ) (pace : Pace) (whole : List Timed) →
    is_place a ≡ true → preferred < 128 → pace.period + 4 * pace.delay ≤ 100 →
    let w = after_row before (AOpen a uid preferred (start + clocks.device) word) in
    AreCalm n a clocks pace (no_traffic start) w whole → start + 2100 < end_of start whole →
    HappensBy start (start + 2100) w whole (λ moment. Happens a (moment + clocks.allocator))

-- this happens to a device that comes to the allocator while it is ready with this log
abbrev pub HappensInCalm : ℕ → List Row → List Entry → List ℕ → (ℕ → ℕ → Cluster → Type 0) → Type 0
HappensInCalm n rows log uid Happens = (start : ℕ) (clocks : Clocks) →
    IsReady n log (start + clocks.allocator) (world_of (n ∷ []) rows) →
    HappensToDevice n (world_of (n ∷ []) rows) start clocks uid Happens

-- the device holds a node ID that was left, and the allocator has settled with this pair behind its log
abbrev pub HasServed : ℕ → List Entry → List ℕ → (a now : ℕ) → Cluster → Type 0
HasServed n log uid a now w = (node : ℕ) × IsLeft n log node × Holds w a uid node
    × ((term : ℕ) × HasSettled n (log ++ proposal term uid node ∷ []) now w)

-- the device's unique ID is new: it is served
abbrev pub ServesInTime : ℕ → List Row → Type 0
ServesInTime n rows = (uid : List ℕ) (log : List Entry) → HasPlaceFor n log uid →
    HappensInCalm n rows log uid (HasServed n log uid)

-- the device's unique ID stands in the log: it holds the node ID that it has there, and the allocator has settled
abbrev pub TellsInTime : ℕ → List Row → Type 0
TellsInTime n rows = (uid : List ℕ) (log : List Entry) (node : ℕ) → length uid ≡ 16 → HasPair log uid node →
    HappensInCalm n rows log uid (λ a now later. Holds later a uid node × HasSettled n log now later)
