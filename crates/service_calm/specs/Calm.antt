-- When the bus of several members and devices is calm. The calm of an allocator alone and one device stands in
-- `service_alone`; its words for moments, paces and queues are used here.
use Rattle.std.specs.Prelude.{⊤, ◌≡◌, ◌≢◌, ℕ, ◌+◌, ◌≤◌, ◌==◌, ◌&&◌, not, Bool, false, true, is_some, if◌then◌else◌, List, [], ◌∷◌, ◌++◌, drop}
use Rattle.disk_model.specs.Memory.{nothing_set}
use Rattle.raft_model.specs.Lists.{In}
use Rattle.bus_rows.specs.declared.row.Row.{Row}
use Rattle.bus_rows.specs.declared.row.Row.TheVariants.{ARx, ASend, ATick, Rx, Send, Tick}
use Rattle.transfer_tx.specs.Queue.{Queued}
use Rattle.alloc_spec.specs.AllocatorState.{AllocatorState}
use Rattle.bus_rows.specs.Timed.{Timed}
use Rattle.service_alone.specs.Calm.{IsNext, NoneIsLate, OnItsWay, Pace, next_on_bus, queue_at, queue_of}
use Rattle.service_alone.specs.Calm.{waits_after}
use Rattle.bus_spec.specs.Allocatees.{next_from}
use Rattle.bus_spec.specs.Cluster.{Cluster, after_row}
use Rattle.bus_spec.specs.Members.{next_frame}
use Rattle.bus_spec.specs.Members.MemberStatus.{Up}

-- who takes part in a calm: a member, or a device by its number
pub data Party : Type 0 where
  Member : (n : ℕ) → Party
  Device : (a : ℕ) → Party

-- ---- what a row is to a party

-- the party reads its clock
abbrev pub reads : Row → Party → Bool
reads (Tick n ms word) (Member m) = n == m
reads (ATick a ms word) (Device b) = a == b
reads row party = false

-- a frame of the party goes to the bus
abbrev pub sends : Row → Party → Bool
sends (Send n) (Member m) = n == m
sends (ASend a) (Device b) = a == b
sends row party = false

-- a frame comes to the party
abbrev pub receives : Row → Party → Bool
receives (Rx n k ms) (Member m) = n == m
receives (ARx a k ms word) (Device b) = a == b
receives row party = false

-- a frame of some party goes to the bus
abbrev pub is_sending : Row → Bool
is_sending (Send n) = true
is_sending (ASend a) = true
is_sending row = false

-- ---- what is under way

-- the frames that wait in a party's queue
abbrev pub queue_in : Cluster → Party → List Queued
queue_in w (Member n) = queue_of (w.member n).status
queue_in w (Device a) = queue_at (w.allocatee a)

-- what is under way between the parties
pub record Traffic : Type 0 where
  -- the moment of the last row
  pub at : ℕ
  -- when each party last read its clock, or the calm began
  pub ticked : Party → ℕ
  -- since when frames wait in each party's queue, where some do
  pub waits : Party → ℕ
  -- the frames on their way to each party, oldest first
  pub to : Party → List OnItsWay

-- when a calm begins: no frame is on its way
abbrev pub no_traffic : ℕ → Traffic
no_traffic start = record {
  at = start;
  ticked = λ party. start;
  waits = λ party. start;
  to = λ party. [];
}

-- the frames on their way to a party: one that comes is on its way no more, and one that goes to the bus is on its way
-- to each party but its sender
abbrev pub on_way_after : ℕ → Cluster → Row → Party → List OnItsWay → List OnItsWay
on_way_after at w row party frames =
    if receives row party then drop 1 frames
    else (if is_sending row && not (sends row party) then frames ++ next_on_bus at w ∷ [] else frames)

abbrev pub traffic_after : Traffic → Cluster → Timed → Traffic
traffic_after traffic w timed = record {
  at = timed.at;
  ticked = λ party. if reads timed.row party then timed.at else traffic.ticked party;
  waits = λ party. waits_after timed.at (traffic.waits party) (queue_in w party) (queue_in (after_row w timed.row) party);
  to = λ party. on_way_after timed.at w timed.row party (traffic.to party);
}

-- a member runs, and no call of its disk is set to fail
pub record IsRunning (n : ℕ) (w : Cluster) : Type 0 where
  pub server : AllocatorState
  pub runs : (w.member n).status ≡ Up server
  pub faults : ℕ
  pub disk : (w.member n).disk.calls ≡ nothing_set faults

-- each member of a group runs, and no call of its disk is set to fail
abbrev pub AreRunning : List Party → Cluster → Type 0
AreRunning group w = (n : ℕ) → In (Member n) group → IsRunning n w

module _ (group : List Party) (clocks : Party → ℕ) (pace : Pace) where
  -- ---- calm rows

  -- The parties of a group read their clocks, send what waits, and receive each other's frames: each once, and in the
  -- order in which they came to the bus. Nobody opens, stops, fails or leaves, nothing comes from outside, and who is
  -- not of the group does nothing. By `clocks` the clock of each party is ahead of the moments.
  abbrev pub IsCalmRow : Traffic → Cluster → ℕ → Row → Type 0
  IsCalmRow traffic w at (Tick n ms word) = In (Member n) group × (ms ≡ at + clocks (Member n))
  IsCalmRow traffic w at (Rx n k ms) = In (Member n) group × (ms ≡ at + clocks (Member n))
      × IsNext k (traffic.to (Member n))
  IsCalmRow traffic w at (Send n) = In (Member n) group × (is_some (next_frame (w.member n).status) ≡ true)
  IsCalmRow traffic w at (ATick a ms word) = In (Device a) group × (ms ≡ at + clocks (Device a))
  IsCalmRow traffic w at (ARx a k ms word) = In (Device a) group × (ms ≡ at + clocks (Device a))
      × IsNext k (traffic.to (Device a))
  IsCalmRow traffic w at (ASend a) = In (Device a) group × (is_some (next_from (w.allocatee a)) ≡ true)
  IsCalmRow traffic w at row = ⊥

  -- By this moment, the next one at which something happens, no time is exceeded: each party reads its clock at least
  -- once in each period, a queue in which frames wait is empty within the delay, and a frame takes at most the delay
  -- from the bus to each of its receivers.
  pub record IsInTime (traffic : Traffic) (w : Cluster) (at : ℕ) : Type 0 where
    pub moments : traffic.at ≤ at
    pub ticks : (party : Party) → In party group → at ≤ traffic.ticked party + pace.period
    pub sends_soon : (party : Party) → In party group → queue_in w party ≢ [] → at ≤ traffic.waits party + pace.delay
    pub hears : (party : Party) → In party group → NoneIsLate at pace.delay (traffic.to party)

  -- rows of a calm bus, whatever they are: each is calm, and comes in time
  abbrev pub AreCalm : Traffic → Cluster → List Timed → Type 0
  AreCalm traffic w [] = ⊤
  AreCalm traffic w (timed ∷ rest) = IsInTime traffic w timed.at × IsCalmRow traffic w timed.at timed.row
      × AreCalm (traffic_after traffic w timed) (after_row w timed.row) rest
