-- What an allocator that is alone does once it is started on a bus on which nothing else happens: it comes to rest in
-- time, however that goes on; and from then on each device that comes is served in time.
use Rattle.std.specs.Prelude.{◌≡◌, ◌≢◌, ℕ, ◌+◌, ◌*◌, ◌-◌, ◌<◌, ◌≤◌, Bool, true, is_some, List, [], ◌∷◌, ◌++◌, length, None}
use Rattle.can_frame.specs.declared.entry.Entry.{Entry}
use Rattle.can_frame.specs.Log.{HasPair, log_limit}
use Rattle.disk_model.specs.Memory.{nothing_set}
use Rattle.outside.specs.declared.pattern.Pattern.{Pattern}
use Rattle.raft_core.specs.StoredPuts.{store_of}
use Rattle.raft_core.specs.Times.{wait}
use Rattle.raft_model.specs.Moves.Elections.{term_limit}
use Rattle.raft_model.specs.Server.{Store}
use Rattle.bus_rows.specs.declared.row.Row.{Row}
use Rattle.bus_rows.specs.declared.row.Row.TheVariants.{Crash, Open, Send, Tick}
use Rattle.bus_agreement.specs.Allocatees.{Holds}
use Rattle.service_alone.specs.Alone.{MayBeServed}
use Rattle.service_steps.specs.ComingBack.{HasGrown}
use Rattle.service_alone.specs.Calm.{Clocks, HappensBy, HappensToDevice, HasComeToRest, HasServed, HasSettled}
use Rattle.bus_rows.specs.Timed.{Timed, rows_in}
use Rattle.service_alone.specs.Calm.{IsReady, NothingWaits, Pace, queue_of, waits_after}
use Rattle.bus_spec.specs.Cluster.{Cluster, after_row, after_rows, world_of}
use Rattle.bus_spec.specs.Lawful.{AreLawful, cause}
use Rattle.bus_spec.specs.Members.{is_running, next_frame}
use Rattle.bus_spec.specs.Members.MemberStatus.{Down}

-- ---- a quiet bus

-- what is under way at an allocator, of which nobody else takes notice
pub record OwnTraffic : Type 0 where
  -- the moment of the last row
  pub at : ℕ
  -- when the allocator last read its clock
  pub ticked : ℕ
  -- since when frames wait in its queue, where some do
  pub waits : ℕ

-- when the allocator is opened: it has read its clock, and nothing waits
abbrev pub no_own_traffic : ℕ → OwnTraffic
no_own_traffic start = record { at = start; ticked = start; waits = start }

abbrev pub own_ticked_after : (at ticked : ℕ) → Row → ℕ
own_ticked_after at ticked (Tick n ms word) = at
own_ticked_after at ticked row = ticked

-- at allocator n, after a row
abbrev pub own_traffic_after : ℕ → OwnTraffic → Cluster → Timed → OwnTraffic
own_traffic_after n traffic w timed = let then_w : Cluster = after_row w timed.row in record {
  at = timed.at;
  ticked = own_ticked_after timed.at traffic.ticked timed.row;
  waits = waits_after timed.at traffic.waits (queue_of (w.member n).status) (queue_of (then_w.member n).status);
}

module _ (n ahead : ℕ) (pace : Pace) where
  -- Allocator n reads its clock, which is so far ahead of the moments, and sends what waits. Nobody else does anything,
  -- and no frame comes to it.
  abbrev pub IsQuietRow : Cluster → ℕ → Row → Type 0
  IsQuietRow w at (Tick m ms word) = (m ≡ n) × (ms ≡ at + ahead)
  IsQuietRow w at (Send m) = (m ≡ n) × (is_some (next_frame (w.member n).status) ≡ true)
  IsQuietRow w at row = ⊥

  -- By this moment, the next one at which something happens, no time is exceeded: the allocator reads its clock at
  -- least once in each period, and a queue in which frames wait is empty within the delay.
  pub record KeepsPace (traffic : OwnTraffic) (w : Cluster) (at : ℕ) : Type 0 where
    pub moments : traffic.at ≤ at
    pub ticks : at ≤ traffic.ticked + pace.period
    pub sends : queue_of (w.member n).status ≢ [] → at ≤ traffic.waits + pace.delay

  -- rows of a quiet bus up to the moment `last`, whatever they are: each is quiet, and comes in time; and by `last` no
  -- time is exceeded
  abbrev pub AreQuiet : (last : ℕ) → OwnTraffic → Cluster → List Timed → Type 0
  AreQuiet last traffic w [] = KeepsPace traffic w last
  AreQuiet last traffic w (timed ∷ rest) = KeepsPace traffic w timed.at × IsQuietRow w timed.at timed.row
      × AreQuiet last (own_traffic_after n traffic w timed) (after_row w timed.row) rest

-- Quiet rows come to no end by themselves: whatever the world in which they began, rows of the same pace can go on for
-- as long as one wants, and nothing waits at their end. So what is said of all quiet rows is said of some.
abbrev pub QuietGoesOn : Type 0
QuietGoesOn = (n ahead start last more : ℕ) (pace : Pace) (w : Cluster) (whole : List Timed) → 1 ≤ pace.period →
    AreQuiet n ahead pace last (no_own_traffic start) w whole →
    (rest : List Timed) × AreQuiet n ahead pace (last + more) (no_own_traffic start) w (whole ++ rest)
    × NothingWaits n (after_rows w (rows_in (whole ++ rest)))

-- ---- the allocator is started

-- The allocator is stopped, with this stored, and no call of its disk is set to fail. A term is left; and where not all
-- of its log is committed, there is room for a blank.
pub record MayStart (n : ℕ) (store : Store) (w : Cluster) : Type 0 where
  pub stopped : (w.member n).status ≡ Down
  pub faults : ℕ
  pub disk : (w.member n).disk.calls ≡ nothing_set faults
  pub stored : store_of (w.member n).disk.store ≡ store
  pub term : store.term < term_limit
  pub room : store.commit < length store.log → length store.log < log_limit

-- An allocator that runs, or has failed, is stopped so by one row, wherever it is: no call of its disk is set to fail
-- then.
abbrev pub StopsAtOnce : ℕ → List Row → Type 0
StopsAtOnce n rows = (pattern : Pattern) → let w = world_of (n ∷ []) rows in let then_w = after_row w (Crash n 0 pattern) in
    is_running (w.member n).status ≡ true →
    (cause w (Crash n 0 pattern) ≡ None) × ((then_w.member n).status ≡ Down)
    × ((faults : ℕ) × ((then_w.member n).disk.calls ≡ nothing_set faults))

-- One way in which it goes on behind these rows: the allocator is opened at a moment, told who its members are or only
-- how many, with a random word; and quiet rows follow.
pub record QuietStart (n : ℕ) (rows : List Row) : Type 0 where
  pub store : Store
  pub may : MayStart n store (world_of (n ∷ []) rows)
  pub start : ℕ
  pub told : Bool
  pub word : ℕ
  pub clocks : Clocks
  pub pace : Pace
  pub whole : List Timed
  -- the quiet rows go up to this moment
  pub last : ℕ
  pub quiet : AreQuiet n clocks.allocator pace last (no_own_traffic start)
      (after_row (world_of (n ∷ []) rows) (Open n told (start + clocks.allocator) word)) whole

-- How long it takes at most to settle: the wait for an election that the word says, which is 2,000 to 4,000 ms,
-- and a period; and for each entry that was not committed the time to a tick that finds room in the queue.
abbrev pub time_to_settle : Pace → (word : ℕ) → Store → ℕ
time_to_settle pace word store =
    wait word + pace.period + (length store.log - store.commit) * (pace.period + pace.delay)

module _ (n : ℕ) (rows : List Row) (s : QuietStart n rows) where
  abbrev pub world_opened : Cluster
  world_opened = after_row (world_of (n ∷ []) rows) (Open n s.told (s.start + s.clocks.allocator) s.word)

  -- the world at the moment `last`
  abbrev pub world_then : Cluster
  world_then = after_rows world_opened (rows_in s.whole)

  abbrev pub settled_from : ℕ
  settled_from = s.start + time_to_settle s.pace s.word s.store

-- with a delay of no more than this, in milliseconds, three frames of NodeStatus wait at most: one comes in each second
abbrev pub most_delay : ℕ
most_delay = 2000

-- ---- it comes to rest

-- the allocator has settled with this log, or with a blank more
abbrev pub HasSettledWith : ℕ → (before : List Entry) → (now : ℕ) → Cluster → Type 0
HasSettledWith n before now w = (log : List Entry) × HasGrown before log × HasSettled n log now w

-- the rows are lawful
abbrev pub StartsLawfully : ℕ → List Row → Type 0
StartsLawfully n rows = (s : QuietStart n rows) →
    AreLawful (world_of (n ∷ []) rows) (Open n s.told (s.start + s.clocks.allocator) s.word ∷ rows_in s.whole)

-- from `settled_from` on the allocator has settled: so whenever nothing waits in its queue it is at rest
abbrev pub SettlesInTime : ℕ → List Row → Type 0
SettlesInTime n rows = (s : QuietStart n rows) → settled_from n rows s ≤ s.last →
    HasSettledWith n s.store.log (s.last + s.clocks.allocator) (world_then n rows s)

-- by a delay behind `settled_from` there is a moment at which the allocator has settled and nothing waits
abbrev pub RestsSoon : ℕ → List Row → Type 0
RestsSoon n rows = (s : QuietStart n rows) → let by = settled_from n rows s + s.pace.delay in by ≤ s.last →
    HappensBy s.start by (world_opened n rows s) s.whole
    (λ moment. HasComeToRest n s.store.log (moment + s.clocks.allocator))

-- A delay behind `settled_from` the frames of its Allocations are gone too: from then on the allocator is ready, where
-- a delay is 2,000 ms at most.
abbrev pub GetsReady : ℕ → List Row → Type 0
GetsReady n rows = (s : QuietStart n rows) → s.pace.delay ≤ most_delay → settled_from n rows s + s.pace.delay ≤ s.last →
    (log : List Entry) × HasGrown s.store.log log
    × IsReady n log (s.last + s.clocks.allocator) (world_then n rows s)

-- ---- it stays so

-- An allocator that has settled stays so, whatever happened before, for as long as the bus is quiet.
abbrev pub StaysSettled : ℕ → List Row → Type 0
StaysSettled n rows = (log : List Entry) (start last ahead : ℕ) (pace : Pace) (whole : List Timed) →
    let w = world_of (n ∷ []) rows in HasSettled n log (start + ahead) w →
    AreQuiet n ahead pace last (no_own_traffic start) w whole →
    AreLawful w (rows_in whole) × HasSettled n log (last + ahead) (after_rows w (rows_in whole))

-- an allocator that has settled is ready more than a delay later, and stays so, where a delay is 2,000 ms at most
abbrev pub StaysReady : ℕ → List Row → Type 0
StaysReady n rows = (log : List Entry) (start last ahead : ℕ) (pace : Pace) (whole : List Timed) →
    let w = world_of (n ∷ []) rows in HasSettled n log (start + ahead) w →
    AreQuiet n ahead pace last (no_own_traffic start) w whole → pace.delay ≤ most_delay → start + pace.delay < last →
    IsReady n log (last + ahead) (after_rows w (rows_in whole))

-- ---- and then it serves each device in time

-- The device comes at the moment `last`, when the allocator was started long enough before. Its unique ID is new: it is
-- served, by what the allocator had stored before, or that and a blank.
abbrev pub RecoversForNew : ℕ → List Row → Type 0
RecoversForNew n rows = (s : QuietStart n rows) (uid : List ℕ) → MayBeServed n s.store uid →
    s.pace.delay ≤ most_delay → settled_from n rows s + s.pace.delay ≤ s.last →
    HappensToDevice n (world_then n rows s) s.last s.clocks uid
    (λ a now later. (log : List Entry) × HasGrown s.store.log log × HasServed n log uid a now later)

-- the device's unique ID stands in the log: it holds the node ID that it has there, and the allocator has settled
abbrev pub RecoversForKnown : ℕ → List Row → Type 0
RecoversForKnown n rows = (s : QuietStart n rows) (uid : List ℕ) (node : ℕ) → length uid ≡ 16 →
    HasPair s.store.log uid node → s.pace.delay ≤ most_delay → settled_from n rows s + s.pace.delay ≤ s.last →
    HappensToDevice n (world_then n rows s) s.last s.clocks uid
    (λ a now later. Holds later a uid node × HasSettledWith n s.store.log now later)
