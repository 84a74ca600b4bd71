-- What it is that a new device is served in a calm: the leader records its unique ID with a node ID that is left.
use Rattle.std.specs.Prelude.{⊤, true, ◌≡◌, ◌≢◌, ℕ, ◌+◌, ◌*◌, ◌<◌, ◌≤◌, List, [], ◌∷◌, ◌++◌, length, Some}
use Rattle.can_frame.specs.declared.entry.Entry.{Entry}
use Rattle.can_frame.specs.declared.step.What.TheVariants.{Alloc}
use Rattle.can_frame.specs.Log.{HasNodeId, HasUid, log_limit}
use Rattle.can_frame.specs.Zeros.{zeros}
use Rattle.raft_core.specs.Taken.{proposal}
use Rattle.raft_model.specs.Lists.{In, how_many}
use Rattle.raft_model.specs.Server.{quorum}
use Rattle.raft_model.specs.Server.Role.{Leader}
use Rattle.bus_rows.specs.declared.row.Row.{Row}
use Rattle.alloc_spec.specs.AllocatorState.{AllocatorState}
use Rattle.alloc_spec.specs.Exchange.{allocation_payload}
use Rattle.alloc_spec.specs.Step.{Event, step}
use Rattle.alloc_spec.specs.Transfers.{Offer}
use Rattle.bus_agreement.specs.Allocatees.{Holds}
use Rattle.bus_rows.specs.Timed.{Timed, rows_in}
use Rattle.service_alone.specs.Calm.{HasSettled, Pace, end_of}
use Rattle.service_calm.specs.Calm.{Member, Party}
use Rattle.service_calm.specs.Calls.{Lists}
use Rattle.service_device.specs.Dialog.{HasJustCome, HaveRoom, time_to_be_heard}
use Rattle.service_calm.specs.Devices.{SendsShortAllocations}
use Rattle.service_leader.specs.Entries.{AreInStep, CanExchange, NoCallPends, come_within, is_one_of}
use Rattle.service_leader.specs.NoElection.{CallsFit}
use Rattle.service_device.specs.Settled.{IsCalmUnder}
use Rattle.bus_spec.specs.Cluster.{Cluster, after_row, after_rows, step_of, world_of}
use Rattle.bus_spec.specs.Members.MemberStatus.{Up}

-- ---- what is left

-- a node ID is left for a device: it is none of a member of the cluster, and stands in no entry of the log
pub record IsLeft (ids : List ℕ) (log : List Entry) (node : ℕ) : Type 0 where
  pub least : 1 ≤ node
  pub most : node ≤ 125
  pub other : In node ids → ⊥
  pub free : HasNodeId log node → ⊥

-- There is a place for the unique ID: it has 16 bytes, which are not all zero, it stands in no entry of the log, a node
-- ID is left for it, and the log has room. `HasPlaceFor` of `service_alone` says it of an allocator that is alone.
pub record HasPlaceFor (ids : List ℕ) (log : List Entry) (uid : List ℕ) : Type 0 where
  pub whole : length uid ≡ 16
  pub device : uid ≢ zeros
  pub new : HasUid log uid → ⊥
  pub left : (node : ℕ) × IsLeft ids log node
  pub room : length log < log_limit

-- member n knows all members of the cluster, if it runs
abbrev pub ListsAll : (n : ℕ) → List ℕ → Cluster → Type 0
ListsAll n ids w = (p : ℕ) → In p ids → Lists n p w

-- ---- the pair is recorded

-- Member n runs and leads in this term, and its log is this one.
pub record LeadsWithLog (n term : ℕ) (log : List Entry) (w : Cluster) : Type 0 where
  pub server : AllocatorState
  pub runs : (w.member n).status ≡ Up server
  pub leads : server.raft_server.memory.role ≡ Leader
  pub its_term : server.raft_server.store.term ≡ term
  pub its_log : server.raft_server.store.log ≡ log

-- In one of these rows, by this moment, the log of member n grows by the unique ID and a node ID that was left. Before
-- the row it has settled with this log. Whether the pair is committed is not asked, nor whom it is told.
pub record IsRecordedBy (ids : List ℕ) (n term : ℕ) (log : List Entry) (ahead : ℕ) (uid : List ℕ) (start last : ℕ)
    (w : Cluster) (whole : List Timed) : Type 0 where
  pub front : List Timed
  pub timed : Timed
  pub rest : List Timed
  pub split : whole ≡ front ++ timed ∷ rest
  pub soon : timed.at ≤ last
  pub settled : HasSettled n log (end_of start front + ahead) (after_rows w (rows_in front))
  pub node : ℕ
  pub left : IsLeft ids log node
  pub recorded : LeadsWithLog n term (log ++ proposal term uid node ∷ [])
      (after_row (after_rows w (rows_in front)) timed.row)

-- In each calm from the world of these rows on, in which a device that has just come is heard out by a leader that has
-- settled, as `DevicesAreHeardOut` of `specs/Dialog` says: where the leader knows all members, and has a place for the
-- device's unique ID, it records it with a node ID that is left, when it has heard it. The calm may end with that row.
abbrev pub NewDevicesAreRecorded : List ℕ → List Row → Type 0
NewDevicesAreRecorded ids rows = (group : List Party) (clocks : Party → ℕ) (pace : Pace) (start n a term : ℕ)
    (uid : List ℕ) (preferred : ℕ) (log : List Entry) (whole : List Timed) → let w = world_of ids rows in
    IsCalmUnder ids rows group clocks pace start n term [] whole →
    HasJustCome group clocks start n a uid preferred log w →
    HasPlaceFor ids log uid → ListsAll n ids w → HaveRoom n a w whole → pace.period + 4 * pace.delay ≤ 100 →
    start + time_to_be_heard pace < end_of start whole →
    IsRecordedBy ids n term log (clocks (Member n)) uid start (start + time_to_be_heard pace) w whole

-- ---- the pair is committed

-- Member n, if it runs, knows member m to have so many places of its log.
abbrev pub KnowsToHave : (n m count : ℕ) → Cluster → Type 0
KnowsToHave n m count w = (leader : AllocatorState) → (w.member n).status ≡ Up leader →
    count ≤ leader.raft_server.memory.matched m

-- In each such calm, in which the leader's calls find room in its queue: between any two moments its log grows behind
-- its end alone; and of a member with which it is in step when the calm begins, the places that it knows the member to
-- have do not become fewer.
abbrev pub LeadersLoseNothing : List ℕ → List Row → Type 0
LeadersLoseNothing ids rows = (group : List Party) (clocks : Party → ℕ) (pace : Pace) (start n m term : ℕ)
    (early middle late : List Timed) (before after : AllocatorState) → let w = world_of ids rows in
    IsCalmUnder ids rows group clocks pace start n term [] (early ++ (middle ++ late)) →
    CallsFit n w (early ++ (middle ++ late)) → In (Member m) group → m ≢ n → AreInStep n m w →
    ((after_rows w (rows_in early)).member n).status ≡ Up before →
    ((after_rows w (rows_in (early ++ middle))).member n).status ≡ Up after →
    ((more : List Entry) × (after.raft_server.store.log ≡ before.raft_server.store.log ++ more))
    × (before.raft_server.memory.matched m ≤ after.raft_server.memory.matched m)

-- Some others of the group are with n a quorum of the cluster's members. With each of them n can exchange calls and
-- answers and is in step, no call to it pends, and n knows it to have so many places of its log, when the calm begins.
pub record HasFollowers (ids : List ℕ) (group : List Party) (n count : ℕ) (others : List ℕ) (w : Cluster)
    (whole : List Timed) : Type 0 where
  pub apart : (m : ℕ) → In m others → In (Member m) group × (m ≢ n)
  pub many : quorum ids ≤ how_many (is_one_of n others) ids
  pub exchange : (m : ℕ) → In m others → CanExchange n m w whole
  pub in_step : (m : ℕ) → In m others → AreInStep n m w
  pub none_pends : (m : ℕ) → In m others → NoCallPends n m w
  pub have : (m : ℕ) → In m others → KnowsToHave n m count w

-- Behind some front of these rows, which ends by this moment, member n leads in this term; its log begins with this
-- one, and it has committed at least all of it. Whom the pair in it is told is not asked.
pub record HasCommittedBy (n term : ℕ) (log : List Entry) (start last : ℕ) (w : Cluster)
    (whole : List Timed) : Type 0 where
  pub front : List Timed
  pub rest : List Timed
  pub split : whole ≡ front ++ rest
  pub soon : end_of start front ≤ last
  pub more : List Entry
  pub leads : LeadsWithLog n term (log ++ more) (after_rows w (rows_in front))
  pub committed : length log ≤ leads.server.raft_server.store.commit

-- A row records a pair of the unique ID with a node ID that was left, and by this moment it is committed.
pub record IsCommittedPairBy (ids : List ℕ) (n term : ℕ) (log : List Entry) (uid : List ℕ) (start last : ℕ)
    (w : Cluster) (whole : List Timed) : Type 0 where
  pub node : ℕ
  pub left : IsLeft ids log node
  pub committed : HasCommittedBy n term (log ++ proposal term uid node ∷ []) start last w whole

-- one entry more has to come to the followers
abbrev pub time_to_be_committed : Pace → ℕ
time_to_be_committed pace = time_to_be_heard pace + come_within pace 1

-- In each calm as for `NewDevicesAreRecorded`, in which the leader's calls find room in its queue, and in which
-- followers that have the leader's whole log when the calm begins are with it a quorum: the leader records the device's
-- unique ID with a node ID that was left, and the pair is committed in this time, or the calm is over by then.
abbrev pub NewPairsAreCommitted : List ℕ → List Row → Type 0
NewPairsAreCommitted ids rows = (group : List Party) (clocks : Party → ℕ) (pace : Pace) (start n a term : ℕ)
    (uid : List ℕ) (preferred first : ℕ) (next : List ℕ) (log : List Entry) (whole : List Timed) →
    let w = world_of ids rows in
    IsCalmUnder ids rows group clocks pace start n term [] whole →
    HasJustCome group clocks start n a uid preferred log w →
    HasPlaceFor ids log uid → ListsAll n ids w → HaveRoom n a w whole → CallsFit n w whole →
    HasFollowers ids group n (length log) (first ∷ next) w whole → pace.period + 4 * pace.delay ≤ 100 →
    start + time_to_be_committed pace < end_of start whole →
    IsCommittedPairBy ids n term log uid start (start + time_to_be_committed pace) w whole

-- ---- the pair is told

-- In this row member n offers an Allocation with this node ID and this unique ID, whether or not its queue has room for
-- it.
pub record Tells (n node : ℕ) (uid : List ℕ) (w : Cluster) (row : Row) : Type 0 where
  pub server : AllocatorState
  pub runs : (w.member n).status ≡ Up server
  pub event : Event
  pub in_step : step_of w row ≡ Some (n, event)
  pub offer : Offer
  pub offered : In offer (step server (w.rows + 1) event).step_state.offers
  pub what : offer.what ≡ Alloc
  pub to : offer.to ≡ 0
  pub payload : offer.payload ≡ allocation_payload node uid

-- In one of these rows, by this moment, member n tells a pair of the unique ID with a node ID that was left. Behind the
-- row it leads in this term, its log begins with the former one and the pair, and it has committed both.
pub record IsToldBy (ids : List ℕ) (n term : ℕ) (log : List Entry) (uid : List ℕ) (start last : ℕ) (w : Cluster)
    (whole : List Timed) : Type 0 where
  pub front : List Timed
  pub timed : Timed
  pub rest : List Timed
  pub split : whole ≡ front ++ timed ∷ rest
  pub soon : timed.at ≤ last
  pub node : ℕ
  pub left : IsLeft ids log node
  pub tells : Tells n node uid (after_rows w (rows_in front)) timed.row
  pub more : List Entry
  pub leads : LeadsWithLog n term (log ++ proposal term uid node ∷ more)
      (after_row (after_rows w (rows_in front)) timed.row)
  pub committed : length log < leads.server.raft_server.store.commit

-- In each calm as for `NewPairsAreCommitted`: the leader tells the pair in the row in which it commits it, within the
-- same time, or the calm is over by then.
abbrev pub NewPairsAreOffered : List ℕ → List Row → Type 0
NewPairsAreOffered ids rows = (group : List Party) (clocks : Party → ℕ) (pace : Pace) (start n a term : ℕ)
    (uid : List ℕ) (preferred first : ℕ) (next : List ℕ) (log : List Entry) (whole : List Timed) →
    let w = world_of ids rows in
    IsCalmUnder ids rows group clocks pace start n term [] whole →
    HasJustCome group clocks start n a uid preferred log w →
    HasPlaceFor ids log uid → ListsAll n ids w → HaveRoom n a w whole → CallsFit n w whole →
    HasFollowers ids group n (length log) (first ∷ next) w whole → pace.period + 4 * pace.delay ≤ 100 →
    start + time_to_be_committed pace < end_of start whole →
    IsToldBy ids n term log uid start (start + time_to_be_committed pace) w whole

-- ---- the device is served

-- in each of these rows the queue of member n has room for each pair that it tells
abbrev pub PairsFit : ℕ → Cluster → List Timed → Type 0
PairsFit n w [] = ⊤
PairsFit n w (timed ∷ rest) =
    ((node : ℕ) (uid : List ℕ) (tells : Tells n node uid w timed.row) → tells.offer.fitted ≡ true)
    × PairsFit n (after_row w timed.row) rest

-- behind some front of these rows, which ends by this moment, device a holds a node ID that was left
pub record IsServedBy (ids : List ℕ) (a : ℕ) (log : List Entry) (uid : List ℕ) (start last : ℕ) (w : Cluster)
    (whole : List Timed) : Type 0 where
  pub front : List Timed
  pub rest : List Timed
  pub split : whole ≡ front ++ rest
  pub soon : end_of start front ≤ last
  pub node : ℕ
  pub left : IsLeft ids log node
  pub holds : Holds (after_rows w (rows_in front)) a uid node

-- the Allocation takes two delays more
abbrev pub time_to_be_served : Pace → ℕ
time_to_be_served pace = time_to_be_committed pace + 2 * pace.delay

-- In each calm as for `NewPairsAreOffered`, in which the leader's queue has room for each pair that it tells, and each
-- Allocation that it sends has three frames at most: the device holds a node ID that was left, in this time, or the
-- calm is over by then. That the leader settles again is not said.
abbrev pub NewDevicesAreServed : List ℕ → List Row → Type 0
NewDevicesAreServed ids rows = (group : List Party) (clocks : Party → ℕ) (pace : Pace) (start n a term : ℕ)
    (uid : List ℕ) (preferred first : ℕ) (next : List ℕ) (log : List Entry) (whole : List Timed) →
    let w = world_of ids rows in
    IsCalmUnder ids rows group clocks pace start n term [] whole →
    HasJustCome group clocks start n a uid preferred log w →
    HasPlaceFor ids log uid → ListsAll n ids w → HaveRoom n a w whole → CallsFit n w whole → PairsFit n w whole →
    SendsShortAllocations n w whole → HasFollowers ids group n (length log) (first ∷ next) w whole →
    pace.period + 4 * pace.delay ≤ 100 → start + time_to_be_served pace < end_of start whole →
    IsServedBy ids a log uid start (start + time_to_be_served pace) w whole
