-- What it is that a device is told whose unique ID the leader's log has, from the middle of a calm on; and that who
-- follows has nothing to tell.
use Rattle.std.specs.Prelude.{◌≡◌, ◌≢◌, ℕ, ◌+◌, ◌*◌, ◌<◌, ◌≤◌, List, ◌∷◌, ◌++◌, length}
use Rattle.alloc_exchange.specs.Exchange.{last_moment}
use Rattle.can_frame.specs.declared.entry.Entry.{Entry}
use Rattle.can_frame.specs.Log.{HasPair}
use Rattle.can_frame.specs.Timing.{call_timeout, stage_timeout, transfer_timeout}
use Rattle.raft_model.specs.Lists.{In}
use Rattle.bus_rows.specs.declared.row.Row.{Row}
use Rattle.alloc_spec.specs.AllocatorState.{AllocatorState}
use Rattle.bus_rows.specs.Timed.{Timed, rows_in}
use Rattle.service_alone.specs.Calm.{Pace, end_of}
use Rattle.service_leader.specs.LeadsOn.{IsLedThroughout}
use Rattle.service_leader.specs.NoElection.{CallsFit}
use Rattle.service_device.specs.Asking.{HasIdBy, IsAsking, RecordsBy}
use Rattle.service_device.specs.AskingServed.{CanBeTold, CanCommitWith, serve_within}
use Rattle.service_device.specs.Dialog.{HasNothingToSay, HasRoomToTell, HearsWholeBy}
use Rattle.service_device.specs.Served.{HasPlaceFor, ListsAll, PairsFit}
use Rattle.service_device.specs.Settled.{IsCalmUnder}
use Rattle.service_calm.specs.Calm.{AreCalm, AreRunning, Device as OfDevice, Member, Party, no_traffic}
use Rattle.service_calm.specs.Comes.{Throughout}
use Rattle.bus_spec.specs.Cluster.{after_rows, world_of}
use Rattle.bus_spec.specs.Lawful.{DoNoHarm}
use Rattle.bus_spec.specs.Members.MemberStatus.{Up}

-- ---- a device that the log knows

-- In each calm from the world of these rows on, in which member n leads on behind the first rows and the others follow:
-- where it hears the unique ID of a device whole by the moment `heard`, behind the early rows, and before that row it
-- has settled with a log that has the unique ID with a node ID, the device holds a node ID two delays later, or the
-- calm is over by then.
abbrev pub HeardKnownDevicesAreTold : List ℕ → List Row → Type 0
HeardKnownDevicesAreTold ids rows = (group : List Party) (clocks : Party → ℕ) (pace : Pace) (start n a term : ℕ)
    (uid : List ℕ) (preferred node : ℕ) (log : List Entry) (heard wait : ℕ) (first early later : List Timed) →
    let w = world_of ids rows in let there = after_rows (after_rows w (rows_in first)) (rows_in early) in
    let moment = end_of (end_of start first) early in let whole = first ++ (early ++ later) in
    IsCalmUnder ids rows group clocks pace start n term first (early ++ later) → 2 * pace.delay ≤ transfer_timeout →
    HearsWholeBy n a log (clocks (Member n)) wait uid preferred moment heard there later → HasPair log uid node →
    CanBeTold group n a w whole → Throughout (HasRoomToTell n) w whole →
    heard + 2 * pace.delay < end_of moment later → HasIdBy a moment (heard + 2 * pace.delay) there later

-- ---- a device whose unique ID is recorded by earlier requests

-- In each such calm in which the log of member n grows by the device's unique ID, by the moment `heard`: the device
-- holds a node ID in the time in which one is served that is heard out, or the calm is over by then. Once n leads in
-- the calm, be it in the first rows, it leads on in one term.
abbrev pub RecordedDevicesAreServed : List ℕ → List Row → Type 0
RecordedDevicesAreServed ids rows = (group : List Party) (clocks : Party → ℕ) (pace : Pace) (start n a term : ℕ)
    (uid : List ℕ) (preferred : ℕ) (log : List Entry) (one : ℕ) (next : List ℕ) (heard : ℕ)
    (first early later : List Timed) → let w = world_of ids rows in let led = after_rows w (rows_in first) in
    let there = after_rows led (rows_in early) in let moment = end_of (end_of start first) early in
    let whole = first ++ (early ++ later) in
    IsCalmUnder ids rows group clocks pace start n term first (early ++ later) →
    IsAsking group a uid preferred (start + clocks (OfDevice a)) w →
    (records : RecordsBy n log (clocks (Member n)) moment heard there later) → records.recorded.uid ≡ uid →
    HasPlaceFor ids log uid → ListsAll n ids w → CallsFit n w whole → PairsFit n there later →
    CanBeTold group n a w whole →
    CanCommitWith ids group n pace.delay (one ∷ next) w first (early ++ later) →
    4 * pace.delay < call_timeout →
    let last = heard + serve_within pace (length log) in last < end_of moment later →
    HasIdBy a moment last there later

-- ---- who follows has nothing to tell

-- In each calm of rows that do no harm, from the world of these rows on: where member n leads on behind the first rows
-- and the others follow, each other one has nothing to tell later than the stage timeout, a period and a delay behind
-- them. For who follows gives no follow-up, so it accepts no request for longer; and it tells nothing anew. No request
-- that it has accepted behind the first rows is of a later moment than its clock reads there.
abbrev pub WhoFollowsFallsSilent : List ℕ → List Row → Type 0
WhoFollowsFallsSilent ids rows = (group : List Party) (clocks : Party → ℕ) (pace : Pace) (start n m term : ℕ)
    (first few rest : List Timed) (server : AllocatorState) → let w = world_of ids rows in
    let there = after_rows w (rows_in first) in let from = end_of start first in
    ((p : ℕ) → In (Member p) group → In p ids) → AreRunning group w →
    AreCalm group clocks pace (no_traffic start) w (first ++ (few ++ rest)) →
    DoNoHarm w (rows_in (first ++ (few ++ rest))) → IsLedThroughout group n term there (few ++ rest) →
    In (Member m) group → m ≢ n → (there.member m).status ≡ Up server →
    last_moment server.accepted ≤ from + clocks (Member m) →
    from + stage_timeout + pace.period + pace.delay < end_of from few →
    HasNothingToSay m (end_of from few + clocks (Member m)) (after_rows there (rows_in few))
