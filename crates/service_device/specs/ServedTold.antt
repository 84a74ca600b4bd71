-- What it is that the pair of a new device is told in a calm: the leader has settled with it.
use Rattle.std.specs.Prelude.{⊤, ◌≡◌, ℕ, ◌+◌, ◌*◌, ◌<◌, ◌≤◌, true, List, [], ◌∷◌, ◌++◌, length, Some}
use Rattle.can_frame.specs.declared.entry.Entry.{Entry}
use Rattle.can_frame.specs.Log.{log_limit}
use Rattle.raft_core.specs.Taken.{proposal}
use Rattle.bus_rows.specs.declared.row.Row.{Row}
use Rattle.alloc_spec.specs.AllocatorState.{AllocatorState}
use Rattle.alloc_spec.specs.Step.{Event}
use Rattle.alloc_spec_laws.specs.Phases.{has_room_to_tell, when_committed}
use Rattle.bus_rows.specs.Timed.{Timed, rows_in}
use Rattle.service_alone.specs.Calm.{HasSettled, Pace, end_of}
use Rattle.service_calm.specs.Calm.{Member, Party}
use Rattle.service_leader.specs.NoElection.{CallsFit}
use Rattle.service_device.specs.Dialog.{HasJustCome, HaveRoom}
use Rattle.service_device.specs.Served.{HasFollowers, HasPlaceFor, IsLeft, ListsAll, time_to_be_committed}
use Rattle.service_device.specs.Settled.{IsCalmUnder}
use Rattle.bus_spec.specs.Cluster.{Cluster, after_row, after_rows, step_of, world_of}
use Rattle.bus_spec.specs.Members.MemberStatus.{Up}

-- Where member n takes a step in this row, it has room for the frames of the next pair when it comes to telling it:
-- behind the transfers that it has offered in the step before. Nothing is asked of a row in which it takes none.
abbrev pub HasRoomInStep : ℕ → Cluster → Row → Type 0
HasRoomInStep n w row = (server : AllocatorState) (event : Event) → (w.member n).status ≡ Up server →
    step_of w row ≡ Some (n, event) → has_room_to_tell (when_committed server (w.rows + 1) event).allocator ≡ true

-- so in each of these rows
abbrev pub HasRoomInSteps : ℕ → Cluster → List Timed → Type 0
HasRoomInSteps n w [] = ⊤
HasRoomInSteps n w (timed ∷ rest) = HasRoomInStep n w timed.row × HasRoomInSteps n (after_row w timed.row) rest

-- Behind some front of these rows, which ends by this moment, member n has settled with this log and behind it a pair
-- of the unique ID with a node ID that was left: the pair is committed and told. Whether the device hears it is not
-- asked.
pub record HasSettledWithPairBy (ids : List ℕ) (n term : ℕ) (log : List Entry) (ahead : ℕ) (uid : List ℕ)
    (start last : ℕ) (w : Cluster) (whole : List Timed) : Type 0 where
  pub front : List Timed
  pub rest : List Timed
  pub split : whole ≡ front ++ rest
  pub soon : end_of start front ≤ last
  pub node : ℕ
  pub left : IsLeft ids log node
  pub settled : HasSettled n (log ++ proposal term uid node ∷ []) (end_of start front + ahead)
      (after_rows w (rows_in front))

-- In each calm as for `NewPairsAreCommitted` of `specs/Served`, in which the leader has room in each of its steps for
-- the frames of the next pair, and room in its log for one entry more: the leader settles with the device's pair in the
-- time in which it is committed, or the calm is over by then. So the next device can be heard out. With a full log it
-- would give follow-ups before the pair is committed: of that nothing is said.
abbrev pub NewPairsAreTold : List ℕ → List Row → Type 0
NewPairsAreTold ids rows = (group : List Party) (clocks : Party → ℕ) (pace : Pace) (start n a term : ℕ)
    (uid : List ℕ) (preferred first : ℕ) (next : List ℕ) (log : List Entry) (whole : List Timed) →
    let w = world_of ids rows in
    IsCalmUnder ids rows group clocks pace start n term [] whole →
    HasJustCome group clocks start n a uid preferred log w →
    HasPlaceFor ids log uid → ListsAll n ids w → HaveRoom n a w whole → CallsFit n w whole → HasRoomInSteps n w whole →
    length log + 1 < log_limit → HasFollowers ids group n (length log) (first ∷ next) w whole →
    pace.period + 4 * pace.delay ≤ 100 →
    start + time_to_be_committed pace < end_of start whole →
    HasSettledWithPairBy ids n term log (clocks (Member n)) uid start (start + time_to_be_committed pace) w whole
