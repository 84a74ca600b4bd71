-- A schedule whose rows happen at times: on a physical bus each of its rows is lawful, but where frames are lost.
use Rattle.std.specs.Prelude.{⊤, ◌≡◌, ℕ, ◌-◌, Bool, true, false, List, [], ◌∷◌, ◌++◌, Some}
use Rattle.can_frame.specs.declared.step.What.TheVariants.{Info}
use Rattle.raft_model.specs.Lists.{In}
use Rattle.bus_rows.specs.declared.row.Row.{Row}
use Rattle.bus_rows.specs.declared.row.Row.TheVariants.{ARx, Rx}
use Rattle.bus_spec.specs.declared.unlawful.Unlawful.{Unlawful}
use Rattle.bus_spec.specs.declared.unlawful.Unlawful.TheVariants.{Stale, Torn}
use Rattle.bus_spec.specs.Cluster.{Cluster, after_row, arrival_at, cluster, frame_at, world_of}
use Rattle.bus_spec.specs.Lawful.{AreLawful, cause}
use Rattle.bus_spec.specs.Refinement.{transfers_of_rows}
use Rattle.bus_rows.specs.Timed.{Timed, rows_in}
use Rattle.bus_physics.specs.Physics.{AllComeInOrder, AllocatesApart, DeviceRowsArePhysical, ClockGoesOn}
use Rattle.bus_physics.specs.Physics.{ClockIsNotFast, ComeInOrderToDevice, ComesInOrder, ComesInOrderToDevice}
use Rattle.bus_physics.specs.Physics.{FramesComeInTime, device_heard_by, Limits, RestsBeforeOpening, UsesIdsApart}
use Rattle.bus_physics.specs.Physics.{heard_by, window}
use Rattle.bus_physics.specs.Reuse.{LacksFrames}

-- ---- the premises

-- a member receives frame k
pub record MemberHears (limits : Limits) (ids : List ℕ) (before : List Timed) (now : Timed) (n k : ℕ) : Type 0 where
  pub comes : FramesComeInTime limits (before ++ now ∷ []) (cluster ids) (before ++ now ∷ [])
  pub clock : ClockGoesOn limits n [] (cluster ids) (before ++ now ∷ [])
  pub orders : AllComeInOrder limits (before ++ now ∷ []) ids (cluster ids) (rows_in before)
  pub order : ComesInOrder limits (before ++ now ∷ []) n (heard_by n (cluster ids) (rows_in before))
      (frame_at (world_of ids (rows_in before)).frames k)
  pub fast : (m : ℕ) → In m ids → ClockIsNotFast limits m [] (cluster ids) before
  pub rests : (m : ℕ) → In m ids →
      RestsBeforeOpening limits (before ++ now ∷ []) (transfers_of_rows (cluster ids) (rows_in before) []) m
  pub apart : UsesIdsApart limits (before ++ now ∷ []) (transfers_of_rows (cluster ids) (rows_in before) [])
      (heard_by n (cluster ids) (rows_in before)) n Info

-- allocatee a receives frame k
pub record DeviceHears (limits : Limits) (ids : List ℕ) (before : List Timed) (now : Timed) (a k : ℕ) : Type 0 where
  pub comes : DeviceRowsArePhysical limits (before ++ now ∷ []) a [] (cluster ids) (before ++ now ∷ [])
  pub slow : AllocatesApart limits (before ++ now ∷ []) (transfers_of_rows (cluster ids) (rows_in before) [])
      (device_heard_by a (cluster ids) (rows_in before)) (frame_at (world_of ids (rows_in before)).frames k)
      (ComeInOrderToDevice limits (before ++ now ∷ []) a [] (cluster ids) (rows_in before)
      × ComesInOrderToDevice limits (before ++ now ∷ []) (device_heard_by a (cluster ids) (rows_in before))
      (frame_at (world_of ids (rows_in before)).frames k))

-- limits that ask of nothing which happened longer than the window before this time
abbrev pub lately : Limits → ℕ → Limits
lately limits at = record limits { since = at - window limits }

-- what is asked of a row is asked of what happened lately before it
abbrev pub HappensOnBus : Limits → List ℕ → List Timed → Timed → Row → Type 0
HappensOnBus limits ids before now (Rx n k ms) = MemberHears (lately limits now.at) ids before now n k
HappensOnBus limits ids before now (ARx a k ms word) = DeviceHears (lately limits now.at) ids before now a k
HappensOnBus limits ids before now row = ⊤

-- each row meets `HappensOnBus`, after the rows before it
abbrev pub HappenOnBus : Limits → List ℕ → List Timed → List Timed → Type 0
HappenOnBus limits ids before [] = ⊤
HappenOnBus limits ids before (now ∷ rest) =
    HappensOnBus limits ids before now now.row × HappenOnBus limits ids (before ++ now ∷ []) rest

-- the two causes of which a bus has to see that none comes
abbrev pub is_of_bus : Unlawful → Bool
is_of_bus Torn = true
is_of_bus Stale = true
is_of_bus other = false

-- no row is refused for a cause other than `Torn` and `Stale`
abbrev pub LawfulButForBus : Cluster → List Row → Type 0
LawfulButForBus w [] = ⊤
LawfulButForBus w (row ∷ rows) =
    ((why : Unlawful) → cause w row ≡ Some why → is_of_bus why ≡ true) × LawfulButForBus (after_row w row) rows

-- ---- what may still be refused

-- After lawful rows a row is refused as torn: a member hears a frame that completes what it has of a transfer of four
-- frames or more, of which it lacks some, and the CRC fits all the same.
pub record LosesFrames (ids : List ℕ) (all : List Timed) : Type 0 where
  pub before : List Timed
  pub now : Timed
  pub rest : List Timed
  pub split : all ≡ before ++ (now ∷ rest)
  pub lawful : AreLawful (cluster ids) (rows_in before)
  pub n : ℕ
  pub k : ℕ
  pub ms : ℕ
  pub row : now.row ≡ Rx n k ms
  pub torn : cause (world_of ids (rows_in before)) (Rx n k ms) ≡ Some Torn
  pub moment : ℕ
  pub lacks : LacksFrames (transfers_of_rows (cluster ids) (rows_in before) [])
      (arrival_at (frame_at (world_of ids (rows_in before)).frames k) moment)
