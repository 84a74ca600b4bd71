-- What the tests of `CalmTests` mean of all rows of a worked calm: they are calm and do no harm, what is asked of each
-- world holds throughout, and what is offered has room.
use Rattle.std.proofs.Common.{◌≡◌, ℕ, Bool, true, List, [], ◌∷◌, ◌++◌, drop, ap, subst, inl, None}
use Rattle.std.specs.Prelude.{◌&&◌, nat_le, slice_index_or}
use Rattle.bus_rows.specs.declared.row.Row.{Row}
use Rattle.alloc_spec_laws.proofs.Choices.{and_left, and_right}
use Rattle.bus_rows.specs.Timed.{Timed, rows_in}
use Rattle.service_alone.specs.Calm.{Pace}
use Rattle.service_calm.specs.Calm.{AreCalm, IsCalmRow, IsInTime, Party, Traffic, no_traffic, traffic_after}
use Rattle.service_calm.specs.CalmExample.{clocks}
use Rattle.service_calm.specs.Comes.{Throughout}
use Rattle.service_calm.specs.Devices.{SendsShortAllocations}
use Rattle.service_leader.specs.NoElection.{CallsFit}
use Rattle.service_device.specs.Served.{PairsFit}
use Rattle.service_device.specs.ServedTold.{HasRoomInSteps}
use Rattle.service_device.proofs.CalmTested.{Four, PassesInStep, calm_row_is, four, none_is, offered_is, passes_in_step, room_is, short_is, timely_is}
use Rattle.service_device.proofs.CalmTests.{all_in_time, all_lawful, all_pass, calm_row, event_test, is_none, row_test}
use Rattle.bus_spec.specs.Cluster.{Cluster, after_row, after_rows, step_of}
use Rattle.bus_spec.specs.Lawful.{DoNoHarm, cause}

-- rows that pass this test do no harm
pub lawful_rows : (list : List Row) (w : Cluster) → all_lawful w list ≡ true → DoNoHarm w list
lawful_rows [] w e = tt
lawful_rows (row ∷ list) w e = (
  inl (none_is (cause w row) (and_left (is_none (cause w row)) (all_lawful (after_row w row) list) e)),
  lawful_rows list (after_row w row) (and_right (is_none (cause w row)) (all_lawful (after_row w row) list) e),
)

-- a worked calm: its group and its pace, what is asked of each world and more of each row, when it begins, and in which
-- world; and its rows, which pass
pub record Worked : Type 0 where
  pub group : List Party
  pub pace : Pace
  pub world_test : Cluster → Bool
  pub row_more : Cluster → Row → Bool
  pub start : ℕ
  pub world : Cluster
  pub rows : List Timed
  pub passed : all_pass group pace world_test row_more (no_traffic start) world rows ≡ true

module _ (x : Worked) where
  -- ---- one row

  -- what is asked of one row
  pub record RowMeets (traffic : Traffic) (w : Cluster) (timed : Timed) : Type 0 where
    pub in_time : IsInTime x.group clocks x.pace traffic w timed.at
    pub calm : IsCalmRow x.group clocks x.pace traffic w timed.at timed.row
    pub lawful : cause w timed.row ≡ None
    pub world : x.world_test w ≡ true
    pub more : x.row_more w timed.row ≡ true
    pub steps : PassesInStep w timed.row

  -- a row that passes is as asked
  row_is : (traffic : Traffic) (w : Cluster) (timed : Timed) → row_test x.group x.pace x.world_test x.row_more traffic w timed ≡ true
      → RowMeets traffic w timed
  row_is traffic w timed e =
      let timely = nat_le traffic.at timed.at && all_in_time x.pace traffic w timed.at x.group in
      let calm = calm_row x.group traffic w timed.at timed.row in
      let lawful = is_none (cause w timed.row) && x.world_test w in
      let others = x.row_more w timed.row && event_test w (step_of w timed.row) in
      let tests : Four timely calm lawful others = four timely calm lawful others e in record {
        in_time = timely_is x.group x.pace traffic w timed.at tests.first;
        calm = calm_row_is x.group x.pace traffic w timed.at timed.row tests.second;
        lawful = none_is (cause w timed.row) (and_left (is_none (cause w timed.row)) (x.world_test w) tests.third);
        world = and_right (is_none (cause w timed.row)) (x.world_test w) tests.third;
        more = and_left (x.row_more w timed.row) (event_test w (step_of w timed.row)) tests.fourth;
        steps = passes_in_step w timed.row (and_right (x.row_more w timed.row) (event_test w (step_of w timed.row)) tests.fourth);
      }

  -- ---- all rows

  -- each row is as asked, and the world behind the last one passes
  abbrev AllMeet : Traffic → Cluster → List Timed → Type 0
  AllMeet traffic w [] = x.world_test w ≡ true
  AllMeet traffic w (timed ∷ rest) = RowMeets traffic w timed × AllMeet (traffic_after traffic w timed) (after_row w timed.row) rest

  -- so are rows that pass
  all_meet : (rest : List Timed) (traffic : Traffic) (w : Cluster) → all_pass x.group x.pace x.world_test x.row_more traffic w rest ≡ true
      → AllMeet traffic w rest
  all_meet [] traffic w e = e
  all_meet (timed ∷ rest) traffic w e =
      let first = row_test x.group x.pace x.world_test x.row_more traffic w timed in
      let others = all_pass x.group x.pace x.world_test x.row_more (traffic_after traffic w timed) (after_row w timed.row) rest in (
        row_is traffic w timed (and_left first others e),
        all_meet rest (traffic_after traffic w timed) (after_row w timed.row) (and_right first others e),
      )

  -- so are the rows of this calm
  all : AllMeet (no_traffic x.start) x.world x.rows
  all = all_meet x.rows (no_traffic x.start) x.world x.passed

  calm_from : (rest : List Timed) (traffic : Traffic) (w : Cluster) → AllMeet traffic w rest → AreCalm x.group clocks x.pace traffic w rest
  calm_from [] traffic w meet = tt
  calm_from (timed ∷ rest) traffic w meet =
      (meet.0.in_time, meet.0.calm, calm_from rest (traffic_after traffic w timed) (after_row w timed.row) meet.1)

  -- they are calm
  pub are_calm : AreCalm x.group clocks x.pace (no_traffic x.start) x.world x.rows
  are_calm = calm_from x.rows (no_traffic x.start) x.world all

  -- what follows of a row, and of those behind it, follows of each
  abbrev Follows : (Cluster → List Timed → Type 0) → Type 0
  Follows All = (traffic : Traffic) (w : Cluster) (timed : Timed) (rest : List Timed) → RowMeets traffic w timed → All (after_row w timed.row) rest
      → All w (timed ∷ rest)

  from_each : (All : Cluster → List Timed → Type 0) → ((w : Cluster) → All w []) → Follows All → (rest : List Timed) (traffic : Traffic) (w : Cluster)
      → AllMeet traffic w rest → All w rest
  from_each All none one [] traffic w meet = none w
  from_each All none one (timed ∷ rest) traffic w meet =
      one traffic w timed rest meet.0 (from_each All none one rest (traffic_after traffic w timed) (after_row w timed.row) meet.1)

  -- so it holds of all rows
  pub of_rows : (All : Cluster → List Timed → Type 0) → ((w : Cluster) → All w []) → Follows All → All x.world x.rows
  of_rows All none one = from_each All none one x.rows (no_traffic x.start) x.world all

  -- they do no harm
  pub do_no_harm : DoNoHarm x.world (rows_in x.rows)
  do_no_harm = of_rows (λ w rest. DoNoHarm w (rows_in rest)) (λ w. tt) (λ traffic w timed rest meets others. (inl meets.lawful, others))

  -- what follows of each world holds throughout
  pub throughout : (Holds : Cluster → Type 0) → ((w : Cluster) → x.world_test w ≡ true → Holds w) → Throughout Holds x.world x.rows
  throughout Holds holds = of_rows (Throughout Holds) (λ w. tt) (λ traffic w timed rest meets others. (holds w meets.world, others))

  world_from : (early late list : List Timed) (traffic : Traffic) (w : Cluster) → list ≡ early ++ late → AllMeet traffic w list
      → x.world_test (after_rows w (rows_in early)) ≡ true
  world_from [] late [] traffic w split meet = meet
  world_from [] late (timed ∷ rest) traffic w split meet = meet.0.world
  world_from (y ∷ early) late [] traffic w split meet = absurd (cc split)
  world_from (y ∷ early) late (timed ∷ rest) traffic w split meet =
      let same : timed ≡ y = ap (λ (l : List Timed). slice_index_or l 0 y) split in
      subst (λ (z : Timed). x.world_test (after_rows (after_row w z.row) (rows_in early)) ≡ true) same
      (world_from early late rest (traffic_after traffic w timed) (after_row w timed.row) (ap (λ (l : List Timed). drop 1 l) split) meet.1)

  -- the world behind each front of them passes
  pub behind : (early late : List Timed) → x.rows ≡ early ++ late → x.world_test (after_rows x.world (rows_in early)) ≡ true
  behind early late split = world_from early late x.rows (no_traffic x.start) x.world split all

  -- ---- what is offered

  -- each call of a member has room
  pub calls_fit : (n : ℕ) → CallsFit n x.world x.rows
  calls_fit n = of_rows (CallsFit n) (λ w. tt) (λ traffic w timed rest meets others. (
    λ m call. (offered_is w timed.row meets.steps n call.server call.event call.runs call.in_step call.offer call.offered).0,
    others,
  ))

  -- and each pair that it tells
  pub pairs_fit : (n : ℕ) → PairsFit n x.world x.rows
  pairs_fit n = of_rows (PairsFit n) (λ w. tt) (λ traffic w timed rest meets others. (
    λ node uid tells. (offered_is w timed.row meets.steps n tells.server tells.event tells.runs tells.in_step tells.offer tells.offered).0,
    others,
  ))

  -- each Allocation of it has three frames at most
  pub sends_short : (n : ℕ) → SendsShortAllocations n x.world x.rows
  sends_short n = of_rows (SendsShortAllocations n) (λ w. tt) (λ traffic w timed rest meets others. (
    λ offer sends what. short_is offer
        (offered_is w timed.row meets.steps n sends.server sends.event sends.runs sends.in_step offer sends.offered).1 what,
    others,
  ))

  -- and in each of its steps there is room for the next pair
  pub has_room_in_steps : (n : ℕ) → HasRoomInSteps n x.world x.rows
  has_room_in_steps n = of_rows (HasRoomInSteps n) (λ w. tt) (λ traffic w timed rest meets others. (
    λ server event up is. room_is w timed.row meets.steps n server event up is,
    others,
  ))
