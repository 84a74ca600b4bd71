-- A worked calm of two members that have just been opened, of which only the first one stands: it is such a calm as the
-- laws of elections, of recovery and of service ask for.
use Rattle.std.proofs.Common.{◌≡◌, ◌⊎◌, ℕ, ◌+◌, ◌*◌, ◌<◌, ◌≤◌, arith, true, List, [], ◌∷◌, ◌++◌, append_assoc, refl, sym, ◌∙◌, subst, inl, inr}
use Rattle.can_frame.specs.Log.{log_limit}
use Rattle.can_frame.specs.Timing.{call_timeout, election_wait}
use Rattle.raft_model.specs.Lists.{In, how_many}
use Rattle.raft_model.specs.Server.{quorum}
use Rattle.bus_rows.specs.declared.row.Row.{Row}
use Rattle.bus_rows.specs.Timed.{Timed, rows_in}
use Rattle.service_alone.specs.Calm.{Pace}
use Rattle.service_calm.specs.Calm.{Member, Party, no_traffic}
use Rattle.service_calm.specs.CalmExample.{clocks, two}
use Rattle.service_calm.specs.Comes.{HasMemory, Throughout}
use Rattle.service_calm.specs.Devices.{DeviceHasMemory, SendsShortAllocations}
use Rattle.service_candidate.specs.Elections.{HasJustOpened, IsCalmRestart, StandApart}
use Rattle.service_candidate.specs.Votes.{Stands}
use Rattle.service_candidate.specs.Waits.{HasTermLeft}
use Rattle.service_candidate.specs.Wins.{VoteRequestsFit, is_of}
use Rattle.service_leader.specs.CallsComeBack.{HasPlace}
use Rattle.service_leader.specs.NoElection.{CallsFit, greatest_wait}
use Rattle.service_device.specs.Dialog.{HasRoomToTell}
use Rattle.service_device.specs.Served.{PairsFit}
use Rattle.service_device.specs.ServedTold.{HasRoomInSteps}
use Rattle.service_device.specs.Tidy.{IsReady, OpenedMembersAreReady, TidyMembersAreFit}
use Rattle.service_device.proofs.CalmTested.{offered_is}
use Rattle.service_device.proofs.CalmTestedRows.{Worked, are_calm, behind, calls_fit, do_no_harm, has_room_in_steps, of_rows, pairs_fit, sends_short, throughout}
use Rattle.service_device.proofs.CalmTests.{all_pass, any_row}
use Rattle.service_cluster.specs.ComeBack.{HasRoomForBlank, IsCalmOfFit, LogsStayWithin}
use Rattle.service_cluster.proofs.RestartMeets.{WorldMeets, world_is}
use Rattle.service_cluster.proofs.RestartTests.{world_test}
use Rattle.service_elections.specs.Opened.{OpenedMembersGoOn}
use Rattle.service_elections.specs.Running.{IsCalmOf}
use Rattle.bus_spec.specs.Cluster.{Cluster, after_row, after_rows, world_of}
use Rattle.bus_spec.specs.Members.MemberStatus.{Up}

-- a worked calm of members 1 and 2, and its rows, which pass
pub record Restarted : Type 0 where
  pub group : List Party
  pub pace : Pace
  pub longest : ℕ
  pub uid : List ℕ
  pub opening : List Row
  pub start : ℕ
  pub rows : List Timed
  pub passed : all_pass group pace (world_test group longest uid) any_row (no_traffic start) (world_of two opening) rows ≡ true
  pub of_two : (n : ℕ) → In (Member n) group → (n ≡ 1) ⊎ (n ≡ 2)
  pub many : quorum two ≤ how_many (is_of group) two
  pub opened : (n : ℕ) → In (Member n) group → HasJustOpened two n (start + clocks (Member n)) (world_of two opening)
  pub quick : 4 * pace.delay < call_timeout
  pub soon : 8 * pace.delay + greatest_wait pace < election_wait
  pub room : longest < log_limit

module _ (x : Restarted) where
  abbrev world : Cluster
  world = world_of two x.opening

  abbrev worked : Worked
  worked = record {
    group = x.group;
    pace = x.pace;
    world_test = world_test x.group x.longest x.uid;
    row_more = any_row;
    start = x.start;
    world = world;
    rows = x.rows;
    passed = x.passed;
  }

  -- ---- members

  -- what follows of a member holds throughout
  of_member : (Holds : ℕ → Cluster → Type 0) → (n : ℕ) → In (Member n) x.group
      → ((w : Cluster) → WorldMeets x.group x.longest x.uid w → Holds n w) → Throughout (Holds n) world x.rows
  of_member Holds n i holds = throughout worked (Holds n) (λ w e. holds w (world_is x.group x.longest x.uid w e))

  -- each world behind a front is as asked
  pub world_behind : (front rest : List Timed) → x.rows ≡ front ++ rest
      → WorldMeets x.group x.longest x.uid (after_rows (world_of two x.opening) (rows_in front))
  world_behind front rest split = world_is x.group x.longest x.uid (after_rows world (rows_in front)) (behind worked front rest split)

  -- ---- who stands

  -- member 2 stands in none of the rows
  stands_not : (early late : List Timed) (timed : Timed) (term : ℕ) → x.rows ≡ early ++ timed ∷ late
      → Stands 2 term (after_rows world (rows_in early)) timed.row → ⊥
  stands_not early late timed term split s =
      (world_behind (early ++ timed ∷ []) late (split ∙ sym (append_assoc early (timed ∷ []) late))).stands_not s.after
      (subst (λ (v : Cluster). (v.member 2).status ≡ Up s.after) (sym (world_last early)) s.runs_then) s.stands
    where
      world_last : (list : List Timed) → after_rows world (rows_in (list ++ timed ∷ [])) ≡ after_row (after_rows world (rows_in list)) timed.row
      world_last list = along list world
        where
          along : (list : List Timed) (w : Cluster) → after_rows w (rows_in (list ++ timed ∷ [])) ≡ after_row (after_rows w (rows_in list)) timed.row
          along [] w = refl
          along (one ∷ list) w = along list (after_row w one.row)

  -- so no two members stand at nearly one time
  pub stand_apart : (gap : ℕ) → StandApart x.group gap world x.rows
  stand_apart gap front middle rest one other n m term later split i j differs first second = elim (x.of_two n i) [
    | inl first_is ↦ elim (x.of_two m j) [
      | inl second_is ↦ absurd (differs (first_is ∙ sym second_is))
      | inr second_is ↦ absurd (stands_not (front ++ one ∷ middle) rest other later (split ∙ sym (append_assoc front (one ∷ middle) (other ∷ rest)))
          (subst (λ (k : ℕ). Stands k later (after_rows world (rows_in (front ++ one ∷ middle))) other.row) second_is second))
    ]
    | inr first_is ↦ absurd (stands_not front (middle ++ other ∷ rest) one term split
        (subst (λ (k : ℕ). Stands k term (after_rows world (rows_in front)) one.row) first_is first))
  ]

  -- ---- the calm

  -- each vote request has room
  requests_fit : (n : ℕ) → VoteRequestsFit n world x.rows
  requests_fit n = of_rows worked (VoteRequestsFit n) (λ w. tt) (λ traffic w timed rest meets others. (
    λ m asks. (offered_is w timed.row meets.steps n asks.server asks.event asks.runs asks.in_step asks.offer asks.offered).0,
    others,
  ))

  -- a calm of members that have just been opened
  pub is_restart : ((m : ℕ) → In (Member m) x.group → In m two) → IsCalmRestart two x.opening x.group clocks x.pace x.start x.rows
  is_restart listed = record {
    listed = listed;
    many = x.many;
    others = omega arith;
    opened = x.opened;
    calm = are_calm worked;
    harmless = do_no_harm worked;
    memory = λ m i. of_member HasMemory m i (λ w meets server up. (meets.members m i server up).memory);
    place = λ m i. of_member HasPlace m i (λ w meets server up. let room = (meets.members m i server up).tells in omega (arith, room));
    fit = λ m i. requests_fit m;
    left = λ m i. of_member HasTermLeft m i (λ w meets server up. (meets.members m i server up).left);
    apart = stand_apart (4 * x.pace.delay);
    quick = x.quick;
  }

  -- the calls of each member have room
  pub all_calls_fit : (m : ℕ) → In (Member m) x.group → CallsFit m world x.rows
  all_calls_fit m i = calls_fit worked m

  -- each has room in its steps for the next pair
  pub all_have_room : (m : ℕ) → In (Member m) x.group → HasRoomInSteps m world x.rows
  all_have_room m i = has_room_in_steps worked m

  -- each has room to tell
  pub rooms_to_tell : (m : ℕ) → In (Member m) x.group → Throughout (HasRoomToTell m) world x.rows
  rooms_to_tell m i = of_member HasRoomToTell m i (λ w meets server up. (meets.members m i server up).tells)

  -- each pair that a member tells has room, and is short
  pub pairs_all_fit : (m : ℕ) → PairsFit m world x.rows
  pairs_all_fit = pairs_fit worked

  pub tells_short : (m : ℕ) → SendsShortAllocations m world x.rows
  tells_short = sends_short worked

  -- device 1, if it is there, has memory
  pub device_has_memory : Throughout (DeviceHasMemory 1) world x.rows
  device_has_memory = throughout worked (DeviceHasMemory 1) (λ w e. (world_is x.group x.longest x.uid w e).device)

  -- no log is longer
  pub logs_stay : LogsStayWithin x.group x.longest world x.rows
  logs_stay front rest m server split i up = ((world_behind front rest split).members m i server up).short

  -- a calm of members with any roles, terms and logs
  pub goes_on : OpenedMembersGoOn two x.opening → ((m : ℕ) → In (Member m) x.group → In m two)
      → IsCalmOf two x.opening x.group clocks x.pace x.start x.rows
  goes_on go_on listed =
      go_on x.group clocks x.pace x.start x.rows (is_restart listed) all_calls_fit (stand_apart (8 * x.pace.delay)) x.soon

  -- each member is ready when the calm begins
  pub are_ready : OpenedMembersAreReady two → ((m : ℕ) → In (Member m) x.group → In m two) → (m : ℕ) → In (Member m) x.group
      → IsReady two m (x.start + clocks (Member m)) world
  are_ready ready listed m i =
      let new = x.opened m i in
      ready m (x.start + clocks (Member m)) new.moment new.word new.faults new.store world (listed m i) new.runs new.disk new.clock

  -- a calm of members that are fit to serve
  pub is_fit : OpenedMembersGoOn two x.opening → OpenedMembersAreReady two → TidyMembersAreFit → ((m : ℕ) → In (Member m) x.group → In m two)
      → IsCalmOfFit two x.opening x.group clocks x.pace x.start x.longest x.rows
  is_fit go_on ready are listed = record {
    calm = goes_on go_on listed;
    fit = λ m i. are m (x.start + clocks (Member m)) world (are_ready ready listed m i).tidy;
    none_waits = λ m i. (are_ready ready listed m i).none_waits;
    room = all_have_room;
    blanks = λ m i. of_member HasRoomForBlank m i (λ w meets server up some. let short = (meets.members m i server up).short in let b = x.room in omega (arith, short, b));
    logs = logs_stay;
  }
