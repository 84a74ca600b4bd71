use Rattle.std.proofs.Common.{◌≢◌, ℕ, ◌+◌, [], ◌∷◌, arith, refl, sym, subst, inl, inr}
use Rattle.raft_model.specs.Lists.{In}
use Rattle.bus_rows.specs.Timed.{rows_in}
use Rattle.service_calm.specs.Calm.{Member}
use Rattle.service_calm.specs.CalmExample.{clocks, group, receiver, sender, some_uid, two}
use Rattle.service_calm.specs.Comes.{HasMemory, Throughout}
use Rattle.service_calm.specs.Devices.{DeviceHasMemory}
use Rattle.service_leader.specs.CallsComeBack.{HasPlace}
use Rattle.service_leader.specs.Entries.{AreInStep, CanExchange, NoCallPends}
use Rattle.service_device.specs.Dialog.{HasNothingToSay, HasRoomToTell}
use Rattle.service_device.specs.Settled.{NobodyIsMissed}
use Rattle.service_device.specs.ServedExample.{DevicesMayBeServed, before_rows, before_world, first_log, served_pace, served_rows, served_start}
use Rattle.service_device.proofs.ServedComputed.{first_answer, first_call, in_step, lawful_before, lists_1, lists_2, none_pends, none_waits, nothing_to_say, of_members, one_device, passed, place, ready_answers, ready_calls, running, settled}
use Rattle.service_device.proofs.CalmTestedRows.{Worked, are_calm, behind, calls_fit, do_no_harm, has_room_in_steps, lawful_rows, of_rows, pairs_fit, sends_short, throughout}
use Rattle.service_device.proofs.ServedMeets.{WorldMeets, misses, world_is}
use Rattle.service_device.proofs.ServedTests.{receipt_test, world_test}
use Rattle.service_device.proofs.laws.devices_may_be_served.Goals as goal
use Rattle.alloc_spec.specs.ClusterMembers.{AreMembers}
use Rattle.bus_spec.specs.Cluster.{Cluster, after_rows, cluster}

-- the rows, which pass
abbrev worked : Worked
worked = record {
  group = group;
  pace = served_pace;
  world_test = world_test;
  row_more = receipt_test;
  start = served_start;
  world = before_world;
  rows = served_rows;
  passed = passed;
}

-- what follows of each world holds throughout
holds : (Holds : Cluster → Type 0) → ((w : Cluster) → WorldMeets w → Holds w) → Throughout Holds before_world served_rows
holds Holds of_world = throughout worked Holds (λ w e. of_world w (world_is w e))

-- the one follower
of_follower : (Holds : ℕ → Type 0) → Holds 2 → (m : ℕ) → In m (2 ∷ []) → Holds m
of_follower Holds second m (inl i) = subst Holds (sym i) second
of_follower Holds second m (inr i) = absurd i

-- the premises, from what `calm_can_be` says of the members and the group
premises : AreMembers two → ((p : ℕ) → In (Member p) group → In p two) → DevicesMayBeServed
premises members listed = record {
  members = members;
  before = lawful_rows before_rows (cluster two) lawful_before;
  calm = record {
    listed = listed;
    running = running;
    member = inl refl;
    calm = are_calm worked;
    harmless = do_no_harm worked;
    led = λ front rest split. (world_is (after_rows before_world (rows_in front)) (behind worked front rest split)).led;
    lists = λ m i differs. lists_1 m (listed m i);
    missed = of_rows worked (NobodyIsMissed 1) (λ w. tt) (λ traffic w timed rest meets others. (misses w timed.row meets.more, others));
  };
  come = record {
    of_group = inr (inr (inl refl));
    alone = one_device;
    whole = refl;
    small = omega arith;
    word = 0;
    there = refl;
    settled = settled;
    none_waits = none_waits;
    others = of_members (λ m. m ≢ 1 → HasNothingToSay m (served_start + clocks (Member m)) before_world) (λ other. absurd (other refl)) (λ other. nothing_to_say);
  };
  place = place;
  lists = lists_1;
  room = record {
    memory = holds (DeviceHasMemory 1) (λ w meets. meets.device);
    room = holds (HasRoomToTell 1) (λ w meets. meets.tells);
  };
  calls_fit = calls_fit worked 1;
  followers = record {
    apart = of_follower (λ m. In (Member m) group × (m ≢ 1)) (inr (inl refl), λ same. absurd (omega (arith, same)));
    many = omega arith;
    exchange = of_follower (λ m. CanExchange 1 m before_world served_rows) (record {
      calls_it = lists_1 2 (inr (inl refl));
      hears_it = lists_2;
      calls = ready_calls;
      first_call = first_call;
      answers = ready_answers;
      first_answer = first_answer;
      memory = holds (HasMemory 1) (λ w meets. meets.memory);
      its_memory = holds (HasMemory 2) (λ w meets. meets.its_memory);
      place = holds (HasPlace 2) (λ w meets. meets.place);
    });
    in_step = of_follower (λ m. AreInStep 1 m before_world) in_step;
    none_pends = of_follower (λ m. NoCallPends 1 m before_world) none_pends;
    have = λ m i leader up. omega arith;
  };
  quick = omega arith;
  pairs_fit = pairs_fit worked 1;
  short = sends_short worked 1;
  long = omega arith;
  room_in_steps = has_room_in_steps worked 1;
  room_in_log = omega arith;
  long_to_commit = omega arith;
}

pub returns-clause-premises : goal.returns-clause-premises
returns-clause-premises c = premises c.calm_can_be.ensures.members c.calm_can_be.ensures.listed

pub returns-clause-served : goal.returns-clause-served
returns-clause-served c =
    let p = premises c.calm_can_be.ensures.members c.calm_can_be.ensures.listed in
    c.new_devices_are_served_in_calm.ensures two before_rows p.members p.before group clocks served_pace served_start sender 1 1 some_uid 0 receiver [] first_log
    served_rows p.calm p.come p.place p.lists p.room p.calls_fit p.pairs_fit p.short p.followers p.quick p.long

pub returns-clause-told : goal.returns-clause-told
returns-clause-told c =
    let p = premises c.calm_can_be.ensures.members c.calm_can_be.ensures.listed in
    c.new_pairs_are_told_in_calm.ensures two before_rows p.members p.before group clocks served_pace served_start sender 1 1 some_uid 0 receiver [] first_log
    served_rows p.calm p.come p.place p.lists p.room p.calls_fit p.room_in_steps p.room_in_log p.followers p.quick p.long_to_commit
