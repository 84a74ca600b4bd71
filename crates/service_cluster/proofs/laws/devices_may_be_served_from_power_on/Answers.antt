use Rattle.std.proofs.Common.{◌≡◌, ◌⊎◌, ℕ, arith, List, refl, ap, subst, sym, ◌∙◌, inl, inr}
use Rattle.can_frame.specs.declared.entry.Entry.{Entry}
use Rattle.raft_model.specs.Lists.{In}
use Rattle.allocatee.specs.Allocatee.{opening}
use Rattle.service_calm.specs.Calm.{Member}
use Rattle.alloc_spec.specs.AllocatorState.{AllocatorState}
use Rattle.service_calm.proofs.Pair.{same_server}
use Rattle.service_calm.specs.CalmExample.{clocks, group, some_uid, two}
use Rattle.service_device.specs.Served.{HasPlaceFor}
use Rattle.service_device.specs.ServedExample.{served_pace}
use Rattle.service_device.specs.Requests.{TellBeginning}
use Rattle.service_device.specs.Tidy.{OpenedMembersAreReady, TidyMembersAreFit}
use Rattle.service_device.proofs.CalmTestedRows.{lawful_rows}
use Rattle.service_device.proofs.ServedComputed.{of_members, one_device, place}
use Rattle.service_cluster.specs.RestartExample.{opened_at}
use Rattle.service_cluster.specs.ServiceExample.{DevicesMayBeServedFromPowerOn, one_entry, power_on_calm, power_on_rows}
use Rattle.service_cluster.proofs.RestartCalm.{Restarted, are_ready, device_has_memory, is_fit, pairs_all_fit, rooms_to_tell, tells_short, world_behind}
use Rattle.service_cluster.proofs.ServiceComputed.{can_tell, has_come, lawful_before, opened, passed}
use Rattle.service_cluster.proofs.laws.devices_may_be_served_from_power_on.Goals as goal
use Rattle.service_elections.specs.Opened.{OpenedMembersGoOn}
use Rattle.alloc_spec.specs.ClusterMembers.{AreMembers}
use Rattle.bus_spec.specs.Cluster.{cluster}
use Rattle.bus_spec.specs.Lawful.{DoNoHarm}

-- the members of the group
of_two : (n : ℕ) → In (Member n) group → (n ≡ 1) ⊎ (n ≡ 2)
of_two = of_members (λ n. (n ≡ 1) ⊎ (n ≡ 2)) (inl refl) (inr refl)

listed : (n : ℕ) → In (Member n) group → In n two
listed = of_members (λ n. In n two) (inl refl) (inr (inl refl))

-- the rows, which pass
abbrev worked : Restarted
worked = record {
  group = group;
  pace = served_pace;
  longest = one_entry;
  uid = some_uid;
  opening = power_on_rows;
  start = opened_at;
  rows = power_on_calm;
  passed = passed;
  of_two = of_two;
  many = omega arith;
  opened = opened;
  quick = omega arith;
  soon = omega arith;
  room = omega arith;
}

-- the rows before the calm do no harm
before : DoNoHarm (cluster two) power_on_rows
before = lawful_rows power_on_rows (cluster two) lawful_before

-- the premises, from what other laws say of members that were just opened
premises : AreMembers two → OpenedMembersGoOn two power_on_rows → OpenedMembersAreReady two → TidyMembersAreFit → DevicesMayBeServedFromPowerOn
premises members go_on ready are = record {
  members = members;
  before = before;
  calm = record {
    calm = is_fit worked go_on ready are listed;
    begun = λ m i server up.
        let is = (are_ready worked ready listed m i).tidy in
        let same = ap (λ (t : AllocatorState). t.accepted) (same_server server is.server (sym up ∙ is.runs)) ∙ is.requests in
        subst (TellBeginning some_uid) (sym same) (some_uid, refl);
    asks = record {
      of_group = inr (inr (inl refl));
      alone = one_device;
      whole = refl;
      small = omega arith;
      device = opening some_uid 0 0 0;
      there = has_come;
      its_uid = refl;
      prefers = refl;
      clock = omega arith;
    };
    some = place.device;
    told = λ m i. record {
      of_group = inr (inr (inl refl));
      ready = (can_tell m i).0;
      begins = (can_tell m i).1;
      memory = device_has_memory worked;
      short = tells_short worked m;
    };
    room = rooms_to_tell worked;
    fits = λ m i. pairs_all_fit worked m;
    place = λ front rest m server split i up has_not. elim ((world_behind worked front rest split).members m i server up).log [
      | inl none ↦ subst (λ (log : List Entry). HasPlaceFor two log some_uid) (sym none) place
      | inr has ↦ absurd (has_not has)
    ];
    paced = omega arith;
  };
  long = omega arith;
}

-- they hold
hold : goal.After-opened_members_go_on_calmly → DevicesMayBeServedFromPowerOn
hold c =
    let members = c.calm_can_be.ensures.members in
    premises members (c.opened_members_go_on_calmly.ensures two power_on_rows members before) (c.opened_members_are_tidy.ensures.opened two members)
    c.members_stay_tidy.ensures.are

pub returns-clause-premises : goal.returns-clause-premises
returns-clause-premises c = hold c

pub returns-clause-served : goal.returns-clause-served
returns-clause-served c =
    let p = hold c in
    c.devices_are_served.ensures two power_on_rows p.members p.before group clocks served_pace opened_at one_entry 1 some_uid 0 power_on_calm p.calm p.long
