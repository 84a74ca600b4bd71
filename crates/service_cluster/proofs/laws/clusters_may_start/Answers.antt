use Rattle.std.proofs.Common.{◌≡◌, ◌⊎◌, ℕ, arith, length, ap, sym, ◌∙◌, inl, inr}
use Rattle.can_frame.specs.Log.{last_term}
use Rattle.raft_model.specs.Lists.{In}
use Rattle.raft_model.specs.Server.{Store}
use Rattle.service_calm.specs.Calm.{Device, Member}
use Rattle.service_calm.specs.CalmExample.{clocks, some_uid, two}
use Rattle.service_candidate.specs.Elections.{IsAhead}
use Rattle.service_device.specs.Tidy.{OpenedMembersAreReady, TidyMembersAreFit}
use Rattle.service_device.proofs.CalmTested.{number_in}
use Rattle.service_device.proofs.CalmTestedRows.{lawful_rows}
use Rattle.service_cluster.specs.Restart.{LogsAreAtMost}
use Rattle.service_cluster.specs.RestartExample.{ClusterMayStart, members_only, no_entries, opened_at, opened_world, opening_rows, restart_pace, restart_rows}
use Rattle.service_cluster.proofs.RestartCalm.{Restarted, all_calls_fit, all_have_room, goes_on, is_fit, is_restart}
use Rattle.service_cluster.proofs.RestartComputed.{lawful_before, opened, passed, stores_empty}
use Rattle.service_cluster.proofs.laws.clusters_may_start.Goals as goal
use Rattle.service_elections.specs.Opened.{OpenedMembersGoOn}
use Rattle.alloc_spec.specs.ClusterMembers.{AreMembers}
use Rattle.bus_spec.specs.Cluster.{cluster}
use Rattle.bus_spec.specs.Lawful.{DoNoHarm}

-- the members of the group
of_two : (n : ℕ) → In (Member n) members_only → (n ≡ 1) ⊎ (n ≡ 2)
of_two n (inl i) = inl (ap number_in i)
of_two n (inr (inl i)) = inr (ap number_in i)
of_two n (inr (inr i)) = absurd i

listed : (n : ℕ) → In (Member n) members_only → In n two
listed n (inl i) = inl (ap number_in i)
listed n (inr (inl i)) = inr (inl (ap number_in i))
listed n (inr (inr i)) = absurd i

-- no device is of the group
no_device : (a : ℕ) → In (Device a) members_only → ⊥
no_device a (inl i) = cc i
no_device a (inr (inl i)) = cc i
no_device a (inr (inr i)) = i

-- the rows, which pass
abbrev worked : Restarted
worked = record {
  group = members_only;
  pace = restart_pace;
  longest = no_entries;
  uid = some_uid;
  opening = opening_rows;
  start = opened_at;
  rows = restart_rows;
  passed = passed;
  of_two = of_two;
  many = omega arith;
  opened = opened;
  quick = omega arith;
  soon = omega arith;
  room = omega arith;
}

-- the rows before the calm do no harm
before : DoNoHarm (cluster two) opening_rows
before = lawful_rows opening_rows (cluster two) lawful_before

-- no log has an entry
logs : LogsAreAtMost members_only no_entries opened_world
logs m server i up =
    let none : length server.raft_server.store.log ≡ 0 = ap (λ (s : Store). length s.log) (stores_empty m i server up) in
    (omega (arith, none), λ less. absurd (omega (arith, none, less)))

-- so each member is ahead
ahead : (m : ℕ) → In (Member m) members_only → IsAhead members_only m opened_world
ahead m i p server other j up other_up =
    let mine = stores_empty m i server up in
    let its = stores_empty p j other other_up in
    let term : other.raft_server.store.term ≡ 0 = ap (λ (s : Store). s.term) its in
    let none : length other.raft_server.store.log ≡ 0 = ap (λ (s : Store). length s.log) its in
    (omega (arith, term), inr (ap (λ (s : Store). last_term s.log) (its ∙ sym mine), omega (arith, none)))

-- the premises, from what `calm_can_be` says of the members
premises : AreMembers two → OpenedMembersGoOn two opening_rows → OpenedMembersAreReady two → TidyMembersAreFit → ClusterMayStart
premises members go_on ready are = record {
  members = members;
  before = before;
  begins = record {
    restart = is_restart worked listed;
    only = no_device;
    calls = all_calls_fit worked;
    room = all_have_room worked;
    logs = logs;
    heard = omega arith;
    heard_soon = omega arith;
  };
  ahead = ahead;
  long = omega arith;
  rounds = goes_on worked go_on listed;
  long_to_be_led = omega arith;
  fit = is_fit worked go_on ready are listed;
  only = no_device;
  long_to_be_back = omega arith;
}

-- they hold
hold : goal.After-opened_members_go_on_calmly → ClusterMayStart
hold c =
    let members = c.calm_can_be.ensures.members in
    premises members (c.opened_members_go_on_calmly.ensures two opening_rows members before) (c.opened_members_are_tidy.ensures.opened two members)
    c.members_stay_tidy.ensures.are

pub returns-clause-premises : goal.returns-clause-premises
returns-clause-premises c = hold c

pub returns-clause-back : goal.returns-clause-back
returns-clause-back c =
    let p = hold c in
    c.clusters_in_step_settle.ensures two opening_rows p.members p.before members_only clocks restart_pace opened_at no_entries restart_rows
    p.begins p.ahead p.long

pub returns-clause-from_any_state : goal.returns-clause-from_any_state
returns-clause-from_any_state c =
    let p = hold c in
    c.clusters_come_back.ensures.back two opening_rows p.members p.before members_only clocks restart_pace opened_at no_entries restart_rows
    p.fit p.only p.long_to_be_back
