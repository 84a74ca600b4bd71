-- What the tests of `ServedTests` mean: who leads and who follows, that there is memory, and that nobody is missed.
use Rattle.std.proofs.Common.{◌≡◌, ◌≢◌, ℕ, ◌+◌, true, length, max, refl, sym, ◌∙◌, ap, subst, inl, inr}
use Rattle.std.specs.Prelude.{◌==◌, ◌&&◌, nat_le, nat_lt}
use Rattle.can_frame.specs.DataTypes.{discovery}
use Rattle.raft_model.specs.Lists.{In}
use Rattle.raft_model.specs.Moves.Elections.{is_leader}
use Rattle.raft_model.specs.Server.{Role}
use Rattle.raft_model.specs.Server.Role.{Candidate, Follower, Leader}
use Rattle.bus_rows.specs.declared.row.Row.{Row}
use Rattle.transfer_rx.specs.Reassembly.{answer as received}
use Rattle.alloc_spec.specs.Accepted.{setting_for}
use Rattle.alloc_spec.specs.AllocatorState.{AllocatorState}
use Rattle.alloc_spec.specs.Transfers.{queue_places}
use Rattle.alloc_spec_laws.proofs.Choices.{and_left, and_right, eq_false, eq_true, le_true, lt_true, not_true}
use Rattle.service_calm.specs.Calm.{Member}
use Rattle.service_calm.specs.CalmExample.{group}
use Rattle.service_calm.specs.Comes.{HasMemory}
use Rattle.service_calm.specs.Devices.{DeviceHasMemory, frames_of_allocation}
use Rattle.service_leader.specs.CallsComeBack.{HasPlace}
use Rattle.service_leader.specs.LeadsOn.{FollowsWithin, IsLed, LeadsIn}
use Rattle.service_device.specs.Dialog.{HasRoomToTell}
use Rattle.service_device.specs.Settled.{MissesNobody}
use Rattle.service_device.proofs.CalmTested.{Four, device_is, every, found, four, memory_is, number_in}
use Rattle.service_device.proofs.CalmTests.{device_test, has_memory, up_at}
use Rattle.service_device.proofs.ServedTests.{follower_test, follows, leader_test, no_discovery, receipt_test, world_test}
use Rattle.bus_spec.specs.Cluster.{Cluster, arrival_at, frame_at}

-- ---- members and the device

-- who leads, and who follows
role_leads : (role : Role) → is_leader role ≡ true → role ≡ Leader
role_leads Follower e = absurd (cc e)
role_leads Candidate e = absurd (cc e)
role_leads Leader e = refl

role_follows : (role : Role) → follows role ≡ true → role ≡ Follower
role_follows Follower e = refl
role_follows Candidate e = absurd (cc e)
role_follows Leader e = absurd (cc e)

-- what is asked of each world
pub record WorldMeets (w : Cluster) : Type 0 where
  pub led : IsLed group 1 1 w
  pub memory : HasMemory 1 w
  pub its_memory : HasMemory 2 w
  pub tells : HasRoomToTell 1 w
  pub place : HasPlace 2 w
  pub device : DeviceHasMemory 1 w

-- what the test of the leader says, and that of the follower
leader_is : (s : AllocatorState) → leader_test s ≡ true
    → Four (is_leader s.raft_server.memory.role) (s.raft_server.store.term == 1) (has_memory s) (nat_le (length s.queue + frames_of_allocation) queue_places)
leader_is s e = four (is_leader s.raft_server.memory.role) (s.raft_server.store.term == 1) (has_memory s) (nat_le (length s.queue + frames_of_allocation) queue_places) e

follower_is : (s : AllocatorState) → follower_test s ≡ true
    → Four (follows s.raft_server.memory.role) (nat_le s.raft_server.store.term 1) (has_memory s) (nat_lt (length s.queue) queue_places)
follower_is s e = four (follows s.raft_server.memory.role) (nat_le s.raft_server.store.term 1) (has_memory s) (nat_lt (length s.queue) queue_places) e

-- a world that passes is as asked
pub world_is : (w : Cluster) → world_test w ≡ true → WorldMeets w
world_is w e = record {
  led = record { leader = leader; others = others };
  memory = λ server up. memory_is server (leader_is server (every leader_test (w.member 1).status of_leader server up)).third;
  its_memory = λ server up. memory_is server (follower_is server (every follower_test (w.member 2).status of_follower server up)).third;
  tells = λ server up. le_true (length server.queue + frames_of_allocation) queue_places (leader_is server (every leader_test (w.member 1).status of_leader server up)).fourth;
  place = λ server up. lt_true (length server.queue) queue_places (follower_is server (every follower_test (w.member 2).status of_follower server up)).fourth;
  device = λ d there. device_is (w.allocatee 1) of_device d there;
}
  where
    of_leader : up_at leader_test (w.member 1).status ≡ true
    of_leader = and_left (up_at leader_test (w.member 1).status) (up_at follower_test (w.member 2).status && device_test (w.allocatee 1)) e

    of_rest : (up_at follower_test (w.member 2).status && device_test (w.allocatee 1)) ≡ true
    of_rest = and_right (up_at leader_test (w.member 1).status) (up_at follower_test (w.member 2).status && device_test (w.allocatee 1)) e

    of_follower : up_at follower_test (w.member 2).status ≡ true
    of_follower = and_left (up_at follower_test (w.member 2).status) (device_test (w.allocatee 1)) of_rest

    of_device : device_test (w.allocatee 1) ≡ true
    of_device = and_right (up_at follower_test (w.member 2).status) (device_test (w.allocatee 1)) of_rest

    leader : LeadsIn 1 1 w
    leader = let f = found leader_test (w.member 1).status of_leader in record {
      server = f.server;
      runs = f.runs;
      leads = role_leads f.server.raft_server.memory.role (leader_is f.server f.passes).first;
      its_term = eq_true f.server.raft_server.store.term 1 (leader_is f.server f.passes).second;
    }

    second : FollowsWithin 2 1 w
    second = let f = found follower_test (w.member 2).status of_follower in record {
      server = f.server;
      runs = f.runs;
      follows = role_follows f.server.raft_server.memory.role (follower_is f.server f.passes).first;
      its_term = le_true f.server.raft_server.store.term 1 (follower_is f.server f.passes).second;
    }

    others : (m : ℕ) → In (Member m) group → m ≢ 1 → FollowsWithin m 1 w
    others m (inl i) differs = absurd (differs (ap number_in i))
    others m (inr (inl i)) differs = subst (λ (k : ℕ). FollowsWithin k 1 w) (sym (ap number_in i)) second
    others m (inr (inr (inl i))) differs = absurd (cc i)
    others m (inr (inr (inr i))) differs = absurd i

-- ---- what comes to member 1

-- it is no Discovery, so nobody is missed
pub misses : (w : Cluster) (row : Row) → receipt_test w row ≡ true → MissesNobody 1 w row
misses w row e d message comes kind number reads =
    let test = λ (s : AllocatorState). no_discovery (received (setting_for 1) s.sessions (arrival_at (frame_at w.frames comes.k) (max s.now comes.ms))) in
    let passes : up_at test (w.member 1).status ≡ true = sym (ap (receipt_test w) comes.comes) ∙ e in
    let other : no_discovery (received (setting_for 1) comes.server.sessions (arrival_at (frame_at w.frames comes.k) (max comes.server.now comes.ms))) ≡ true
    = every test (w.member 1).status passes comes.server comes.runs in
    absurd (eq_false d.ident.number discovery.number (not_true (d.ident.number == discovery.number) (sym (ap no_discovery comes.gives) ∙ other)) number)
