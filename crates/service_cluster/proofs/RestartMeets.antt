-- What the tests of `RestartTests` mean: each member is as a calm of members that were just opened asks for it, and no
-- two members stand at nearly one time, since only the first one stands.
use Rattle.std.proofs.Common.{◌≡◌, ◌≢◌, ◌⊎◌, ℕ, ◌+◌, ◌<◌, ◌≤◌, true, List, [], length, sym, ◌∙◌, ap, inl, inr}
use Rattle.std.specs.Prelude.{◌&&◌, ◌||◌, is_some, nat_le, nat_lt}
use Rattle.can_frame.specs.declared.entry.Entry.{Entry}
use Rattle.can_frame.specs.Log.{HasUid}
use Rattle.can_frame.specs.Sizes.{blocks, sessions}
use Rattle.raft_model.specs.Lists.{In}
use Rattle.raft_model.specs.Moves.Elections.{term_limit}
use Rattle.raft_model.specs.Server.{Role}
use Rattle.raft_model.specs.Server.Role.{Candidate}
use Rattle.transfer_rx.specs.Outcome.{blocks_used}
use Rattle.alloc_spec.specs.AllocatorState.{AllocatorState, recorded_at}
use Rattle.alloc_spec.specs.Transfers.{queue_places}
use Rattle.alloc_spec_laws.proofs.Choices.{and_left, and_right, le_true, lt_true}
use Rattle.service_calm.specs.Calm.{Member, Party}
use Rattle.service_calm.specs.Comes.{blocks_of_longest}
use Rattle.service_calm.specs.Devices.{DeviceHasMemory, frames_of_allocation}
use Rattle.service_device.proofs.CalmTested.{Four, all_up_is, device_is, every, four, memory_is, nil_is, or_true}
use Rattle.service_device.proofs.CalmTests.{all_up, device_test, has_memory, is_nil, up_at}
use Rattle.service_cluster.proofs.RestartTests.{member_test, no_candidate, world_test}
use Rattle.service_cluster.proofs.ServesLogs.{is_told}
use Rattle.bus_spec.specs.Cluster.{Cluster}
use Rattle.bus_spec.specs.Members.MemberStatus.{Up}

-- what is asked of each member
pub record MemberMeets (longest : ℕ) (uid : List ℕ) (s : AllocatorState) : Type 0 where
  pub memory : (length s.sessions < sessions) × (blocks_used s.sessions + blocks_of_longest ≤ blocks)
  pub tells : length s.queue + frames_of_allocation ≤ queue_places
  pub left : s.raft_server.store.term < term_limit
  pub short : length s.raft_server.store.log ≤ longest
  pub log : (s.raft_server.store.log ≡ []) ⊎ HasUid s.raft_server.store.log uid

-- its log is empty, or has the unique ID
log_is : (log : List Entry) (uid : List ℕ) → (is_nil log || is_some (recorded_at log uid)) ≡ true → (log ≡ []) ⊎ HasUid log uid
log_is log uid e = elim (or_true (is_nil log) (is_some (recorded_at log uid)) e) [
  | inl z ↦ inl (nil_is log z)
  | inr z ↦ inr (is_told log uid z)
]

-- a member that passes is as asked
member_is : (longest : ℕ) (uid : List ℕ) (s : AllocatorState) → member_test longest uid s ≡ true → MemberMeets longest uid s
member_is longest uid s e =
    let log = s.raft_server.store.log in
    let room = nat_le (length s.queue + frames_of_allocation) queue_places in
    let few = nat_lt s.raft_server.store.term term_limit && nat_le (length log) longest in
    let has = is_nil log || is_some (recorded_at log uid) in
    let tests : Four (has_memory s) room few has = four (has_memory s) room few has e in record {
      memory = memory_is s tests.first;
      tells = le_true (length s.queue + frames_of_allocation) queue_places tests.second;
      left = lt_true s.raft_server.store.term term_limit
          (and_left (nat_lt s.raft_server.store.term term_limit) (nat_le (length log) longest) tests.third);
      short = le_true (length log) longest (and_right (nat_lt s.raft_server.store.term term_limit) (nat_le (length log) longest) tests.third);
      log = log_is log uid tests.fourth;
    }

-- a role that passes is not that of a candidate
role_is : (role : Role) → no_candidate role ≡ true → role ≢ Candidate
role_is role e same = cc (sym (ap no_candidate same) ∙ e)

-- what is asked of each world
pub record WorldMeets (group : List Party) (longest : ℕ) (uid : List ℕ) (w : Cluster) : Type 0 where
  pub members : (n : ℕ) → In (Member n) group → (server : AllocatorState) → (w.member n).status ≡ Up server → MemberMeets longest uid server
  pub stands_not : (server : AllocatorState) → (w.member 2).status ≡ Up server → server.raft_server.memory.role ≢ Candidate
  pub device : DeviceHasMemory 1 w

-- a world that passes is as asked
pub world_is : (group : List Party) (longest : ℕ) (uid : List ℕ) (w : Cluster) → world_test group longest uid w ≡ true
    → WorldMeets group longest uid w
world_is group longest uid w e =
    let follows = λ (s : AllocatorState). no_candidate s.raft_server.memory.role in
    let all = all_up (member_test longest uid) w group in
    let second = up_at follows (w.member 2).status in
    let device = device_test (w.allocatee 1) in
    let rest : (second && device) ≡ true = and_right all (second && device) e in record {
      members = λ n i server up. member_is longest uid server (every (member_test longest uid) (w.member n).status
          (all_up_is (member_test longest uid) w group (and_left all (second && device) e) n i) server up);
      stands_not = λ server up. role_is server.raft_server.memory.role (every follows (w.member 2).status (and_left second device rest) server up);
      device = λ d there. device_is (w.allocatee 1) (and_right second device rest) d there;
    }
