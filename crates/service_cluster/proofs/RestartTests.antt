-- Tests of the worlds of a calm in which two members have just been opened, and only the first of them stands. A device
-- may be there, with this unique ID. They are computed.
use Rattle.std.proofs.Common.{ℕ, ◌+◌, Bool, true, false, List, length}
use Rattle.std.specs.Prelude.{◌&&◌, ◌||◌, is_some, nat_le, nat_lt}
use Rattle.raft_model.specs.Moves.Elections.{term_limit}
use Rattle.raft_model.specs.Server.{Role}
use Rattle.raft_model.specs.Server.Role.{Candidate, Follower, Leader}
use Rattle.alloc_spec.specs.AllocatorState.{AllocatorState, recorded_at}
use Rattle.alloc_spec.specs.Transfers.{queue_places}
use Rattle.service_calm.specs.Calm.{Party}
use Rattle.service_calm.specs.Devices.{frames_of_allocation}
use Rattle.service_device.proofs.CalmTests.{all_up, device_test, has_memory, is_nil, up_at}
use Rattle.bus_spec.specs.Cluster.{Cluster}

-- A member has memory, room to tell a pair, and a term left. Its log is no longer than this: it has no entry, or one of
-- the device.
abbrev pub member_test : (longest : ℕ) (uid : List ℕ) → AllocatorState → Bool
member_test longest uid s = (has_memory s && nat_le (length s.queue + frames_of_allocation) queue_places)
    && ((nat_lt s.raft_server.store.term term_limit && nat_le (length s.raft_server.store.log) longest)
    && (is_nil s.raft_server.store.log || is_some (recorded_at s.raft_server.store.log uid)))

-- the role of one that is no candidate
abbrev pub no_candidate : Role → Bool
no_candidate Follower = true
no_candidate Candidate = false
no_candidate Leader = true

-- each member of the group is as asked, the second one is no candidate, and the device has memory
abbrev pub world_test : List Party → (longest : ℕ) (uid : List ℕ) → Cluster → Bool
world_test group longest uid w = all_up (member_test longest uid) w group
    && (up_at (λ s. no_candidate s.raft_server.memory.role) (w.member 2).status && device_test (w.allocatee 1))
