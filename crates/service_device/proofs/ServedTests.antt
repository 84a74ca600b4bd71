-- Tests of the worlds of `ServedExample`, and of what comes to member 1. They are computed.
use Rattle.std.proofs.Common.{◌+◌, Bool, true, false, length, max}
use Rattle.std.specs.Prelude.{◌==◌, ◌&&◌, ◌||◌, not, nat_le, nat_lt}
use Rattle.can_frame.specs.DataTypes.{discovery}
use Rattle.raft_model.specs.Moves.Elections.{is_leader}
use Rattle.raft_model.specs.Server.{Role}
use Rattle.raft_model.specs.Server.Role.{Candidate, Follower, Leader}
use Rattle.bus_rows.specs.declared.row.Row.{Row}
use Rattle.bus_rows.specs.declared.row.Row.TheVariants.{Rx}
use Rattle.transfer_rx.specs.Reassembly.{Answer, Continues, Drops, Gives, answer as received}
use Rattle.alloc_spec.specs.Accepted.{setting_for}
use Rattle.alloc_spec.specs.AllocatorState.{AllocatorState}
use Rattle.alloc_spec.specs.Transfers.{queue_places}
use Rattle.service_calm.specs.Devices.{frames_of_allocation}
use Rattle.service_device.proofs.CalmTests.{device_test, has_memory, up_at}
use Rattle.bus_spec.specs.Cluster.{Cluster, arrival_at, frame_at}

-- ---- members and the device

-- the role of one that follows
abbrev pub follows : Role → Bool
follows Follower = true
follows Candidate = false
follows Leader = false

-- A leader of term 1, which has memory, and room to tell.
abbrev pub leader_test : AllocatorState → Bool
leader_test s = (is_leader s.raft_server.memory.role && (s.raft_server.store.term == 1))
    && (has_memory s && nat_le (length s.queue + frames_of_allocation) queue_places)

-- A follower in no higher term, which has memory, and a place for an answer.
abbrev pub follower_test : AllocatorState → Bool
follower_test s = (follows s.raft_server.memory.role && nat_le s.raft_server.store.term 1)
    && (has_memory s && nat_lt (length s.queue) queue_places)

-- member 1 leads, member 2 follows, and the device is well
abbrev pub world_test : Cluster → Bool
world_test w = up_at leader_test (w.member 1).status && (up_at follower_test (w.member 2).status && device_test (w.allocatee 1))

-- ---- what comes to member 1

-- what is delivered is no Discovery
abbrev pub no_discovery : Answer → Bool
no_discovery (Gives d) = not (d.ident.number == discovery.number)
no_discovery Continues = true
no_discovery (Drops why) = true

-- so it is in this row, if a frame comes to member 1
abbrev pub receipt_test : Cluster → Row → Bool
receipt_test w (Rx n k ms) = not (n == 1)
    || up_at (λ s. no_discovery (received (setting_for 1) s.sessions (arrival_at (frame_at w.frames k) (max s.now ms)))) (w.member 1).status
receipt_test w row = true
