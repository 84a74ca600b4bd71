use Rattle.std.proofs.Common.{◌≡◌, ℕ, Bool, false, true, List, None, [], ◌∷◌, refl, ap, arith}
use Rattle.std.specs.Prelude.{slice_index_or}
use Rattle.can_frame.specs.Cutting.{frames_of}
use Rattle.can_frame.specs.Identifier.{identifier_of}
use Rattle.transfer_rx.specs.Acceptance.{wanted}
use Rattle.transfer_rx.specs.Reassembly.{step as frame_step}
use Rattle.transfer_tx.specs.Queue.{left_behind, next_out, queued_frames}
use Rattle.allocatee.specs.Accepted.{rows as device_rows}
use Rattle.allocatee.specs.Allocatee.{step as device_step}
use Rattle.allocatee.specs.Asking.{clock_phase}
use Rattle.alloc_spec.specs.AllocatorState.{AllocatorState, opening}
use Rattle.alloc_spec.specs.Step.{all_nodes, step}
use Rattle.node_discovery.specs.Watch.{next_query}
use Rattle.service_alone.specs.CalmExample.{first_rows}
use Rattle.service_alone.proofs.laws.calm_can_be.Goals as goal
use Rattle.bus_spec.specs.Cluster.{world_of}
use Rattle.bus_spec.specs.Members.{MemberStatus}
use Rattle.bus_spec.specs.Members.MemberStatus.{Down, Failed, Up}

abbrev no_server : AllocatorState
no_server = opening 1 1 (record { term = 0; vote = None; log = []; commit = 0 }) 0 0

abbrev server_in : MemberStatus → AllocatorState
server_in Down = no_server
server_in (Up server) = server
server_in (Failed failure) = no_server

abbrev is_up : MemberStatus → Bool
is_up Down = false
is_up (Up server) = true
is_up (Failed failure) = false

up_is : (status : MemberStatus) → is_up status ≡ true → status ≡ Up (server_in status)
up_is Down e = absurd (cc (e))
up_is (Up server) e = refl
up_is (Failed failure) e = absurd (cc (e))

pub returns-clause-ready : goal.returns-clause-ready
unfolding step all_nodes next_query queued_frames next_out left_behind frames_of
returns-clause-ready c = record {
  settled = record {
    server = server_in ((world_of (1 ∷ []) first_rows).member 1).status;
    runs = up_is ((world_of (1 ∷ []) first_rows).member 1).status refl;
    faults = 0;
    disk = refl;
    leads = refl;
    log_is = refl;
    committed = refl;
    told = refl;
    clock = omega arith;
    status = omega arith;
    requests = omega arith;
    known = λ other e. refl;
    discovery = refl;
  };
  statuses = λ frame i. absurd i;
  few = omega arith;
}

pub returns-clause-place : goal.returns-clause-place
returns-clause-place c = record {
  whole = refl;
  device = λ e. absurd (omega (arith, ap (λ (l : List ℕ). slice_index_or l 0 0) e));
  new = λ h. absurd (omega (arith, h.within));
  left = (2, record { least = omega arith; most = omega arith; other = λ e. absurd (omega (arith, e)); free = λ h. absurd (omega (arith, h.within)) });
  room = omega arith;
}

pub returns-clause-calm : goal.returns-clause-calm
unfolding step all_nodes next_query queued_frames next_out left_behind frames_of wanted identifier_of device_rows frame_step device_step clock_phase
returns-clause-calm c = (
  record { moments = omega arith; ticks = omega arith; allocator_sends = λ some. absurd (some refl); device_sends = λ some. absurd (some refl); allocator_hears = tt; device_hears = tt },
  (refl, refl),
  (
    record { moments = omega arith; ticks = omega arith; allocator_sends = λ some. omega arith; device_sends = λ some. absurd (some refl); allocator_hears = tt; device_hears = tt },
    (refl, refl),
    (
      record { moments = omega arith; ticks = omega arith; allocator_sends = λ some. absurd (some refl); device_sends = λ some. absurd (some refl); allocator_hears = tt; device_hears = (omega arith, tt) },
      (refl, refl, refl),
      (
        record { moments = omega arith; ticks = omega arith; allocator_sends = λ some. absurd (some refl); device_sends = λ some. absurd (some refl); allocator_hears = tt; device_hears = tt },
        (refl, refl),
        tt,
      ),
    ),
  ),
)
