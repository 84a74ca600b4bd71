-- What is computed of the rows of `ServiceExample`: each passes the tests of `CalmTests` and of `RestartTests`; and the
-- members and the device when the calm begins.
use Rattle.std.proofs.Common.{◌≡◌, ℕ, ◌+◌, arith, true, refl, Some}
use Rattle.alloc_exchange.specs.Exchange.{after as exchange_after, answer as exchange_answer}
use Rattle.can_frame.specs.declared.step.What.TheVariants.{Alloc}
use Rattle.can_frame.specs.Cutting.{frames_of, payload_of}
use Rattle.can_frame.specs.Identifier.{identifier_of}
use Rattle.can_frame.specs.TransferCrc.{bits_of, crc_of, divide, number_of}
use Rattle.id_selector.specs.Choice.{candidates}
use Rattle.node_discovery.specs.Watch.{next_query, some_unknown}
use Rattle.raft_model.specs.Lists.{In}
use Rattle.transfer_rx.specs.Acceptance.{wanted}
use Rattle.transfer_rx.specs.Outcome.{blocks_used, fits_no_part, fits_no_payload, outcome}
use Rattle.transfer_rx.specs.Reassembly.{session_step, step as frame_step}
use Rattle.transfer_rx.specs.Sessions.{session_for}
use Rattle.transfer_tx.specs.Queue.{left_behind, next_out, queued_frames}
use Rattle.alloc_spec.specs.Accepted.{rows}
use Rattle.alloc_spec.specs.Delivered.{delivery_phase}
use Rattle.alloc_spec.specs.Judging.{arrival_judgement, brings_void}
use Rattle.alloc_spec.specs.Step.{all_nodes, step}
use Rattle.alloc_spec.specs.Transfers.{id_of}
use Rattle.allocatee.specs.Accepted.{rows as device_rows}
use Rattle.allocatee.specs.Allocatee.{opening, step as device_step}
use Rattle.allocatee.specs.Asking.{after_allocation, clock_phase as device_clock}
use Rattle.allocatee.specs.Judging.{arrival_judgement as device_judgement}
use Rattle.service_calm.specs.Calm.{Member, no_traffic}
use Rattle.service_calm.specs.CalmExample.{clocks, group, some_uid, two}
use Rattle.service_calm.specs.Devices.{AllocationMayBegin, AreReadyToTell}
use Rattle.service_calm.proofs.Examples.{server_in, up_is}
use Rattle.service_candidate.specs.Elections.{HasJustOpened}
use Rattle.service_device.specs.ServedExample.{served_pace}
use Rattle.service_device.proofs.ServedComputed.{of_members}
use Rattle.service_device.proofs.CalmTests.{all_lawful, all_pass, any_row}
use Rattle.service_cluster.specs.RestartExample.{opened_at}
use Rattle.service_cluster.specs.ServiceExample.{one_entry, power_on_calm, power_on_rows, power_on_world}
use Rattle.service_cluster.proofs.RestartComputed.{empty_store}
use Rattle.service_cluster.proofs.RestartTests.{world_test}
use Rattle.bus_spec.specs.Cluster.{cluster}

-- ---- the rows

-- each row of the calm passes
pub passed : all_pass group served_pace (world_test group one_entry some_uid) any_row (no_traffic opened_at) power_on_world power_on_calm ≡ true
unfolding step all_nodes next_query some_unknown candidates queued_frames next_out left_behind frames_of frame_step outcome fits_no_payload fits_no_part payload_of delivery_phase session_step session_for wanted identifier_of rows blocks_used bits_of crc_of divide number_of device_step device_rows device_clock after_allocation arrival_judgement brings_void device_judgement exchange_answer exchange_after
passed = refl

-- each row before it is lawful
pub lawful_before : all_lawful (cluster two) power_on_rows ≡ true
unfolding step all_nodes next_query some_unknown candidates queued_frames next_out left_behind frames_of frame_step outcome fits_no_payload fits_no_part payload_of delivery_phase session_step session_for wanted identifier_of rows blocks_used bits_of crc_of divide number_of device_step device_rows device_clock after_allocation arrival_judgement brings_void device_judgement exchange_answer exchange_after
lawful_before = refl

-- ---- both members have just been opened

opened_1 : HasJustOpened two 1 100 power_on_world
unfolding step all_nodes next_query some_unknown candidates queued_frames next_out left_behind frames_of frame_step outcome fits_no_payload fits_no_part payload_of delivery_phase session_step session_for wanted identifier_of rows blocks_used bits_of crc_of divide number_of device_step device_rows device_clock after_allocation arrival_judgement brings_void device_judgement exchange_answer exchange_after
opened_1 = record { store = empty_store; moment = 100; word = 0; runs = refl; clock = omega arith; faults = 0; disk = refl }

opened_2 : HasJustOpened two 2 200 power_on_world
unfolding step all_nodes next_query some_unknown candidates queued_frames next_out left_behind frames_of frame_step outcome fits_no_payload fits_no_part payload_of delivery_phase session_step session_for wanted identifier_of rows blocks_used bits_of crc_of divide number_of device_step device_rows device_clock after_allocation arrival_judgement brings_void device_judgement exchange_answer exchange_after
opened_2 = record { store = empty_store; moment = 200; word = 1000; runs = refl; clock = omega arith; faults = 0; disk = refl }

pub opened : (n : ℕ) → In (Member n) group → HasJustOpened two n (opened_at + clocks (Member n)) power_on_world
opened = of_members (λ n. HasJustOpened two n (opened_at + clocks (Member n)) power_on_world) opened_1 opened_2

-- ---- the device has just come

-- it has asked nothing yet
pub has_come : power_on_world.allocatee 1 ≡ Some (opening some_uid 0 0 0)
unfolding step all_nodes next_query some_unknown candidates queued_frames next_out left_behind frames_of frame_step outcome fits_no_payload fits_no_part payload_of delivery_phase session_step session_for wanted identifier_of rows blocks_used bits_of crc_of divide number_of device_step device_rows device_clock after_allocation arrival_judgement brings_void device_judgement exchange_answer exchange_after
has_come = refl

-- ---- members are ready to tell

-- no frame waits at member n, the device is there, and any Allocation of n may begin
abbrev pub CanTell : ℕ → Type 0
CanTell n = (ready : AreReadyToTell n 1 power_on_world) × AllocationMayBegin n ready.device (id_of ready.sender.ids Alloc 0)

can_tell_1 : CanTell 1
unfolding step all_nodes next_query some_unknown candidates queued_frames next_out left_behind frames_of frame_step outcome fits_no_payload fits_no_part payload_of delivery_phase session_step session_for wanted identifier_of rows blocks_used bits_of crc_of divide number_of device_step device_rows device_clock after_allocation arrival_judgement brings_void device_judgement exchange_answer exchange_after
can_tell_1 = (
  record {
    sender = server_in (power_on_world.member 1).status;
    sends = up_is (power_on_world.member 1).status refl;
    none_waits = refl;
    device = opening some_uid 0 0 0;
    there = refl;
  },
  tt,
)

can_tell_2 : CanTell 2
unfolding step all_nodes next_query some_unknown candidates queued_frames next_out left_behind frames_of frame_step outcome fits_no_payload fits_no_part payload_of delivery_phase session_step session_for wanted identifier_of rows blocks_used bits_of crc_of divide number_of device_step device_rows device_clock after_allocation arrival_judgement brings_void device_judgement exchange_answer exchange_after
can_tell_2 = (
  record {
    sender = server_in (power_on_world.member 2).status;
    sends = up_is (power_on_world.member 2).status refl;
    none_waits = refl;
    device = opening some_uid 0 0 0;
    there = refl;
  },
  tt,
)

pub can_tell : (n : ℕ) → In (Member n) group → CanTell n
can_tell = of_members CanTell can_tell_1 can_tell_2
