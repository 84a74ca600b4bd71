-- What is computed of the rows of `RestartExample`: each passes the tests of `CalmTests` and of `RestartTests`; and the
-- members when the calm begins.
use Rattle.std.proofs.Common.{◌≡◌, ℕ, ◌+◌, arith, true, [], refl, sym, ap, subst, inl, inr, None}
use Rattle.can_frame.specs.Cutting.{frames_of, payload_of}
use Rattle.can_frame.specs.Identifier.{identifier_of}
use Rattle.can_frame.specs.TransferCrc.{bits_of, crc_of, divide, number_of}
use Rattle.id_selector.specs.Choice.{candidates}
use Rattle.node_discovery.specs.Watch.{next_query, some_unknown}
use Rattle.raft_model.specs.Lists.{In}
use Rattle.raft_model.specs.Server.{Store}
use Rattle.transfer_rx.specs.Acceptance.{wanted}
use Rattle.transfer_rx.specs.Outcome.{blocks_used, fits_no_part, fits_no_payload, outcome}
use Rattle.transfer_rx.specs.Reassembly.{session_step, step as frame_step}
use Rattle.transfer_rx.specs.Sessions.{session_for}
use Rattle.transfer_tx.specs.Queue.{left_behind, next_out, queued_frames}
use Rattle.alloc_spec.specs.Accepted.{rows}
use Rattle.alloc_spec.specs.AllocatorState.{AllocatorState}
use Rattle.alloc_spec.specs.Delivered.{delivery_phase}
use Rattle.alloc_spec.specs.Judging.{arrival_judgement, brings_void}
use Rattle.alloc_spec.specs.Step.{all_nodes, step}
use Rattle.service_calm.specs.Calm.{Member, no_traffic}
use Rattle.service_calm.specs.CalmExample.{clocks, some_uid, two}
use Rattle.service_calm.proofs.Examples.{of_server}
use Rattle.service_candidate.specs.Elections.{HasJustOpened}
use Rattle.service_device.proofs.CalmTested.{number_in}
use Rattle.service_device.proofs.CalmTests.{all_lawful, all_pass, any_row}
use Rattle.service_cluster.specs.RestartExample.{members_only, no_entries, opened_at, opened_world, opening_rows, restart_pace, restart_rows}
use Rattle.service_cluster.proofs.RestartTests.{world_test}
use Rattle.bus_spec.specs.Cluster.{cluster}
use Rattle.bus_spec.specs.Members.MemberStatus.{Up}

-- ---- the rows

-- each row of the calm passes
pub passed : all_pass members_only restart_pace (world_test members_only no_entries some_uid) any_row (no_traffic opened_at) opened_world restart_rows ≡ true
unfolding step all_nodes next_query some_unknown candidates queued_frames next_out left_behind frames_of frame_step outcome fits_no_payload fits_no_part payload_of delivery_phase session_step session_for wanted identifier_of rows blocks_used bits_of crc_of divide number_of arrival_judgement brings_void
passed = refl

-- each row before it is lawful
pub lawful_before : all_lawful (cluster two) opening_rows ≡ true
unfolding step all_nodes next_query some_unknown candidates queued_frames next_out left_behind frames_of frame_step outcome fits_no_payload fits_no_part payload_of delivery_phase session_step session_for wanted identifier_of rows blocks_used bits_of crc_of divide number_of arrival_judgement brings_void
lawful_before = refl

-- ---- both members have just been opened

-- the store of a member that has never run
abbrev pub empty_store : Store
empty_store = record { term = 0; vote = None; log = []; commit = 0 }

-- so they were opened
opened_1 : HasJustOpened two 1 100 opened_world
unfolding step all_nodes next_query some_unknown candidates queued_frames next_out left_behind frames_of frame_step outcome fits_no_payload fits_no_part payload_of delivery_phase session_step session_for wanted identifier_of rows blocks_used bits_of crc_of divide number_of arrival_judgement brings_void
opened_1 = record { store = empty_store; moment = 100; word = 0; runs = refl; clock = omega arith; faults = 0; disk = refl }

opened_2 : HasJustOpened two 2 200 opened_world
unfolding step all_nodes next_query some_unknown candidates queued_frames next_out left_behind frames_of frame_step outcome fits_no_payload fits_no_part payload_of delivery_phase session_step session_for wanted identifier_of rows blocks_used bits_of crc_of divide number_of arrival_judgement brings_void
opened_2 = record { store = empty_store; moment = 200; word = 1000; runs = refl; clock = omega arith; faults = 0; disk = refl }

-- the store of each is empty
abbrev pub HasEmptyStore : ℕ → Type 0
HasEmptyStore m = (server : AllocatorState) → (opened_world.member m).status ≡ Up server → server.raft_server.store ≡ empty_store

empty_1 : HasEmptyStore 1
unfolding step all_nodes next_query some_unknown candidates queued_frames next_out left_behind frames_of frame_step outcome fits_no_payload fits_no_part payload_of delivery_phase session_step session_for wanted identifier_of rows blocks_used bits_of crc_of divide number_of arrival_judgement brings_void
empty_1 = of_server (λ t. t.raft_server.store ≡ empty_store) (opened_world.member 1).status refl

empty_2 : HasEmptyStore 2
unfolding step all_nodes next_query some_unknown candidates queued_frames next_out left_behind frames_of frame_step outcome fits_no_payload fits_no_part payload_of delivery_phase session_step session_for wanted identifier_of rows blocks_used bits_of crc_of divide number_of arrival_judgement brings_void
empty_2 = of_server (λ t. t.raft_server.store ≡ empty_store) (opened_world.member 2).status refl

-- ---- both members

-- what holds of 1 and 2 holds of each member
pub of_both : (Holds : ℕ → Type 0) → Holds 1 → Holds 2 → (n : ℕ) → In (Member n) members_only → Holds n
of_both Holds first second n (inl i) = subst Holds (sym (ap number_in i)) first
of_both Holds first second n (inr (inl i)) = subst Holds (sym (ap number_in i)) second
of_both Holds first second n (inr (inr i)) = absurd i

-- so each was opened, with an empty store
pub opened : (n : ℕ) → In (Member n) members_only → HasJustOpened two n (opened_at + clocks (Member n)) opened_world
opened = of_both (λ n. HasJustOpened two n (opened_at + clocks (Member n)) opened_world) opened_1 opened_2

pub stores_empty : (n : ℕ) → In (Member n) members_only → (server : AllocatorState) → (opened_world.member n).status ≡ Up server
    → server.raft_server.store ≡ empty_store
stores_empty = of_both HasEmptyStore empty_1 empty_2
