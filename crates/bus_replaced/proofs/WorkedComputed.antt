-- What is computed of the worked trace.
use Rattle.std.proofs.Common.{◌≡◌, ℕ, Bool, true, [], ◌∷◌, length, refl, Option, None, Some}
use Rattle.std.specs.Prelude.{is_some}
use Rattle.alloc_exchange.specs.Exchange.{after as exchange_after, answer as exchange_answer}
use Rattle.can_frame.specs.Cutting.{frames_of, payload_of}
use Rattle.can_frame.specs.Identifier.{identifier_of}
use Rattle.can_frame.specs.TransferCrc.{bits_of, crc_of, divide, number_of}
use Rattle.id_selector.specs.Choice.{candidates}
use Rattle.node_discovery.specs.Watch.{next_query, some_unknown}
use Rattle.transfer_rx.specs.Acceptance.{wanted}
use Rattle.transfer_rx.specs.Outcome.{blocks_used, fits_no_part, fits_no_payload, outcome}
use Rattle.transfer_rx.specs.Reassembly.{session_step, step as frame_step}
use Rattle.transfer_rx.specs.Sessions.{session_for}
use Rattle.transfer_tx.specs.Queue.{left_behind, next_out, queued_frames}
use Rattle.alloc_spec.specs.Accepted.{rows}
use Rattle.alloc_spec.specs.Delivered.{delivery_phase}
use Rattle.alloc_spec.specs.Judging.{arrival_judgement, brings_void}
use Rattle.alloc_spec.specs.Step.{all_nodes, step}
use Rattle.allocatee.specs.Accepted.{rows as device_rows}
use Rattle.allocatee.specs.Allocatee.{Device, opening, step as device_step}
use Rattle.allocatee.specs.Asking.{after_allocation, clock_phase as device_clock}
use Rattle.allocatee.specs.Judging.{arrival_judgement as device_judgement}
use Rattle.bus_rows.specs.declared.row.Row.TheVariants.{Rx}
use Rattle.bus_spec.specs.Cluster.{Cluster, cluster}
use Rattle.bus_spec.specs.Logs.{committed}
use Rattle.bus_agreement.specs.Allocatees.{Holds}
use Rattle.bus_agreement.specs.Headline.{the_list}
use Rattle.bus_replaced.specs.Traces.{AgreesAlong, brings_old_vote, world_along}
use Rattle.bus_replaced.specs.Worked.{some_entry, served_uid, three, worked, world_till_loss}
use Rattle.bus_replaced.proofs.Tested.{agree_if, all_come, are_clear}

-- the world at its end
abbrev ended : Cluster
ended = world_along three worked

pub tested : all_come 0 (cluster three) worked ≡ true
unfolding step all_nodes next_query some_unknown candidates queued_frames next_out left_behind frames_of frame_step outcome fits_no_payload fits_no_part payload_of delivery_phase session_step session_for wanted identifier_of rows blocks_used bits_of crc_of divide number_of device_step device_rows device_clock after_allocation arrival_judgement brings_void device_judgement exchange_answer exchange_after
tested = refl

clear : are_clear (cluster three) worked ≡ true
unfolding step all_nodes next_query some_unknown candidates queued_frames next_out left_behind frames_of frame_step outcome fits_no_payload fits_no_part payload_of delivery_phase session_step session_for wanted identifier_of rows blocks_used bits_of crc_of divide number_of device_step device_rows device_clock after_allocation arrival_judgement brings_void device_judgement exchange_answer exchange_after
clear = refl

pub agreed : (choice : ℕ → Bool) → AgreesAlong choice (cluster three) worked
agreed choice = agree_if choice worked (cluster three) clear

-- the device, where it is there
abbrev device_in : Option Device → Device
device_in None = opening served_uid 0 0 0
device_in (Some device) = device

some_is : (o : Option Device) → is_some o ≡ true → o ≡ Some (device_in o)
some_is None e = absurd (cc (e))
some_is (Some device) e = refl

there : is_some (ended.allocatee 1) ≡ true
unfolding step all_nodes next_query some_unknown candidates queued_frames next_out left_behind frames_of frame_step outcome fits_no_payload fits_no_part payload_of delivery_phase session_step session_for wanted identifier_of rows blocks_used bits_of crc_of divide number_of device_step device_rows device_clock after_allocation arrival_judgement brings_void device_judgement exchange_answer exchange_after
there = refl

its_uid : (device_in (ended.allocatee 1)).asking.uid ≡ served_uid
unfolding step all_nodes next_query some_unknown candidates queued_frames next_out left_behind frames_of frame_step outcome fits_no_payload fits_no_part payload_of delivery_phase session_step session_for wanted identifier_of rows blocks_used bits_of crc_of divide number_of device_step device_rows device_clock after_allocation arrival_judgement brings_void device_judgement exchange_answer exchange_after
its_uid = refl

its_node : (device_in (ended.allocatee 1)).asking.holds ≡ Some 125
unfolding step all_nodes next_query some_unknown candidates queued_frames next_out left_behind frames_of frame_step outcome fits_no_payload fits_no_part payload_of delivery_phase session_step session_for wanted identifier_of rows blocks_used bits_of crc_of divide number_of device_step device_rows device_clock after_allocation arrival_judgement brings_void device_judgement exchange_answer exchange_after
its_node = refl

pub held : Holds ended 1 served_uid 125
held = record { device = device_in (ended.allocatee 1); there = some_is (ended.allocatee 1) there; its_uid = its_uid; its_node = its_node }

pub list_is : (choice : ℕ → Bool) → the_list choice ended ≡ some_entry ∷ []
unfolding step all_nodes next_query some_unknown candidates queued_frames next_out left_behind frames_of frame_step outcome fits_no_payload fits_no_part payload_of delivery_phase session_step session_for wanted identifier_of rows blocks_used bits_of crc_of divide number_of device_step device_rows device_clock after_allocation arrival_judgement brings_void device_judgement exchange_answer exchange_after
list_is choice = refl

pub copied : (choice : ℕ → Bool) → committed choice ended 2 ≡ some_entry ∷ []
unfolding step all_nodes next_query some_unknown candidates queued_frames next_out left_behind frames_of frame_step outcome fits_no_payload fits_no_part payload_of delivery_phase session_step session_for wanted identifier_of rows blocks_used bits_of crc_of divide number_of device_step device_rows device_clock after_allocation arrival_judgement brings_void device_judgement exchange_answer exchange_after
copied choice = refl

pub old_vote : brings_old_vote (length world_till_loss.frames) ended (Rx 3 10 9300) ≡ true
unfolding step all_nodes next_query some_unknown candidates queued_frames next_out left_behind frames_of frame_step outcome fits_no_payload fits_no_part payload_of delivery_phase session_step session_for wanted identifier_of rows blocks_used bits_of crc_of divide number_of device_step device_rows device_clock after_allocation arrival_judgement brings_void device_judgement exchange_answer exchange_after
old_vote = refl
