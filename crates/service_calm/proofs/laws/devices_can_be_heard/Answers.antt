use Rattle.std.proofs.Common.{◌≡◌, ◌≢◌, ℕ, ◌+◌, ◌<◌, ◌≤◌, List, length, true, Option, None, Some, [], ◌∷◌, refl, ap, sym, subst, inl, inr, arith, ◌∙◌}
use Rattle.std.specs.Prelude.{is_some, take}
use Rattle.alloc_exchange.specs.Exchange.{answer as exchange_answer}
use Rattle.node_discovery.specs.Watch.{next_query}
use Rattle.can_frame.specs.TransferCrc.{bits_of, crc_of, divide, number_of}
use Rattle.can_frame.specs.Cutting.{frame_count, frames_of, payload_of}
use Rattle.can_frame.specs.Identifier.{identifier_of}
use Rattle.raft_model.specs.Lists.{In}
use Rattle.bus_rows.specs.declared.row.Row.{Row}
use Rattle.bus_rows.specs.declared.row.Row.TheVariants.{Tick}
use Rattle.transfer_rx.specs.Acceptance.{wanted}
use Rattle.transfer_rx.specs.Outcome.{blocks_used, fits_no_part, fits_no_payload, outcome}
use Rattle.transfer_rx.specs.Reassembly.{session_step, step as frame_step}
use Rattle.transfer_rx.specs.Sessions.{Session, session_for}
use Rattle.transfer_tx.specs.Queue.{left_behind, next_out, queued_frames}
use Rattle.alloc_spec.specs.Accepted.{rows}
use Rattle.alloc_spec.specs.Delivered.{delivery_phase}
use Rattle.alloc_spec.specs.AllocatorState.{AllocatorState, opening}
use Rattle.alloc_spec.specs.Judging.{arrival_judgement}
use Rattle.alloc_spec.specs.Step.{all_nodes, step}
use Rattle.allocatee.specs.Accepted.{rows as device_rows}
use Rattle.allocatee.specs.Allocatee.{Device, opening as open_device, step as device_step}
use Rattle.allocatee.specs.Asking.{after_allocation, clock_phase}
use Rattle.allocatee.specs.Judging.{arrival_judgement as device_judgement}
use Rattle.service_calm.specs.Calm.{Device as OfDevice, IsInTime, IsRunning, Member, Party, Traffic, no_traffic, queue_in}
use Rattle.service_calm.specs.CalmExample.{clocks, pace, two}
use Rattle.service_calm.specs.Comes.{Sends}
use Rattle.service_calm.specs.Devices.{DeviceHasMemory}
use Rattle.service_calm.specs.DevicesExample.{allocation_offer, answering_row, answering_world, asking_group, asking_rows, asking_world}
use Rattle.service_calm.proofs.Pair.{same_event, same_server}
use Rattle.service_calm.proofs.laws.devices_can_be_heard.Goals as goal
use Rattle.bus_rows.specs.Timed.{rows_in}
use Rattle.service_alone.specs.Calm.{NoneIsLate}
use Rattle.alloc_spec.specs.Step.{Event}
use Rattle.alloc_spec.specs.Transfers.{Offer}
use Rattle.bus_spec.specs.Cluster.{Cluster, after_rows, receipt_of, step_of, tick_of}
use Rattle.bus_spec.specs.Members.{MemberStatus, server_of}
use Rattle.bus_spec.specs.Members.MemberStatus.{Down, Failed, Up}

-- what holds of the member and of the device holds of each party
of_each : (Holds : Party → Type 0) → Holds (Member 1) → Holds (OfDevice 2) → (party : Party) → In party asking_group → Holds party
of_each Holds first device party (inl e) = subst Holds (sym e) first
of_each Holds first device party (inr (inl e)) = subst Holds (sym e) device
of_each Holds first device party (inr (inr i)) = absurd i

abbrev number_in : Party → ℕ
number_in (Member n) = n
number_in (OfDevice a) = a

of_member : (Holds : ℕ → Type 0) → Holds 1 → (n : ℕ) → In (Member n) asking_group → Holds n
of_member Holds first n (inl e) = subst Holds (sym (ap number_in e)) first
of_member Holds first n (inr (inl e)) = absurd (cc (e))
of_member Holds first n (inr (inr i)) = absurd i

-- the server of a member that runs
abbrev no_server : AllocatorState
no_server = opening 1 1 (record { term = 0; vote = None; log = []; commit = 0 }) 0 0

abbrev server_in : MemberStatus → AllocatorState
server_in Down = no_server
server_in (Up server) = server
server_in (Failed failure) = no_server

up_is : (status : MemberStatus) → is_some (server_of status) ≡ true → status ≡ Up (server_in status)
up_is Down e = absurd (cc (e))
up_is (Up server) e = refl
up_is (Failed failure) e = absurd (cc (e))

-- the device that is there
abbrev device_in : Option Device → Device
device_in None = open_device [] 0 0 0
device_in (Some d) = d

there_is : (o : Option Device) → is_some o ≡ true → o ≡ Some (device_in o)
there_is None e = absurd (cc (e))
there_is (Some d) e = refl

abbrev sessions_at : Option Device → List Session
sessions_at None = []
sessions_at (Some d) = d.sessions

pub returns-clause-harmless : goal.returns-clause-harmless
unfolding step all_nodes queued_frames next_out left_behind frames_of frame_step outcome fits_no_payload fits_no_part payload_of delivery_phase session_step session_for wanted identifier_of rows blocks_used bits_of crc_of divide number_of device_step device_rows clock_phase after_allocation exchange_answer next_query arrival_judgement device_judgement
returns-clause-harmless c = (inl refl, (inl refl, (inl refl, (inl refl, (inl refl, (inl refl, (inl refl, (inl refl, (inl refl, (inl refl, (inl refl, (inl refl, (inl refl, (inl refl, (inl refl, (inl refl, (inl refl, (inl refl, (inl refl, (inl refl, (inl refl, (inl refl, (inl refl, (inl refl, tt))))))))))))))))))))))))

pub returns-clause-listed : goal.returns-clause-listed
returns-clause-listed c = of_member (λ p. In p two) (inl refl)

running : IsRunning 1 asking_world
unfolding step all_nodes queued_frames next_out left_behind frames_of frame_step outcome fits_no_payload fits_no_part payload_of delivery_phase session_step session_for wanted identifier_of rows blocks_used bits_of crc_of divide number_of device_step device_rows clock_phase after_allocation exchange_answer next_query
running = record { server = server_in (asking_world.member 1).status; runs = up_is (asking_world.member 1).status refl; faults = 0; disk = refl }

pub returns-clause-running : goal.returns-clause-running
returns-clause-running c = of_member (λ n. IsRunning n asking_world) running

-- a moment by which no time is exceeded
in_time : (traffic : Traffic) (w : Cluster) (at : ℕ) → traffic.at ≤ at → at ≤ traffic.ticked (Member 1) + 60 → at ≤ traffic.ticked (OfDevice 2) + 60
    → (queue_in w (Member 1) ≢ [] → at ≤ traffic.waits (Member 1) + 10) → (queue_in w (OfDevice 2) ≢ [] → at ≤ traffic.waits (OfDevice 2) + 10)
    → NoneIsLate at 10 (traffic.to (Member 1)) → NoneIsLate at 10 (traffic.to (OfDevice 2)) → IsInTime asking_group clocks pace traffic w at
in_time traffic w at moments one device one_sends device_sends one_hears device_hears = record {
  moments = moments;
  ticks = of_each (λ party. at ≤ traffic.ticked party + 60) one device;
  sends_soon = of_each (λ party. queue_in w party ≢ [] → at ≤ traffic.waits party + 10) one_sends device_sends;
  hears = of_each (λ party. NoneIsLate at 10 (traffic.to party)) one_hears device_hears;
}

pub returns-clause-calm : goal.returns-clause-calm
unfolding step all_nodes queued_frames next_out left_behind frames_of frame_step outcome fits_no_payload fits_no_part payload_of delivery_phase session_step session_for wanted identifier_of rows blocks_used bits_of crc_of divide number_of device_step device_rows clock_phase after_allocation exchange_answer next_query
returns-clause-calm c = (
  in_time (no_traffic 2040) asking_world 2041 (omega arith) (omega arith) (omega arith) (λ some. absurd (some refl)) (λ some. absurd (some refl)) tt tt,
  (inr (inl refl), refl),
  (
    in_time _ _ 2042 (omega arith) (omega arith) (omega arith) (λ some. absurd (some refl)) (λ some. omega arith) tt tt,
    (inr (inl refl), refl),
    (
      in_time _ _ 2043 (omega arith) (omega arith) (omega arith) (λ some. absurd (some refl)) (λ some. absurd (some refl)) (omega arith, tt) tt,
      (inl refl, refl, refl),
      (
        in_time _ _ 2044 (omega arith) (omega arith) (omega arith) (λ some. omega arith) (λ some. absurd (some refl)) tt tt,
        (inl refl, refl),
        (
          in_time _ _ 2045 (omega arith) (omega arith) (omega arith) (λ some. absurd (some refl)) (λ some. absurd (some refl)) tt (omega arith, tt),
          (inr (inl refl), refl, refl),
          (
            in_time _ _ 2066 (omega arith) (omega arith) (omega arith) (λ some. absurd (some refl)) (λ some. absurd (some refl)) tt tt,
            (inl refl, refl),
            tt,
          ),
        ),
      ),
    ),
  ),
)

pub returns-clause-asks : goal.returns-clause-asks
unfolding step all_nodes queued_frames next_out left_behind frames_of frame_step outcome fits_no_payload fits_no_part payload_of delivery_phase session_step session_for wanted identifier_of rows blocks_used bits_of crc_of divide number_of device_step device_rows clock_phase after_allocation exchange_answer next_query
returns-clause-asks c = (
  record {
    device = device_in (asking_world.allocatee 2);
    there = there_is (asking_world.allocatee 2) refl;
    ms = 2081;
    word = 0;
    reads = refl;
    offers = refl;
  },
  omega arith,
)

pub returns-clause-ready : goal.returns-clause-ready
unfolding step all_nodes queued_frames next_out left_behind frames_of frame_step outcome fits_no_payload fits_no_part payload_of delivery_phase session_step session_for wanted identifier_of rows blocks_used bits_of crc_of divide number_of device_step device_rows clock_phase after_allocation exchange_answer next_query
returns-clause-ready c = (
  record {
    sender = server_in (asking_world.member 1).status;
    sends = up_is (asking_world.member 1).status refl;
    none_waits = refl;
    device = device_in (asking_world.allocatee 2);
    there = there_is (asking_world.allocatee 2) refl;
  },
  tt,
)

-- the world before the row at this place
abbrev world_before : ℕ → Cluster
world_before place = after_rows asking_world (rows_in (take place asking_rows))

has_memory : (w : Cluster) → length (sessions_at (w.allocatee 2)) < 8 → blocks_used (sessions_at (w.allocatee 2)) + 1 ≤ 8 → DeviceHasMemory 2 w
has_memory w few small d e = (subst (λ l. length l < 8) (ap sessions_at e) few, subst (λ l. blocks_used l + 1 ≤ 8) (ap sessions_at e) small)

pub returns-clause-memory : goal.returns-clause-memory
unfolding step all_nodes queued_frames next_out left_behind frames_of frame_step outcome fits_no_payload fits_no_part payload_of delivery_phase session_step session_for wanted identifier_of rows blocks_used bits_of crc_of divide number_of device_step device_rows clock_phase after_allocation exchange_answer next_query
returns-clause-memory c = (has_memory (world_before 0) (omega arith) (omega arith), (has_memory (world_before 1) (omega arith) (omega arith), (has_memory (world_before 2) (omega arith) (omega arith), (has_memory (world_before 3) (omega arith) (omega arith), (has_memory (world_before 4) (omega arith) (omega arith), (has_memory (world_before 5) (omega arith) (omega arith), tt))))))

-- what member 1 offers as the request comes
answers : (step (server_in (answering_world.member 1).status) (answering_world.rows + 1) (receipt_of answering_world 7 2143)).step_state.offers ≡ allocation_offer ∷ []
unfolding step all_nodes queued_frames next_out left_behind frames_of frame_step outcome fits_no_payload fits_no_part payload_of delivery_phase session_step session_for wanted identifier_of rows blocks_used bits_of crc_of divide number_of device_step device_rows clock_phase after_allocation exchange_answer next_query
answers = refl

abbrev last_world : Cluster
last_world = world_before 5

-- and as it reads its clock
rests : (step (server_in (last_world.member 1).status) (last_world.rows + 1) (tick_of 2166 0)).step_state.offers ≡ []
unfolding step all_nodes queued_frames next_out left_behind frames_of frame_step outcome fits_no_payload fits_no_part payload_of delivery_phase session_step session_for wanted identifier_of rows blocks_used bits_of crc_of divide number_of device_step device_rows clock_phase after_allocation exchange_answer next_query
rests = refl

-- what member 1 sends in a step is among what it offers there
offered : (w : Cluster) (t : AllocatorState) → (w.member 1).status ≡ Up t → (row : Row) (event : Event) → step_of w row ≡ Some (1, event) → (offer : Offer) → Sends 1 w row offer
    → In offer (step t (w.rows + 1) event).step_state.offers
offered w t up row event is_step offer sends =
    subst (λ (e : Event). In offer (step t (w.rows + 1) e).step_state.offers) (same_event 1 1 sends.event event (sym sends.in_step ∙ is_step))
    (subst (λ (s : AllocatorState). In offer (step s (w.rows + 1) sends.event).step_state.offers) (same_server sends.server t (sym sends.runs ∙ up)) sends.offered)

is_short : (offer : Offer) → In offer (allocation_offer ∷ []) → frame_count (length offer.payload) ≤ 3
is_short offer (inl e) = subst (λ (o : Offer). frame_count (length o.payload) ≤ 3) (sym e) (omega arith)
is_short offer (inr i) = absurd i

short_answer : (offer : Offer) → Sends 1 answering_world answering_row.row offer → frame_count (length offer.payload) ≤ 3
unfolding step all_nodes queued_frames next_out left_behind frames_of frame_step outcome fits_no_payload fits_no_part payload_of delivery_phase session_step session_for wanted identifier_of rows blocks_used bits_of crc_of divide number_of device_step device_rows clock_phase after_allocation exchange_answer next_query
short_answer offer sends = is_short offer (subst (λ (l : List Offer). In offer l) answers
    (offered answering_world (server_in (answering_world.member 1).status) (up_is (answering_world.member 1).status refl) answering_row.row (receipt_of answering_world 7 2143) refl offer sends))

short_tick : (offer : Offer) → Sends 1 last_world (Tick 1 2166 0) offer → frame_count (length offer.payload) ≤ 3
unfolding step all_nodes queued_frames next_out left_behind frames_of frame_step outcome fits_no_payload fits_no_part payload_of delivery_phase session_step session_for wanted identifier_of rows blocks_used bits_of crc_of divide number_of device_step device_rows clock_phase after_allocation exchange_answer next_query
short_tick offer sends = absurd (subst (λ (l : List Offer). In offer l) rests
    (offered last_world (server_in (last_world.member 1).status) (up_is (last_world.member 1).status refl) (Tick 1 2166 0) (tick_of 2166 0) refl offer sends))

pub returns-clause-short : goal.returns-clause-short
returns-clause-short c = (
  λ offer sends what. absurd (cc (sends.in_step)),
  (
    λ offer sends what. absurd (cc (sends.in_step)),
    (
      λ offer sends what. short_answer offer sends,
      (
        λ offer sends what. absurd (cc (sends.in_step)),
        (λ offer sends what. absurd (cc (sends.in_step)), (λ offer sends what. short_tick offer sends, tt)),
      ),
    ),
  ),
)

pub returns-clause-sends : goal.returns-clause-sends
unfolding step all_nodes queued_frames next_out left_behind frames_of frame_step outcome fits_no_payload fits_no_part payload_of delivery_phase session_step session_for wanted identifier_of rows blocks_used bits_of crc_of divide number_of device_step device_rows clock_phase after_allocation exchange_answer next_query
returns-clause-sends c = record {
  server = server_in (answering_world.member 1).status;
  runs = up_is (answering_world.member 1).status refl;
  event = receipt_of answering_world 7 2143;
  in_step = refl;
  offered = inl refl;
  fitted = refl;
}
