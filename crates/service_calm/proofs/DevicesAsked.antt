-- A device asks in a calm: each member of the group hears its request.
use Rattle.std.proofs.Common.{◌≡◌, ℕ, ◌+◌, ◌*◌, ◌<◌, ◌≤◌, List, [], ◌∷◌, ◌++◌, length, refl, sym, ◌∙◌, ap, subst, arith, inl, Some}
use Rattle.std.specs.Prelude.{max, slice_index_or}
use Rattle.can_frame.specs.Cutting.{frames_of}
use Rattle.can_frame.specs.Identifier.{identifier_number}
use Rattle.dsdl_codec.specs.declared.allocation.Allocation.{Allocation}
use Rattle.dsdl_codec.specs.Allocation.{allocation_bytes}
use Rattle.raft_model.specs.Lists.{In, at_here}
use Rattle.bus_rows.specs.declared.row.Row.{Row}
use Rattle.bus_rows.specs.declared.row.Row.TheVariants.{ATick, Rx}
use Rattle.transfer_rx.specs.Reassembly.{Arrival}
use Rattle.transfer_tx.specs.declared.outgoing.Outgoing.{Outgoing}
use Rattle.transfer_tx.specs.Queue.{Queued, queued_frames}
use Rattle.allocatee.specs.Allocatee.{Device, step}
use Rattle.allocatee.specs.Allocatee as device
use Rattle.allocatee.specs.Asking.{outgoing}
use Rattle.bus_agreement.proofs.Lists.{in_back}
use Rattle.service_steps.specs.Devices.{RequestsAreRequests}
use Rattle.service_steps.specs.Requests.{IsRequest}
use Rattle.bus_rows.specs.Timed.{Timed, rows_in}
use Rattle.service_alone.specs.Calm.{Pace, end_of}
use Rattle.service_alone.proofs.CalmSide.{waits_before}
use Rattle.service_calm.specs.Calm.{AreCalm, Device as OfDevice, IsCalmRow, Member as OfMember, Party, Traffic, queue_in, traffic_after}
use Rattle.service_calm.specs.Devices.{Asks, HearsRequest, HearsRequestBy, IsRequestOf}
use Rattle.service_calm.proofs.DevicesHeard.{Flies, RequestsAreDelivered, Waits, heard_behind, it_comes, none_flies}
use Rattle.service_calm.proofs.DevicesSteps.{HaveSmallIds, Offered, asks, small_row, small_there}
use Rattle.service_calm.proofs.Frames.{last_marked}
use Rattle.service_calm.proofs.Group.{AreWell, CalmLaws, IsWell, well_after}
use Rattle.bus_spec.specs.Allocatees.{device_after_step}
use Rattle.bus_spec.specs.Cluster.{Cluster, after_row, after_rows, arrival_at, frame_at}

-- the mark of a transfer's only frame
only_mark : (what : Outgoing) (number : ℕ) (frame : Queued) → queued_frames what number 0 ≡ frame ∷ [] → frame.mark ≡ record { step = number; re = 0; place = 0 }
unfolding queued_frames
only_mark what number frame e = last_marked (identifier_number what.ident) number 0 0 (frames_of what.signature what.id what.payload.items) [] frame e

-- a request is one at any moment
abbrev at_moment : (arrival : Arrival) (message : Allocation) (moment : ℕ) → IsRequest arrival message → IsRequest (record arrival { moment = moment }) message
at_moment arrival message moment r = record {
  ident = r.ident;
  read = r.read;
  kind = r.kind;
  number = r.number;
  source = r.source;
  first = r.first;
  last = r.last;
  toggle = r.toggle;
  says = r.says;
}

module _ (laws : CalmLaws) (requests : RequestsAreRequests) (delivered : RequestsAreDelivered) (group : List Party) (clocks : Party → ℕ) (pace : Pace)
    (nodes : (p : ℕ) → In (OfMember p) group → (1 ≤ p) × (p ≤ 125)) (m : ℕ) (in_m : In (OfMember m) group) where
  -- ---- the member hears it

  module _ (word id number : ℕ) (message : Allocation) (few : id < 32) (small : message.node < 128) (short : length message.uid.items ≤ 6) (frame : Queued)
      (cut : queued_frames (outgoing word id (allocation_bytes message)) number 0 ≡ frame ∷ []) where
    is_request : (moment : ℕ) → IsRequest (arrival_at frame moment) message
    is_request moment =
        let r = requests word id number moment message few small short in
        subst (λ (f : Queued). IsRequest (arrival_at f moment) message) (ap (λ (l : List Queued). slice_index_or l 0 frame) (sym r.1 ∙ cut)) r.2

    hears : (w : Cluster) (traffic : Traffic) (timed : Timed) → AreWell group w → IsCalmRow group clocks pace traffic w timed.at timed.row
        → (k ms : ℕ) → timed.row ≡ Rx m k ms → frame_at w.frames k ≡ frame → HearsRequest m (clocks (OfMember m)) number message w timed
    hears w traffic timed well calm k ms comes same = record {
      k = k;
      ms = ms;
      comes = comes;
      clock = (subst (λ (row : Row). IsCalmRow group clocks pace traffic w timed.at row) comes calm).1;
      made = ap (λ (f : Queued). f.mark) same ∙ only_mark (outgoing word id (allocation_bytes message)) number frame cut;
      request = request;
      server = of_m.server;
      runs = of_m.up.status;
      gives = delivered m of_m.server.sessions (arrival_at (frame_at w.frames k) (max of_m.server.now ms)) message
          (at_moment (arrival_at (frame_at w.frames k) ms) message (max of_m.server.now ms) request);
    }
      where
        request : IsRequest (arrival_at (frame_at w.frames k) ms) message
        request = subst (λ (f : Queued). IsRequest (arrival_at f ms) message) (sym same) (is_request ms)

        of_m : IsWell m (w.member m)
        of_m = well.members m in_m

  -- ---- the row in which the device asks, and those behind it

  module _ (a : ℕ) (timed : Timed) (rest : List Timed) (long : timed.at + 2 * pace.delay < end_of timed.at rest) where
    -- what is to show, of the world before that row
    abbrev Shown : Cluster → Type 0
    Shown w = (is : Asks a w timed.row) → is.device.asking.preferred < 128 → (message : Allocation) × IsRequestOf is.device message
        × HearsRequestBy m (clocks (OfMember m)) (w.rows + 1) message (timed.at + 2 * pace.delay) w (timed ∷ rest)

    asked_here : (traffic : Traffic) (w : Cluster) → AreWell group w → HaveSmallIds w.allocatee → Flies group clocks pace m traffic w [] → traffic.waits (OfDevice a) ≤ traffic.at
        → AreCalm group clocks pace traffic w (timed ∷ rest) → Shown w
    asked_here traffic w well ids flies since calm is low = (
      o.message,
      o.says,
      heard_behind m (clocks (OfMember m)) (w.rows + 1) o.message (timed.at + 2 * pace.delay) w timed rest
          (it_comes group clocks pace m a in_a in_m frame timed.at laws nodes (w.rows + 1) o.message
          (hears is.word d.asking.id (w.rows + 1) o.message small (subst (λ (k : ℕ). k < 128) (sym o.says.0) low) o.short frame request.1)
          rest (traffic_after traffic w timed) (after_row w timed.row) (inl waits)
          (well_after laws group nodes w well clocks pace traffic timed.at timed.row calm.1) calm.2 (omega arith) long),
    )
      where
        d : Device
        d = is.device

        later : Device
        later = (step d (w.rows + 1) (device.Tick is.ms is.word)).device

        o : Offered d (w.rows + 1) is.word later.asking
        o = asks d (w.rows + 1) is.word is.ms is.offers

        small : d.asking.id < 32
        small = small_there w.allocatee a d ids is.there

        request : (frame : Queued) × (queued_frames (outgoing is.word d.asking.id (allocation_bytes o.message)) (w.rows + 1) 0 ≡ frame ∷ [])
            × IsRequest (arrival_at frame 0) o.message
        request = requests is.word d.asking.id (w.rows + 1) 0 o.message small (subst (λ (k : ℕ). k < 128) (sym o.says.0) low) o.short

        frame : Queued
        frame = request.0

        in_a : In (OfDevice a) group
        in_a = (subst (λ (row : Row). IsCalmRow group clocks pace traffic w timed.at row) is.reads calm.1).0

        there_then : (after_row w (ATick a is.ms is.word)).allocatee a ≡ Some later
        there_then = at_here w.allocatee a a (device_after_step (w.rows + 1) (device.Tick is.ms is.word) (w.allocatee a)) refl
            ∙ ap (device_after_step (w.rows + 1) (device.Tick is.ms is.word)) is.there

        waits : Waits group clocks pace m a in_a in_m frame timed.at (traffic_after traffic w timed) (after_row w timed.row)
        waits = record {
          device = later;
          there = ap (λ (row : Row). (after_row w row).allocatee a) is.reads ∙ there_then;
          waits = subst (λ (l : List Queued). In frame l) (sym (o.queue ∙ ap (λ (l : List Queued). d.asking.queue ++ l) request.1))
              (in_back frame d.asking.queue (frame ∷ []) (inl refl));
          since = waits_before timed.at (traffic.waits (OfDevice a)) (queue_in w (OfDevice a)) (queue_in (after_row w timed.row) (OfDevice a))
              (let t = calm.0.moments in omega (arith, since, t));
          flies = none_flies group clocks pace m traffic w timed.at flies timed.row calm.1;
        }

    -- from the beginning of the calm on
    pub request_comes : (front : List Timed) (traffic : Traffic) (w : Cluster) → AreWell group w → HaveSmallIds w.allocatee → Flies group clocks pace m traffic w []
        → traffic.waits (OfDevice a) ≤ traffic.at → AreCalm group clocks pace traffic w (front ++ timed ∷ rest) → Shown (after_rows w (rows_in front))
    request_comes [] traffic w well ids flies since calm = asked_here traffic w well ids flies since calm
    request_comes (first ∷ front) traffic w well ids flies since calm =
        request_comes front (traffic_after traffic w first) (after_row w first.row) (well_after laws group nodes w well clocks pace traffic first.at first.row calm.1)
        (small_row w first.row ids) (none_flies group clocks pace m traffic w first.at flies first.row calm.1)
        (waits_before first.at (traffic.waits (OfDevice a)) (queue_in w (OfDevice a)) (queue_in (after_row w first.row) (OfDevice a))
        (let t = calm.0.moments in omega (arith, since, t))) calm.2
