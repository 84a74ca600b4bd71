-- A device that is heard out, and whose unique ID the leader's log has, is told from the middle of a calm on.
use Rattle.std.proofs.Common.{◌≡◌, ℕ, suc, ◌+◌, ◌*◌, ◌<◌, ◌≤◌, true, List, [], ◌∷◌, ◌++◌, length, append_assoc, refl, sym, ◌∙◌, ap, subst, inl, arith, Some}
use Rattle.std.specs.Prelude.{slice_index_or}
use Rattle.can_frame.specs.declared.entry.Entry.{Entry}
use Rattle.can_frame.specs.Cutting.{frame_count}
use Rattle.can_frame.specs.Log.{HasPair, IsInjective, blank}
use Rattle.can_frame.specs.Timing.{transfer_timeout}
use Rattle.dsdl_codec.specs.declared.allocation.Allocation.{Allocation}
use Rattle.dsdl_codec.specs.Allocation.{IsAllocation, allocation_bytes, allocation_of}
use Rattle.raft_model.specs.Lists.{In}
use Rattle.bus_rows.specs.declared.row.Row.{Row}
use Rattle.transfer_rx.specs.Reassembly.{Arrival}
use Rattle.allocatee.specs.Allocatee as device
use Rattle.allocatee.proofs.Requests.{le_is}
use Rattle.alloc_spec.specs.AllocatorState.{AllocatorState, recorded_at}
use Rattle.alloc_spec.specs.Exchange.{allocation_payload}
use Rattle.alloc_spec.specs.Step.{Event, step}
use Rattle.alloc_spec.specs.Transfers.{Offer, has_room}
use Rattle.alloc_spec_laws.proofs.Uids.{IsWholeOf, answers_whole}
use Rattle.service_steps.specs.Serving.{IsFirst, IsReady, allocation_from}
use Rattle.bus_rows.specs.Timed.{Timed, rows_in}
use Rattle.service_alone.specs.Calm.{HasSettled, Pace, end_of}
use Rattle.service_alone.proofs.CalmGiving.{few_frames}
use Rattle.service_calm.specs.Calm.{AreCalm, Member as OfMember, Party, no_traffic}
use Rattle.service_calm.specs.Comes.{Sends, Throughout, sent_by}
use Rattle.service_calm.specs.Devices.{AllocationsComeInCalm}
use Rattle.service_calm.proofs.Pair.{same_server}
use Rattle.service_leader.proofs.Stretches.{end_both, end_last, throughout_at, world_both}
use Rattle.service_device.specs.Asking.{HasIdBy}
use Rattle.service_device.specs.AskingServed.{CanBeTold}
use Rattle.service_device.specs.Dialog.{HasRoomToTell, HearsWholeBy}
use Rattle.service_device.specs.Settled.{IsCalmUnder}
use Rattle.service_device.proofs.DevicePaired.{PairComes, pair_comes}
use Rattle.service_device.proofs.DialogAgain.{again_first}
use Rattle.service_device.proofs.DialogTold.{Stands, pair_stands}
use Rattle.service_device.proofs.Served.{IsDone, is_done}
use Rattle.service_device.proofs.ServedBehind.{under_behind}
use Rattle.service_device.proofs.ServedHolds.{IsDevice, its_uid_then}
use Rattle.bus_spec.specs.Cluster.{Cluster, after_rows, arrival_at, frame_at, receipt_of, step_of, world_of}
use Rattle.bus_spec.specs.Members.MemberStatus.{Up}

-- behind more rows a member has room to tell
has_room_at : (n : ℕ) (w : Cluster) (whole front rest : List Timed) (timed : Timed) → Throughout (HasRoomToTell n) w whole → whole ≡ front ++ timed ∷ rest
    → HasRoomToTell n (after_rows w (rows_in front))
has_room_at n w whole front rest timed room cut = throughout_at (HasRoomToTell n) front rest timed w (subst (Throughout (HasRoomToTell n) w) cut room)

module _ (stays : (d : device.Device) (number : ℕ) (event : device.Event) → (device.step d number event).device.asking.uid ≡ d.asking.uid)
    (read : (value : Allocation) → IsAllocation value → allocation_of (allocation_bytes value) ≡ Some value) (ids : List ℕ) (rows : List Row)
    (come_in : AllocationsComeInCalm ids rows) (group : List Party) (clocks : Party → ℕ) (pace : Pace) (start n a term : ℕ) (uid : List ℕ)
    (preferred node : ℕ) (log : List Entry) (heard wait : ℕ) where
  -- behind the first rows
  module _ (first later : List Timed) (under : IsCalmUnder ids rows group clocks pace start n term first later) (quick : 2 * pace.delay ≤ transfer_timeout)
      (can : CanBeTold group n a (world_of ids rows) (first ++ later)) (room : Throughout (HasRoomToTell n) (world_of ids rows) (first ++ later))
      (hears : HearsWholeBy n a log (clocks (OfMember n)) wait uid preferred (end_of start first) heard (after_rows (world_of ids rows) (rows_in first)) later)
      (stand : Stands log uid node) (long : heard + 2 * pace.delay < end_of (end_of start first) later) where
    abbrev w : Cluster
    w = world_of ids rows

    abbrev from : ℕ
    from = end_of start first

    -- the world before the row in which the leader hears it whole
    abbrev there : Cluster
    there = after_rows (after_rows w (rows_in first)) (rows_in hears.front)

    same_world : after_rows w (rows_in (first ++ hears.front)) ≡ there
    same_world = world_both w first hears.front

    cut : first ++ later ≡ (first ++ hears.front) ++ hears.timed ∷ hears.rest
    cut = ap (λ (l : List Timed). first ++ l) hears.split ∙ sym (append_assoc first hears.front (hears.timed ∷ hears.rest))

    -- the leader
    abbrev t : AllocatorState
    t = hears.hears.asked.comes.server

    abbrev arrival : Arrival
    arrival = arrival_at (frame_at there.frames hears.hears.asked.comes.k) hears.hears.asked.comes.ms

    abbrev event : Event
    event = receipt_of there hears.hears.asked.comes.k hears.hears.asked.comes.ms

    runs : (there.member n).status ≡ Up t
    runs = hears.hears.asked.comes.runs

    done : IsDone log t
    done = subst (IsDone log) (same_server hears.settled.server t (sym hears.settled.runs ∙ runs))
        (is_done n log (end_of from hears.front + clocks (OfMember n)) there hears.settled)

    ready : IsReady t
    ready = record { leads = done.leads; committed = done.committed ∙ ap length (sym done.log_is) }

    size : length uid ≡ 16
    size = subst IsWholeOf hears.hears.whole (answers_whole t.accepted hears.hears.message _ true)

    has_place : has_room t.queue (allocation_payload node uid) ≡ true
    has_place = le_is (length t.queue + frame_count (suc (length uid))) 32
        (let f : frame_count (suc (length uid)) ≤ 3 = few_frames (suc (length uid)) (omega (arith, size)) in
        let r = subst (HasRoomToTell n) same_world (has_room_at n w (first ++ later) (first ++ hears.front) hears.rest hears.timed room cut) t runs in
        omega (arith, f, r))

    abbrev offer : Offer
    offer = allocation_from t node uid

    -- it tells the pair of its log
    tells_it : IsFirst offer (step t (there.rows + 1) event).step_state.offers
    tells_it = again_first t (there.rows + 1) arrival hears.hears.message uid preferred node stand.place ready hears.hears.request hears.hears.whole stand.device
        (ap (λ (l : List Entry). recorded_at l uid) done.log_is ∙ stand.first)
        (subst (λ (l : List Entry). stand.place < length l) (sym done.log_is) stand.inside)
        (ap (λ (l : List Entry). (slice_index_or l stand.place (blank 0)).uid) done.log_is ∙ stand.its_uid)
        (ap (λ (l : List Entry). (slice_index_or l stand.place (blank 0)).node) done.log_is ∙ stand.its_node) has_place

    sends : Sends n there hears.timed.row offer
    sends = record {
      server = t;
      runs = runs;
      event = event;
      in_step = ap (λ (r : Row). step_of there r) hears.hears.asked.comes.comes;
      offered = subst (λ (l : List Offer). In offer l) (sym tells_it.is) (inl refl);
      fitted = refl;
    }

    -- the device was there when the calm began
    is_its : IsDevice uid (w.allocatee a)
    is_its = subst (λ (u : List ℕ). IsDevice u (w.allocatee a)) hears.waits.its_uid
        (its_uid_then stays group clocks pace start a w (first ++ hears.front) (hears.timed ∷ hears.rest)
        (subst (AreCalm group clocks pace (no_traffic start) w) cut under.calm) can.ready.device hears.waits.device can.ready.there
        (subst (λ (v : Cluster). v.allocatee a ≡ Some hears.waits.device) (sym same_world) hears.waits.there))

    abbrev by_then : ℕ
    by_then = heard + 2 * pace.delay

    paired : PairComes a uid (sent_by n there offer) (hears.timed.at + 2 * pace.delay) (after_rows w (rows_in first)) hears.front hears.rest later hears.timed
    paired = pair_comes ids rows come_in stays read group clocks pace start n a term first later under uid size is_its can quick hears.front hears.rest hears.timed
        hears.split node stand.least stand.most offer refl refl sends heard hears.soon long

    -- the device holds a node ID
    pub has_id_behind : HasIdBy a from by_then (after_rows w (rows_in first)) later
    has_id_behind = record {
      front = (hears.front ++ paired.comes.front) ++ paired.comes.timed ∷ [];
      rest = paired.comes.rest;
      split = paired.split;
      soon = let s = hears.soon in let c = paired.comes.soon in omega (arith, s, c, end_last from (hears.front ++ paired.comes.front) paired.comes.timed);
      device = paired.holds.device;
      there = paired.holds.there;
      node = paired.node;
      holds = paired.holds.its_node;
    }

  -- more rows stand behind the first ones
  module _ (first early later : List Timed) (under : IsCalmUnder ids rows group clocks pace start n term first (early ++ later))
      (quick : 2 * pace.delay ≤ transfer_timeout) (can : CanBeTold group n a (world_of ids rows) (first ++ (early ++ later)))
      (room : Throughout (HasRoomToTell n) (world_of ids rows) (first ++ (early ++ later))) (pair : HasPair log uid node)
      (injective : (front rest : List Timed) (now : ℕ) → first ++ (early ++ later) ≡ front ++ rest → HasSettled n log now (after_rows (world_of ids rows) (rows_in front))
      → IsInjective log) where
    abbrev early_there : Cluster
    early_there = after_rows (after_rows (world_of ids rows) (rows_in first)) (rows_in early)

    abbrev early_moment : ℕ
    early_moment = end_of (end_of start first) early

    same_early : after_rows (world_of ids rows) (rows_in (first ++ early)) ≡ early_there
    same_early = world_both (world_of ids rows) first early

    same_moment : end_of start (first ++ early) ≡ early_moment
    same_moment = end_both start first early

    whole_is : first ++ (early ++ later) ≡ (first ++ early) ++ later
    whole_is = sym (append_assoc first early later)

    abbrev Hears : ℕ → Cluster → Type 0
    Hears k v = HearsWholeBy n a log (clocks (OfMember n)) wait uid preferred k heard v later

    stand : Hears early_moment early_there → Stands log uid node
    stand hears = pair_stands log uid node pair
        (injective ((first ++ early) ++ hears.front) (hears.timed ∷ hears.rest) (end_of early_moment hears.front + clocks (OfMember n))
        (whole_is ∙ (ap (λ (l : List Timed). (first ++ early) ++ l) hears.split ∙ sym (append_assoc (first ++ early) hears.front (hears.timed ∷ hears.rest))))
        (subst (HasSettled n log (end_of early_moment hears.front + clocks (OfMember n)))
        (sym (world_both (world_of ids rows) (first ++ early) hears.front ∙ ap (λ (v : Cluster). after_rows v (rows_in hears.front)) same_early)) hears.settled))

    -- who is heard out holds a node ID
    pub known_device_is_told : Hears early_moment early_there → heard + 2 * pace.delay < end_of early_moment later
        → HasIdBy a early_moment (heard + 2 * pace.delay) early_there later
    known_device_is_told hears long =
        subst (λ (v : Cluster). HasIdBy a early_moment (heard + 2 * pace.delay) v later) same_early
        (subst (λ (k : ℕ). HasIdBy a k (heard + 2 * pace.delay) (after_rows (world_of ids rows) (rows_in (first ++ early))) later) same_moment
        (has_id_behind (first ++ early) later (under_behind ids rows group clocks pace start n term first early later under) quick
        (subst (CanBeTold group n a (world_of ids rows)) whole_is can) (subst (Throughout (HasRoomToTell n) (world_of ids rows)) whole_is room)
        (subst (λ (k : ℕ). Hears k (after_rows (world_of ids rows) (rows_in (first ++ early)))) (sym same_moment)
        (subst (λ (v : Cluster). Hears early_moment v) (sym same_early) hears)) (stand hears)
        (subst (λ (k : ℕ). heard + 2 * pace.delay < end_of k later) (sym same_moment) long)))
