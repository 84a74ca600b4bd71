-- A request is on the bus, and comes to the allocator, which answers it.
use Rattle.std.proofs.Common.{◌≡◌, ℕ, zero, suc, ◌+◌, ◌*◌, ◌<◌, ◌≤◌, true, false, List, [], ◌∷◌, ◌++◌, append_assoc, length, length-append, length-take, take, drop, inl, inr, refl, sym, ◌∙◌, ap, subst, arith, None, Some}
use Rattle.std.specs.Prelude.{nat_eq}
use Rattle.std.proofs.lemmas.Bool.Decides.{leb_tells}
use Rattle.alloc_exchange.specs.Exchange.{Accepted, after, last_moment}
use Rattle.can_frame.specs.declared.entry.Entry.{Entry}
use Rattle.can_frame.specs.declared.step.What.TheVariants.{Alloc}
use Rattle.can_frame.specs.Cutting.{frame_count}
use Rattle.bus_rows.specs.declared.row.Row.{Row}
use Rattle.bus_rows.specs.declared.row.Row.TheVariants.{Rx}
use Rattle.transfer_tx.specs.Queue.{Queued, queued_frames}
use Rattle.transfer_tx.specs.Run.{of_identifier}
use Rattle.alloc_spec.specs.AllocatorState.{AllocatorState}
use Rattle.alloc_spec.specs.Exchange.{allocation_payload}
use Rattle.alloc_spec.specs.Step.{after_pop, at_moment}
use Rattle.alloc_spec.specs.Step as server
use Rattle.alloc_spec.specs.Transfers.{has_room, id_after, outgoing}
use Rattle.alloc_spec_laws.proofs.Choices.{tell}
use Rattle.service_steps.specs.Devices.{comes_at}
use Rattle.service_steps.specs.Requests.{IsRequest}
use Rattle.service_steps.proofs.FollowUps.{same_number}
use Rattle.allocatee.proofs.Requests.{le_is}
use Rattle.service_alone.specs.Calm.{Clocks, IsCalmRow, IsInTime, IsNext, NoneIsLate, OnItsWay, Pace, Traffic, queue_of, traffic_after}
use Rattle.service_alone.proofs.CalmDevice.{device_as}
use Rattle.service_alone.proofs.CalmQueue.{of_both}
use Rattle.service_alone.proofs.CalmRequests.{HasAnswered, follow_up_waits, serves_on}
use Rattle.service_alone.proofs.CalmRest.{FewWait, Serves}
use Rattle.service_alone.proofs.CalmSide.{AreItsFrames, it, its_both, room_now, waits_before}
use Rattle.service_alone.proofs.CalmStages.{Right, by_rows, known_of, request_of}
use Rattle.service_alone.proofs.Members.{IsUp, steps_up}
use Rattle.service_alone.proofs.Scenes.{own_is}
use Rattle.service_alone.proofs.Sending.{AreOf, frames_of_one}
use Rattle.bus_spec.specs.Cluster.{Cluster, after_row, arrival_at, frame_at, receipt_of}
use Rattle.bus_spec.specs.Members.{member_after_step}
use Rattle.service_alone.proofs.CalmGiving.{Gives as GivesPair, few_frames}
use Rattle.service_alone.proofs.CalmPending.{Pends, pends}
use Rattle.service_alone.proofs.CalmPhases.{CalmLaws, IsOnBus, Next, Outcome, SinceBy, CommonOf, its_request, nothing_sent}

all_of : (id : ℕ) (frames : List Queued) → AreOf id frames → of_identifier id frames ≡ frames
all_of id [] are = refl
all_of id (f ∷ fs) are = let z : nat_eq f.id id ≡ true = ap (λ (k : ℕ). nat_eq k id) are.0 ∙ same_number id in
    rw (z) (ap (λ (l : List Queued). f ∷ l) (all_of id fs are.1))

all_its_own : (n : ℕ) (frames : List Queued) → AreOf (it n) frames → AreItsFrames n frames
all_its_own n [] are = tt
all_its_own n (f ∷ fs) are = (inl are.0, all_its_own n fs are.1)

some_frame : (count : ℕ) → 1 ≤ frame_count count
some_frame count = elim (leb_tells count 7) [ inl z ↦ rw (z.0) (omega arith) | inr z ↦ rw (z.0) (omega (arith, z.1)) ]

module _ (laws : CalmLaws) (n a : ℕ) (low : 1 ≤ n) (high : n ≤ 125) (uid : List ℕ) (preferred : ℕ) (few : preferred < 128) (log : List Entry) (Fits : ℕ → List Entry → Type 0)
    (place : GivesPair Fits n log uid preferred) (start : ℕ) (clocks : Clocks) (pace : Pace) (quick : pace.period + 4 * pace.delay ≤ 100) where
  none_since : (last : ℕ) (frames : List Queued) (ways : List OnItsWay) (fs : List Queued) → of_identifier (it n) fs ≡ [] → SinceBy laws n a low high uid preferred few log Fits place start clocks pace quick last ways fs
  none_since last frames [] fs none = tt
  none_since last frames (way ∷ ways) [] none = tt
  none_since last frames (way ∷ ways) (f ∷ fs) none = elim (tell (nat_eq f.id (it n))) [
    | inl z ↦ let y : nat_eq f.id (it n) ≡ true = z in let l : f ∷ of_identifier (it n) fs ≡ [] = rw y at none in absurd (omega (arith, ap length l))
    | inr z ↦ let y : nat_eq f.id (it n) ≡ false = z in let l : of_identifier (it n) fs ≡ [] = rw y at none in (
      λ e. let x : nat_eq f.id (it n) ≡ true = ap (λ (k : ℕ). nat_eq k (it n)) e ∙ same_number (it n) in absurd (cc (x, y)),
      none_since last frames ways fs l,
    )
  ]

  module _ (j : ℕ) (two : j ≤ 2) (traffic : Traffic) (w : Cluster) (p : IsOnBus laws n a low high uid preferred few log Fits place start clocks pace quick j traffic w) (at : ℕ) (in_time : IsInTime n a clocks pace traffic w at) where
    abbrev Goal : Row → Type 0
    Goal row = Next laws n a low high uid preferred few log Fits place start clocks pace quick traffic w (record { at = at; row = row })

    by : at ≤ p.due + pace.period + 2 * pace.delay
    by = let t : NoneIsLate at pace.delay (p.way ∷ []) = subst (NoneIsLate at pace.delay) p.way_is in_time.allocator_hears in let s = p.since in omega (arith, t.0, s)

    -- it is over in time
    pub end : at ≤ start + 2100
    end = let b = by in let s = p.common.soon in omega (arith, b, s, quick)

    later : traffic.at ≤ at
    later = in_time.moments

    read_on : p.moment ≤ at + clocks.device
    read_on = let r = p.read in let l = later in omega (arith, r, l)

    abbrev Common_ : Row → Type 0
    Common_ row = CommonOf laws n a low high uid preferred few log Fits place start clocks pace quick j p.due p.sessions (traffic_after n a traffic w (record { at = at; row = row })) (after_row w row)

    still : (row : Row) → Common_ row → (moment : ℕ)
        → (after_row w row).allocatee a ≡ Some (device_as uid preferred [] p.id moment p.request None p.sessions)
        → moment ≤ at + clocks.device → (traffic_after n a traffic w (record { at = at; row = row })).to_allocator ≡ p.way ∷ []
        → (p.way.number ≤ length (after_row w row).frames) → frame_at (after_row w row).frames p.way.number ≡ p.frame → Goal row
    still row common moment there read way inside same = inl (
      j,
      two,
      inr (inr (inl (record {
        due = p.due;
        sessions = p.sessions;
        common = common;
        id = p.id;
        moment = moment;
        request = p.request;
        frame = p.frame;
        there = there;
        small = p.small;
        read = read;
        way = p.way;
        way_is = way;
        number = (p.number.0, inside);
        frame_is_it = same;
        quiet = p.quiet;
        asks = p.asks;
        first_one = p.first_one;
        since = p.since;
        from = let f = p.from in let l = later in omega (arith, f, l);
      }))),
    )

    pending : Pends laws n a low high uid preferred few log Fits place start clocks pace quick j p.due p.sessions traffic w p.common [] p.id p.moment p.request p.there p.read at later end
        (let b = by in let q = p.quiet.0 in omega (arith, b, q, quick)) p.quiet.1 Goal
    pending = pends laws n a low high uid preferred few log Fits place start clocks pace quick j p.due p.sessions traffic w p.common [] p.id p.moment p.request p.there p.read at later end
        (let b = by in let q = p.quiet.0 in omega (arith, b, q, quick)) p.quiet.1 Goal
        (λ row common moment there read same frames. let f = frames p.way.number p.number.0 p.number.1 in still row common moment there read (same ∙ p.way_is) f.0 (f.1 ∙ p.frame_is_it))

    -- ---- it comes to the allocator

    abbrev c : CommonOf laws n a low high uid preferred few log Fits place start clocks pace quick j p.due p.sessions traffic w
    c = p.common

    abbrev moment_then : ℕ
    moment_then = at + clocks.allocator

    now_later : c.server.now ≤ moment_then
    now_later = let k = c.side.clock in let l = later in omega (arith, k, l)

    room : length c.server.queue + 4 ≤ 32
    room = let f = c.few_stages in room_now n a start high clocks log c.accepted c.next c.stages [] c.server c.flying traffic w c.side at later end (omega (arith, f))

    -- an answer with these bytes is behind what waits
    answered : (k : ℕ) → IsNext k traffic.to_allocator → (node : ℕ) (bytes : List ℕ) (then_log : List Entry) (accepted : List Accepted) (u : AllocatorState)
        → u ≡ (server.step c.server (w.rows + 1) (server.Rx (comes_at p.frame moment_then))).step_state.allocator
        → Serves n then_log accepted (id_after c.next) u → HasAnswered n c.server moment_then c.next (w.rows + 1) node bytes u
        → node < 128 → length bytes ≤ 16 → Outcome laws n a low high uid preferred few log Fits place start clocks pace quick j then_log accepted at node bytes
        → Goal (Rx n k moment_then)
    answered k is node bytes then_log accepted u step_is serves has node_small short outcome = inl (
      j,
      two,
      inr (inr (inr (record {
        asked_at = at;
        then_log = then_log;
        accepted = accepted;
        next = c.next;
        stages = c.stages;
        number = w.rows + 1;
        node = node;
        bytes = bytes;
        rest = answer_frames;
        server = u;
        flying = c.flying;
        side = record {
          serves = serves;
          few = few_then c.side.few;
          rest_is = ap (λ (q : List Queued). of_identifier (it n) (c.flying ++ q)) has.queue
              ∙ (ap (of_identifier (it n)) (sym (append_assoc c.flying c.server.queue answer_frames))
              ∙ (of_both (it n) (c.flying ++ c.server.queue) answer_frames
              ∙ (ap (λ (l : List Queued). l ++ of_identifier (it n) answer_frames) c.side.rest_is ∙ all_of (it n) answer_frames all_its)));
          up = subst (λ (v : AllocatorState). IsUp v ((after_row w (Rx n k moment_then)).member n)) (sym step_is)
              (subst (IsUp (server.step c.server (w.rows + 1) (server.Rx (comes_at p.frame moment_then))).step_state.allocator)
              (sym (own_is w n (member_after_step (w.rows + 1) (receipt_of w k moment_then) (w.member n).status (w.member n))
              ∙ ap (λ (f : Queued). member_after_step (w.rows + 1) (server.Rx (arrival_at f moment_then)) (w.member n).status (w.member n)) at_it))
              (steps_up (w.rows + 1) (server.Rx (comes_at p.frame moment_then)) c.server (w.member n) c.side.up));
          carry = c.side.carry;
          flying_its = c.side.flying_its;
          queue_its = subst (AreItsFrames n) (sym has.queue) (its_both n c.server.queue answer_frames c.side.queue_its (all_its_own n answer_frames all_its));
          clock = let e = has.now in omega (arith, e);
          requests = requests_then;
          since = let s = c.side.since in let l = later in omega (arith, s, l);
          waits = waits_before at traffic.allocator_waits (queue_of (w.member n).status) (queue_of ((after_row w (Rx n k moment_then)).member n).status)
              (let v = c.side.waits in let l = later in omega (arith, v, l));
          ticked = let v = c.side.ticked in let l = later in omega (arith, v, l);
        };
        outcome = outcome;
        next_small = c.small;
        few_stages = c.few_stages;
        node_small = node_small;
        short = short;
        id = p.id;
        moment = p.moment;
        request = p.request;
        before = p.sessions;
        front = [];
        heard = [];
        there = p.there;
        small = p.small;
        read = read_on;
        nothing = ap (λ (l : List OnItsWay). drop 1 l) p.way_is;
        quiet = let b = by in let q = p.quiet.0 in omega (arith, b, q, quick);
        long = p.quiet.1;
        awaits = c.awaits;
        cut = refl;
        came = tt;
        some = λ e. let l = laws.count (outgoing n Alloc 0 c.next (allocation_payload node bytes)) (w.rows + 1) 0 in
            let s : 1 ≤ frame_count (suc (length bytes)) = some_frame (suc (length bytes)) in
            let k_ = ap length e in absurd (omega (arith, l, s, k_));
        early = let e = c.early in let f = p.from in let l = later in omega (arith, e, f, l);
        soon = let b = by in let s = c.soon in omega (arith, b, s, quick);
        from = omega arith;
        in_queue = λ some. waits_before at traffic.allocator_waits (queue_of (w.member n).status) (queue_of ((after_row w (Rx n k moment_then)).member n).status)
            (let v = c.side.waits in let l = later in omega (arith, v, l));
        on_way = none_since (at + pace.delay) w.frames traffic.to_device c.flying (front_none (of_identifier (it n) c.flying) (of_identifier (it n) c.server.queue)
            (sym (of_both (it n) c.flying c.server.queue) ∙ c.side.rest_is));
      }))),
    )
      where
        answer_frames : List Queued
        answer_frames = queued_frames (outgoing n Alloc 0 c.next (allocation_payload node bytes)) (w.rows + 1) 0

        requests_then : last_moment accepted ≤ moment_then
        requests_then = subst (λ (l : List Accepted). last_moment l ≤ moment_then) serves.accepts
            (has.requests (subst (λ (l : List Accepted). last_moment l ≤ moment_then) (sym c.side.serves.accepts) (let r = c.side.requests in let l = later in omega (arith, r, l))))

        all_its : AreOf (it n) answer_frames
        all_its = frames_of_one (outgoing n Alloc 0 c.next (allocation_payload node bytes)) (w.rows + 1) 0

        at_it : frame_at w.frames k ≡ p.frame
        at_it = let e : IsNext k (p.way ∷ []) = subst (IsNext k) p.way_is is in ap (λ (m : ℕ). frame_at w.frames m) e ∙ p.frame_is_it

        few_then : FewWait (start + clocks.allocator) c.stages c.server → FewWait (start + clocks.allocator) (suc c.stages) u
        few_then f =
            let l = laws.count (outgoing n Alloc 0 c.next (allocation_payload node bytes)) (w.rows + 1) 0 in
            let s : frame_count (suc (length bytes)) ≤ 3 = few_frames (suc (length bytes)) (omega (arith, short)) in
            let q = ap length has.queue in let r = length-append c.server.queue answer_frames in let st = has.status in let nw = has.now in
            elim f [
              | inl z ↦ inl (omega (arith, z.0, st), omega (arith, z.1, l, s, q, r))
              | inr z ↦ inr (omega (arith, z.0, st), omega (arith, z.1, st, nw, now_later), omega (arith, z.2, st, l, s, q, r))
            ]

        front_none : (xs ys : List Queued) → xs ++ ys ≡ [] → xs ≡ []
        front_none [] ys e = refl
        front_none (x ∷ xs) ys e = absurd (omega (arith, ap length e))

    has_place : (node : ℕ) (bytes : List ℕ) → length bytes ≤ 16 → has_room c.server.queue (allocation_payload node bytes) ≡ true
    has_place node bytes short = le_is (length c.server.queue + frame_count (suc (length bytes))) 32
        (let f : frame_count (suc (length bytes)) ≤ 3 = few_frames (suc (length bytes)) (omega (arith, short)) in let r = room in omega (arith, f, r))

    here : (p.due + clocks.allocator ≤ moment_then) × (moment_then ≤ p.due + pace.period + 2 * pace.delay + clocks.allocator)
    here = let b = by in let f = p.from in let l = later in (omega (arith, f, l), omega (arith, b))

    on_request : (k : ℕ) → IsNext k traffic.to_allocator → Goal (Rx n k moment_then)
    on_request k is = go j refl c.right
      where
        frame_request : IsRequest (comes_at p.frame moment_then) (request_of uid place.whole preferred j)
        frame_request = its_request laws n a low high uid preferred few log Fits place start clocks pace quick p.frame (request_of uid place.whole preferred j) moment_then p.asks

        follow : (i : ℕ) → j ≡ suc i → length (take (known_of i) uid) ≤ 16 → Right uid place.whole preferred (suc i) c.accepted (p.due + clocks.allocator) (p.due + pace.period + 2 * pace.delay + clocks.allocator) → Goal (Rx n k moment_then)
        follow i e short right =
            let r = right moment_then here.0 here.1 in
            let asked_ = subst (λ (v : ℕ). IsRequest (comes_at p.frame moment_then) (request_of uid place.whole preferred v)) e frame_request in
            let bytes : List ℕ = take (known_of i) uid in
            answered k is 0 bytes log (after c.accepted (request_of uid place.whole preferred (suc i)) moment_then true)
            (server.step c.server (w.rows + 1) (server.Rx (comes_at p.frame moment_then))).step_state.allocator refl
            (serves_on n log c.accepted c.next c.server c.side.serves (w.rows + 1) (comes_at p.frame moment_then) (request_of uid place.whole preferred (suc i)) bytes now_later asked_ r.0 (has_place 0 bytes short))
            (follow_up_waits n log c.accepted c.next c.server c.side.serves (w.rows + 1) (comes_at p.frame moment_then) (request_of uid place.whole preferred (suc i)) bytes now_later asked_ r.0 (has_place 0 bytes short))
            (omega arith) short
            (subst (λ (v : ℕ). Outcome laws n a low high uid preferred few log Fits place start clocks pace quick v log (after c.accepted (request_of uid place.whole preferred (suc i)) moment_then true) at 0 bytes) (sym e)
            (refl, refl, refl, r.1))

        taken_short : (known : ℕ) → length (take known uid) ≤ 16
        taken_short known = let l = length-take known uid in let v = place.whole in omega (arith, l, v)

        go : (i : ℕ) → j ≡ i → Right uid place.whole preferred j c.accepted (p.due + clocks.allocator) (p.due + pace.period + 2 * pace.delay + clocks.allocator) → Goal (Rx n k moment_then)
        go zero e right =
            let r = subst (λ (v : ℕ). Right uid place.whole preferred v c.accepted (p.due + clocks.allocator) (p.due + pace.period + 2 * pace.delay + clocks.allocator)) e right moment_then here.0 here.1 in
            let asked_ = subst (λ (v : ℕ). IsRequest (comes_at p.frame moment_then) (request_of uid place.whole preferred v)) e frame_request in
            let given = place.gives c.accepted c.next c.server c.side.serves (w.rows + 1) (comes_at p.frame moment_then) now_later asked_ r room in
            answered k is given.node uid given.then_log given.then_accepted (server.step c.server (w.rows + 1) (server.Rx (comes_at p.frame moment_then))).step_state.allocator refl
            given.serves given.answered (let m = given.most in omega (arith, m)) (let v = place.whole in omega (arith, v))
            (subst (λ (v : ℕ). Outcome laws n a low high uid preferred few log Fits place start clocks pace quick v given.then_log given.then_accepted at given.node uid) (sym e)
            (refl, given.fits, given.least, given.most))
        go (suc i) e right = follow i e (taken_short (known_of i)) (subst (λ (v : ℕ). Right uid place.whole preferred v c.accepted (p.due + clocks.allocator) (p.due + pace.period + 2 * pace.delay + clocks.allocator)) e right)

    -- each row leaves a phase
    pub on_bus_goes_on : (row : Row) → IsCalmRow n a clocks pace traffic w at row → Goal row
    on_bus_goes_on row calm = by_rows n a clocks pace traffic w at Goal pending.tick on_request pending.send pending.read pending.frame
        (λ some. absurd (nothing_sent laws n a low high uid preferred few log Fits place start clocks pace quick w (device_as uid preferred [] p.id p.moment p.request None p.sessions) p.there refl some)) row calm
