-- An answer is under way, and the device hears it.
use Rattle.std.proofs.Common.{◌≡◌, ◌≢◌, ◌⊎◌, ℕ, Bool, zero, suc, ◌+◌, ◌*◌, ◌<◌, ◌≤◌, true, false, List, [], ◌∷◌, ◌++◌, append_assoc, length, drop, inl, inr, refl, sym, ◌∙◌, ap, subst, arith, Option, None, Some}
use Rattle.std.specs.Prelude.{◌&&◌, not, if◌then◌else◌, is_some, nat_eq}
use Rattle.std.proofs.lemmas.Bool.Decides.{eqb_tells}
use Rattle.can_frame.specs.declared.entry.Entry.{Entry}
use Rattle.can_frame.specs.declared.step.What.TheVariants.{Alloc}
use Rattle.dsdl_codec.specs.declared.allocation.Allocation.{Allocation}
use Rattle.dsdl_codec.specs.Allocation.{allocation_of}
use Rattle.bus_rows.specs.declared.row.Row.{Row}
use Rattle.bus_rows.specs.declared.row.Row.TheVariants.{ARx, ATick, Send, Tick}
use Rattle.transfer_rx.specs.Reassembly.{Answer, Arrival, Continues, Drops, Gives, next as next_sessions, piece_in}
use Rattle.transfer_rx.specs.Reassembly as receiver
use Rattle.transfer_rx.specs.Run.{run}
use Rattle.transfer_rx.specs.Sessions.{Session, next_id}
use Rattle.transfer_tx.specs.Queue.{Queued, left_behind, queued_frames}
use Rattle.transfer_tx.specs.Run.{of_identifier}
use Rattle.allocatee.specs.Accepted.{setting}
use Rattle.allocatee.specs.Allocatee.{Device, after_reading, after_receiver_answer, step}
use Rattle.allocatee.specs.Allocatee as device
use Rattle.allocatee.specs.Asking.{Asking, after_allocation, follow_up_wait, request_wait, timer_from}
use Rattle.allocatee.specs.declared.timer.Timer.{Timer}
use Rattle.alloc_spec.specs.AllocatorState.{AllocatorState}
use Rattle.alloc_spec.specs.Exchange.{allocation_payload}
use Rattle.alloc_spec.specs.Step.{after_pop}
use Rattle.alloc_spec.specs.Transfers.{id_after, outgoing}
use Rattle.alloc_spec_laws.proofs.Choices.{tell}
use Rattle.service_steps.proofs.FollowUps.{same_number}
use Rattle.service_alone.specs.Calm.{Clocks, HasSettled, IsCalmRow, IsInTime, IsNext, NoneIsLate, OnItsWay, Pace, Traffic, queue_of, traffic_after}
use Rattle.service_alone.proofs.CalmDevice.{asking_as, device_as, follows_up, gets, receives, same_uid, ticks_quietly, ignored_fine, judged_as}
use Rattle.service_alone.proofs.CalmGiving.{Gives as GivesPair}
use Rattle.service_alone.proofs.CalmHearing.{AwaitsBy, Came, coming, frames_of_it, gives_it, gives_nothing, one_came, then_awaits, whole_one, whole_is}
use Rattle.service_alone.proofs.CalmQueue.{of_both}
use Rattle.service_alone.proofs.Sending.{AreOf, frames_of_one}
use Rattle.service_alone.proofs.CalmRest.{FewWait}
use Rattle.service_alone.proofs.Leads.{status_number}
use Rattle.service_alone.proofs.Settled.{settled_by}
use Rattle.service_alone.proofs.CalmSide.{Carry, HasGot, Side, it, side_gets, side_kept, side_sends, side_ticks, status_apart, waits_on}
use Rattle.service_alone.proofs.CalmStages.{by_rows, device_steps, has_not_passed, known_of, right_within}
use Rattle.service_alone.proofs.Receiving.{GivesNone}
use Rattle.bus_spec.specs.Cluster.{Cluster, after_row, arrival_at, frame_at}
use Rattle.bus_spec.specs.Members.{next_frame}
use Rattle.can_frame.specs.declared.step.Judged.TheVariants.{Fine, Torn}
use Rattle.can_frame.specs.declared.step.Why.TheVariants.{NotWanted}
use Rattle.allocatee.specs.Judging.{answer_judgement, arrival_judgement}
use Rattle.service_alone.proofs.Taking.{fine_none}
use Rattle.service_alone.proofs.CalmPhases.{CalmLaws, IsAnswering, IsDue, Next, Outcome, Quiet, SinceBy, device_ignores, its, key, last_moment_of_it, nothing_next, nothing_sent, unwanted}

run_both : (front : List Arrival) (last : Arrival) (sessions : List Session) → run setting sessions (front ++ last ∷ []) ≡ next_sessions setting (run setting sessions front) last
run_both [] last sessions = refl
run_both (x ∷ front) last sessions = run_both front last (next_sessions setting sessions x)

none_taken : (word : ℕ) (x : Answer) (asking : Asking) → GivesNone x → after_receiver_answer word x asking ≡ asking
none_taken word (Gives d) asking none = absurd none
none_taken word Continues asking none = refl
none_taken word (Drops why) asking none = refl

-- a front of frames of one identifier
front_all : (id : ℕ) (front rest : List Queued) → AreOf id (front ++ rest) → AreOf id front
front_all id [] rest are = tt
front_all id (f ∷ front) rest are = (are.0, front_all id front rest are.1)

its_first : (id : ℕ) (f : Queued) (fs : List Queued) → f.id ≡ id → of_identifier id (f ∷ fs) ≡ f ∷ of_identifier id fs
its_first id f fs e = let z : nat_eq f.id id ≡ true = ap (λ (k : ℕ). nat_eq k id) e ∙ same_number id in rw (z) refl

not_its_first : (id other : ℕ) (f : Queued) (fs : List Queued) → f.id ≡ other → nat_eq other id ≡ false → of_identifier id (f ∷ fs) ≡ of_identifier id fs
not_its_first id other f fs e apart = let z : nat_eq f.id id ≡ false = ap (λ (k : ℕ). nat_eq k id) e ∙ apart in rw (z) refl

module _ (laws : CalmLaws) (n a : ℕ) (low : 1 ≤ n) (high : n ≤ 125) (uid : List ℕ) (preferred : ℕ) (few : preferred < 128) (log : List Entry) (Fits : ℕ → List Entry → Type 0)
    (place : GivesPair Fits n log uid preferred) (start : ℕ) (clocks : Clocks) (pace : Pace) (quick : pace.period + 4 * pace.delay ≤ 100) where
  -- one of an Allocation that is on its way came to the bus by that moment, and none is late
  late_by : (last at : ℕ) (frames : List Queued) (ways : List OnItsWay) (fs : List Queued) → Carry frames ways fs → SinceBy laws n a low high uid preferred few log Fits place start clocks pace quick last ways fs
      → NoneIsLate at pace.delay ways → of_identifier (it n) fs ≢ [] → at ≤ last + pace.delay
  late_by last at frames [] [] c since none some = absurd (some refl)
  late_by last at frames [] (f ∷ fs) c since none some = absurd c
  late_by last at frames (way ∷ ways) [] c since none some = absurd c
  late_by last at frames (way ∷ ways) (f ∷ fs) c since none some = elim (eqb_tells f.id (it n)) [
    | inl z ↦ let s = since.0 z.1 in omega (arith, s, none.0)
    | inr z ↦ late_by last at frames ways fs c.3 since.1 none.1 (λ e. some (let y : nat_eq f.id (it n) ≡ false = z.0 in rw (y) e))
  ]

  since_more : (last number since : ℕ) (ways : List OnItsWay) (fs : List Queued) (g : Queued) → (frames : List Queued) → Carry frames ways fs → SinceBy laws n a low high uid preferred few log Fits place start clocks pace quick last ways fs
      → (g.id ≡ it n → since ≤ last) → SinceBy laws n a low high uid preferred few log Fits place start clocks pace quick last (ways ++ (record { number = number; since = since }) ∷ []) (fs ++ g ∷ [])
  since_more last number since [] [] g frames c s h = (h, tt)
  since_more last number since [] (f ∷ fs) g frames c s h = absurd c
  since_more last number since (way ∷ ways) [] g frames c s h = absurd c
  since_more last number since (way ∷ ways) (f ∷ fs) g frames c s h = (s.0, since_more last number since ways fs g frames c.3 s.1 h)

  module _ (j : ℕ) (two : j ≤ 2) (traffic : Traffic) (w : Cluster) (p : IsAnswering laws n a low high uid preferred few log Fits place start clocks pace quick j traffic w) (at : ℕ) (in_time : IsInTime n a clocks pace traffic w at) where
    abbrev Goal : Row → Type 0
    Goal row = Next laws n a low high uid preferred few log Fits place start clocks pace quick traffic w (record { at = at; row = row })

    abbrev then_traffic : Row → Traffic
    then_traffic row = traffic_after n a traffic w (record { at = at; row = row })

    queue_here : queue_of (w.member n).status ≡ p.server.queue
    queue_here = ap queue_of p.side.up.status

    none_of : (q : List Queued) → of_identifier (it n) q ≢ [] → q ≢ []
    none_of q some = λ e. some (ap (of_identifier (it n)) e)

    -- frames of the answer that wait go out in time
    goes_by : of_identifier (it n) p.server.queue ≢ [] → at ≤ p.asked_at + pace.delay
    goes_by some =
        let t = in_time.allocator_sends (λ e. none_of p.server.queue some (sym queue_here ∙ e)) in
        let v = p.in_queue some in omega (arith, t, v)

    by : at ≤ p.asked_at + 2 * pace.delay
    by = cases (of_identifier (it n) p.server.queue) refl
      where
        cases : (l : List Queued) → of_identifier (it n) p.server.queue ≡ l → at ≤ p.asked_at + 2 * pace.delay
        cases [] e = let t = late_by (p.asked_at + pace.delay) at w.frames traffic.to_device p.flying p.side.carry p.on_way in_time.device_hears
            (λ none. p.some (sym p.side.rest_is ∙ (of_both (it n) p.flying p.server.queue ∙ (λ i. none i ++ e i)))) in omega (arith, t)
        cases (f ∷ fs) e = let t = goes_by (λ none. let l = ap length (sym e ∙ none) in absurd (omega (arith, l))) in omega (arith, t)

    end : at ≤ start + 2100
    end = let b = by in let s = p.soon in omega (arith, b, s)

    pub later : traffic.at ≤ at
    later = in_time.moments

    read_on : p.moment ≤ at + clocks.device
    read_on = let r = p.read in let l = later in omega (arith, r, l)

    -- it is still under way
    still : (row : Row) (server_then : AllocatorState) (flying rest : List Queued)
        → Side n a start high clocks p.then_log p.accepted (id_after p.next) (suc p.stages) rest server_then flying (then_traffic row) (after_row w row)
        → (front : List Queued) (heard : List Arrival) (moment : ℕ)
        → (after_row w row).allocatee a ≡ Some (device_as uid preferred [] p.id moment p.request None (run setting p.before heard))
        → moment ≤ at + clocks.device → (then_traffic row).to_allocator ≡ []
        → queued_frames (outgoing n Alloc 0 p.next (allocation_payload p.node p.bytes)) p.number 0 ≡ front ++ rest
        → Came (p.asked_at + clocks.device) (p.asked_at + 2 * pace.delay + clocks.device) front heard → rest ≢ []
        → (of_identifier (it n) server_then.queue ≢ [] → (then_traffic row).allocator_waits ≤ p.asked_at)
        → SinceBy laws n a low high uid preferred few log Fits place start clocks pace quick (p.asked_at + pace.delay) (then_traffic row).to_device flying → Goal row
    still row server_then flying rest side front heard moment there read nothing cut came some in_queue on_way = inl (
      j,
      two,
      inr (inr (inr (record {
        asked_at = p.asked_at;
        then_log = p.then_log;
        accepted = p.accepted;
        next = p.next;
        stages = p.stages;
        number = p.number;
        node = p.node;
        bytes = p.bytes;
        rest = rest;
        server = server_then;
        flying = flying;
        side = side;
        outcome = p.outcome;
        next_small = p.next_small;
        few_stages = p.few_stages;
        node_small = p.node_small;
        short = p.short;
        id = p.id;
        moment = moment;
        request = p.request;
        before = p.before;
        front = front;
        heard = heard;
        there = there;
        small = p.small;
        read = read;
        nothing = nothing;
        quiet = p.quiet;
        long = p.long;
        awaits = p.awaits;
        cut = cut;
        came = came;
        some = some;
        early = p.early;
        soon = p.soon;
        from = let f = p.from in let l = later in omega (arith, f, l);
        in_queue = in_queue;
        on_way = on_way;
      }))),
    )

    -- where the queue stays as it is
    same_wait : (row : Row) → queue_of ((after_row w row).member n).status ≡ p.server.queue → of_identifier (it n) p.server.queue ≢ [] → (then_traffic row).allocator_waits ≤ p.asked_at
    same_wait row e some =
        let q = p.in_queue some in
        let v = waits_on at traffic.allocator_waits (queue_of (w.member n).status) (queue_of ((after_row w row).member n).status)
        (λ x. none_of p.server.queue some (sym queue_here ∙ x)) (λ x. none_of p.server.queue some (sym e ∙ x)) in omega (arith, q, v)

    on_tick : (word : ℕ) → Goal (Tick n (at + clocks.allocator) word)
    on_tick word =
        let fs = p.few_stages in
        let s = side_ticks n a start high clocks p.then_log p.accepted (id_after p.next) (suc p.stages) p.rest p.server p.flying traffic w p.side at later word end (omega (arith, fs)) in
        still (Tick n (at + clocks.allocator) word) s.0 p.flying p.rest s.1 p.front p.heard p.moment p.there read_on p.nothing p.cut p.came p.some
        (λ some. let was = λ (e : of_identifier (it n) p.server.queue ≡ []). some (s.2 ∙ e) in
        let q = p.in_queue was in
        let v = waits_on at traffic.allocator_waits (queue_of (w.member n).status) (queue_of ((after_row w (Tick n (at + clocks.allocator) word)).member n).status)
        (λ x. none_of p.server.queue was (sym queue_here ∙ x)) (λ x. none_of s.0.queue some (sym (ap queue_of s.1.up.status) ∙ x)) in omega (arith, q, v))
        p.on_way

    on_send : is_some (next_frame (w.member n).status) ≡ true → Goal (Send n)
    on_send some_waits =
        let s = side_sends n a start high clocks p.then_log p.accepted (id_after p.next) (suc p.stages) p.rest p.server p.flying traffic w p.side at later some_waits in
        still (Send n) (after_pop p.server) (p.flying ++ s.0 ∷ []) p.rest s.1.then_side p.front p.heard p.moment p.there read_on p.nothing p.cut p.came p.some
        (λ some. let was = λ (e : of_identifier (it n) p.server.queue ≡ []). not_left s.0 (left_behind p.server.queue) some (s.1.left_of ∙ e) in
        let q = p.in_queue was in
        let v = waits_on at traffic.allocator_waits (queue_of (w.member n).status) (queue_of ((after_row w (Send n)).member n).status)
        (λ x. none_of p.server.queue was (sym queue_here ∙ x)) (λ x. none_of (left_behind p.server.queue) some (sym (ap queue_of s.1.then_side.up.status) ∙ x)) in omega (arith, q, v))
        (since_more (p.asked_at + pace.delay) (length w.frames + 1) at traffic.to_device p.flying s.0 w.frames p.side.carry p.on_way
        (λ own. goes_by (λ none. let l = ap length (sym (its_first (it n) s.0 (left_behind p.server.queue) own) ∙ (s.1.left_of ∙ none)) in absurd (omega (arith, l)))))
      where
        not_left : (g : Queued) (fs : List Queued) → of_identifier (it n) fs ≢ [] → of_identifier (it n) (g ∷ fs) ≡ [] → ⊥
        not_left g fs some e = elim (tell (nat_eq g.id (it n))) [
          | inl z ↦ let y : nat_eq g.id (it n) ≡ true = z in let l : g ∷ of_identifier (it n) fs ≡ [] = rw y at e in omega (arith, ap length l)
          | inr z ↦ let y : nat_eq g.id (it n) ≡ false = z in let l : of_identifier (it n) fs ≡ [] = rw y at e in some l
        ]

    on_read : (word : ℕ) → Goal (ATick a (at + clocks.device) word)
    on_read word = still (ATick a (at + clocks.device) word) p.server p.flying p.rest
        (side_kept n a start high clocks p.then_log p.accepted (id_after p.next) (suc p.stages) p.rest p.server p.flying traffic w p.side at later
        (ATick a (at + clocks.device) word) refl p.side.carry)
        p.front p.heard (at + clocks.device)
        (device_steps w a (device.Tick (at + clocks.device) word) (device_as uid preferred [] p.id p.moment p.request None (run setting p.before p.heard))
        (device_as uid preferred [] p.id (at + clocks.device) p.request None (run setting p.before p.heard)) p.there
        (ticks_quietly uid preferred p.id p.moment (at + clocks.device) read_on p.request (run setting p.before p.heard) (w.rows + 1) word [] None refl
        (has_not_passed (at + clocks.device) p.request (let b = by in let q = p.quiet in omega (arith, b, q)) (inr p.long))))
        (omega arith) p.nothing p.cut p.came p.some (same_wait (ATick a (at + clocks.device) word) queue_here) p.on_way

    -- ---- a frame comes to the device

    abbrev payload : List ℕ
    payload = allocation_payload p.node p.bytes

    payload_short : length payload ≤ 100
    payload_short = let s = p.short in omega (arith, s)

    abbrev here : ℕ
    here = at + clocks.device

    in_bounds : (p.asked_at + clocks.device ≤ here) × (here ≤ p.asked_at + 2 * pace.delay + clocks.device)
    in_bounds = let b = by in let f = p.from in let l = later in (omega (arith, f, l), omega (arith, b))

    within_last : p.asked_at + 2 * pace.delay + clocks.device ≤ last_moment_of_it laws n a low high uid preferred few log Fits place start clocks pace quick
    within_last = let s = p.soon in omega (arith, s)

    its_frames : queued_frames (outgoing n Alloc 0 p.next payload) p.number 0 ≡ frames_of_it laws.hearing n low high (its laws n a low high uid preferred few log Fits place start clocks pace quick) p.number p.next p.next_small payload payload_short
    unfolding queued_frames
    its_frames = refl

    front_its : AreOf (it n) p.front
    front_its = front_all (it n) p.front p.rest (subst (AreOf (it n)) p.cut (frames_of_one (outgoing n Alloc 0 p.next payload) p.number 0))

    on_way_left : (f : Queued) (fs : List Queued) → p.flying ≡ f ∷ fs → SinceBy laws n a low high uid preferred few log Fits place start clocks pace quick (p.asked_at + pace.delay) (drop 1 traffic.to_device) fs
    on_way_left f fs e = left traffic.to_device refl
      where
        left : (ways : List OnItsWay) → traffic.to_device ≡ ways → SinceBy laws n a low high uid preferred few log Fits place start clocks pace quick (p.asked_at + pace.delay) (drop 1 traffic.to_device) fs
        left [] d = subst (λ (l : List OnItsWay). SinceBy laws n a low high uid preferred few log Fits place start clocks pace quick (p.asked_at + pace.delay) (drop 1 l) fs) (sym d) tt
        left (way ∷ ways) d = subst (λ (l : List OnItsWay). SinceBy laws n a low high uid preferred few log Fits place start clocks pace quick (p.asked_at + pace.delay) (drop 1 l) fs) (sym d)
            (subst (λ (l : List OnItsWay). SinceBy laws n a low high uid preferred few log Fits place start clocks pace quick (p.asked_at + pace.delay) l (f ∷ fs)) d
            (subst (λ (l : List Queued). SinceBy laws n a low high uid preferred few log Fits place start clocks pace quick (p.asked_at + pace.delay) traffic.to_device l) e p.on_way)).1

    module _ (k word : ℕ) (g : HasGot n a start high clocks p.then_log p.accepted (id_after p.next) (suc p.stages) p.rest p.server p.flying traffic w p.side at later k word) where
      abbrev row : Row
      row = ARx a k here word

      abbrev rest_then : List Queued
      rest_then = of_identifier (it n) (g.others ++ p.server.queue)

      arrives : arrival_at (frame_at w.frames k) here ≡ coming g.frame here
      arrives = ap (λ (f : Queued). coming f here) g.frame_is_it

      -- a NodeStatus
      on_status : g.frame.id ≡ status_number n → Goal row
      on_status e = still row p.server g.others p.rest
          (subst (λ (l : List Queued). Side n a start high clocks p.then_log p.accepted (id_after p.next) (suc p.stages) l p.server g.others (then_traffic row) (after_row w row))
          (sym (g.rest_was ∙ not_its_first (it n) (status_number n) g.frame (g.others ++ p.server.queue) e (status_apart n high))) g.then_side)
          p.front p.heard here
          (device_ignores laws n a low high uid preferred few log Fits place start clocks pace quick w [] p.id p.moment p.request None (run setting p.before p.heard) k here word g.frame p.there g.frame_is_it e read_on)
          (omega arith) p.nothing p.cut p.came p.some (same_wait row queue_here) (on_way_left g.frame g.others g.flying_is)

      -- a frame of the answer
      module _ (own : g.frame.id ≡ it n) where
        rest_is : p.rest ≡ g.frame ∷ rest_then
        rest_is = g.rest_was ∙ its_first (it n) g.frame (g.others ++ p.server.queue) own

        cut_here : frames_of_it laws.hearing n low high (its laws n a low high uid preferred few log Fits place start clocks pace quick) p.number p.next p.next_small payload payload_short ≡ p.front ++ g.frame ∷ rest_then
        cut_here = sym its_frames ∙ (p.cut ∙ ap (λ (l : List Queued). p.front ++ l) rest_is)

        -- the device after the frame
        received : (e : Device) → record {
          asking = after_receiver_answer word (receiver.answer setting (run setting p.before p.heard) (coming g.frame here)) (asking_as uid preferred [] p.id here p.request None);
          sessions = next_sessions setting (run setting p.before p.heard) (coming g.frame here);
        } ≡ e → (after_row w row).allocatee a ≡ Some e
        received e is = device_steps w a (device.Rx (arrival_at (frame_at w.frames k) here) word)
            (device_as uid preferred [] p.id p.moment p.request None (run setting p.before p.heard)) e p.there
            (ap (λ (x : Arrival). (step (device_as uid preferred [] p.id p.moment p.request None (run setting p.before p.heard)) (w.rows + 1) (device.Rx x word)).device) arrives
            ∙ (receives uid preferred [] p.id p.moment p.request None (run setting p.before p.heard) (w.rows + 1) word (coming g.frame here) read_on ∙ is))

        none_yet : (other : Queued) (more : List Queued) → rest_then ≡ other ∷ more → GivesNone (receiver.answer setting (run setting p.before p.heard) (coming g.frame here))
        none_yet other more e = gives_nothing laws.hearing n low high (its laws n a low high uid preferred few log Fits place start clocks pace quick) p.number p.next p.next_small payload payload_short
            (p.asked_at + clocks.device) (p.asked_at + 2 * pace.delay + clocks.device) (last_moment_of_it laws n a low high uid preferred few log Fits place start clocks pace quick) (omega (arith, quick)) within_last p.before p.awaits
            p.front g.frame other more p.heard here (cut_here ∙ ap (λ (l : List Queued). p.front ++ g.frame ∷ l) e) own front_its p.came

        -- others follow
        on_part : (other : Queued) (more : List Queued) → rest_then ≡ other ∷ more → Goal row
        on_part other more e = still row p.server g.others rest_then g.then_side (p.front ++ g.frame ∷ []) (p.heard ++ coming g.frame here ∷ []) here
            (received (device_as uid preferred [] p.id here p.request None (run setting p.before (p.heard ++ coming g.frame here ∷ [])))
            (λ i. record {
              asking = none_taken word (receiver.answer setting (run setting p.before p.heard) (coming g.frame here)) (asking_as uid preferred [] p.id here p.request None) (none_yet other more e) i;
              sessions = sym (run_both p.heard (coming g.frame here) p.before) i;
            }))
            (omega arith) p.nothing
            (its_frames ∙ (cut_here ∙ sym (append_assoc p.front (g.frame ∷ []) rest_then)))
            (one_came (p.asked_at + clocks.device) (p.asked_at + 2 * pace.delay + clocks.device) p.front p.heard g.frame here in_bounds.0 in_bounds.1 p.came)
            (λ none_. let l = ap length (sym e ∙ none_) in absurd (omega (arith, l)))
            (same_wait row queue_here) (on_way_left g.frame g.others g.flying_is)

        -- it is the last one
        module _ (e : rest_then ≡ []) where
          cut_last : frames_of_it laws.hearing n low high (its laws n a low high uid preferred few log Fits place start clocks pace quick) p.number p.next p.next_small payload payload_short ≡ p.front ++ g.frame ∷ []
          cut_last = cut_here ∙ ap (λ (l : List Queued). p.front ++ g.frame ∷ l) e

          abbrev message : Allocation
          message = record { node = p.node; first_part = false; uid = record { items = p.bytes } }

          abbrev then_sessions : List Session
          then_sessions = next_sessions setting (run setting p.before p.heard) (coming g.frame here)

          gives : receiver.answer setting (run setting p.before p.heard) (coming g.frame here) ≡ Gives (whole_one laws.hearing n low high (its laws n a low high uid preferred few log Fits place start clocks pace quick) p.number p.next p.next_small payload payload_short
              (p.asked_at + clocks.device) (p.asked_at + 2 * pace.delay + clocks.device) (last_moment_of_it laws n a low high uid preferred few log Fits place start clocks pace quick) (omega (arith, quick)) within_last p.before p.awaits
              p.front g.frame p.heard here cut_last own front_its p.came in_bounds.0 in_bounds.1)
          gives = gives_it laws.hearing n low high (its laws n a low high uid preferred few log Fits place start clocks pace quick) p.number p.next p.next_small payload payload_short
              (p.asked_at + clocks.device) (p.asked_at + 2 * pace.delay + clocks.device) (last_moment_of_it laws n a low high uid preferred few log Fits place start clocks pace quick) (omega (arith, quick)) within_last p.before p.awaits
              p.front g.frame p.heard here cut_last own front_its p.came in_bounds.0 in_bounds.1

          awaits_then : AwaitsBy (key laws n a low high uid preferred few log Fits place start clocks pace quick) (last_moment_of_it laws n a low high uid preferred few log Fits place start clocks pace quick) (next_id p.next) then_sessions
          awaits_then = then_awaits laws.hearing n low high (its laws n a low high uid preferred few log Fits place start clocks pace quick) p.number p.next p.next_small payload payload_short
              (p.asked_at + clocks.device) (p.asked_at + 2 * pace.delay + clocks.device) (last_moment_of_it laws n a low high uid preferred few log Fits place start clocks pace quick) (omega (arith, quick)) within_last p.before p.awaits
              p.front g.frame p.heard here cut_last own front_its p.came in_bounds.0 in_bounds.1
              (let b = in_bounds.0 in let f = p.early in omega (arith, b, f))

          reads_it : allocation_of payload ≡ Some message
          reads_it = laws.read message (record { node = p.node_small; uid = p.short })

          taken_as : after_receiver_answer word (receiver.answer setting (run setting p.before p.heard) (coming g.frame here)) (asking_as uid preferred [] p.id here p.request None)
              ≡ after_allocation word false message (asking_as uid preferred [] p.id here p.request None)
          taken_as = ap (λ (x : Answer). after_receiver_answer word x (asking_as uid preferred [] p.id here p.request None)) gives
              ∙ ap (λ (o : Option Allocation). after_reading word false o (asking_as uid preferred [] p.id here p.request None)) reads_it

          -- an answer to a part: the device waits to follow up
          on_follow : (i : ℕ) → j ≡ suc i → Outcome laws n a low high uid preferred few log Fits place start clocks pace quick (suc i) p.then_log p.accepted p.asked_at p.node p.bytes → 1 ≤ known_of i → known_of i < length uid
              → ((due : ℕ) (moment : ℕ) (timer : Timer) → timer.since + timer.length ≡ due + clocks.device → timer.since ≤ moment → Quiet laws n a low high uid preferred few log Fits place start clocks pace quick due (timer_from here (request_wait word))
              → IsDue laws n a low high uid preferred few log Fits place start clocks pace quick i due moment (timer_from here (request_wait word)) (Some (record { timer = timer; known = known_of i }))) → Goal row
          on_follow i is outcome some part dues = inl (
            i,
            omega (arith, is, two),
            inl (record {
              due = at + follow_up_wait word;
              sessions = then_sessions;
              common = record {
                accepted = p.accepted;
                next = id_after p.next;
                stages = suc p.stages;
                server = p.server;
                flying = g.others;
                side = subst (λ (l : List Entry). Side n a start high clocks l p.accepted (id_after p.next) (suc p.stages) [] p.server g.others (then_traffic row) (after_row w row)) outcome.1
                    (subst (λ (l : List Queued). Side n a start high clocks p.then_log p.accepted (id_after p.next) (suc p.stages) l p.server g.others (then_traffic row) (after_row w row)) e g.then_side);
                small = omega arith;
                few_stages = let f = p.few_stages in omega (arith, f, is);
                early = let f = p.early in let h = p.from in let l = later in omega (arith, f, h, l);
                soon = let s = p.soon in let b = by in omega (arith, s, b, is, quick);
                awaits = awaits_then;
                right = right_within uid place.whole preferred i p.accepted (p.asked_at + clocks.allocator) (p.asked_at + clocks.allocator + 500)
                    (at + follow_up_wait word + clocks.allocator) (at + follow_up_wait word + pace.period + 2 * pace.delay + clocks.allocator)
                    (let h = p.from in let l = later in omega (arith, h, l)) (let b = by in omega (arith, b, quick)) outcome.3;
              };
              id = p.id;
              moment = here;
              request = timer_from here (request_wait word);
              follow_up = Some (record { timer = timer_from here (follow_up_wait word); known = known_of i });
              there = received (device_as uid preferred [] p.id here (timer_from here (request_wait word)) (Some (record { timer = timer_from here (follow_up_wait word); known = known_of i })) then_sessions)
                  (ap (λ (x : Asking). record { asking = x; sessions = then_sessions })
                  (taken_as ∙ (ap (λ (l : List ℕ). after_allocation word false (record { node = p.node; first_part = false; uid = record { items = l } }) (asking_as uid preferred [] p.id here p.request None)) outcome.0
                  ∙ follows_up uid preferred p.id here p.request None word p.node (known_of i) some part)));
              small = p.small;
              read = omega arith;
              nothing = p.nothing;
              waits_for = dues (at + follow_up_wait word) here (timer_from here (follow_up_wait word)) (omega arith) (omega arith) (omega arith, omega arith);
              ticked = let t = p.side.ticked in let l = later in omega (arith, t, l);
            }),
          )

          -- the allocator has settled
          settled_there : HasSettled n p.then_log (at + clocks.allocator) (after_row w row)
          settled_there = let side = g.then_side in settled_by n p.then_log p.accepted (id_after p.next) p.server (at + clocks.allocator) (after_row w row) side.serves side.up
              side.clock (status_by side.few) side.requests
            where
              status_by : FewWait (start + clocks.allocator) (suc p.stages) p.server → p.server.status_at ≤ at + clocks.allocator
              status_by (inl z) = let s = p.side.since in let l = later in omega (arith, z.0, s, l)
              status_by (inr z) = let s = p.side.since in let l = later in let c = g.then_side.clock in omega (arith, z.1, s, l, c)

          on_last : (i : ℕ) → j ≡ i → Outcome laws n a low high uid preferred few log Fits place start clocks pace quick i p.then_log p.accepted p.asked_at p.node p.bytes → Goal row
          on_last zero is outcome = inr (
            p.node,
            p.then_log,
            outcome.1,
            record {
              device = record { asking = after_allocation word false (record { node = p.node; first_part = false; uid = record { items = uid } }) (asking_as uid preferred [] p.id here p.request None); sessions = then_sessions };
              there = received _ (ap (λ (x : Asking). record { asking = x; sessions = then_sessions })
                  (taken_as ∙ ap (λ (l : List ℕ). after_allocation word false (record { node = p.node; first_part = false; uid = record { items = l } }) (asking_as uid preferred [] p.id here p.request None)) outcome.0));
              its_uid = same_uid uid preferred p.id here p.request None word p.node outcome.2 outcome.3;
              its_node = gets uid preferred p.id here p.request None word p.node outcome.2 outcome.3;
            },
            settled_there,
          )
          on_last (suc zero) is outcome = on_follow zero is outcome (omega arith) (let v = place.whole in omega (arith, v)) (λ due moment timer ends since quiet. (timer, refl, ends, since, quiet))
          on_last (suc (suc zero)) is outcome = on_follow (suc zero) is outcome (omega arith) (let v = place.whole in omega (arith, v)) (λ due moment timer ends since quiet. (timer, refl, ends, since, quiet))
          on_last (suc (suc (suc i))) is outcome = absurd (omega (arith, is, two))

        on_own : Goal row
        on_own = cases rest_then refl
          where
            cases : (l : List Queued) → rest_then ≡ l → Goal row
            cases [] e = on_last e j refl p.outcome
            cases (other ∷ more) e = on_part other more e

        -- it may come to the device
        own_fine : answer_judgement g.frame.mark.step (receiver.answer setting (run setting p.before p.heard) (coming g.frame here)) ≡ Fine
        own_fine = judge rest_then refl
          where
            judge : (l : List Queued) → rest_then ≡ l → answer_judgement g.frame.mark.step (receiver.answer setting (run setting p.before p.heard) (coming g.frame here)) ≡ Fine
            judge [] e = ap (λ (x : Answer). answer_judgement g.frame.mark.step x) (gives e)
                ∙ ap (λ (b : Bool). if not b && not (nat_eq g.frame.mark.step 0) then Torn else Fine)
                (whole_is laws.hearing n low high (its laws n a low high uid preferred few log Fits place start clocks pace quick) p.number p.next p.next_small payload payload_short
                (p.asked_at + clocks.device) (p.asked_at + 2 * pace.delay + clocks.device) (last_moment_of_it laws n a low high uid preferred few log Fits place start clocks pace quick) (omega (arith, quick)) within_last p.before p.awaits
                p.front g.frame p.heard here (cut_last e) own front_its p.came in_bounds.0 in_bounds.1)
            judge (other ∷ more) e = fine_none g.frame.mark.step (receiver.answer setting (run setting p.before p.heard) (coming g.frame here)) (none_yet other more e)

      -- any frame may come to the device
      pub may_come : arrival_judgement (device_as uid preferred [] p.id p.moment p.request None (run setting p.before p.heard)) (coming g.frame here) ≡ Fine
      may_come = judged_as uid preferred [] p.id p.moment p.request None (run setting p.before p.heard) (w.rows + 1) word (coming g.frame here) read_on (judge g.kind)
        where
          judge : (g.frame.id ≡ it n) ⊎ (g.frame.id ≡ status_number n) → answer_judgement g.frame.mark.step (receiver.answer setting (run setting p.before p.heard) (coming g.frame here)) ≡ Fine
          judge (inl own) = own_fine own
          judge (inr status) = ignored_fine uid preferred [] p.id p.moment p.request None (run setting p.before p.heard) (w.rows + 1) word (coming g.frame here) read_on NotWanted
              (unwanted laws n a low high uid preferred few log Fits place start clocks pace quick g.frame status)

      on_either : (g.frame.id ≡ it n) ⊎ (g.frame.id ≡ status_number n) → Goal row
      on_either (inl own) = on_own own
      on_either (inr status) = on_status status

    pub gets_at : (k word : ℕ) → IsNext k traffic.to_device → HasGot n a start high clocks p.then_log p.accepted (id_after p.next) (suc p.stages) p.rest p.server p.flying traffic w p.side at later k word
    gets_at k word is = side_gets n a start high clocks p.then_log p.accepted (id_after p.next) (suc p.stages) p.rest p.server p.flying traffic w p.side at later k word is

    on_frame : (k word : ℕ) → IsNext k traffic.to_device → Goal (ARx a k (at + clocks.device) word)
    on_frame k word is =
        let g = side_gets n a start high clocks p.then_log p.accepted (id_after p.next) (suc p.stages) p.rest p.server p.flying traffic w p.side at later k word is in
        on_either k word g g.kind

    -- each row leaves a phase, or the device is served
    pub answering_goes_on : (row : Row) → IsCalmRow n a clocks pace traffic w at row → Goal row
    answering_goes_on row calm = by_rows n a clocks pace traffic w at Goal on_tick (λ k is. absurd (nothing_next laws n a low high uid preferred few log Fits place start clocks pace quick k traffic.to_allocator p.nothing is)) on_send on_read on_frame
        (λ some. absurd (nothing_sent laws n a low high uid preferred few log Fits place start clocks pace quick w (device_as uid preferred [] p.id p.moment p.request None (run setting p.before p.heard)) p.there refl some)) row calm

    -- it is over in time
    pub answering_end : at ≤ start + 2100
    answering_end = end
