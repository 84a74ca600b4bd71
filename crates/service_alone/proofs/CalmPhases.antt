-- The phases of an exchange on a calm bus: the device waits, its request waits, the request is on the bus, the answer is
-- under way. Each row leaves a phase, or the device is served.
use Rattle.std.proofs.Common.{◌≡◌, ◌≢◌, ◌⊎◌, ℕ, zero, suc, ◌+◌, ◌*◌, ◌<◌, ◌≤◌, Bool, true, false, List, [], ◌∷◌, ◌++◌, length, take, drop, inl, inr, refl, sym, ◌∙◌, ap, subst, arith, Option, None, Some}
use Rattle.std.specs.Prelude.{⊤, ◌%◌, is_some, Err}
use Rattle.alloc_exchange.specs.Exchange.{Accepted}
use Rattle.can_frame.specs.declared.entry.Entry.{Entry}
use Rattle.can_frame.specs.declared.step.What.TheVariants.{Alloc, Stat}
use Rattle.can_frame.specs.declared.step.Why.TheVariants.{NotWanted}
use Rattle.can_frame.specs.Cutting.{frame_count, frames_of}
use Rattle.can_frame.specs.DataTypes.{allocation}
use Rattle.can_frame.specs.Identifier.{IsIdentifier, identifier_of, identifier_number}
use Rattle.dsdl_codec.specs.declared.allocation.Allocation.{Allocation}
use Rattle.dsdl_codec.specs.Allocation.{IsAllocation, allocation_bytes, allocation_of}
use Rattle.bus_rows.specs.declared.row.Row.{Row}
use Rattle.bus_rows.specs.declared.row.Row.TheVariants.{ARx, ATick, Send, Tick}
use Rattle.transfer_rx.specs.declared.key.Key.{Key}
use Rattle.transfer_rx.specs.Acceptance.{wanted}
use Rattle.transfer_rx.specs.Reassembly.{Arrival}
use Rattle.transfer_rx.specs.Run.{run}
use Rattle.transfer_rx.specs.Sessions.{Session}
use Rattle.transfer_tx.specs.declared.outgoing.Outgoing.{Outgoing}
use Rattle.transfer_tx.specs.Queue.{Queued, next_out, queued_frames}
use Rattle.transfer_tx.specs.Run.{of_identifier}
use Rattle.allocatee.specs.Accepted.{rows, setting}
use Rattle.allocatee.specs.Allocatee.{Device, after_reading, after_receiver_answer, step}
use Rattle.allocatee.specs.Allocatee as device
use Rattle.allocatee.specs.Asking.{due as is_due, has_passed, request_wait, timer_from, ident_of as request_ident, outgoing as request_outgoing}
use Rattle.allocatee.specs.declared.timer.FollowUp.{FollowUp}
use Rattle.allocatee.specs.declared.timer.Timer.{Timer}
use Rattle.alloc_spec.specs.AllocatorState.{AllocatorState}
use Rattle.alloc_spec.specs.Exchange.{allocation_payload}
use Rattle.alloc_spec.specs.Transfers.{id_after, ident_of, outgoing}
use Rattle.alloc_spec_laws.proofs.Choices.{lt_tells}
use Rattle.bus_agreement.proofs.Idents.{ident_ok}
use Rattle.bus_agreement.specs.Allocatees.{Holds}
use Rattle.service_steps.specs.Devices.{RequestsAreRequests, comes_at}
use Rattle.service_steps.specs.Requests.{IsRequest}
use Rattle.bus_rows.specs.Timed.{Timed}
use Rattle.service_alone.specs.Calm.{Clocks, HasSettled, IsCalmRow, IsInTime, IsNext, OnItsWay, Pace, Traffic, queue_at, traffic_after, waits_after}
use Rattle.service_alone.proofs.CalmDevice.{asked, asks_first, asks_on, device_as, ignores, request_frames, six_at_most, ticks_quietly}
use Rattle.service_alone.proofs.Asking.{first_place}
use Rattle.service_alone.proofs.CalmGiving.{Gives as GivesPair}
use Rattle.service_alone.proofs.CalmHearing.{AwaitsBy, Came, key_of_it}
use Rattle.service_alone.proofs.Leads.{status_number}
use Rattle.service_alone.proofs.CalmSide.{Side, it}
use Rattle.service_alone.proofs.CalmStages.{Common, Right, by_rows, common_gets, common_kept, common_sends, common_ticks, device_steps, has_not_passed, has_now_passed, is_first, known_of, request_of}
use Rattle.service_alone.proofs.Hearing.{HearingLaws}
use Rattle.bus_spec.specs.Allocatees.{next_from}
use Rattle.bus_spec.specs.Cluster.{Cluster, after_row, arrival_at, frame_at}
use Rattle.bus_spec.specs.Members.{next_frame}

-- a request is a first frame
its_place : (word id number : ℕ) (payload : List ℕ) (frame : Queued) → queued_frames (request_outgoing word id payload) number 0 ≡ frame ∷ [] → frame.mark.place ≡ 0
unfolding queued_frames
its_place word id number payload frame e = first_place (identifier_number (request_ident word)) number 0 (frames_of allocation.signature id payload) frame e

-- what the laws below say
pub record CalmLaws : Type 0 where
  pub hearing : HearingLaws
  pub read : (value : Allocation) → IsAllocation value → allocation_of (allocation_bytes value) ≡ Some value
  pub count : (what : Outgoing) (number re : ℕ) → length (queued_frames what number re) ≡ frame_count (length what.payload.items)
  pub requests : RequestsAreRequests

module _ (laws : CalmLaws) (n a : ℕ) (low : 1 ≤ n) (high : n ≤ 125) (uid : List ℕ) (preferred : ℕ) (few : preferred < 128) (log : List Entry) (Fits : ℕ → List Entry → Type 0)
    (place : GivesPair Fits n log uid preferred) (start : ℕ) (clocks : Clocks) (pace : Pace) (quick : pace.period + 4 * pace.delay ≤ 100) where
  -- the identifier of its Allocations is one
  pub its : IsIdentifier (ident_of n Alloc 0)
  its = ident_ok n Alloc 0 low high refl

  -- the session of its Allocations at the device
  abbrev pub key : Key
  key = key_of_it laws.hearing n low high its

  -- what the first three phases have in common
  abbrev pub CommonOf : ℕ → ℕ → List Session → Traffic → Cluster → Type 0
  CommonOf j due sessions traffic w = Common n a high uid place.whole preferred log start clocks pace key j due sessions traffic w

  -- the device's own last moment of the calm
  abbrev pub last_moment_of_it : ℕ
  last_moment_of_it = start + 2100 + clocks.device

  -- the request timer does not pass while a stage goes on
  abbrev pub Quiet : ℕ → Timer → Type 0
  Quiet due request = (due + 100 + clocks.device < request.since + request.length) × (1 ≤ request.length)

  -- ---- the phases

  -- what the device waits for: its request timer, or behind an answer to go on
  abbrev pub IsDue : ℕ → (due moment : ℕ) → Timer → Option FollowUp → Type 0
  IsDue zero due moment request follow_up = (timer : Timer) × (follow_up ≡ Some (record { timer = timer; known = 12 }))
      × (timer.since + timer.length ≡ due + clocks.device) × (timer.since ≤ moment) × Quiet due request
  IsDue (suc zero) due moment request follow_up = (timer : Timer) × (follow_up ≡ Some (record { timer = timer; known = 6 }))
      × (timer.since + timer.length ≡ due + clocks.device) × (timer.since ≤ moment) × Quiet due request
  IsDue (suc (suc j)) due moment request follow_up = (follow_up ≡ None) × (request.since + request.length ≡ due + clocks.device) × (1 ≤ request.length)

  -- the device waits
  pub record IsWaiting (j : ℕ) (traffic : Traffic) (w : Cluster) : Type 0 where
    pub due : ℕ
    pub sessions : List Session
    pub common : CommonOf j due sessions traffic w
    pub id : ℕ
    pub moment : ℕ
    pub request : Timer
    pub follow_up : Option FollowUp
    pub there : w.allocatee a ≡ Some (device_as uid preferred [] id moment request follow_up sessions)
    pub small : id < 32
    pub read : moment ≤ traffic.at + clocks.device
    pub nothing : traffic.to_allocator ≡ []
    pub waits_for : IsDue j due moment request follow_up
    pub ticked : traffic.ticked ≤ due

  -- its request waits in its queue
  pub record HasAsked (j : ℕ) (traffic : Traffic) (w : Cluster) : Type 0 where
    pub due : ℕ
    pub sessions : List Session
    pub common : CommonOf j due sessions traffic w
    pub id : ℕ
    pub moment : ℕ
    pub request : Timer
    pub frame : Queued
    pub there : w.allocatee a ≡ Some (device_as uid preferred (frame ∷ []) id moment request None sessions)
    pub small : id < 32
    pub read : moment ≤ traffic.at + clocks.device
    pub nothing : traffic.to_allocator ≡ []
    pub quiet : Quiet due request
    pub asks : IsRequest (comes_at frame 0) (request_of uid place.whole preferred j)
    pub first_one : frame.mark.place ≡ 0
    pub waits : traffic.device_waits ≤ due + pace.period
    pub from : due ≤ traffic.at

  -- its request is on the way to the allocator
  pub record IsOnBus (j : ℕ) (traffic : Traffic) (w : Cluster) : Type 0 where
    pub due : ℕ
    pub sessions : List Session
    pub common : CommonOf j due sessions traffic w
    pub id : ℕ
    pub moment : ℕ
    pub request : Timer
    pub frame : Queued
    pub there : w.allocatee a ≡ Some (device_as uid preferred [] id moment request None sessions)
    pub small : id < 32
    pub read : moment ≤ traffic.at + clocks.device
    pub way : OnItsWay
    pub way_is : traffic.to_allocator ≡ way ∷ []
    pub number : (1 ≤ way.number) × (way.number ≤ length w.frames)
    pub frame_is_it : frame_at w.frames way.number ≡ frame
    pub quiet : Quiet due request
    pub asks : IsRequest (comes_at frame 0) (request_of uid place.whole preferred j)
    pub first_one : frame.mark.place ≡ 0
    pub since : way.since ≤ due + pace.period + pace.delay
    pub from : due ≤ traffic.at

  -- what comes behind the answer
  abbrev pub Outcome : ℕ → (then_log : List Entry) (accepted : List Accepted) (asked_at node : ℕ) (bytes : List ℕ) → Type 0
  Outcome zero then_log accepted asked_at node bytes = (bytes ≡ uid) × Fits node then_log × (1 ≤ node) × (node ≤ 125)
  Outcome (suc j) then_log accepted asked_at node bytes = (bytes ≡ take (known_of j) uid) × (then_log ≡ log) × (node ≡ 0)
      × Right uid place.whole preferred j accepted (asked_at + clocks.allocator) (asked_at + clocks.allocator + 500)

  -- those of them that are of Allocations came to the bus by this moment
  abbrev pub SinceBy : ℕ → List OnItsWay → List Queued → Type 0
  SinceBy last [] fs = ⊤
  SinceBy last (way ∷ ways) [] = ⊤
  SinceBy last (way ∷ ways) (f ∷ fs) = (f.id ≡ it n → way.since ≤ last) × SinceBy last ways fs

  -- the answer is under way: the device has heard a front of its frames
  pub record IsAnswering (j : ℕ) (traffic : Traffic) (w : Cluster) : Type 0 where
    pub asked_at : ℕ
    pub then_log : List Entry
    pub accepted : List Accepted
    pub next : ℕ
    pub stages : ℕ
    pub number : ℕ
    pub node : ℕ
    pub bytes : List ℕ
    pub rest : List Queued
    pub server : AllocatorState
    pub flying : List Queued
    pub side : Side n a start high clocks then_log accepted (id_after next) (suc stages) rest server flying traffic w
    pub outcome : Outcome j then_log accepted asked_at node bytes
    pub next_small : next < 32
    pub few_stages : stages + j ≤ 3
    pub node_small : node < 128
    pub short : length bytes ≤ 16
    pub id : ℕ
    pub moment : ℕ
    pub request : Timer
    pub before : List Session
    pub front : List Queued
    pub heard : List Arrival
    pub there : w.allocatee a ≡ Some (device_as uid preferred [] id moment request None (run setting before heard))
    pub small : id < 32
    pub read : moment ≤ traffic.at + clocks.device
    pub nothing : traffic.to_allocator ≡ []
    pub quiet : asked_at + 2 * pace.delay + clocks.device < request.since + request.length
    pub long : 1 ≤ request.length
    pub awaits : AwaitsBy key last_moment_of_it next before
    pub cut : queued_frames (outgoing n Alloc 0 next (allocation_payload node bytes)) number 0 ≡ front ++ rest
    pub came : Came (asked_at + clocks.device) (asked_at + 2 * pace.delay + clocks.device) front heard
    pub some : rest ≢ []
    pub early : start + 600 ≤ asked_at
    pub soon : asked_at + 2 * pace.delay + 500 * j ≤ start + 2100
    pub from : asked_at ≤ traffic.at
    pub in_queue : of_identifier (it n) server.queue ≢ [] → traffic.allocator_waits ≤ asked_at
    pub on_way : SinceBy (asked_at + pace.delay) traffic.to_device flying

  -- one of the phases, of one of the stages
  abbrev pub Phase : Traffic → Cluster → Type 0
  Phase traffic w = (j : ℕ) × (j ≤ 2) × (IsWaiting j traffic w ⊎ (HasAsked j traffic w ⊎ (IsOnBus j traffic w ⊎ IsAnswering j traffic w)))

  -- the device holds such a node ID, and the allocator has settled with its pair
  abbrev pub Served : (moment : ℕ) → Cluster → Type 0
  Served moment w = (node : ℕ) × (then_log : List Entry) × Fits node then_log × Holds w a uid node × HasSettled n then_log (moment + clocks.allocator) w

  -- what a row leaves
  abbrev pub Next : Traffic → Cluster → Timed → Type 0
  Next traffic w timed = Phase (traffic_after n a traffic w timed) (after_row w timed.row) ⊎ Served timed.at (after_row w timed.row)

  -- ---- small facts

  -- a request is one at each moment
  pub its_request : (frame : Queued) (message : Allocation) (moment : ℕ) → IsRequest (comes_at frame 0) message → IsRequest (comes_at frame moment) message
  its_request frame message moment r = record {
    ident = r.ident;
    read = r.read;
    kind = r.kind;
    number = r.number;
    source = r.source;
    first = r.first;
    last = r.last;
    toggle = r.toggle;
    says = r.says;
  }

  -- a NodeStatus is not wanted
  status_read : identifier_of (status_number n) ≡ Some (ident_of n Stat 0)
  status_read = laws.hearing.ident_read (ident_of n Stat 0) (ident_ok n Stat 0 low high refl)

  -- a NodeStatus is not wanted
  pub not_wanted : wanted setting.rows setting.me (status_number n) ≡ Err NotWanted
  unfolding wanted rows
  not_wanted = rw (status_read) refl

  -- nor a frame with its identifier
  pub unwanted : (f : Queued) → f.id ≡ status_number n → wanted setting.rows setting.me f.id ≡ Err NotWanted
  unwanted f e = ap (λ (k : ℕ). wanted setting.rows setting.me k) e ∙ not_wanted

  -- the device ignores a NodeStatus
  pub device_ignores : (w : Cluster) (queue : List Queued) (id moment : ℕ) (request : Timer) (follow_up : Option FollowUp) (sessions : List Session) (k at word : ℕ) (f : Queued)
      → w.allocatee a ≡ Some (device_as uid preferred queue id moment request follow_up sessions) → frame_at w.frames k ≡ f → f.id ≡ status_number n → moment ≤ at
      → (after_row w (ARx a k at word)).allocatee a ≡ Some (device_as uid preferred queue id at request follow_up sessions)
  device_ignores w queue id moment request follow_up sessions k at word f there is e later =
      device_steps w a (device.Rx (arrival_at (frame_at w.frames k) at) word) (device_as uid preferred queue id moment request follow_up sessions)
      (device_as uid preferred queue id at request follow_up sessions) there
      (ignores uid preferred queue id moment request follow_up sessions (w.rows + 1) word (arrival_at (frame_at w.frames k) at) later NotWanted
      (ap (λ (x : Queued). wanted setting.rows setting.me x.id) is ∙ unwanted f e))

  -- a frame of the allocator that is of no Allocation is of a NodeStatus
  pub status_of_kind : (f : Queued) → (f.id ≡ it n) ⊎ (f.id ≡ status_number n) → f.id ≢ it n → f.id ≡ status_number n
  status_of_kind f (inl e) no_one = absurd (no_one e)
  status_of_kind f (inr e) no_one = e

  -- where nothing is on its way, nothing comes
  pub nothing_next : (k : ℕ) (ways : List OnItsWay) → ways ≡ [] → IsNext k ways → ⊥
  nothing_next k ways e is = subst (IsNext k) e is

  -- where nothing waits, nothing goes out
  pub nothing_sent : (w : Cluster) (d : Device) → w.allocatee a ≡ Some d → d.asking.queue ≡ [] → is_some (next_from (w.allocatee a)) ≡ true → ⊥
  unfolding next_out
  nothing_sent w d there none some = let e : is_some (next_out d.asking.queue) ≡ true = ap (λ (x : Option Device). is_some (next_from x)) (sym there) ∙ some in
      let f : is_some (next_out []) ≡ true = ap (λ (q : List Queued). is_some (next_out q)) (sym none) ∙ e in absurd (cc (f))

  -- ---- the device waits

  module _ (j : ℕ) (two : j ≤ 2) (traffic : Traffic) (w : Cluster) (p : IsWaiting j traffic w) (at : ℕ) (in_time : IsInTime n a clocks pace traffic w at) where
    abbrev WaitGoal : Row → Type 0
    WaitGoal row = Next traffic w (record { at = at; row = row })

    wait_by : at ≤ p.due + pace.period
    wait_by = let t = in_time.ticks in let e = p.ticked in omega (arith, t, e)

    -- it is over in time
    pub wait_end : at ≤ start + 2100
    wait_end = let b = wait_by in let s = p.common.soon in omega (arith, b, s, quick)

    wait_later : traffic.at ≤ at
    wait_later = in_time.moments

    -- it waits on
    still_waiting : (row : Row) → CommonOf j p.due p.sessions (traffic_after n a traffic w (record { at = at; row = row })) (after_row w row)
        → (moment : ℕ) → (after_row w row).allocatee a ≡ Some (device_as uid preferred [] p.id moment p.request p.follow_up p.sessions)
        → p.moment ≤ moment → moment ≤ at + clocks.device → (traffic_after n a traffic w (record { at = at; row = row })).to_allocator ≡ []
        → (traffic_after n a traffic w (record { at = at; row = row })).ticked ≤ p.due → WaitGoal row
    still_waiting row common moment there since read nothing ticked = inl (
      j,
      two,
      inl (record {
        due = p.due;
        sessions = p.sessions;
        common = common;
        id = p.id;
        moment = moment;
        request = p.request;
        follow_up = p.follow_up;
        there = there;
        small = p.small;
        read = read;
        nothing = nothing;
        waits_for = due_on j p.waits_for;
        ticked = ticked;
      }),
    )
      where
        due_on : (i : ℕ) → IsDue i p.due p.moment p.request p.follow_up → IsDue i p.due moment p.request p.follow_up
        due_on zero d = (d.0, d.1, d.2, omega (arith, d.3, since), d.4)
        due_on (suc zero) d = (d.0, d.1, d.2, omega (arith, d.3, since), d.4)
        due_on (suc (suc i)) d = d

    read_on : p.moment ≤ at + clocks.device
    read_on = let r = p.read in let l = wait_later in omega (arith, r, l)

    wait_ticks : (word : ℕ) → WaitGoal (Tick n (at + clocks.allocator) word)
    wait_ticks word = still_waiting (Tick n (at + clocks.allocator) word)
        (common_ticks n a high uid place.whole preferred log start clocks pace key j p.due p.sessions traffic w p.common at wait_later word wait_end)
        p.moment p.there (omega arith) read_on p.nothing p.ticked

    wait_sends : is_some (next_frame (w.member n).status) ≡ true → WaitGoal (Send n)
    wait_sends some = still_waiting (Send n)
        (common_sends n a high uid place.whole preferred log start clocks pace key j p.due p.sessions traffic w p.common at wait_later some)
        p.moment p.there (omega arith) read_on p.nothing p.ticked

    wait_gets : (k word : ℕ) → IsNext k traffic.to_device → WaitGoal (ARx a k (at + clocks.device) word)
    wait_gets k word is =
        let g = common_gets n a high uid place.whole preferred log start clocks pace key j p.due p.sessions traffic w p.common at wait_later k word is in
        still_waiting (ARx a k (at + clocks.device) word) g.2 (at + clocks.device)
        (device_ignores w [] p.id p.moment p.request p.follow_up p.sessions k (at + clocks.device) word g.0.frame p.there g.0.frame_is_it
        (status_of_kind g.0.frame g.0.kind g.1) read_on)
        read_on (omega arith) p.nothing p.ticked

    -- its timer has passed
    then_asks : (word : ℕ) (request : Timer) (first : Bool) (part : List ℕ) → p.due ≤ at → Quiet p.due request
        → asked uid preferred first (take 6 part) ≡ request_of uid place.whole preferred j
        → (after_row w (ATick a (at + clocks.device) word)).allocatee a
        ≡ Some (device_as uid preferred (request_frames uid preferred (w.rows + 1) word p.id first (take 6 part)) ((p.id + 1) % 32) (at + clocks.device) request None p.sessions)
        → WaitGoal (ATick a (at + clocks.device) word)
    then_asks word request first part passed quiet same there =
        let made = laws.requests word p.id (w.rows + 1) 0 (asked uid preferred first (take 6 part)) p.small few (six_at_most uid preferred part) in
        inl (
          j,
          two,
          inr (inl (record {
            due = p.due;
            sessions = p.sessions;
            common = common_kept n a high uid place.whole preferred log start clocks pace key j p.due p.sessions traffic w p.common at wait_later
                (ATick a (at + clocks.device) word) refl p.common.side.carry;
            id = (p.id + 1) % 32;
            moment = at + clocks.device;
            request = request;
            frame = made.0;
            there = there ∙ ap (λ (q : List Queued). Some (device_as uid preferred q ((p.id + 1) % 32) (at + clocks.device) request None p.sessions)) made.1;
            small = omega arith;
            read = omega arith;
            nothing = p.nothing;
            quiet = quiet;
            asks = subst (IsRequest (comes_at made.0 0)) same made.2;
            first_one = its_place word p.id (w.rows + 1) (allocation_bytes (asked uid preferred first (take 6 part))) made.0 made.1;
            waits = let e : (traffic_after n a traffic w (record { at = at; row = ATick a (at + clocks.device) word })).device_waits ≡ at
                = ap (λ (q : List Queued). waits_after at traffic.device_waits q (queue_at ((after_row w (ATick a (at + clocks.device) word)).allocatee a)))
                (ap queue_at p.there) in let b = wait_by in omega (arith, e, b);
            from = passed;
          })),
        )

    wait_reads : (word : ℕ) → WaitGoal (ATick a (at + clocks.device) word)
    wait_reads word = elim (lt_tells at p.due) [ inl z ↦ early z.1 j refl p.waits_for | inr z ↦ late z.1 j refl p.waits_for ]
      where
        quietly : is_due (at + clocks.device) p.follow_up ≡ None → has_passed (at + clocks.device) p.request ≡ false → at < p.due → WaitGoal (ATick a (at + clocks.device) word)
        quietly none no_time before = still_waiting (ATick a (at + clocks.device) word)
            (common_kept n a high uid place.whole preferred log start clocks pace key j p.due p.sessions traffic w p.common at wait_later
            (ATick a (at + clocks.device) word) refl p.common.side.carry)
            (at + clocks.device)
            (device_steps w a (device.Tick (at + clocks.device) word) (device_as uid preferred [] p.id p.moment p.request p.follow_up p.sessions)
            (device_as uid preferred [] p.id (at + clocks.device) p.request p.follow_up p.sessions) p.there
            (ticks_quietly uid preferred p.id p.moment (at + clocks.device) read_on p.request p.sessions (w.rows + 1) word [] p.follow_up none no_time))
            read_on (omega arith) p.nothing (omega (arith, before))

        not_on : (timer : Timer) (known : ℕ) → p.follow_up ≡ Some (record { timer = timer; known = known }) → timer.since + timer.length ≡ p.due + clocks.device
            → timer.since ≤ p.moment → at < p.due → is_due (at + clocks.device) p.follow_up ≡ None
        not_on timer known e ends since before = rw (e) (rw (has_not_passed (at + clocks.device) timer (omega (arith, ends, before)) (inl (let r = read_on in omega (arith, since, r)))) refl)

        early : at < p.due → (i : ℕ) → j ≡ i → IsDue i p.due p.moment p.request p.follow_up → WaitGoal (ATick a (at + clocks.device) word)
        early before zero e d = quietly (not_on d.0 12 d.1 d.2 d.3 before) (has_not_passed (at + clocks.device) p.request (omega (arith, d.4.0, before)) (inr d.4.1)) before
        early before (suc zero) e d = quietly (not_on d.0 6 d.1 d.2 d.3 before) (has_not_passed (at + clocks.device) p.request (omega (arith, d.4.0, before)) (inr d.4.1)) before
        early before (suc (suc i)) e d = quietly (rw (d.0) refl) (has_not_passed (at + clocks.device) p.request (omega (arith, d.1, before)) (inr d.2)) before

        on : (timer : Timer) (i known : ℕ) → j ≡ i → known ≡ known_of i → false ≡ is_first i → p.follow_up ≡ Some (record { timer = timer; known = known })
            → timer.since + timer.length ≡ p.due + clocks.device → Quiet p.due p.request → p.due ≤ at → WaitGoal (ATick a (at + clocks.device) word)
        on timer i known e same_known same_first follow ends quiet passed = then_asks word p.request false (drop known uid) passed quiet
            ((λ k. asked uid preferred (same_first k) (take 6 (drop (same_known k) uid))) ∙ ap (λ (k : ℕ). request_of uid place.whole preferred k) (sym e))
            (device_steps w a (device.Tick (at + clocks.device) word) (device_as uid preferred [] p.id p.moment p.request p.follow_up p.sessions)
            (device_as uid preferred (request_frames uid preferred (w.rows + 1) word p.id false (take 6 (drop known uid))) ((p.id + 1) % 32) (at + clocks.device) p.request None p.sessions)
            p.there
            (ap (λ (f : Option FollowUp). (step (device_as uid preferred [] p.id p.moment p.request f p.sessions) (w.rows + 1) (device.Tick (at + clocks.device) word)).device) follow
            ∙ asks_on uid preferred p.id p.moment (at + clocks.device) read_on p.request p.sessions (w.rows + 1) word (record { timer = timer; known = known })
            (has_now_passed (at + clocks.device) timer (omega (arith, ends, passed)))))

        late : p.due ≤ at → (i : ℕ) → j ≡ i → IsDue i p.due p.moment p.request p.follow_up → WaitGoal (ATick a (at + clocks.device) word)
        late passed zero e d = on d.0 zero 12 e refl refl d.1 d.2 d.4 passed
        late passed (suc zero) e d = on d.0 (suc zero) 6 e refl refl d.1 d.2 d.4 passed
        late passed (suc (suc i)) e d = then_asks word (timer_from (at + clocks.device) (request_wait word)) true uid passed
            (omega (arith, passed), omega arith)
            (ap (λ (k : ℕ). request_of uid place.whole preferred k) (sym e))
            (device_steps w a (device.Tick (at + clocks.device) word) (device_as uid preferred [] p.id p.moment p.request p.follow_up p.sessions)
            (device_as uid preferred (request_frames uid preferred (w.rows + 1) word p.id true (take 6 uid)) ((p.id + 1) % 32) (at + clocks.device)
            (timer_from (at + clocks.device) (request_wait word)) None p.sessions) p.there
            (ap (λ (f : Option FollowUp). (step (device_as uid preferred [] p.id p.moment p.request f p.sessions) (w.rows + 1) (device.Tick (at + clocks.device) word)).device) d.0
            ∙ asks_first uid preferred p.id p.moment (at + clocks.device) read_on p.request p.sessions (w.rows + 1) word
            (has_now_passed (at + clocks.device) p.request (omega (arith, d.1, passed)))))

    -- each row leaves a phase
    pub waiting_goes_on : (row : Row) → IsCalmRow n a clocks pace traffic w at row → WaitGoal row
    waiting_goes_on row calm = by_rows n a clocks pace traffic w at WaitGoal wait_ticks (λ k is. absurd (nothing_next k traffic.to_allocator p.nothing is)) wait_sends wait_reads wait_gets
        (λ some. absurd (nothing_sent w (device_as uid preferred [] p.id p.moment p.request p.follow_up p.sessions) p.there refl some)) row calm
