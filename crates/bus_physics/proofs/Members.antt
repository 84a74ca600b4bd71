-- Along the rows of a physical bus the sessions of a member keep frames that came soon, one after another, and a pending
-- call has the moment at which it was made.
use Rattle.std.proofs.Common.{◌≡◌, ℕ, suc, ◌+◌, ◌<◌, Bool, true, false, List, [], ◌∷◌, ◌++◌, length, refl, sym, ap, subst, ◌∙◌, arith, inl, inr, Some, None, append_assoc}
use Rattle.std.specs.Prelude.{◌-◌, ◌==◌, All, max, if◌then◌else◌, slice_index_or}
use Rattle.std.proofs.lemmas.Bool.Decides.{eqb_tells}
use Rattle.kv_store.specs.KeyDisk.{KeyDisk}
use Rattle.raft_core.specs.Times.{Sending}
use Rattle.raft_log.specs.KeyDisk.{are_put, is_open_on, opening_on, puts_on}
use Rattle.raft_log.specs.Stored.{Stored}
use Rattle.raft_model.specs.Lists.{In}
use Rattle.raft_model.specs.Messages.{Request}
use Rattle.bus_rows.specs.declared.row.Row.{Row}
use Rattle.bus_rows.specs.declared.row.Row.TheVariants.{AEnd, AOpen, ARx, ASend, ATick, Crash, Ext, Fault, Open, Rx, Send, Tick}
use Rattle.transfer_rx.specs.declared.key.Key.{Key}
use Rattle.transfer_rx.specs.Origin.{CameWithKey}
use Rattle.transfer_rx.specs.Reassembly.{Arrival, Setting, next}
use Rattle.transfer_rx.specs.Run as rx_run
use Rattle.transfer_rx.specs.Run.{is_of}
use Rattle.transfer_rx.specs.Sessions.{Session}
use Rattle.transfer_tx.specs.Queue.{Queued}
use Rattle.alloc_spec_laws.specs.Calls.{CallsAreMade, IsCalled}
use Rattle.alloc_spec.specs.Accepted.{setting_for}
use Rattle.alloc_spec.specs.AllocatorState.{AllocatorState}
use Rattle.alloc_spec.specs.Rules.{Rules, opening_by}
use Rattle.alloc_spec.specs.Step.{Event, after_pop, moment_of, step}
use Rattle.alloc_spec.specs.Step.Event.{Rx as Receives, Tick as Ticks}
use Rattle.alloc_spec.specs.StepState.{StepState}
use Rattle.bus_spec.specs.Cluster.{Cluster, after_row, after_rows, arrival_at, frame_at, from_outside, in_list, receipt_of, rules_of, tick_of}
use Rattle.bus_spec.specs.Lawful.{AreLawful, arrival_refusal, cause, no_node, no_such_frame, not_running, or_else}
use Rattle.bus_spec.specs.Allocatees.{next_from}
use Rattle.bus_spec.specs.Members.{Member, MemberStatus, after_crash, after_cut_off, after_opening, after_sending, member_after_step, next_frame, puts_of, stopped_with, with_stop_armed}
use Rattle.bus_spec.specs.Members.MemberStatus.{Down, Failed, Up}
use Rattle.bus_agreement.specs.Frames.{CameFrom}
use Rattle.bus_agreement.proofs.DeliveredTransfers.{IsOfKey}
use Rattle.bus_agreement.proofs.Lists.{in_front}
use Rattle.bus_agreement.proofs.OneRow.{stands}
use Rattle.bus_agreement.proofs.RowsWithoutEvents.{past_first}
use Rattle.bus_rows.specs.Timed.{Timed, rows_in}
use Rattle.bus_physics.specs.Physics.{ClockGoesOn, ClockGoesOnAt, ComesInTime, FrameComesInTime, FramesComeInTime, GoesOn, Limits, WhereIts, Reading, member_readings, now_in, time_of, lag}
use Rattle.bus_physics.proofs.Devices.{IsTimely, soon, IsClose}
use Rattle.bus_physics.proofs.InTime.{Heard, IsInTime, still, stepped}

-- what the crates below say of a step
pub record MemberLaws : Type 0 where
  pub heard : (t : AllocatorState) (number : ℕ) (arrival : Arrival) → (step t number (Receives arrival)).step_state.allocator.sessions
      ≡ next (setting_for t.me) t.sessions (record arrival { moment = max t.now arrival.moment })
  pub ticked : (t : AllocatorState) (number now word : ℕ) → (step t number (Ticks now word)).step_state.allocator.sessions ≡ t.sessions
  pub me : (t : AllocatorState) (number : ℕ) (event : Event) → (step t number event).step_state.allocator.me ≡ t.me
  pub called : (t : AllocatorState) (number : ℕ) (event : Event) → CallsAreMade number t (step t number event).step_state
  pub now : (t : AllocatorState) (number : ℕ) (event : Event) → (step t number event).step_state.allocator.now ≡ max t.now (moment_of event)
  pub kept : (setting : Setting) (before arrivals : List Arrival) (sessions : List Session) → All (CameWithKey setting before) sessions
      → All (CameWithKey setting (before ++ arrivals)) (rx_run.run setting sessions arrivals)

some_request : (x y : Request) → Some x ≡ Some y → x ≡ y
some_request x y e = cc (e)

one_sending : (x y : Sending) → Some x ≡ Some y → x ≡ y
one_sending x y e = cc (e)

one_up : (a b : AllocatorState) → Up a ≡ Up b → a ≡ b
one_up a b e = cc (e)

module _ (limits : Limits) (all : List Timed) where
  pub record IsKnownTo (setting : Setting) (frames : List Queued) (key : Key) (h : Heard) : Type 0 where
    pub came : CameFrom frames h.arrival
    pub of_key : IsOfKey setting key h.arrival
    pub is : is_of setting key h.arrival ≡ true
    pub timely : IsTimely limits all h.arrival h.at

  abbrev pub AllInTimeTo : Setting → List Queued → List Reading → List Session → Type 0
  AllInTimeTo setting frames past sessions = (s : Session) → In s sessions → IsInTime (IsKnownTo setting frames) (IsClose limits all (lag limits)) past s

  -- a pending call was made at one of the readings
  abbrev pub AreCalledAt : List Reading → AllocatorState → Type 0
  AreCalledAt past t = (peer : ℕ) (request : Request) (sending : Sending) → t.raft_server.memory.pending peer ≡ Some request
      → t.times.sending peer ≡ Some sending → In (record { at = time_of all request.step; now = sending.moment; opens = false }) past

  pub record MemberInv (frames : List Queued) (past : List Reading) (t : AllocatorState) : Type 0 where
    pub heard : AllInTimeTo (setting_for t.me) frames past t.sessions
    pub called : AreCalledAt past t

  abbrev pub InvOf : ℕ → List Queued → List Reading → (ℕ → Member) → Type 0
  InvOf n frames past member = (t : AllocatorState) → (member n).status ≡ Up t → MemberInv frames past t

  more_frames : (setting : Setting) (frames more : List Queued) (key : Key) (h : Heard) → IsKnownTo setting frames key h → IsKnownTo setting (frames ++ more) key h
  more_frames setting frames more key h is = record {
    came = record {
      frame = is.came.frame;
      there = in_front is.came.frame frames more is.came.there;
      id = is.came.id;
      bytes = is.came.bytes;
      mark = is.came.mark;
    };
    of_key = is.of_key;
    is = is.is;
    timely = is.timely;
  }

  with_more : (frames more : List Queued) (past : List Reading) (t : AllocatorState) → MemberInv frames past t → MemberInv (frames ++ more) past t
  with_more frames more past t inv = record {
    heard = λ s i. still (IsKnownTo (setting_for t.me) frames) (IsKnownTo (setting_for t.me) (frames ++ more)) (more_frames (setting_for t.me) frames more)
        (IsClose limits all (lag limits)) past past (λ p j. j) s (inv.heard s i);
    called = inv.called;
  }

  -- ---- a step

  module _ (laws : MemberLaws) (of_its_key : (setting : Setting) (key : Key) (b : Arrival) → is_of setting key b ≡ true → IsOfKey setting key b)
      (sane : lag limits < 58000) (frames : List Queued) (past : List Reading) (came : ℕ) (t : AllocatorState) (inv : MemberInv frames past t)
      (number : ℕ) (its_time : time_of all number ≡ came) where
    abbrev read : ℕ → Reading
    read now = record { at = came; now = now; opens = false }

    called_then : (event : Event) → AreCalledAt (read (max t.now (moment_of event)) ∷ past) (step t number event).step_state.allocator
    called_then event peer request sending pending sent = elim (laws.called t number event peer request pending) [
      | inl stays ↦ inr (inv.called peer request sending (sym stays.pending ∙ pending) (sym stays.sending ∙ sent))
      | inr made ↦ inl (now_is made)
    ]
      where
        now_is : IsCalled number (step t number event).step_state peer request → record { at = time_of all request.step; now = sending.moment; opens = false } ≡ read (max t.now (moment_of event))
        now_is made =
            let same : sending ≡ record { id = made.offer.id; moment = (step t number event).step_state.allocator.now } =
            one_sending sending _ (sym sent ∙ made.kept) in
            ap (λ (k : ℕ). record { at = time_of all k; now = sending.moment; opens = false }) made.step
            ∙ (ap (λ (k : ℕ). record { at = k; now = sending.moment; opens = false }) its_time
            ∙ ap (λ (k : ℕ). record { at = came; now = k; opens = false }) (ap (λ (s : Sending). s.moment) same ∙ laws.now t number event))

    later_heard : (now : ℕ) (sessions : List Session) → AllInTimeTo (setting_for t.me) frames past sessions → AllInTimeTo (setting_for t.me) frames (read now ∷ past) sessions
    later_heard now sessions each s i = still (IsKnownTo (setting_for t.me) frames) (IsKnownTo (setting_for t.me) frames) (λ key h is. is) (IsClose limits all (lag limits)) past
        (read now ∷ past) (λ p j. inr j) s (each s i)

    for_me : (event : Event) (now : ℕ) → AllInTimeTo (setting_for t.me) frames (read now ∷ past) (step t number event).step_state.allocator.sessions
        → AllInTimeTo (setting_for (step t number event).step_state.allocator.me) frames (read now ∷ past) (step t number event).step_state.allocator.sessions
    for_me event now each = subst (λ (m : ℕ). AllInTimeTo (setting_for m) frames (read now ∷ past) (step t number event).step_state.allocator.sessions)
        (sym (laws.me t number event)) each

    pub ticks : (ms word : ℕ) → MemberInv frames (read (max t.now ms) ∷ past) (step t number (Ticks ms word)).step_state.allocator
    ticks ms word = record {
      heard = for_me (Ticks ms word) (max t.now ms) (subst (λ (l : List Session). AllInTimeTo (setting_for t.me) frames (read (max t.now ms) ∷ past) l)
          (sym (laws.ticked t number ms word)) (later_heard (max t.now ms) t.sessions inv.heard));
      called = called_then (Ticks ms word);
    }

    pub receives : (frame : Queued) → In frame frames → (ms : ℕ) → GoesOn limits (lag limits) past came (max t.now ms) → ComesInTime limits all came frame
        → MemberInv frames (read (max t.now ms) ∷ past) (step t number (Receives (arrival_at frame ms))).step_state.allocator
    receives frame there ms goes timely = record {
      heard = for_me (Receives (arrival_at frame ms)) (max t.now ms)
          (subst (λ (l : List Session). AllInTimeTo (setting_for t.me) frames (read (max t.now ms) ∷ past) l) (sym (laws.heard t number (arrival_at frame ms)))
          (stepped (IsKnownTo (setting_for t.me) frames) (IsKnownTo (setting_for t.me) frames) (λ key h is. is) (IsClose limits all (lag limits)) past (read (max t.now ms) ∷ past)
          (λ p i. inr i) (setting_for t.me) t.sessions inv.heard (arrival_at frame (max t.now ms)) came (inl refl)
          (soon limits all (lag limits) sane past came (max t.now ms) goes)
          (λ key is. record {
            came = record { frame = frame; there = there; id = refl; bytes = refl; mark = refl };
            of_key = of_its_key (setting_for t.me) key (arrival_at frame (max t.now ms)) is;
            is = is;
            timely = record { after = timely.after; soon = timely.soon };
          })));
      called = called_then (Receives (arrival_at frame ms));
    }

  -- ---- a member after a row

  -- one that still runs after its step finished it
  up_after : (number : ℕ) (t : AllocatorState) (event : Event) (x : Member) (u : AllocatorState) → (member_after_step number event (Up t) x).status ≡ Up u
      → (step t number event).step_state.allocator ≡ u
  up_after number t event x u = by (are_put (puts_of x g) x.disk.calls) where
    g : StepState
    g = (step t number event).step_state

    cut : (b : Bool) (disk : KeyDisk Stored) (failed : Member) → ((v : AllocatorState) → failed.status ≡ Up v → ⊥)
        → (if b then stopped_with x.pattern disk x else failed).status ≡ Up u → ⊥
    cut true disk failed never e = absurd (cc (e))
    cut false disk failed never e = never u e

    by : (b : Bool) → (if b then record x { status = Up (step t number event).step_state.allocator; disk = puts_on (puts_of x (step t number event).step_state) x.disk }
        else after_cut_off x number t (step t number event).step_state (puts_on (puts_of x (step t number event).step_state) x.disk)).status ≡ Up u
        → (step t number event).step_state.allocator ≡ u
    by true e = one_up (step t number event).step_state.allocator u e
    by false e = absurd (cut (puts_on (puts_of x (step t number event).step_state) x.disk).calls.stopped
        (puts_on (puts_of x (step t number event).step_state) x.disk) _ (λ v f. absurd (cc (f))) e)

  module _ (laws : MemberLaws) (of_its_key : (setting : Setting) (key : Key) (b : Arrival) → is_of setting key b ≡ true → IsOfKey setting key b)
      (sane : lag limits < 58000) (n : ℕ) (w : Cluster) (past : List Reading) (came : ℕ) (inv : InvOf n w.frames past w.member)
      (its_time : time_of all (w.rows + 1) ≡ came) where
    is_same : (m : ℕ) → (n == m) ≡ true → n ≡ m
    is_same m e = elim (eqb_tells n m) [ inl s ↦ s.1 | inr apart ↦ absurd (cc (sym apart.0 ∙ e)) ]

    tick_by : (m ms word : ℕ) (same : Bool) → (n == m) ≡ same → (u : AllocatorState)
        → (if same then member_after_step (w.rows + 1) (tick_of ms word) (w.member m).status (w.member m) else w.member n).status ≡ Up u
        → MemberInv w.frames (if same then record { at = came; now = now_in (w.member m).status ms; opens = false } ∷ past else past) u
    tick_by m ms word false e u up = inv u up
    tick_by m ms word true e u up = by (w.member m).status refl up where
      by : (status : MemberStatus) → (w.member m).status ≡ status → (member_after_step (w.rows + 1) (tick_of ms word) status (w.member m)).status ≡ Up u
          → MemberInv w.frames (record { at = came; now = now_in status ms; opens = false } ∷ past) u
      by Down runs f = absurd (cc (sym runs ∙ f))
      by (Failed failure) runs f = absurd (cc (sym runs ∙ f))
      by (Up t) runs f = subst (λ (v : AllocatorState). MemberInv w.frames (record { at = came; now = max t.now ms; opens = false } ∷ past) v)
          (up_after (w.rows + 1) t (tick_of ms word) (w.member m) u f)
          (ticks laws of_its_key sane w.frames past came t (inv t (ap (λ (k : ℕ). (w.member k).status) (is_same m e) ∙ runs)) (w.rows + 1) its_time ms word)

    rx_by : (m k ms : ℕ) (same : Bool) → (n == m) ≡ same → In (frame_at w.frames k) w.frames → WhereIts same (GoesOn limits (lag limits) past came (now_in (w.member m).status ms))
        → ComesInTime limits all came (frame_at w.frames k) → (u : AllocatorState)
        → (if same then member_after_step (w.rows + 1) (receipt_of w k ms) (w.member m).status (w.member m) else w.member n).status ≡ Up u
        → MemberInv w.frames (if same then record { at = came; now = now_in (w.member m).status ms; opens = false } ∷ past else past) u
    rx_by m k ms false e there goes timely u up = inv u up
    rx_by m k ms true e there goes timely u up = by (w.member m).status refl goes up where
      by : (status : MemberStatus) → (w.member m).status ≡ status → GoesOn limits (lag limits) past came (now_in status ms)
          → (member_after_step (w.rows + 1) (receipt_of w k ms) status (w.member m)).status ≡ Up u
          → MemberInv w.frames (record { at = came; now = now_in status ms; opens = false } ∷ past) u
      by Down runs on f = absurd (cc (sym runs ∙ f))
      by (Failed failure) runs on f = absurd (cc (sym runs ∙ f))
      by (Up t) runs on f = subst (λ (v : AllocatorState). MemberInv w.frames (record { at = came; now = max t.now ms; opens = false } ∷ past) v)
          (up_after (w.rows + 1) t (receipt_of w k ms) (w.member m) u f)
          (receives laws of_its_key sane w.frames past came t (inv t (ap (λ (j : ℕ). (w.member j).status) (is_same m e) ∙ runs)) (w.rows + 1) its_time
          (frame_at w.frames k) there ms on timely)

    opened : (m : ℕ) (rules : Rules) (ms word : ℕ) (u : AllocatorState) → (after_opening m rules ms word (w.member m)).status ≡ Up u
        → MemberInv w.frames (record { at = came; now = ms; opens = true } ∷ []) u
    opened m rules ms word u = by (is_open_on (w.member m).disk) where
      fresh : (store : _) → MemberInv w.frames (record { at = came; now = ms; opens = true } ∷ []) (opening_by m rules store ms word)
      fresh store = record { heard = λ s i. absurd i; called = λ peer request sending pending sent. absurd (cc (pending)) }

      by : (b : Bool) → (if b then record (w.member m) {
        status = Up (opening_by m rules (Rattle.raft_core.specs.StoredPuts.store_of (opening_on (w.member m).disk).store) ms word);
        disk = opening_on (w.member m).disk;
      } else Rattle.bus_spec.specs.Members.after_failed_opening (w.member m) (opening_on (w.member m).disk)).status ≡ Up u
          → MemberInv w.frames (record { at = came; now = ms; opens = true } ∷ []) u
      by true e = subst (λ (v : AllocatorState). MemberInv w.frames (record { at = came; now = ms; opens = true } ∷ []) v) (one_up _ u e)
          (fresh (Rattle.raft_core.specs.StoredPuts.store_of (opening_on (w.member m).disk).store))
      by false e = absurd (failed (opening_on (w.member m).disk).calls.stopped e) where
        failed : (b : Bool) → (if b then stopped_with (w.member m).pattern (opening_on (w.member m).disk) (w.member m)
            else record (w.member m) { status = Down; disk = opening_on (w.member m).disk }).status ≡ Up u → ⊥
        failed true f = absurd (cc (f))
        failed false f = absurd (cc (f))

    open_by : (m : ℕ) (rules : Rules) (ms word : ℕ) (same : Bool) → (u : AllocatorState) → (if same then after_opening m rules ms word (w.member m) else w.member n).status ≡ Up u
        → MemberInv w.frames (if same then record { at = came; now = ms; opens = true } ∷ [] else past) u
    open_by m rules ms word false u up = inv u up
    open_by m rules ms word true u up = opened m rules ms word u up

    send_by : (m : ℕ) (same : Bool) → (n == m) ≡ same → (more : List Queued) → (u : AllocatorState)
        → (if same then record (w.member m) { status = after_sending (w.member m).status } else w.member n).status ≡ Up u → MemberInv (w.frames ++ more) past u
    send_by m false e more u up = with_more w.frames more past u (inv u up)
    send_by m true e more u up = by (w.member m).status refl up where
      by : (status : MemberStatus) → (w.member m).status ≡ status → after_sending status ≡ Up u → MemberInv (w.frames ++ more) past u
      by Down runs f = absurd (cc (f))
      by (Failed failure) runs f = absurd (cc (f))
      by (Up t) runs f =
          let old = inv t (ap (λ (j : ℕ). (w.member j).status) (is_same m e) ∙ runs) in
          subst (λ (v : AllocatorState). MemberInv (w.frames ++ more) past v) (one_up (after_pop t) u f)
          (with_more w.frames more past (after_pop t) (record { heard = old.heard; called = old.called }))

    same_status : (m : ℕ) (same : Bool) → (n == m) ≡ same → (y : Member) → y.status ≡ (w.member m).status → (u : AllocatorState)
        → (if same then y else w.member n).status ≡ Up u → MemberInv w.frames past u
    same_status m false e y is u up = inv u up
    same_status m true e y is u up = inv u (ap (λ (j : ℕ). (w.member j).status) (is_same m e) ∙ (sym is ∙ up))

    crash_by : (m calls : ℕ) (pattern : _) → (same : Bool) → (n == m) ≡ same → (u : AllocatorState)
        → (if same then after_crash calls pattern (w.member m) else w.member n).status ≡ Up u → MemberInv w.frames past u
    crash_by m calls pattern false e u up = inv u up
    crash_by m calls pattern true e u up = by (calls == 0) up where
      by : (b : Bool) → (if b then stopped_with pattern (w.member m).disk (w.member m) else with_stop_armed calls pattern (w.member m)).status ≡ Up u
          → MemberInv w.frames past u
      by true f = absurd (cc (f))
      by false f = inv u (ap (λ (j : ℕ). (w.member j).status) (is_same m e) ∙ f)

    with_more_frames : (more : List Queued) → InvOf n (w.frames ++ more) past w.member
    with_more_frames more u up = with_more w.frames more past u (inv u up)

    frame_there : (m k ms : ℕ) → cause w (Rx m k ms) ≡ None → In (frame_at w.frames k) w.frames
    frame_there m k ms lawful =
        let last = arrival_refusal (w.member m).status (arrival_at (frame_at w.frames k) ms) in
        let first = past_first (no_node w m) (or_else (not_running w m) (or_else (no_such_frame w k) last)) lawful in
        let second = past_first (not_running w m) (or_else (no_such_frame w k) last) first.1 in
        let third = past_first (no_such_frame w k) last second.1 in
        stands w k third.0

    pub goes_on : (row : Row) → ClockGoesOnAt limits n past w came row → FrameComesInTime limits all w came row → cause w row ≡ None
        → InvOf n (after_row w row).frames (member_readings n past w came row) (after_row w row).member
    goes_on (Open m told ms word) clock comes lawful = open_by m (rules_of w.ids told) ms word (n == m)
    goes_on (Tick m ms word) clock comes lawful = tick_by m ms word (n == m) refl
    goes_on (Rx m k ms) clock comes lawful = rx_by m k ms (n == m) refl (frame_there m k ms lawful) clock comes
    goes_on (Send m) clock comes lawful = send_by m (n == m) refl (in_list (next_frame (w.member m).status))
    goes_on (Ext frame) clock comes lawful = with_more_frames (from_outside frame.id frame.bytes.items ∷ [])
    goes_on (Crash m calls pattern) clock comes lawful = crash_by m calls pattern (n == m) refl
    goes_on (Fault m call) clock comes lawful = same_status m (n == m) refl _ refl
    goes_on (AOpen b uid pref ms word) clock comes lawful = inv
    goes_on (ATick b ms word) clock comes lawful = inv
    goes_on (ARx b k ms word) clock comes lawful = inv
    goes_on (ASend b) clock comes lawful = with_more_frames (in_list (next_from (w.allocatee b)))
    goes_on (AEnd b) clock comes lawful = inv

  -- ---- all rows up to one

  pub record MemberBefore (n : ℕ) (w : Cluster) (now : Timed) : Type 0 where
    pub past : List Reading
    pub inv : InvOf n w.frames past w.member
    pub clock : ClockGoesOnAt limits n past w now.at now.row
    pub comes : FrameComesInTime limits all w now.at now.row

  at_end : (done : List Timed) (t : Timed) (rest : List Timed) (d : Timed) → slice_index_or (done ++ t ∷ rest) (length done) d ≡ t
  at_end [] t rest d = refl
  at_end (x ∷ done) t rest d = at_end done t rest d

  module _ (laws : MemberLaws) (of_its_key : (setting : Setting) (key : Key) (b : Arrival) → is_of setting key b ≡ true → IsOfKey setting key b)
      (sane : lag limits < 58000) (n : ℕ) (now : Timed) where
    pub along : (before done : List Timed) (w : Cluster) (past : List Reading) → all ≡ done ++ (before ++ now ∷ []) → w.rows ≡ length done
        → InvOf n w.frames past w.member → ClockGoesOn limits n past w (before ++ now ∷ []) → FramesComeInTime limits all w (before ++ now ∷ [])
        → AreLawful w (rows_in before) → MemberBefore n (after_rows w (rows_in before)) now
    along [] done w past split rows inv clock comes lawful = record { past = past; inv = inv; clock = clock.0; comes = comes.0 }
    along (t ∷ ts) done w past split rows inv clock comes lawful =
        along ts (done ++ t ∷ []) (after_row w t.row) (member_readings n past w t.at t.row) (split ∙ sym (append_assoc done (t ∷ []) (ts ++ now ∷ [])))
        (omega (arith, rows, longer done))
        (goes_on laws of_its_key sane n w past t.at inv its_time t.row clock.0 comes.0 lawful.0) clock.1 comes.1 lawful.1
      where
        longer : (xs : List Timed) → length (xs ++ t ∷ []) ≡ suc (length xs)
        longer [] = refl
        longer (x ∷ xs) = ap suc (longer xs)

        its_time : time_of all (w.rows + 1) ≡ t.at
        its_time = ap (λ (l : List Timed). time_of l (w.rows + 1)) split ∙ (ap (λ (k : ℕ). time_of (done ++ (t ∷ (ts ++ now ∷ []))) (k + 1)) rows
            ∙ at_place (length done) refl)
          where
            at_place : (k : ℕ) → k ≡ length done → time_of (done ++ (t ∷ (ts ++ now ∷ []))) (k + 1) ≡ t.at
            at_place k e = let less : k + 1 - 1 ≡ length done = omega (arith, e) in
                ap (λ (j : ℕ). (slice_index_or (done ++ (t ∷ (ts ++ now ∷ []))) j (record { at = 0; row = Send 0 })).at) less
                ∙ ap (λ (x : Timed). x.at) (at_end done t (ts ++ now ∷ []) (record { at = 0; row = Send 0 }))
