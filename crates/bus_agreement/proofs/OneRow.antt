-- Any row that does no harm: its events continue the run.
use Rattle.std.proofs.Common.{◌≡◌, ℕ, zero, suc, ◌+◌, ◌-◌, ◌≤◌, Bool, true, false, List, [], ◌∷◌, length, refl, sym, ap, subst, ◌∙◌, arith, inl, inr, Some, None}
use Rattle.std.specs.Prelude.{◌==◌, ◌||◌, not, nat_lt, if◌then◌else◌}
use Rattle.std.proofs.lemmas.Bool.{ltb-false}
use Rattle.can_frame.specs.declared.frame.Frame.{Frame}
use Rattle.can_frame.specs.declared.step.Judged.{Judged}
use Rattle.can_frame.specs.declared.step.Judged.TheVariants.{Fine, Stale, Torn}
use Rattle.outside.specs.declared.pattern.Pattern.{Pattern}
use Rattle.raft_log.specs.KeyDisk.{are_put, is_open_on}
use Rattle.raft_model.specs.Invariants.{Invariants}
use Rattle.raft_model.specs.Lists.{In, at}
use Rattle.raft_model.specs.Runs as raft
use Rattle.raft_model.specs.Runs.{MayOccur, after}
use Rattle.raft_model.specs.Runs.Event.{Opens, Steps, Stops}
use Rattle.bus_rows.specs.declared.row.Row.{Row}
use Rattle.bus_rows.specs.declared.row.Row.TheVariants.{AEnd, AOpen, ARx, ASend, ATick, Crash, Ext, Fault, Open, Rx, Send, Tick}
use Rattle.alloc_spec_laws.specs.Sound.{IsOnTheBus}
use Rattle.alloc_spec.specs.StepState.{messages}
use Rattle.alloc_spec.specs.Step.{Event, step}
use Rattle.alloc_spec.specs.Judging.{IsHarmless, arrival_judgement}
use Rattle.alloc_spec.specs.AllocatorState.{AllocatorState}
use Rattle.alloc_spec.specs.Transfers.{SentTransfer}
use Rattle.transfer_rx.specs.Reassembly.{Arrival}
use Rattle.bus_spec.specs.declared.unlawful.Unlawful.TheVariants.{NoFrame, NoNode, Stopped}
use Rattle.bus_spec.specs.declared.unlawful.Unlawful.TheVariants as unlawful
use Rattle.alloc_spec.specs.ClusterMembers.{AreMembers}
use Rattle.bus_spec.specs.Cluster.{Cluster, arrival_at, frame_at, after_row, is_member, no_frame, receipt_of, with_step, tick_of}
use Rattle.bus_spec.specs.Lawful.{DoesNoHarm, IsHarmlessAt, already_running, cause, arrival_refusal, is_void_at, no_node, no_such_frame, not_running, cause_of_judgement, or_else}
use Rattle.bus_spec.specs.Members.{Failure, MemberStatus, Member, is_running, puts_of, member_after_step}
use Rattle.bus_spec.specs.Members.MemberStatus.{Down, Failed, Up}
use Rattle.bus_spec.specs.Choices.{RowAgreesWithDisk}
use Rattle.bus_spec.specs.Refinement.{cut_events, transfers_of_step, transfers_of_row, transfers_of_offers, row_events, step_events, stop_events}
use Rattle.bus_agreement.specs.Continues.{Continues}
use Rattle.bus_agreement.specs.Events.{MayHappen}
use Rattle.bus_agreement.specs.Frames.{CameFrom}
use Rattle.bus_agreement.specs.Said.{IsRunWritable}
use Rattle.bus_agreement.specs.Shows.{Shows}
use Rattle.bus_agreement.proofs.Lists.{in_at, tell}
use Rattle.bus_agreement.proofs.RowsWithoutEvents.{changed_shown, eqb_is, is_down, is_lawful, is_one, is_up, not_because, past_first, past_other}
use Rattle.bus_agreement.proofs.StepEffects.{one_arrival}

-- what is known of each kind of row, as its law says it
pub record RowLaws : Type 0 where
  pub outside : (choice : ℕ → Bool) (made : List SentTransfer) (w : Cluster) (run : raft.World) → Shows choice made w run
      → (frame : Frame) → cause w (Ext frame) ≡ None → Shows choice made (after_row w (Ext frame)) run
  pub sent : (choice : ℕ → Bool) (made : List SentTransfer) (w : Cluster) (run : raft.World) → AreMembers w.ids → Shows choice made w run
      → (n : ℕ) → cause w (Send n) ≡ None → Shows choice made (after_row w (Send n)) run
  pub stop_armed : (choice : ℕ → Bool) (made : List SentTransfer) (w : Cluster) (run : raft.World) → Shows choice made w run
      → (n calls : ℕ) (pattern : Pattern) → (calls == 0) ≡ false → Shows choice made (after_row w (Crash n calls pattern)) run
  pub failure_armed : (choice : ℕ → Bool) (made : List SentTransfer) (w : Cluster) (run : raft.World) → Shows choice made w run
      → (n call : ℕ) → Shows choice made (after_row w (Fault n call)) run
  pub stopped : (choice : ℕ → Bool) (made : List SentTransfer) (w : Cluster) (run : raft.World) → Shows choice made w run → IsRunWritable w.ids run
      → (n : ℕ) (pattern : Pattern) → In n w.ids → (t : AllocatorState) → (w.member n).status ≡ Up t → let stop = Stops n (w.rows + 1) [] in
      MayOccur run stop × IsRunWritable w.ids (after run stop) × Shows choice made (after_row w (Crash n 0 pattern)) (after run stop)
  pub failed_stopped : (choice : ℕ → Bool) (made : List SentTransfer) (w : Cluster) (run : raft.World) → Shows choice made w run
      → (n : ℕ) (pattern : Pattern) → In n w.ids → (failure : Failure) → (w.member n).status ≡ Failed failure
      → RowAgreesWithDisk choice w (Crash n 0 pattern) → Shows choice made (after_row w (Crash n 0 pattern)) run
  pub opened : (choice : ℕ → Bool) (made : List SentTransfer) (w : Cluster) (run : raft.World) → AreMembers w.ids → Shows choice made w run
      → IsRunWritable w.ids run → (n : ℕ) (told : Bool) (ms word : ℕ) → In n w.ids → (w.member n).status ≡ Down → is_open_on (w.member n).disk ≡ true
      → MayOccur run (Opens n) × IsRunWritable w.ids (after run (Opens n)) × Shows choice made (after_row w (Open n told ms word)) (after run (Opens n))
  pub not_opened : (choice : ℕ → Bool) (made : List SentTransfer) (w : Cluster) (run : raft.World) → AreMembers w.ids → Shows choice made w run
      → (n : ℕ) (told : Bool) (ms word : ℕ) → In n w.ids → (w.member n).status ≡ Down → is_open_on (w.member n).disk ≡ false
      → Shows choice made (after_row w (Open n told ms word)) run
  pub finished : (choice : ℕ → Bool) (made : List SentTransfer) (w : Cluster) (run : raft.World) → AreMembers w.ids → Shows choice made w run
      → Invariants run → IsRunWritable w.ids run → (n : ℕ) (t : AllocatorState) (event : Event) → In n w.ids → (w.member n).status ≡ Up t
      → MayHappen w.frames t event → IsOnTheBus event → let number = w.rows + 1 in let step_state = (step t number event).step_state in
      are_put (puts_of (w.member n) step_state) (w.member n).disk.calls ≡ true
      → let whole = Steps n number step_state.moves (messages number step_state) in MayOccur run whole × IsRunWritable w.ids (after run whole)
      × Shows choice (transfers_of_offers number n step_state.offers made) (record (with_step w n event) { rows = number }) (after run whole)
  pub cut_off : (choice : ℕ → Bool) (made : List SentTransfer) (w : Cluster) (run : raft.World) → AreMembers w.ids → Shows choice made w run
      → Invariants run → IsRunWritable w.ids run → (n : ℕ) (t : AllocatorState) (event : Event) → In n w.ids → (w.member n).status ≡ Up t
      → MayHappen w.frames t event → IsOnTheBus event → let number = w.rows + 1 in let step_state = (step t number event).step_state in
      are_put (puts_of (w.member n) step_state) (w.member n).disk.calls ≡ false
      → (stop : raft.Event) × (cut_events choice w.ids n number (w.member n) t step_state ≡ stop ∷ []) × MayOccur run stop
      × IsRunWritable w.ids (after run stop) × Shows choice made (record (with_step w n event) { rows = number }) (after run stop)
  -- of allocatees
  pub came : (choice : ℕ → Bool) (made : List SentTransfer) (w : Cluster) (run : raft.World) → Shows choice made w run
      → (a : ℕ) (uid : List ℕ) (pref ms word : ℕ) → Shows choice made (after_row w (AOpen a uid pref ms word)) run
  pub ticked : (choice : ℕ → Bool) (made : List SentTransfer) (w : Cluster) (run : raft.World) → AreMembers w.ids → Shows choice made w run
      → (a ms word : ℕ) → Shows choice made (after_row w (ATick a ms word)) run
  pub received : (choice : ℕ → Bool) (made : List SentTransfer) (w : Cluster) (run : raft.World) → AreMembers w.ids → Shows choice made w run
      → (a k ms word : ℕ) → cause w (ARx a k ms word) ≡ None → Shows choice made (after_row w (ARx a k ms word)) run
  pub put : (choice : ℕ → Bool) (made : List SentTransfer) (w : Cluster) (run : raft.World) → Shows choice made w run
      → (a : ℕ) → cause w (ASend a) ≡ None → Shows choice made (after_row w (ASend a)) run
  pub left : (choice : ℕ → Bool) (made : List SentTransfer) (w : Cluster) (run : raft.World) → Shows choice made w run
      → (a : ℕ) → Shows choice made (after_row w (AEnd a)) run

-- ---- a frame that may be received

none_of : (a b : Bool) → (a || b) ≡ false → (a ≡ false) × (b ≡ false)
none_of true b e = absurd (cc (e))
none_of false b e = (refl, e)

above_zero : (k : ℕ) → (k == 0) ≡ false → 1 ≤ k
above_zero zero e = absurd (cc (e))
above_zero (suc k) e = omega arith

pub stands : (w : Cluster) (k : ℕ) → no_such_frame w k ≡ None → In (frame_at w.frames k) w.frames
stands w k e =
    let r = none_of (k == 0) (nat_lt (length w.frames) k) (not_because NoFrame ((k == 0) || nat_lt (length w.frames) k) e) in
    in_at w.frames (k - 1) no_frame (omega (arith, above_zero k r.0, ltb-false (length w.frames) k r.1))

pub is_fine : (judgement : Judged) → cause_of_judgement judgement ≡ None → judgement ≡ Fine
is_fine Fine e = refl
is_fine Torn e = absurd (cc (e))
is_fine Stale e = absurd (cc (e))

is_stale : (judgement : Judged) → cause_of_judgement judgement ≡ Some unlawful.Stale → judgement ≡ Stale
is_stale Fine e = absurd (cc (e))
is_stale Torn e = absurd (cc (e))
is_stale Stale e = refl

pub is_harmless : (t : AllocatorState) (arrival : Arrival) → IsHarmlessAt (Up t) arrival → IsHarmless t arrival
is_harmless t arrival (inl e) = inl (is_fine (arrival_judgement t arrival) e)
is_harmless t arrival (inr e) = inr (is_stale (arrival_judgement t arrival) e.0, e.1)

-- ---- what a row that does no harm says

-- a frame of the bus comes to a running member, and does no harm
pub record IsReceived (w : Cluster) (n k moment : ℕ) : Type 0 where
  pub listed : In n w.ids
  pub running : is_running (w.member n).status ≡ true
  pub there : In (frame_at w.frames k) w.frames
  pub harmless : IsHarmlessAt (w.member n).status (arrival_at (frame_at w.frames k) moment)

pub is_received : (w : Cluster) (n k moment : ℕ) → DoesNoHarm w (Rx n k moment) → IsReceived w n k moment
is_received w n k moment harmless =
    let frame : Arrival = arrival_at (frame_at w.frames k) moment in
    let status = (w.member n).status in
    let void = is_void_at status frame in
    let last = arrival_refusal status frame in
    let first = past_other NoNode (not (is_member w.ids n)) void (or_else (not_running w n) (or_else (no_such_frame w k) last)) (λ e. cc (e)) harmless in
    let second = past_other Stopped (not (is_running status)) void (or_else (no_such_frame w k) last) (λ e. cc (e)) first.1 in
    let third = past_other NoFrame ((k == 0) || nat_lt (length w.frames) k) void last (λ e. cc (e)) second.1 in
    record { listed = is_one w n first.0; running = is_up status second.0; there = stands w k third.0; harmless = third.1 }

pub may_tick : (w : Cluster) (t : AllocatorState) (moment word : ℕ) → MayHappen w.frames t (tick_of moment word)
may_tick w t moment word = record { came = λ arrival e. absurd (cc (e)); harmless = λ arrival e. absurd (cc (e)) }

pub may_receive : (w : Cluster) (n k moment : ℕ) (t : AllocatorState) → IsReceived w n k moment → (w.member n).status ≡ Up t
    → MayHappen w.frames t (receipt_of w k moment)
may_receive w n k moment t is runs = record {
  came = λ arrival e. subst (λ (a : Arrival). CameFrom w.frames a) (one_arrival frame arrival e)
      (record { frame = frame_at w.frames k; there = is.there; id = refl; bytes = refl; mark = refl });
  harmless = λ arrival e. subst (λ (a : Arrival). IsHarmless t a) (one_arrival frame arrival e)
      (is_harmless t frame (subst (λ (status : MemberStatus). IsHarmlessAt status frame) runs is.harmless));
}
  where
    frame : Arrival
    frame = arrival_at (frame_at w.frames k) moment

-- ---- rows

module _ (laws : RowLaws) (choice : ℕ → Bool) (made : List SentTransfer) (w : Cluster) (run : raft.World) (members : AreMembers w.ids)
    (shows : Shows choice made w run) (sound : Invariants run) (written : IsRunWritable w.ids run) where
  -- no event
  quiet : (later : Cluster) → Shows choice made later run → Continues choice made later run []
  quiet later is = record {
    lawful = tt;
    shows = is;
    writable = subst (λ (ids : List ℕ). IsRunWritable ids run) (sym shows.members ∙ is.members) written;
  }

  abbrev number : ℕ
  number = w.rows + 1

  module _ (n : ℕ) (listed : In n w.ids) where
    abbrev x : Member
    x = w.member n

    -- ---- a step

    module _ (event : Event) (on_bus : IsOnTheBus event) (may : (t : AllocatorState) → x.status ≡ Up t → MayHappen w.frames t event) where
      abbrev later : Cluster
      later = record (with_step w n event) { rows = number }

      by_puts : (t : AllocatorState) → x.status ≡ Up t → (b : Bool) → let step_state = (step t number event).step_state in are_put (puts_of x step_state) x.disk.calls ≡ b
          → Continues choice (if b then transfers_of_offers number n step_state.offers made else made) later run
          (if b then Steps n number step_state.moves (messages number step_state) ∷ [] else cut_events choice w.ids n number x t step_state)
      by_puts t runs true done =
          let r = laws.finished choice made w run members shows sound written n t event listed runs (may t runs) on_bus done in
          record { lawful = (r.0, tt); shows = r.2; writable = r.1 }
      by_puts t runs false failed =
          let r = laws.cut_off choice made w run members shows sound written n t event listed runs (may t runs) on_bus failed in
          subst (λ (events : List raft.Event). Continues choice made later run events) (sym r.1)
          (record { lawful = (r.2, tt); shows = r.4; writable = r.3 })

      -- a member that failed takes no step
      by_member_status : (status : MemberStatus) → x.status ≡ status → is_running status ≡ true
          → Continues choice (transfers_of_step number n event status x made) later run (step_events choice w.ids n number event status x)
      by_member_status Down e running = absurd (cc (running))
      by_member_status (Up t) e running = by_puts t e (are_put (puts_of x (step t number event).step_state) x.disk.calls) refl
      by_member_status (Failed failure) e running = quiet later
          (subst (λ (y : Member). Shows choice made (record w { member = at w.member n y; rows = number }) run)
          (sym (ap (λ (status : MemberStatus). member_after_step number event status x) e)) (changed_shown choice made w run shows n x (shows.lives n)))

      step_row : is_running x.status ≡ true
          → Continues choice (transfers_of_step number n event x.status x made) later run (step_events choice w.ids n number event x.status x)
      step_row running = by_member_status x.status refl running

    -- ---- an opening

    open_row : (told : Bool) (ms word : ℕ) → x.status ≡ Down → (b : Bool) → is_open_on x.disk ≡ b
        → Continues choice made (after_row w (Open n told ms word)) run (if b then Opens n ∷ [] else [])
    open_row told ms word down true opens = let r = laws.opened choice made w run members shows written n told ms word listed down opens in
        record { lawful = (r.0, tt); shows = r.2; writable = r.1 }
    open_row told ms word down false fails = quiet (after_row w (Open n told ms word)) (laws.not_opened choice made w run members shows n told ms word listed down fails)

    -- ---- a stop at once

    stop_row : (pattern : Pattern) → RowAgreesWithDisk choice w (Crash n 0 pattern) → (status : MemberStatus) → x.status ≡ status → is_running status ≡ true
        → Continues choice made (after_row w (Crash n 0 pattern)) run (stop_events n number status)
    stop_row pattern fits Down e running = absurd (cc (running))
    stop_row pattern fits (Up t) e running = let r = laws.stopped choice made w run shows written n pattern listed t e in
        record { lawful = (r.0, tt); shows = r.2; writable = r.1 }
    stop_row pattern fits (Failed failure) e running = quiet (after_row w (Crash n 0 pattern))
        (laws.failed_stopped choice made w run shows n pattern listed failure e fits)

  abbrev Goes : Row → Type 0
  Goes row = Continues choice (transfers_of_row w row made) (after_row w row) run (row_events choice w row)

  tick_row : (n ms word : ℕ) → cause w (Tick n ms word) ≡ None → Goes (Tick n ms word)
  tick_row n ms word lawful =
      let first = past_first (no_node w n) (not_running w n) lawful in
      step_row n (is_one w n first.0) (tick_of ms word) tt (λ t runs. may_tick w t ms word) (is_up (w.member n).status first.1)

  rx_row : (n k ms : ℕ) → DoesNoHarm w (Rx n k ms) → Goes (Rx n k ms)
  rx_row n k ms harmless =
      let is = is_received w n k ms harmless in
      step_row n is.listed (receipt_of w k ms) (shows.narrow (frame_at w.frames k) is.there) (λ t runs. may_receive w n k ms t is runs) is.running

  crash_row : (n calls : ℕ) (pattern : Pattern) → cause w (Crash n calls pattern) ≡ None → RowAgreesWithDisk choice w (Crash n calls pattern)
      → Goes (Crash n calls pattern)
  crash_row n calls pattern lawful fits = elim (tell (calls == 0)) [
    | inl e ↦ subst (λ (c : ℕ). cause w (Crash n c pattern) ≡ None → RowAgreesWithDisk choice w (Crash n c pattern) → Goes (Crash n c pattern))
        (sym (eqb_is calls 0 e)) at_once lawful fits
    | inr e ↦ subst (λ (b : Bool). Continues choice made (after_row w (Crash n calls pattern)) run (if b then stop_events n number (w.member n).status else []))
        (sym e) (quiet (after_row w (Crash n calls pattern)) (laws.stop_armed choice made w run shows n calls pattern e))
  ]
    where
      at_once : cause w (Crash n 0 pattern) ≡ None → RowAgreesWithDisk choice w (Crash n 0 pattern) → Goes (Crash n 0 pattern)
      at_once lawful fits = let first = past_first (no_node w n) (not_running w n) lawful in
          stop_row n (is_one w n first.0) pattern fits (w.member n).status refl (is_up (w.member n).status first.1)

  pub row_shown : (row : Row) → DoesNoHarm w row → RowAgreesWithDisk choice w row → Goes row
  row_shown (Open n told ms word) harmless fits =
      let first = past_first (no_node w n) (already_running w n) (is_lawful (cause w (Open n told ms word)) harmless) in
      open_row n (is_one w n first.0) told ms word (is_down (w.member n).status first.1) (is_open_on (w.member n).disk) refl
  row_shown (Tick n ms word) harmless fits = tick_row n ms word (is_lawful (cause w (Tick n ms word)) harmless)
  row_shown (Rx n k ms) harmless fits = rx_row n k ms harmless
  row_shown (Send n) harmless fits = quiet (after_row w (Send n)) (laws.sent choice made w run members shows n (is_lawful (cause w (Send n)) harmless))
  row_shown (Ext frame) harmless fits = quiet (after_row w (Ext frame)) (laws.outside choice made w run shows frame (is_lawful (cause w (Ext frame)) harmless))
  row_shown (Crash n calls pattern) harmless fits = crash_row n calls pattern (is_lawful (cause w (Crash n calls pattern)) harmless) fits
  row_shown (Fault n call) harmless fits = quiet (after_row w (Fault n call)) (laws.failure_armed choice made w run shows n call)
  row_shown (AOpen a uid pref ms word) harmless fits = quiet (after_row w (AOpen a uid pref ms word)) (laws.came choice made w run shows a uid pref ms word)
  row_shown (ATick a ms word) harmless fits = quiet (after_row w (ATick a ms word)) (laws.ticked choice made w run members shows a ms word)
  row_shown (ARx a k ms word) harmless fits = quiet (after_row w (ARx a k ms word))
      (laws.received choice made w run members shows a k ms word (is_lawful (cause w (ARx a k ms word)) harmless))
  row_shown (ASend a) harmless fits = quiet (after_row w (ASend a)) (laws.put choice made w run shows a (is_lawful (cause w (ASend a)) harmless))
  row_shown (AEnd a) harmless fits = quiet (after_row w (AEnd a)) (laws.left choice made w run shows a)
