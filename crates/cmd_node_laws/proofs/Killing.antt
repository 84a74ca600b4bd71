-- The rows of a member that is killed in a turn.
use Rattle.std.proofs.Common.{◌≡◌, ℕ, suc, ◌+◌, ◌*◌, ◌<◌, Bool, true, false, List, [], ◌∷◌, ◌++◌, length, refl, sym, ap, subst, ◌∙◌, arith, None, Some, inl, inr}
use Rattle.std.specs.Prelude.{not, if◌then◌else◌}
use Rattle.outside.specs.declared.pattern.Pattern.TheVariants.{Old}
use Rattle.outside.specs.declared.received.RawFrame.{RawFrame}
use Rattle.outside.specs.declared.received.Received.{Received}
use Rattle.outside.specs.declared.received.Received.TheVariants.{Frame as Item, Junk, Nothing}
use Rattle.outside.specs.Traffic.{next_item}
use Rattle.cmd_node.specs.Words.{next_words, word_of}
use Rattle.raft_core.specs.StoredPuts.{PutWithOrigin}
use Rattle.raft_log.specs.Stored.{Stored}
use Rattle.bus_rows.specs.declared.row.Row.{Row}
use Rattle.bus_rows.specs.declared.row.Row.TheVariants.{Crash, Ext, Rx, Tick}
use Rattle.transfer_rx.specs.Reassembly.{Arrival, Delivery, Setting, answer}
use Rattle.transfer_rx.specs.Reassembly.Answer.{Gives}
use Rattle.transfer_rx.specs.Sessions.{Session}
use Rattle.transfer_rx.specs.Sound.{IsDelivered}
use Rattle.transfer_tx.specs.Queue.{Queued}
use Rattle.alloc_spec.specs.Delivered.{StepResult}
use Rattle.alloc_spec.specs.StepState.{StepState}
use Rattle.alloc_spec.specs.Step.{Event, step}
use Rattle.alloc_spec.specs.Step.Event.{Rx as Comes}
use Rattle.alloc_spec.specs.AllocatorState.{AllocatorState}
use Rattle.alloc_ghost_erasure.specs.Unmarked.{unmarked_event, unmarked_server}
use Rattle.bus_spec.specs.declared.unlawful.Unlawful.TheVariants.{NoNode}
use Rattle.bus_spec.specs.Cluster.{Cluster, after_rows, arrival_at, frame_at, from_outside, is_member, after_row, receipt_of, tick_of}
use Rattle.bus_spec.specs.Lawful.{DoNoHarm, DoesNoHarm, IsHarmlessAt, because, cause, no_such_frame, not_running, or_else}
use Rattle.bus_spec.specs.Members.{is_running}
use Rattle.cmd_node.specs.Frames.{event_in, is_frame, receipt}
use Rattle.cmd_node.specs.Puts.{heard_puts, step_puts, taken_puts, tick_puts, turn_puts}
use Rattle.cmd_node.specs.Turn.{Turning, turn_after_tick}
use Rattle.cmd_node_laws.specs.Traces.{Came, FromElsewhere, DiesInTurn, MayOccur, Silence, RowsFrom, WasSent, came_rows, rows_of, rows_then, while_running}
use Rattle.cmd_node_laws.specs.Mirrored.{AreCalm, Carries}
use Rattle.cmd_node_laws.proofs.Killed.{IsDead, RunsArmed, arm_leaves, not_zero, step_cut, stop_dead, stored_at}
use Rattle.cmd_node_laws.proofs.Harmless.{foreign_judged}
use Rattle.cmd_node_laws.proofs.Places.{after_both, harmless_both}
use Rattle.cmd_node_laws.proofs.Rows.{Runs, ext_frame, ext_lawful, ext_there, step_state_of, rx_harmless, stop_lawful, tick_lawful}
use Rattle.cmd_node_laws.proofs.Stored.{after_noted, after_some, all_of, some_of_first, some_of_rest}
use Rattle.cmd_node_laws.proofs.Turning.{MarkLaws, puts_as, same_event}

-- rows that do no harm after which the member is dead, and this is stored
pub record Finishes (n : ℕ) (w : Cluster) (rows : List Row) (state : Stored) : Type 0 where
  pub harmless : DoNoHarm w rows
  pub dead : IsDead n (after_rows w rows)
  pub stored : stored_at n (after_rows w rows) ≡ state

pub finishes_on : (n : ℕ) (w : Cluster) (first rest : List Row) (state : Stored) → DoNoHarm w first → Finishes n (after_rows w first) rest state → Finishes n w (first ++ rest) state
finishes_on n w first rest state harmless is = record {
  harmless = harmless_both w first rest harmless is.harmless;
  dead = subst (IsDead n) (sym (after_both w first rest)) is.dead;
  stored = ap (stored_at n) (after_both w first rest) ∙ is.stored;
}

abbrev pub stop_told : ℕ → RowsFrom
stop_told n = while_running n (λ w. Crash n 0 Old ∷ [])

pub running_now : (n : ℕ) (w : Cluster) (server : AllocatorState) (left : ℕ) → RunsArmed n w server left → is_running (w.member n).status ≡ true
running_now n w server left is = ap is_running is.runs.up

pub dead_now : (n : ℕ) (w : Cluster) → IsDead n w → is_running (w.member n).status ≡ false
dead_now n w is = ap is_running is.down

-- ---- at last it stops, if it has not

pub stop_running : (n : ℕ) (w : Cluster) (server : AllocatorState) (left : ℕ) → RunsArmed n w server left → Finishes n w (stop_told n w) (stored_at n w)
stop_running n w server left is =
    subst (λ (b : Bool). Finishes n w (if b then Crash n 0 Old ∷ [] else []) (stored_at n w)) (sym (running_now n w server left is))
    (let r = stop_dead n w server left is in
    record { harmless = (inl (stop_lawful w n is.runs.member (running_now n w server left is)), tt); dead = r.0; stored = r.1 })

pub stop_stopped : (n : ℕ) (w : Cluster) → IsDead n w → Finishes n w (stop_told n w) (stored_at n w)
stop_stopped n w is =
    subst (λ (b : Bool). Finishes n w (if b then Crash n 0 Old ∷ [] else []) (stored_at n w)) (sym (dead_now n w is))
    (record { harmless = tt; dead = is; stored = refl })

pub arm_lawful : (n : ℕ) (w : Cluster) (call : ℕ) → 0 < call → is_member w.ids n ≡ true → cause w (Crash n call Old) ≡ None
arm_lawful n w call some member = λ i. or_else (because NoNode (not (member i))) (if not_zero call some i then not_running w n else None)

pub as_stored : (n : ℕ) (w : Cluster) (rows : List Row) (a b : Stored) → a ≡ b → Finishes n w rows a → Finishes n w rows b
as_stored n w rows a b e is = subst (Finishes n w rows) e is

module _ (marks : MarkLaws)
    (deliveries : (setting : Setting) (sessions : List Session) (arrival : Arrival) (delivery : Delivery) → answer setting sessions arrival ≡ Gives delivery → IsDelivered setting sessions arrival delivery)
    (n : ℕ) where
  server_as : (server allocator : AllocatorState) (row number : ℕ) (e f : Event) → unmarked_server server ≡ unmarked_server allocator → unmarked_event e ≡ unmarked_event f
      → unmarked_server (step server row e).step_state.allocator ≡ unmarked_server (step allocator number f).step_state.allocator
  server_as server allocator row number e f same events = ap (λ (s : StepResult). s.step_state.allocator) (marks.step server allocator row number e f same events)

  -- ---- a frame that comes while so many puts are left

  rx_finishes : (w : Cluster) (k moment : ℕ) (server : AllocatorState) (left : ℕ) (puts : List PutWithOrigin) → RunsArmed n w server left → no_such_frame w k ≡ None
      → IsHarmlessAt (w.member n).status (arrival_at (frame_at w.frames k) moment) → (step_state_of w server (receipt_of w k moment)).puts ≡ puts
      → Finishes n w (Rx n k moment ∷ stop_told n (after_row w (Rx n k moment))) (after_some left puts (stored_at n w))
  rx_finishes w k moment server left puts is there may same = elim (step_cut n w server (receipt_of w k moment) left is) [
    | inl on ↦ finishes_on n w (Rx n k moment ∷ []) (stop_told n w1) (after_some left puts (stored_at n w)) (harmless, tt)
        (as_stored n w1 (stop_told n w1) (stored_at n w1) (after_some left puts (stored_at n w))
        (on.stored ∙ sym (all_of own left (stored_at n w) (omega (arith, on.more_is))) ∙ ap (λ (p : List PutWithOrigin). after_some left p (stored_at n w)) same)
        (stop_running n w1 (step_state_of w server (receipt_of w k moment)).allocator on.more on.runs))
    | inr off ↦ finishes_on n w (Rx n k moment ∷ []) (stop_told n w1) (after_some left puts (stored_at n w)) (harmless, tt)
        (as_stored n w1 (stop_told n w1) (stored_at n w1) (after_some left puts (stored_at n w))
        (off.stored ∙ ap (λ (p : List PutWithOrigin). after_some left p (stored_at n w)) same)
        (stop_stopped n w1 off.dead))
  ]
    where
      w1 : Cluster
      w1 = after_row w (Rx n k moment)

      own : List PutWithOrigin
      own = (step_state_of w server (receipt_of w k moment)).puts

      harmless : DoesNoHarm w (Rx n k moment)
      harmless = rx_harmless w n k moment server is.runs there may

  -- what comes of an item
  abbrev item_puts : ℕ → Received → Turning → List PutWithOrigin
  item_puts moment item t = taken_puts (event_in moment item) t

  of_frame : (raw : RawFrame) (moment : ℕ) (t : Turning) → is_frame raw ≡ true → step_puts (receipt moment raw) t ≡ item_puts moment (Item raw) t
  of_frame raw moment t e = sym (ap (λ (b : Bool). taken_puts (if b then Some (receipt moment raw) else None) t) e)

  of_none : (raw : RawFrame) (moment : ℕ) (t : Turning) → is_frame raw ≡ false → [] ≡ item_puts moment (Item raw) t
  of_none raw moment t e = sym (ap (λ (b : Bool). taken_puts (if b then Some (receipt moment raw) else None) t) e)

  nothing_left : (left : ℕ) (state : Stored) → state ≡ after_some left [] state
  nothing_left left state = sym (all_of [] left state (omega arith))

  silence : (w : Cluster) (server : AllocatorState) (left : ℕ) (puts : List PutWithOrigin) → RunsArmed n w server left → [] ≡ puts
      → Finishes n w (stop_told n w) (after_some left puts (stored_at n w))
  silence w server left puts is same =
      as_stored n w (stop_told n w) (stored_at n w) (after_some left puts (stored_at n w))
      (nothing_left left (stored_at n w) ∙ ap (λ (p : List PutWithOrigin). after_some left p (stored_at n w)) same) (stop_running n w server left is)

  came_finishes : (w : Cluster) (t : Turning) (moment : ℕ) (item : Received) (came : Came) (server : AllocatorState) (left : ℕ) → RunsArmed n w server left
      → unmarked_server server ≡ unmarked_server t.running.allocator → MayOccur n moment came w → Carries w.frames item came
      → Finishes n w (rows_then (came_rows n moment came) (stop_told n) w) (after_some left (item_puts moment item t) (stored_at n w))
  came_finishes w t moment (Item raw) Silence server left is same may carries = silence w server left (item_puts moment (Item raw) t) is (of_none raw moment t carries)
  came_finishes w t moment Junk Silence server left is same may carries = silence w server left [] is refl
  came_finishes w t moment Nothing Silence server left is same may carries = silence w server left [] is refl
  came_finishes w t moment (Item raw) (WasSent k) server left is same may carries =
      rx_finishes w k moment server left (item_puts moment (Item raw) t) is may.0 may.1
      (puts_as marks deliveries n server t.running.allocator (w.rows + 1) (suc (length t.lines)) (receipt_of w k moment) (receipt moment raw) same (same_event marks deliveries n raw (frame_at w.frames k) moment carries)
      ∙ of_frame raw moment t carries.frame)
  came_finishes w t moment (Item raw) (FromElsewhere frame) server left is same may carries =
      finishes_on n w (Ext frame ∷ []) (Rx n (length w.frames + 1) moment ∷ stop_told n (after_row out (Rx n (length w.frames + 1) moment))) (after_some left (item_puts moment (Item raw) t) (stored_at n w)) (inl (ext_lawful w frame may), tt)
      (rx_finishes out (length w.frames + 1) moment server left (item_puts moment (Item raw) t) (record { runs = record { member = is.runs.member; up = is.runs.up }; arm = is.arm; others = is.others })
      (ext_there w frame) (inl (foreign_judged deliveries n w frame moment server is.runs may))
      (puts_as marks deliveries n server t.running.allocator (w.rows + 1 + 1) (suc (length t.lines)) (Comes (arrival_at last moment)) (receipt moment raw) same
      (ap (λ (q : Queued). unmarked_event (Comes (arrival_at q moment))) (ext_frame w.frames outside) ∙ same_event marks deliveries n raw outside moment carries)
      ∙ of_frame raw moment t carries.frame))
    where
      out : Cluster
      out = after_row w (Ext frame)

      outside : Queued
      outside = from_outside frame.id frame.bytes.items

      last : Queued
      last = frame_at (w.frames ++ outside ∷ []) (length w.frames + 1)
  came_finishes w t moment Junk (WasSent k) server left is same may carries = absurd carries
  came_finishes w t moment Junk (FromElsewhere frame) server left is same may carries = absurd carries
  came_finishes w t moment Nothing (WasSent k) server left is same may carries = absurd carries
  came_finishes w t moment Nothing (FromElsewhere frame) server left is same may carries = absurd carries

  -- ---- the whole

  abbrev ticked_rows : ℕ → ℕ → ℕ → List Row
  ticked_rows puts moment word = Crash n (4 * puts + 1) Old ∷ Tick n moment word ∷ []

  pub killed_told : (w : Cluster) (t : Turning) (moment puts : ℕ) (came : Came) (server : AllocatorState) → AreCalm w → Runs n w server → unmarked_server server ≡ unmarked_server t.running.allocator
      → let word = word_of (next_words t.running.words) in let ticked = after_rows w (ticked_rows puts moment word) in
      (is_running (ticked.member n).status ≡ true → MayOccur n moment came ticked) → Carries w.frames (next_item t.running.coming) came
      → Finishes n w (rows_of (DiesInTurn n moment word came puts) w) (after_some puts (turn_puts moment t) (stored_at n w))
  unfolding turn_puts
  killed_told w t moment puts came server calm runs same may carries =
      finishes_on n w (ticked_rows puts moment word) (rows_then (while_running n (came_rows n moment came)) (stop_told n) w2) state
      (inl (arm_lawful n w (4 * puts + 1) (omega arith) runs.member), (inl (tick_lawful w1 n moment word server arm.0.runs), tt))
      (elim (step_cut n w1 server (tick_of moment word) puts arm.0) [
        | inl on ↦
            subst (λ (b : Bool). Finishes n w2 (rows_then (λ v. if b then came_rows n moment came v else []) (stop_told n) w2) state) (sym (running_now n w2 tick.allocator on.more on.runs))
            (as_stored n w2 (rows_then (came_rows n moment came) (stop_told n) w2) (after_some on.more heard (stored_at n w2)) state
            (ap (after_some on.more heard) (on.stored ∙ (λ i. after_noted (ticked i) (arm.1 i)))
            ∙ sym (some_of_rest (tick_puts moment t) heard on.more puts (stored_at n w) (subst (λ (p : List PutWithOrigin). on.more + length p ≡ puts) ticked on.more_is)))
            (came_finishes w2 (turn_after_tick moment t) moment (next_item t.running.coming) came tick.allocator on.more on.runs (server_as server t.running.allocator (w1.rows + 1) (suc (length t.lines)) (tick_of moment word) (tick_of moment word) same refl)
            (may (running_now n w2 tick.allocator on.more on.runs)) carries))
        | inr off ↦
            subst (λ (b : Bool). Finishes n w2 (rows_then (λ v. if b then came_rows n moment came v else []) (stop_told n) w2) state) (sym (dead_now n w2 off.dead))
            (as_stored n w2 (stop_told n w2) (stored_at n w2) state
            (off.stored ∙ (λ i. after_some puts (ticked i) (arm.1 i))
            ∙ sym (some_of_first (tick_puts moment t) heard puts (stored_at n w) (subst (λ (p : List PutWithOrigin). puts < length p) ticked off.few)))
            (stop_stopped n w2 off.dead))
      ])
    where
      word : ℕ
      word = word_of (next_words t.running.words)

      w1 : Cluster
      w1 = after_row w (Crash n (4 * puts + 1) Old)

      w2 : Cluster
      w2 = after_row w1 (Tick n moment word)

      arm : RunsArmed n w1 server puts × (stored_at n w1 ≡ stored_at n w)
      arm = arm_leaves n puts w server calm runs

      tick : StepState
      tick = step_state_of w1 server (tick_of moment word)

      heard : List PutWithOrigin
      heard = heard_puts moment (turn_after_tick moment t)

      ticked : tick.puts ≡ tick_puts moment t
      ticked = puts_as marks deliveries n server t.running.allocator (w1.rows + 1) (suc (length t.lines)) (tick_of moment word) (tick_of moment word) same refl

      state : Stored
      state = after_some puts (tick_puts moment t ++ heard) (stored_at n w)
