-- A turn of an allocator of a process is the rows of a turn: the servers are the same but for marks and the numbers of steps, and
-- the same frame is sent.
use Rattle.std.proofs.Common.{◌≡◌, ℕ, suc, ◌+◌, Bool, true, false, List, [], ◌∷◌, ◌++◌, length, map, take, refl, sym, ap, subst, ◌∙◌, append_assoc, append-nil, Option, None, Some, inl, inr}
use Rattle.std.specs.Prelude.{◌==◌, option_map, unwrap_or, if◌then◌else◌}
use Rattle.std.proofs.lemmas.Bool.Decides.{eqb_tells}
use Rattle.outside.specs.declared.received.RawFrame.{RawFrame}
use Rattle.outside.specs.declared.received.Received.{Received}
use Rattle.outside.specs.declared.received.Received.TheVariants.{Frame as Item, Junk, Nothing}
use Rattle.outside.specs.Traffic.{items_behind, next_item}
use Rattle.cmd_node.specs.Words.{next_words, word_of}
use Rattle.raft_log.specs.Stored.{Stored}
use Rattle.bus_rows.specs.declared.row.Row.{Row}
use Rattle.bus_rows.specs.declared.row.Row.TheVariants.{Ext, Send, Tick}
use Rattle.transfer_rx.specs.Reassembly.{Arrival, Delivery, Setting, answer}
use Rattle.transfer_rx.specs.Reassembly.Answer.{Gives}
use Rattle.transfer_rx.specs.Sessions.{Session}
use Rattle.transfer_rx.specs.Sound.{IsDelivered}
use Rattle.transfer_rx.specs.Unmarked.{no_mark}
use Rattle.transfer_tx.specs.Queue.{Queued, next_out}
use Rattle.alloc_spec.specs.Delivered.{StepResult}
use Rattle.alloc_spec.specs.Step.{Event, after_pop, step}
use Rattle.alloc_spec.specs.Step.Event.{Rx as Comes}
use Rattle.alloc_spec.specs.AllocatorState.{AllocatorState}
use Rattle.alloc_ghost_erasure.specs.Unmarked.{unmarked_event, unmarked_frame, unmarked_server, unmarked_step_result}
use Rattle.bus_spec.specs.Cluster.{Cluster, after_rows, arrival_at, frame_at, from_outside, in_list, after_row, receipt_of, tick_of}
use Rattle.bus_spec.specs.Members.{Member, next_frame}
use Rattle.bus_spec.specs.Members.MemberStatus.{Up}
use Rattle.cmd_node.specs.Frames.{event_in, is_frame, raw_of, receipt}
use Rattle.cmd_node.specs.Turn.{Running, Turning, turn_after_hearing, turn_after_step, turn_after_sending, turn_after_frame, turn_after_taking, turn_after_tick, turn}
use Rattle.cmd_node_laws.specs.Traces.{Came, FromElsewhere, MayOccur, Silence, RowsFrom, Turns, WasSent, came_rows, out_rows, rows_of, send_if, rows_then}
use Rattle.cmd_node_laws.specs.Mirrored.{AreCalm, Carries, IsOnLink, raw_by}
use Rattle.cmd_node_laws.proofs.Harmless.{Goes, came_goes, goes_on, send_goes, tick_goes}
use Rattle.cmd_node_laws.proofs.Places.{after_both, own_is, sent_both}
use Rattle.cmd_node_laws.proofs.Rows.{Runs, after_event, ext_frame, send_world, step_stored}
use Rattle.cmd_node_laws.proofs.Stored.{after_noted}

pub record MarkLaws : Type 0 where
  pub step : (t u : AllocatorState) (m n : ℕ) (e f : Event) → unmarked_server t ≡ unmarked_server u → unmarked_event e ≡ unmarked_event f → unmarked_step_result (step t m e) ≡ unmarked_step_result (step u n f)
  pub popped : (t u : AllocatorState) → unmarked_server t ≡ unmarked_server u → unmarked_server (after_pop t) ≡ unmarked_server (after_pop u)
  pub next : (t u : AllocatorState) → unmarked_server t ≡ unmarked_server u → option_map unmarked_frame (next_out t.queue) ≡ option_map unmarked_frame (next_out u.queue)

-- rows at a member that runs are what an allocator does from r to s
pub record Tells (n : ℕ) (w : Cluster) (rows : List Row) (r s : Running) : Type 0 where
  pub goes : Goes n w rows
  pub same : unmarked_server goes.server ≡ unmarked_server s.allocator
  pub sent : s.sent ≡ r.sent ++ raw_by n w rows
  pub stored : (w.member n).disk.store ≡ r.stored → ((after_rows w rows).member n).disk.store ≡ s.stored

pub tells_on : (n : ℕ) (w : Cluster) (first rest : RowsFrom) (r s u : Running) → Tells n w (first w) r s → Tells n (after_rows w (first w)) (rest (after_rows w (first w))) s u
    → Tells n w (rows_then first rest w) r u
tells_on n w first rest r s u a b = record {
  goes = goes_on n w first rest a.goes b.goes;
  same = b.same;
  sent = b.sent ∙ ap (λ (l : List RawFrame). l ++ raw_by n (after_rows w (first w)) (rest (after_rows w (first w)))) a.sent
      ∙ append_assoc r.sent (raw_by n w (first w)) (raw_by n (after_rows w (first w)) (rest (after_rows w (first w))))
      ∙ ap (λ (l : List RawFrame). r.sent ++ l) (sym (sent_both n w (first w) (rest (after_rows w (first w)))));
  stored = λ is. ap (λ (v : Cluster). (v.member n).disk.store) (after_both w (first w) (rest (after_rows w (first w)))) ∙ b.stored (a.stored is);
}

module _ (marks : MarkLaws)
    (deliveries : (setting : Setting) (sessions : List Session) (arrival : Arrival) (delivery : Delivery) → answer setting sessions arrival ≡ Gives delivery → IsDelivered setting sessions arrival delivery)
    (n : ℕ) where
  -- the same step
  step_as : (server allocator : AllocatorState) (row number : ℕ) (e f : Event) → unmarked_server server ≡ unmarked_server allocator → unmarked_event e ≡ unmarked_event f
      → unmarked_server (step server row e).step_state.allocator ≡ unmarked_server (step allocator number f).step_state.allocator
  step_as server allocator row number e f same events = ap (λ (s : StepResult). s.step_state.allocator) (marks.step server allocator row number e f same events)

  -- the same puts
  pub puts_as : (server allocator : AllocatorState) (row number : ℕ) (e f : Event) → unmarked_server server ≡ unmarked_server allocator → unmarked_event e ≡ unmarked_event f
      → (step server row e).step_state.puts ≡ (step allocator number f).step_state.puts
  puts_as server allocator row number e f same events = ap (λ (s : StepResult). s.step_state.puts) (marks.step server allocator row number e f same events)

  -- so the same is stored
  stored_as : (w : Cluster) (server allocator : AllocatorState) (number : ℕ) (e f : Event) (stored : Stored) → AreCalm w → Runs n w server
      → unmarked_server server ≡ unmarked_server allocator → unmarked_event e ≡ unmarked_event f → (w.member n).disk.store ≡ stored
      → ((after_event n w e).member n).disk.store ≡ after_noted (step allocator number f).step_state.puts stored
  stored_as w server allocator number e f stored calm runs same events is =
      step_stored w n server e calm runs ∙ (λ i. after_noted (puts_as server allocator (w.rows + 1) number e f same events i) (is i))

  tick_told : (w : Cluster) (t : Turning) (moment : ℕ) (server : AllocatorState) → AreCalm w → Runs n w server → unmarked_server server ≡ unmarked_server t.running.allocator
      → Tells n w (Tick n moment (word_of (next_words t.running.words)) ∷ []) t.running (turn_after_tick moment t).running
  tick_told w t moment server calm runs same = record {
    goes = tick_goes deliveries n w moment (word_of (next_words t.running.words)) server calm runs;
    same = step_as server t.running.allocator (w.rows + 1) (suc (length t.lines)) (tick_of moment word) (tick_of moment word) same refl;
    sent = sym (append-nil t.running.sent);
    stored = stored_as w server t.running.allocator (suc (length t.lines)) (tick_of moment word) (tick_of moment word) t.running.stored calm runs same refl;
  }
    where
      word : ℕ
      word = word_of (next_words t.running.words)

  -- the frame as it comes
  pub same_event : (raw : RawFrame) (frame : Queued) (moment : ℕ) → IsOnLink raw frame.id frame.bytes → unmarked_event (Comes (arrival_at frame moment)) ≡ unmarked_event (receipt moment raw)
  same_event raw frame moment is = λ i. Comes (record { id = id i; bytes = bytes i; mark = no_mark; moment = moment })
    where
      id : frame.id ≡ raw.id
      id = sym is.id_is

      bytes : frame.bytes ≡ take raw.len raw.bytes
      bytes = sym is.bytes_are

  -- what comes of an item
  abbrev item_turn : ℕ → Received → Turning → Turning
  item_turn moment item t = turn_after_taking (event_in moment item) t

  taken_step : (raw : RawFrame) (moment : ℕ) (t : Turning) → is_frame raw ≡ true → item_turn moment (Item raw) t ≡ turn_after_step (receipt moment raw) t
  taken_step raw moment t e = ap (λ (b : Bool). turn_after_taking (if b then Some (receipt moment raw) else None) t) e

  no_step : (raw : RawFrame) (moment : ℕ) (t : Turning) → is_frame raw ≡ false → item_turn moment (Item raw) t ≡ t
  no_step raw moment t e = ap (λ (b : Bool). turn_after_taking (if b then Some (receipt moment raw) else None) t) e

  nothing_told : (w : Cluster) (r : Running) (server : AllocatorState) → AreCalm w → Runs n w server → unmarked_server server ≡ unmarked_server r.allocator → Tells n w [] r r
  nothing_told w r server calm runs same = record {
    goes = record { harmless = tt; calm = calm; server = server; runs = runs };
    same = same;
    sent = sym (append-nil r.sent);
    stored = λ is. is;
  }

  came_told : (w : Cluster) (t : Turning) (moment : ℕ) (item : Received) (came : Came) (server : AllocatorState) → AreCalm w → Runs n w server → unmarked_server server ≡ unmarked_server t.running.allocator
      → MayOccur n moment came w → Carries w.frames item came → Tells n w (came_rows n moment came w) t.running (item_turn moment item t).running
  came_told w t moment (Item raw) Silence server calm runs same may carries =
      subst (λ (u : Turning). Tells n w [] t.running u.running) (sym (no_step raw moment t carries)) (nothing_told w t.running server calm runs same)
  came_told w t moment Junk Silence server calm runs same may carries = nothing_told w t.running server calm runs same
  came_told w t moment Nothing Silence server calm runs same may carries = nothing_told w t.running server calm runs same
  came_told w t moment (Item raw) (WasSent k) server calm runs same may carries =
      subst (λ (u : Turning). Tells n w (came_rows n moment (WasSent k) w) t.running u.running) (sym (taken_step raw moment t carries.frame)) (record {
        goes = came_goes deliveries n w moment (WasSent k) server calm runs may;
        same = step_as server t.running.allocator (w.rows + 1) (suc (length t.lines)) (receipt_of w k moment) (receipt moment raw) same (same_event raw (frame_at w.frames k) moment carries);
        sent = sym (append-nil t.running.sent);
        stored = stored_as w server t.running.allocator (suc (length t.lines)) (receipt_of w k moment) (receipt moment raw) t.running.stored calm runs same
            (same_event raw (frame_at w.frames k) moment carries);
      })
  came_told w t moment (Item raw) (FromElsewhere frame) server calm runs same may carries =
      subst (λ (u : Turning). Tells n w (came_rows n moment (FromElsewhere frame) w) t.running u.running) (sym (taken_step raw moment t carries.frame)) (record {
        goes = came_goes deliveries n w moment (FromElsewhere frame) server calm runs may;
        same = step_as server t.running.allocator (w.rows + 1 + 1) (suc (length t.lines)) (Comes (arrival_at last moment)) (receipt moment raw) same events;
        sent = sym (append-nil t.running.sent);
        stored = stored_as (after_row w (Ext frame)) server t.running.allocator (suc (length t.lines)) (Comes (arrival_at last moment)) (receipt moment raw) t.running.stored
            calm (record { member = runs.member; up = runs.up }) same events;
      })
    where
      outside : Queued
      outside = from_outside frame.id frame.bytes.items

      last : Queued
      last = frame_at (w.frames ++ outside ∷ []) (length w.frames + 1)

      events : unmarked_event (Comes (arrival_at last moment)) ≡ unmarked_event (receipt moment raw)
      events = ap (λ (q : Queued). unmarked_event (Comes (arrival_at q moment))) (ext_frame w.frames outside) ∙ same_event raw outside moment carries
  came_told w t moment Junk (WasSent k) server calm runs same may carries = absurd carries
  came_told w t moment Junk (FromElsewhere frame) server calm runs same may carries = absurd carries
  came_told w t moment Nothing (WasSent k) server calm runs same may carries = absurd carries
  came_told w t moment Nothing (FromElsewhere frame) server calm runs same may carries = absurd carries

  -- ---- the next frame goes out

  out_sent : (w : Cluster) (server : AllocatorState) (frame : Queued) → Runs n w server → next_out server.queue ≡ Some frame → raw_by n w (Send n ∷ []) ≡ raw_of frame ∷ []
  out_sent w server frame runs e = λ i. map raw_of ((if own i then in_list (out i) else []) ++ [])
    where
      own : (n == n) ≡ true
      own = elim (eqb_tells n n) [ inl same ↦ same.0 | inr apart ↦ absurd (apart.1 refl) ]

      out : next_frame (w.member n).status ≡ Some frame
      out = ap next_frame runs.up ∙ e

  both_out : (w : Cluster) (t : Turning) (server : AllocatorState) → AreCalm w → Runs n w server → unmarked_server server ≡ unmarked_server t.running.allocator
      → (o p : Option Queued) → next_out server.queue ≡ o → option_map unmarked_frame o ≡ option_map unmarked_frame p
      → Tells n w (send_if n o) t.running (turn_after_frame p t).running
  both_out w t server calm runs same None None e f = nothing_told w t.running server calm runs same
  both_out w t server calm runs same None (Some frame) e f = absurd (cc (f))
  both_out w t server calm runs same (Some frame) None e f = absurd (cc (f))
  both_out w t server calm runs same (Some frame) (Some other) e f = record {
    goes = send_goes deliveries n w server frame calm runs e;
    same = marks.popped server t.running.allocator same;
    sent = ap (λ (l : List RawFrame). t.running.sent ++ l) (sym (out_sent w server frame runs e ∙ ap (λ (q : Queued). raw_of q ∷ []) alike));
    stored = λ is.
        ap (λ (v : Cluster). (v.member n).disk.store) (send_world w n server frame runs e)
        ∙ ap (λ (x : Member). x.disk.store) (own_is w n (record (w.member n) { status = Up (after_pop server) })) ∙ is;
  }
    where
      alike : unmarked_frame frame ≡ unmarked_frame other
      alike = ap (λ (o : Option Queued). unwrap_or o frame) f

  out_told : (w : Cluster) (t : Turning) (server : AllocatorState) → AreCalm w → Runs n w server → unmarked_server server ≡ unmarked_server t.running.allocator
      → Tells n w (out_rows n w) t.running (turn_after_sending t).running
  out_told w t server calm runs same =
      subst (λ (o : Option Queued). Tells n w (send_if n o) t.running (turn_after_sending t).running) (sym (ap next_frame runs.up))
      (both_out w t server calm runs same (next_out server.queue) (next_out t.running.allocator.queue) refl (marks.next server t.running.allocator same))

  -- ---- the whole turn

  pub turn_told : (w : Cluster) (t : Turning) (moment : ℕ) (came : Came) (server : AllocatorState) → AreCalm w → Runs n w server → unmarked_server server ≡ unmarked_server t.running.allocator
      → let word = word_of (next_words t.running.words) in
      MayOccur n moment came (after_row w (Tick n moment word)) → Carries w.frames (next_item t.running.coming) came
      → Tells n w (rows_of (Turns n moment word came) w) t.running (turn moment t).running
  unfolding turn
  turn_told w t moment came server calm runs same may carries =
      tells_on n w (λ v. Tick n moment word ∷ []) (rows_then (came_rows n moment came) (out_rows n)) t.running (turn_after_tick moment t).running (turn_after_sending (turn_after_hearing moment (turn_after_tick moment t))).running a
      (tells_on n w1 (came_rows n moment came) (out_rows n) (turn_after_tick moment t).running (turn_after_hearing moment (turn_after_tick moment t)).running (turn_after_sending (turn_after_hearing moment (turn_after_tick moment t))).running b c)
    where
      word : ℕ
      word = word_of (next_words t.running.words)

      w1 : Cluster
      w1 = after_row w (Tick n moment word)

      a : Tells n w (Tick n moment word ∷ []) t.running (turn_after_tick moment t).running
      a = tick_told w t moment server calm runs same

      behind : Turning
      behind = record (turn_after_tick moment t) { running = record (turn_after_tick moment t).running { coming = items_behind t.running.coming } }

      b' : Tells n w1 (came_rows n moment came w1) behind.running (turn_after_hearing moment (turn_after_tick moment t)).running
      b' = came_told w1 behind moment (next_item t.running.coming) came a.goes.server a.goes.calm a.goes.runs a.same may carries

      b : Tells n w1 (came_rows n moment came w1) (turn_after_tick moment t).running (turn_after_hearing moment (turn_after_tick moment t)).running
      b = record { goes = b'.goes; same = b'.same; sent = b'.sent; stored = b'.stored }

      c : Tells n (after_rows w1 (came_rows n moment came w1)) (out_rows n (after_rows w1 (came_rows n moment came w1))) (turn_after_hearing moment (turn_after_tick moment t)).running (turn_after_sending (turn_after_hearing moment (turn_after_tick moment t))).running
      c = out_told (after_rows w1 (came_rows n moment came w1)) (turn_after_hearing moment (turn_after_tick moment t)) b.goes.server b.goes.calm b.goes.runs b.same
