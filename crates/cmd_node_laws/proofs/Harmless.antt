-- The rows of what happens under the premises do no harm, and leave a world in which nothing is set to fail.
use Rattle.std.proofs.Common.{◌≡◌, ℕ, ◌+◌, false, List, [], ◌∷◌, ◌++◌, length, refl, sym, ap, subst, ◌∙◌, inl, Option, None, Some}
use Rattle.can_frame.specs.declared.frame.Frame.{Frame}
use Rattle.can_frame.specs.Identifier.{identifier_of}
use Rattle.bus_rows.specs.declared.row.Row.{Row}
use Rattle.bus_rows.specs.declared.row.Row.TheVariants.{Ext, Rx, Send, Tick}
use Rattle.transfer_rx.specs.Reassembly.{Arrival, Delivery, Setting, answer}
use Rattle.transfer_rx.specs.Reassembly.Answer.{Gives}
use Rattle.transfer_rx.specs.Sessions.{Session}
use Rattle.transfer_rx.specs.Sound.{IsDelivered}
use Rattle.transfer_tx.specs.Queue.{Queued, next_out}
use Rattle.alloc_spec.specs.Step.{after_pop}
use Rattle.alloc_spec.specs.AllocatorState.{AllocatorState}
use Rattle.bus_spec.specs.Cluster.{Cluster, after_rows, arrival_at, frame_at, from_outside, after_row, receipt_of, tick_of}
use Rattle.bus_spec.specs.Lawful.{DoNoHarm, IsHarmlessAt, is_forged, arrival_refusal, no_such_frame}
use Rattle.bus_spec.specs.Members.{next_frame}
use Rattle.cmd_node_laws.specs.Traces.{Came, FromElsewhere, MayOccur, Silence, RowsFrom, Turns, WasSent, came_rows, out_rows, rows_of, send_if, rows_then}
use Rattle.cmd_node_laws.specs.Mirrored.{AreCalm}
use Rattle.cmd_node_laws.proofs.Foreign.{foreign_fine}
use Rattle.cmd_node_laws.proofs.Places.{after_both, harmless_both}
use Rattle.cmd_node_laws.proofs.Rows.{Runs, ext_frame, ext_lawful, ext_there, step_state_of, rx_harmless, send_lawful, send_leaves, send_world, step_leaves, step_world, tick_lawful}

-- rows that do no harm at a member that runs, which runs when they are over
pub record Goes (n : ℕ) (w : Cluster) (rows : List Row) : Type 0 where
  pub harmless : DoNoHarm w rows
  pub calm : AreCalm (after_rows w rows)
  pub server : AllocatorState
  pub runs : Runs n (after_rows w rows) server

abbrev pub goes_on : (n : ℕ) (w : Cluster) (first : RowsFrom) (rest : RowsFrom) → Goes n w (first w) → Goes n (after_rows w (first w)) (rest (after_rows w (first w))) → Goes n w (rows_then first rest w)
goes_on n w first rest a b = record {
  harmless = harmless_both w (first w) (rest (after_rows w (first w))) a.harmless b.harmless;
  calm = subst AreCalm (sym (after_both w (first w) (rest (after_rows w (first w))))) b.calm;
  server = b.server;
  runs = subst (λ (v : Cluster). Runs n v b.server) (sym (after_both w (first w) (rest (after_rows w (first w))))) b.runs;
}

module _ (deliveries : (setting : Setting) (sessions : List Session) (arrival : Arrival) (delivery : Delivery) → answer setting sessions arrival ≡ Gives delivery → IsDelivered setting sessions arrival delivery)
    (n : ℕ) where
  abbrev pub tick_goes : (w : Cluster) (moment word : ℕ) (server : AllocatorState) → AreCalm w → Runs n w server → Goes n w (Tick n moment word ∷ [])
  tick_goes w moment word server calm runs =
      let r = step_leaves w n server (tick_of moment word) calm runs in
      let e = sym (step_world w n server (tick_of moment word) calm runs) in
      record {
        harmless = (inl (tick_lawful w n moment word server runs), tt);
        calm = subst AreCalm e r.0;
        server = (step_state_of w server (tick_of moment word)).allocator;
        runs = subst (λ (v : Cluster). Runs n v (step_state_of w server (tick_of moment word)).allocator) e r.1;
      }

  abbrev pub rx_goes : (w : Cluster) (k moment : ℕ) (server : AllocatorState) → AreCalm w → Runs n w server → no_such_frame w k ≡ None
      → IsHarmlessAt (w.member n).status (arrival_at (frame_at w.frames k) moment) → Goes n w (Rx n k moment ∷ [])
  rx_goes w k moment server calm runs there harmless =
      let r = step_leaves w n server (receipt_of w k moment) calm runs in
      let e = sym (step_world w n server (receipt_of w k moment) calm runs) in
      record {
        harmless = (rx_harmless w n k moment server runs there harmless, tt);
        calm = subst AreCalm e r.0;
        server = (step_state_of w server (receipt_of w k moment)).allocator;
        runs = subst (λ (v : Cluster). Runs n v (step_state_of w server (receipt_of w k moment)).allocator) e r.1;
      }

  -- a frame from elsewhere, at the end of the bus
  pub foreign_judged : (w : Cluster) (frame : Frame) (moment : ℕ) (server : AllocatorState) → Runs n w server → is_forged w.ids (identifier_of frame.id) ≡ false
      → arrival_refusal (w.member n).status (arrival_at (frame_at (w.frames ++ from_outside frame.id frame.bytes.items ∷ []) (length w.frames + 1)) moment) ≡ None
  foreign_judged w frame moment server runs foreign =
      (λ i. arrival_refusal (runs.up i) (arrival_at (ext_frame w.frames (from_outside frame.id frame.bytes.items) i) moment))
      ∙ foreign_fine deliveries w.ids server (arrival_at (from_outside frame.id frame.bytes.items) moment) refl foreign

  abbrev pub came_goes : (w : Cluster) (moment : ℕ) (came : Came) (server : AllocatorState) → AreCalm w → Runs n w server → MayOccur n moment came w → Goes n w (came_rows n moment came w)
  came_goes w moment Silence server calm runs may = record { harmless = tt; calm = calm; server = server; runs = runs }
  came_goes w moment (WasSent k) server calm runs may = rx_goes w k moment server calm runs may.0 may.1
  came_goes w moment (FromElsewhere frame) server calm runs may =
      let out : Cluster = after_row w (Ext frame) in
      let on = rx_goes out (length w.frames + 1) moment server calm (record { member = runs.member; up = runs.up }) (ext_there w frame) (inl (foreign_judged w frame moment server runs may)) in
      record { harmless = (inl (ext_lawful w frame may), on.harmless); calm = on.calm; server = on.server; runs = on.runs }

  abbrev pub none_goes : (w : Cluster) (server : AllocatorState) → AreCalm w → Runs n w server → Goes n w []
  none_goes w server calm runs = record { harmless = tt; calm = calm; server = server; runs = runs }

  abbrev pub send_goes : (w : Cluster) (server : AllocatorState) (frame : Queued) → AreCalm w → Runs n w server → next_out server.queue ≡ Some frame → Goes n w (Send n ∷ [])
  send_goes w server frame calm runs e =
      let r = send_leaves w n server frame calm runs in
      let same = sym (send_world w n server frame runs e) in
      record {
        harmless = (inl (send_lawful w n server frame runs e), tt);
        calm = subst AreCalm same r.0;
        server = after_pop server;
        runs = subst (λ (v : Cluster). Runs n v (after_pop server)) same r.1;
      }

  pub out_goes : (w : Cluster) (server : AllocatorState) → AreCalm w → Runs n w server → Goes n w (out_rows n w)
  out_goes w server calm runs = subst (λ (o : Option Queued). Goes n w (send_if n o)) (sym (ap next_frame runs.up)) (by (next_out server.queue) refl)
    where
      by : (o : Option Queued) → next_out server.queue ≡ o → Goes n w (send_if n o)
      by None e = none_goes w server calm runs
      by (Some frame) e = send_goes w server frame calm runs e

  pub turn_goes : (w : Cluster) (moment word : ℕ) (came : Came) (server : AllocatorState) → AreCalm w → Runs n w server → MayOccur n moment came (after_row w (Tick n moment word))
      → Goes n w (rows_of (Turns n moment word came) w)
  turn_goes w moment word came server calm runs may =
      let a = tick_goes w moment word server calm runs in
      let w1 : Cluster = after_row w (Tick n moment word) in
      let b = came_goes w1 moment came a.server a.calm a.runs may in
      let c = out_goes (after_rows w1 (came_rows n moment came w1)) b.server b.calm b.runs in
      goes_on n w (λ v. Tick n moment word ∷ []) (rows_then (came_rows n moment came) (out_rows n)) a
      (goes_on n w1 (came_rows n moment came) (out_rows n) b c)
