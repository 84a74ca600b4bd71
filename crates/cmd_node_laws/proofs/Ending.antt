-- All that happens under the premises does no harm, and leaves disks of which nothing is set to fail.
use Rattle.std.proofs.Common.{◌≡◌, ℕ, ◌+◌, ◌*◌, Bool, true, List, [], ◌∷◌, ◌++◌, length, refl, sym, subst, arith, None, inl, inr}
use Rattle.std.specs.Prelude.{if◌then◌else◌}
use Rattle.outside.specs.declared.pattern.Pattern.TheVariants.{Old}
use Rattle.raft_log.specs.Stored.{Stored}
use Rattle.bus_rows.specs.declared.row.Row.{Row}
use Rattle.bus_rows.specs.declared.row.Row.TheVariants.{Crash, Ext, Rx, Tick}
use Rattle.transfer_rx.specs.Reassembly.{Arrival, Delivery, Setting, answer}
use Rattle.transfer_rx.specs.Reassembly.Answer.{Gives}
use Rattle.transfer_rx.specs.Sessions.{Session}
use Rattle.transfer_rx.specs.Sound.{IsDelivered}
use Rattle.alloc_spec.specs.AllocatorState.{AllocatorState}
use Rattle.bus_spec.specs.Cluster.{Cluster, after_rows, arrival_at, cluster, frame_at, after_row, receipt_of, tick_of}
use Rattle.bus_spec.specs.Lawful.{DoNoHarm, IsHarmlessAt, cause, no_such_frame}
use Rattle.bus_spec.specs.Members.{is_running}
use Rattle.cmd_node_laws.specs.Traces.{Came, Event, FromElsewhere, DiesInTurn, DiesAtOpening, MayAllHappen, MayOccur, MayHappen, OfOthers, Opens, Silence, Stops, Turns, WasSent, all_rows, came_rows, rows_of, rows_then, while_running}
use Rattle.cmd_node_laws.specs.Mirrored.{AreCalm, IsCalm}
use Rattle.cmd_node_laws.proofs.Killed.{RunsArmed, arm_leaves, step_cut, stored_at}
use Rattle.cmd_node_laws.proofs.Killing.{Finishes, arm_lawful, dead_now, finishes_on, running_now, stop_running, stop_stopped, stop_told}
use Rattle.cmd_node_laws.proofs.Harmless.{foreign_judged, turn_goes}
use Rattle.cmd_node_laws.proofs.OpeningKilled.{opening_killed}
use Rattle.cmd_node_laws.proofs.Others.{others_stay}
use Rattle.cmd_node_laws.proofs.Places.{after_both, harmless_both}
use Rattle.cmd_node_laws.proofs.Rows.{Runs, ext_lawful, ext_there, step_state_of, open_lawful, open_leaves, open_world, runs_it, rx_harmless, stop_lawful, stop_leaves, tick_lawful}

-- rows that do no harm and leave calm disks
pub record AreFine (w : Cluster) (rows : List Row) : Type 0 where
  pub harmless : DoNoHarm w rows
  pub calm : AreCalm (after_rows w rows)

abbrev Finish : ℕ → Cluster → List Row → Type 0
Finish n w rows = (state : Stored) × Finishes n w rows state

finish_on : (n : ℕ) (w : Cluster) (first rest : List Row) → DoNoHarm w first → Finish n (after_rows w first) rest → Finish n w (first ++ rest)
finish_on n w first rest harmless is = (is.0, finishes_on n w first rest is.0 harmless is.1)

module _ (deliveries : (setting : Setting) (sessions : List Session) (arrival : Arrival) (delivery : Delivery) → answer setting sessions arrival ≡ Gives delivery → IsDelivered setting sessions arrival delivery) where
  rx_ends : (n : ℕ) (w : Cluster) (k moment : ℕ) (server : AllocatorState) (left : ℕ) → RunsArmed n w server left → no_such_frame w k ≡ None
      → IsHarmlessAt (w.member n).status (arrival_at (frame_at w.frames k) moment) → Finish n w (Rx n k moment ∷ stop_told n (after_row w (Rx n k moment)))
  rx_ends n w k moment server left is there harmless =
      finish_on n w (Rx n k moment ∷ []) (stop_told n w1) (rx_harmless w n k moment server is.runs there harmless, tt) (elim (step_cut n w server (receipt_of w k moment) left is) [
        | inl on ↦ (stored_at n w1, stop_running n w1 (step_state_of w server (receipt_of w k moment)).allocator on.more on.runs)
        | inr off ↦ (stored_at n w1, stop_stopped n w1 off.dead)
      ])
    where
      w1 : Cluster
      w1 = after_row w (Rx n k moment)

  came_ends : (n : ℕ) (w : Cluster) (moment : ℕ) (came : Came) (server : AllocatorState) (left : ℕ) → RunsArmed n w server left → MayOccur n moment came w
      → Finish n w (rows_then (came_rows n moment came) (stop_told n) w)
  came_ends n w moment Silence server left is may = (stored_at n w, stop_running n w server left is)
  came_ends n w moment (WasSent k) server left is may = rx_ends n w k moment server left is may.0 may.1
  came_ends n w moment (FromElsewhere frame) server left is may =
      let out : Cluster = after_row w (Ext frame) in
      finish_on n w (Ext frame ∷ []) (Rx n (length w.frames + 1) moment ∷ stop_told n (after_row out (Rx n (length w.frames + 1) moment))) (inl (ext_lawful w frame may), tt)
      (rx_ends n out (length w.frames + 1) moment server left (record { runs = record { member = is.runs.member; up = is.runs.up }; arm = is.arm; others = is.others })
      (ext_there w frame) (inl (foreign_judged deliveries n w frame moment server is.runs may)))

  killed_ends : (n : ℕ) (w : Cluster) (moment word puts : ℕ) (came : Came) (server : AllocatorState) → AreCalm w → Runs n w server
      → (let ticked = after_rows w (Crash n (4 * puts + 1) Old ∷ Tick n moment word ∷ []) in is_running (ticked.member n).status ≡ true → MayOccur n moment came ticked)
      → Finish n w (rows_of (DiesInTurn n moment word came puts) w)
  killed_ends n w moment word puts came server calm runs may =
      finish_on n w (Crash n (4 * puts + 1) Old ∷ Tick n moment word ∷ []) (rows_then (while_running n (came_rows n moment came)) (stop_told n) w2)
      (inl arm_lawful_one, (inl (tick_lawful w1 n moment word server arm.0.runs), tt))
      (elim (step_cut n w1 server (tick_of moment word) puts arm.0) [
        | inl on ↦
            subst (λ (b : Bool). Finish n w2 (rows_then (λ v. if b then came_rows n moment came v else []) (stop_told n) w2)) (sym (running_now n w2 (step_state_of w1 server (tick_of moment word)).allocator on.more on.runs))
            (came_ends n w2 moment came (step_state_of w1 server (tick_of moment word)).allocator on.more on.runs (may (running_now n w2 (step_state_of w1 server (tick_of moment word)).allocator on.more on.runs)))
        | inr off ↦
            subst (λ (b : Bool). Finish n w2 (rows_then (λ v. if b then came_rows n moment came v else []) (stop_told n) w2)) (sym (dead_now n w2 off.dead))
            (stored_at n w2, stop_stopped n w2 off.dead)
      ])
    where
      w1 : Cluster
      w1 = after_row w (Crash n (4 * puts + 1) Old)

      w2 : Cluster
      w2 = after_row w1 (Tick n moment word)

      arm : RunsArmed n w1 server puts × (stored_at n w1 ≡ stored_at n w)
      arm = arm_leaves n puts w server calm runs

      arm_lawful_one : cause w (Crash n (4 * puts + 1) Old) ≡ None
      arm_lawful_one = arm_lawful n w (4 * puts + 1) (omega arith) runs.member

  pub event_fine : (event : Event) (w : Cluster) → AreCalm w → MayHappen event w → AreFine w (rows_of event w)
  event_fine (Opens n told moment word) w calm may =
      record { harmless = (inl (open_lawful w n told moment word may.0 may.1), tt); calm = subst AreCalm (sym (open_world w n told moment word calm)) (open_leaves w n told moment word calm) }
  event_fine (DiesAtOpening n told moment word puts) w calm may =
      let ends = opening_killed n told moment word puts w calm may in record { harmless = ends.harmless; calm = ends.dead.calm }
  event_fine (Turns n moment word came) w calm may =
      let is = runs_it n w calm may.0 in
      let goes = turn_goes deliveries n w moment word came is.0 calm is.1 may.1 in
      record { harmless = goes.harmless; calm = goes.calm }
  event_fine (Stops n) w calm may = record { harmless = (inl (stop_lawful w n may.member may.runs), tt); calm = stop_leaves w n calm }
  event_fine (DiesInTurn n moment word came puts) w calm may =
      let is = runs_it n w calm may.0 in
      let ends = (killed_ends n w moment word puts came is.0 calm is.1 may.1).1 in
      record { harmless = ends.harmless; calm = ends.dead.calm }
  event_fine (OfOthers row) w calm may = record { harmless = (inl may.1, tt); calm = λ m. subst IsCalm (sym (others_stay (OfOthers row) w m may (λ e. absurd (cc (e))))) (calm m) }

  pub trace_fine : (trace : List Event) (w : Cluster) → AreCalm w → MayAllHappen trace w → AreFine w (all_rows trace w)
  trace_fine [] w calm may = record { harmless = tt; calm = calm }
  trace_fine (first ∷ rest) w calm may =
      let one = event_fine first w calm may.0 in
      let more = trace_fine rest (after_rows w (rows_of first w)) one.calm may.1 in
      record {
        harmless = harmless_both w (rows_of first w) (all_rows rest (after_rows w (rows_of first w))) one.harmless more.harmless;
        calm = subst AreCalm (sym (after_both w (rows_of first w) (all_rows rest (after_rows w (rows_of first w))))) more.calm;
      }

pub fresh_calm : (ids : List ℕ) → AreCalm (cluster ids)
fresh_calm ids m = record { calls = refl; nothing_unsynced = refl; works = tt }
