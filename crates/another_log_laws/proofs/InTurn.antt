-- What comes to a member in a turn of its process that keeps the premises.
use Rattle.std.proofs.Common.{◌≡◌, ℕ, suc, ◌+◌, ◌<◌, Bool, List, [], ◌∷◌, ◌++◌, length, map, refl, sym, ap, subst, ◌∙◌, append_assoc, arith, None, Some}
use Rattle.std.specs.Prelude.{if◌then◌else◌}
use Rattle.outside.specs.declared.received.RawFrame.{RawFrame}
use Rattle.outside.specs.declared.received.Received.{Received}
use Rattle.outside.specs.declared.received.Received.TheVariants.{Frame as Item, Junk, Nothing}
use Rattle.outside.specs.Readings.{next_reading}
use Rattle.outside.specs.Traffic.{next_item}
use Rattle.cmd_node.specs.Words.{next_words, word_of}
use Rattle.raft_model.specs.Members.{HasNoneTwice}
use Rattle.bus_rows.specs.declared.row.Row.{Row}
use Rattle.bus_rows.specs.declared.row.Row.TheVariants.{Ext, Rx, Tick}
use Rattle.transfer_rx.specs.Reassembly.{Arrival, Delivery, Setting, answer}
use Rattle.transfer_rx.specs.Reassembly.Answer.{Gives}
use Rattle.transfer_rx.specs.Sessions.{Session}
use Rattle.transfer_rx.specs.Sound.{IsDelivered}
use Rattle.transfer_rx.specs.Unmarked.{unmarked, unmarked_answer, unmarked_arrival}
use Rattle.transfer_tx.specs.Queue.{Queued}
use Rattle.alloc_ghost_erasure.specs.Unmarked.{unmarked_server}
use Rattle.alloc_server.specs.AnotherLog.{another_log}
use Rattle.alloc_spec.specs.AllocatorState.{AllocatorState}
use Rattle.alloc_spec.specs.ClusterMembers.{AreMembers}
use Rattle.alloc_spec.specs.Delivered.{StepResult}
use Rattle.alloc_spec.specs.Rules.{Rules, tells}
use Rattle.alloc_spec.specs.Step.Event.{Rx as Comes}
use Rattle.bus_spec.specs.Cluster.{Cluster, after_row, after_rows, arrival_at, cluster, frame_at, from_outside, rules_of, tick_of, world_of}
use Rattle.bus_spec.specs.Lawful.{DoNoHarm}
use Rattle.bus_spec.specs.Members.MemberStatus.{Up}
use Rattle.cmd_node.specs.Another.{caller_at, event_caller}
use Rattle.cmd_node.specs.Frames.{event_in, receipt}
use Rattle.cmd_node.specs.Opening.{RunInput}
use Rattle.cmd_node.specs.Turn.{Turning as Turn, turn_after_tick}
use Rattle.cmd_node.specs.Turns.{Together, turning_at}
use Rattle.cmd_node_laws.specs.Mirrored.{AreCalm, Carries, IsMirrored, IsOnLink, raw_by}
use Rattle.cmd_node_laws.specs.Processes.{GoesOn, Opening, Point, StandAt, Turning, place_of, together_at}
use Rattle.cmd_node_laws.specs.Stands.{IsFollowed, world_after}
use Rattle.cmd_node_laws.specs.Traces.{Came, Event, FromElsewhere, MayAllHappen, Silence, WasSent, all_rows, came_rows, rows_of}
use Rattle.cmd_node_laws.proofs.Final.{same_ids_of}
use Rattle.cmd_node_laws.proofs.Harmless.{Goes, came_goes, tick_goes}
use Rattle.cmd_node_laws.proofs.Places.{after_both, harmless_both}
use Rattle.cmd_node_laws.proofs.Rows.{Runs, ext_frame}
use Rattle.cmd_node_laws.proofs.Turning.{MarkLaws, same_event}
use Rattle.another_log_laws.specs.LawfulTurn.{IsLawfulTurn}
use Rattle.another_log_laws.specs.Uncalled.{HearNoOtherLog}
use Rattle.another_log_laws.proofs.Marks.{same_log}

pub record Laws : Type 0 where
  pub heard : (ids : List ℕ) (rows : List Row) → AreMembers ids → DoNoHarm (cluster ids) rows → HearNoOtherLog ids rows
  pub answers : (setting : Setting) (a b : List Session) (x y : Arrival) → map unmarked a ≡ map unmarked b → unmarked_arrival x ≡ unmarked_arrival y
      → unmarked_answer (answer setting a x) ≡ unmarked_answer (answer setting b y)
  pub deliveries : (setting : Setting) (sessions : List Session) (arrival : Arrival) (delivery : Delivery) → answer setting sessions arrival ≡ Gives delivery
      → IsDelivered setting sessions arrival delivery
  pub marks : MarkLaws
  pub harmless : (ids : List ℕ) (trace : List Event) → MayAllHappen trace (cluster ids) → DoNoHarm (cluster ids) (all_rows trace (cluster ids))
  pub calm : (ids : List ℕ) (trace : List Event) → MayAllHappen trace (cluster ids) → AreCalm (world_after ids trace)
  pub followed : (mine : List ℕ) (given : RunInput) (rules : Rules) (w : Cluster) (trace : List Event) (from to : Point) → HasNoneTwice mine
      → rules ≡ rules_of w.ids (tells rules) → AreCalm w → place_of from < length mine → MayAllHappen trace w → GoesOn rules mine given w trace from to
      → StandAt rules mine given w from → (i : ℕ) → i < length mine
      → IsFollowed rules mine given w (after_rows w (all_rows trace w)) from to (λ n. raw_by n w (all_rows trace w)) i

-- ---- a frame that comes behind some rows

module _ (laws : Laws) (ids : List ℕ) (members : AreMembers ids) (rows : List Row) (n moment : ℕ) (server allocator : AllocatorState)
    (same : unmarked_server server ≡ unmarked_server allocator) where
  abbrev w : Cluster
  w = world_of ids rows

  -- a frame of the bus, as its link has it
  of_bus : (k : ℕ) (frame : Queued) (raw : RawFrame) → DoNoHarm (cluster ids) (rows ++ Rx n k moment ∷ []) → (w.member n).status ≡ Up server
      → frame_at w.frames k ≡ frame → IsOnLink raw frame.id frame.bytes → event_caller allocator (event_in moment (Item raw)) ≡ None
  of_bus k frame raw harmless runs is on_link =
      ap (λ (b : Bool). event_caller allocator (if b then Some (receipt moment raw) else None)) on_link.frame
      ∙ (sym (same_log laws.answers server allocator (Comes (arrival_at frame moment)) (receipt moment raw) same (same_event laws.marks laws.deliveries n raw frame moment on_link))
      ∙ (ap (λ (q : Queued). another_log server (Comes (arrival_at q moment))) (sym is)
      ∙ laws.heard ids (rows ++ Rx n k moment ∷ []) members harmless rows [] n k moment server refl runs))

module _ (laws : Laws) (ids : List ℕ) (members : AreMembers ids) (rows : List Row) (early : DoNoHarm (cluster ids) rows) (n moment : ℕ)
    (server allocator : AllocatorState) (same : unmarked_server server ≡ unmarked_server allocator)
    (runs : ((world_of ids rows).member n).status ≡ Up server) where
  abbrev here : Cluster
  here = world_of ids rows

  of_item : (item : Received) (came : Came) → DoNoHarm here (came_rows n moment came here) → Carries here.frames item came
      → event_caller allocator (event_in moment item) ≡ None
  of_item (Item raw) Silence harmless carries = ap (λ (b : Bool). event_caller allocator (if b then Some (receipt moment raw) else None)) carries
  of_item Junk Silence harmless carries = refl
  of_item Nothing Silence harmless carries = refl
  of_item (Item raw) (WasSent k) harmless carries =
      of_bus laws ids members rows n moment server allocator same k (frame_at here.frames k) raw
      (harmless_both (cluster ids) rows (Rx n k moment ∷ []) early harmless) runs refl carries
  of_item (Item raw) (FromElsewhere frame) harmless carries =
      of_bus laws ids members (rows ++ Ext frame ∷ []) n moment server allocator same (length here.frames + 1) outside raw all
      (ap (λ (v : Cluster). (v.member n).status) out ∙ runs) (ap (λ (v : Cluster). frame_at v.frames (length here.frames + 1)) out ∙ ext_frame here.frames outside) carries
    where
      outside : Queued
      outside = from_outside frame.id frame.bytes.items

      out : world_of ids (rows ++ Ext frame ∷ []) ≡ after_row here (Ext frame)
      out = after_both (cluster ids) rows (Ext frame ∷ [])

      all : DoNoHarm (cluster ids) ((rows ++ Ext frame ∷ []) ++ Rx n (length here.frames + 1) moment ∷ [])
      all = subst (DoNoHarm (cluster ids)) (sym (append_assoc rows (Ext frame ∷ []) (Rx n (length here.frames + 1) moment ∷ [])))
          (harmless_both (cluster ids) rows (came_rows n moment (FromElsewhere frame) here) early harmless)
  of_item Junk (WasSent k) harmless carries = absurd carries
  of_item Junk (FromElsewhere frame) harmless carries = absurd carries
  of_item Nothing (WasSent k) harmless carries = absurd carries
  of_item Nothing (FromElsewhere frame) harmless carries = absurd carries

-- ---- a trace of two parts

pub first_may : (first rest : List Event) (w : Cluster) → MayAllHappen (first ++ rest) w → MayAllHappen first w
first_may [] rest w may = tt
first_may (event ∷ first) rest w may = (may.0, first_may first rest (after_rows w (rows_of event w)) may.1)

pub rest_may : (first rest : List Event) (w : Cluster) → MayAllHappen (first ++ rest) w → MayAllHappen rest (after_rows w (all_rows first w))
rest_may [] rest w may = may
rest_may (event ∷ first) rest w may = subst (MayAllHappen rest) (sym (after_both w (rows_of event w) (all_rows first (after_rows w (rows_of event w)))))
    (rest_may first rest (after_rows w (rows_of event w)) may.1)

pub joined : (first rest : List Event) (w : Cluster)
    → after_rows w (all_rows (first ++ rest) w) ≡ after_rows (after_rows w (all_rows first w)) (all_rows rest (after_rows w (all_rows first w)))
joined [] rest w = refl
joined (event ∷ first) rest w =
    let v : Cluster = after_rows w (rows_of event w) in
    after_both w (rows_of event w) (all_rows (first ++ rest) v)
    ∙ (joined first rest v ∙ ap (λ (u : Cluster). after_rows u (all_rows rest u)) (sym (after_both w (rows_of event w) (all_rows first v))))

-- ---- the turn

module _ (laws : Laws) (ids mine : List ℕ) (rules : Rules) (given : RunInput) (taken place : ℕ) (within : place < length mine)
    (is : IsLawfulTurn ids rules mine given taken place) where
  abbrev trace : List Event
  trace = is.before ++ is.during

  abbrev began : Cluster
  began = world_after ids is.before

  abbrev now : Cluster
  now = world_after ids trace

  abbrev all : Together
  all = together_at rules mine given taken place

  abbrev t : Turn
  t = turning_at place all

  abbrev moment : ℕ
  moment = next_reading all.readings

  abbrev word : ℕ
  word = word_of (next_words t.running.words)

  abbrev n : ℕ
  n = t.running.id

  mirrored : IsMirrored now (all.running place)
  mirrored = subst (λ (v : Cluster). IsMirrored v (all.running place)) (sym (joined is.before is.during (cluster ids)))
      (laws.followed mine given rules began is.during (Opening 0) (Turning taken place) is.run.once
      (is.run.rules_are ∙ ap (λ (list : List ℕ). rules_of list (tells rules)) (sym (same_ids_of ids (all_rows is.before (cluster ids)))))
      (laws.calm ids is.before (first_may is.before is.during (cluster ids) is.run.may)) (omega (arith, within))
      (rest_may is.before is.during (cluster ids) is.run.may) is.run.goes (λ i h. (λ e. absurd (omega (arith, e)), λ e. is.run.waiting i h)) place within).stands

  runs : Runs n now mirrored.server
  runs = record { member = is.may.0.member; up = mirrored.runs }

  abbrev ticks : Goes n now (Tick n moment word ∷ [])
  ticks = tick_goes laws.deliveries n now moment word mirrored.server (laws.calm ids trace is.run.may) runs

  ticked : Cluster
  ticked = after_row now (Tick n moment word)

  abbrev rows : List Row
  rows = all_rows trace (cluster ids) ++ Tick n moment word ∷ []

  reached : world_of ids rows ≡ after_row now (Tick n moment word)
  reached = after_both (cluster ids) (all_rows trace (cluster ids)) (Tick n moment word ∷ [])

  same : unmarked_server ticks.server ≡ unmarked_server (turn_after_tick moment t).running.allocator
  same = ap (λ (s : StepResult). s.step_state.allocator)
      (laws.marks.step mirrored.server t.running.allocator (now.rows + 1) (suc (length t.lines)) (tick_of moment word) (tick_of moment word) mirrored.same refl)

  comes : Goes n (after_row now (Tick n moment word)) (came_rows n moment is.came (after_row now (Tick n moment word)))
  comes = came_goes laws.deliveries n (after_row now (Tick n moment word)) moment is.came ticks.server ticks.calm ticks.runs is.may.1

  pub in_turn : caller_at place all ≡ None
  in_turn = of_item laws ids is.run.members rows
      (harmless_both (cluster ids) (all_rows trace (cluster ids)) (Tick n moment word ∷ []) (laws.harmless ids trace is.run.may) ticks.harmless) n moment
      ticks.server (turn_after_tick moment t).running.allocator same (ap (λ (v : Cluster). (v.member n).status) reached ∙ ticks.runs.up)
      (next_item t.running.coming) is.came
      (subst (λ (v : Cluster). DoNoHarm v (came_rows n moment is.came v)) (sym reached) comes.harmless)
      (subst (λ (v : Cluster). Carries v.frames (next_item t.running.coming) is.came) (sym reached) is.carries)
