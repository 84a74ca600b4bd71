-- What a run leaves, by how it ended.
use Rattle.std.proofs.Common.{◌≡◌, ℕ, ◌<◌, List, length, true, refl, ap, inl, inr, arith}
use Rattle.std.specs.Prelude.{Option, Some, None, IfErr, IsSome, OnOk, Result, Ok, Err, slice_index, slice_index_or, ⊤}
use Rattle.std.specs.Io.KnownBytes.{Appends}
use Rattle.can_frame.specs.Log.{IsPrefix}
use Rattle.disk_model.specs.declared.disk.Disk.{Ghosts}
use Rattle.outside.specs.declared.received.RawFrame.{RawFrame}
use Rattle.outside.specs.declared.received.Received.{Received}
use Rattle.raft_log.specs.declared.durable.Durable.{Durable}
use Rattle.raft_log.specs.DurableViews.{durable_disk, durable_fault, durable_state}
use Rattle.raft_log.specs.Rules.{AlwaysStandsForState, StandsForState}
use Rattle.raft_log.specs.Stored.{Stored}
use Rattle.alloc_spec.specs.Rules.{Rules}
use Rattle.cmd_io.specs.declared.status.Status.TheVariants.{Memory, WriteFault}
use Rattle.cmd_node.specs.Another.{NoneCallsFor, caller_at}
use Rattle.cmd_node.specs.Cut.{CalledBy, IsCut, IsCutTurning}
use Rattle.cmd_node.specs.CutRun.{KeepsImages, KeepsOrOpens}
use Rattle.cmd_node.specs.Ends.{end_status, fault_id, fault_status}
use Rattle.cmd_node.specs.Nodes.{IsCalledIn, IsCutWhere, IsEnd, IsTurnOf, IsWritten, Leaves, LeavesWith, RunsNodes}
use Rattle.cmd_node.specs.Opening.{RunInput, together_at_opening}
use Rattle.cmd_node.specs.Quiet.{RunQuietly}
use Rattle.cmd_node.specs.Report.{line_of, report}
use Rattle.cmd_node.specs.Run.{AreStopped, AreTelling, HasRun}
use Rattle.cmd_node.specs.Stands.{Stand}
use Rattle.cmd_node.specs.Status.{IsWhole}
use Rattle.cmd_node.specs.Steps.{Keeps}
use Rattle.cmd_node.specs.Turns.{Together}
use Rattle.cmd_node.specs.WholeRun.{Tell, after_turns}
use Rattle.cmd_node.specs.declared.fault.Fault.{Fault}
use Rattle.cmd_node.specs.declared.fault.Fault.TheVariants.{Link, Disk, Damaged, AnotherLog}
use Rattle.cmd_node.specs.declared.runner.Runner.{Runner}
use Rattle.cmd_node.specs.declared.steps.LastSteps.{LastSteps}
use Rattle.cmd_node.proofs.CutRun.{at_opening, cut_begins_so, in_turns, unopened}
use Rattle.cmd_node.proofs.Ending.{an_item}
use Rattle.cmd_node.proofs.Quiet.{stopped_run}
use Rattle.cmd_node.proofs.Sent.{all_begin}
use Rattle.cmd_node.proofs.WholeRun.{leaves_all}

-- a run that was begun has its memory, and its status does not speak of the sink
pub had_memory : (ended : Result ⊤ Fault) → end_status ended ≡ Memory → ⊥
had_memory (Ok done) is = cc (is)
had_memory (Err (Link id)) is = cc (is)
had_memory (Err (Disk id)) is = cc (is)
had_memory (Err (Damaged id key)) is = cc (is)
had_memory (Err (AnotherLog id node)) is = cc (is)

pub no_write_fault : (ended : Result ⊤ Fault) → end_status ended ≡ WriteFault → ⊥
no_write_fault (Ok done) is = cc (is)
no_write_fault (Err (Link id)) is = cc (is)
no_write_fault (Err (Disk id)) is = cc (is)
no_write_fault (Err (Damaged id key)) is = cc (is)
no_write_fault (Err (AnotherLog id node)) is = cc (is)

module _ {D F L : Type 0} {disk : Ghosts D} (coming : L → Option (List Received)) (sent : L → Option (List RawFrame)) (faults : L → ℕ)
    (rules : Rules) (turns : ℕ) (ids : List ℕ) (links_old : List L) (disks_old : List (Option D)) (readings_old : Option (List ℕ)) (each : length links_old ≡ length ids)
    (durable : (store : Durable D disk) → durable_fault store ≡ None → disk.tells (durable_disk store) ≡ true →
    AlwaysStandsForState (disk.contents (durable_disk store)) (durable_state store))
    (one_state : (image : List ℕ) (a b : Stored) → StandsForState image a → StandsForState image b → a ≡ b)
    (runners : List (Runner D F disk)) (links : List L) (disks last : List (Option D)) (readings : Option (List ℕ)) (steps : LastSteps)
    (stopped : AreStopped runners disks last) where
  in_turn : (fault : Fault) (Named : ℕ → Together → Type 0) →
      ((place : ℕ) (before : Together) → slice_index ids place ≡ fault_id fault → CalledBy fault (caller_at place before) → Named place before) →
      ((i : ℕ) (before : D) → i < length runners → slice_index_or disks_old i None ≡ Some before → IsWhole disk before) →
      IsCutTurning coming sent rules turns ids runners links_old links disks_old disks readings_old readings fault →
      IsCutWhere coming sent faults disk rules turns ids links_old links disks_old last readings_old readings Named
  in_turn fault Named named whole cut = record {
    whole = λ i before low was. whole i before (let all = cut.all in omega (arith, all, low)) was;
    left = in_turns durable one_state ids runners disks_old disks last stopped coming sent rules turns links_old links readings_old readings fault Named named cut;
  }

  -- in a turn of the node of the fault
  in_own_turn : (fault : Fault) → ((i : ℕ) (before : D) → i < length runners → slice_index_or disks_old i None ≡ Some before → IsWhole disk before) →
      IsCutTurning coming sent rules turns ids runners links_old links disks_old disks readings_old readings fault →
      IsCutWhere coming sent faults disk rules turns ids links_old links disks_old last readings_old readings
      (IsTurnOf ids (fault_id fault))
  in_own_turn fault = in_turn fault (IsTurnOf ids (fault_id fault)) (λ place before here called. here)

  -- what is known of a run that ended so
  abbrev Told : Type 0 → Type 0
  Told A = (given : RunInput) → Tell coming sent disk links_old disks_old readings_old given → A

  abbrev Standing : Result ⊤ Fault → Type 0
  Standing ended = OnOk ended ((given : RunInput) → Tell coming sent disk links_old disks_old readings_old given →
      Stand coming sent runners links readings steps (after_turns rules turns ids given))

  abbrev NoneCalled : Result ⊤ Fault → Type 0
  NoneCalled ended = OnOk ended ((given : RunInput) → Tell coming sent disk links_old disks_old readings_old given →
      NoneCallsFor (length ids) turns (together_at_opening rules ids given))

  abbrev WasCut : Result ⊤ Fault → Type 0
  WasCut ended = IfErr ended (IsCut coming sent rules turns ids runners links_old links disks_old disks readings_old readings)

  ends : (ended : Result ⊤ Fault) → HasRun faults ids disks_old disks links_old links runners ended → OnOk ended (length runners ≡ length ids) → Standing ended →
      OnOk ended (Told (AreTelling runners)) → NoneCalled ended → WasCut ended →
      IsEnd coming sent faults disk rules turns ids links_old links disks_old last readings_old readings (end_status ended)
  ends (Ok done) run all stands tells uncalled cut = record {
    whole = λ i before low was. run.whole i before (omega (arith, all, low)) was;
    left = λ given tell. leaves_all coming sent durable runners links_old links disks last readings steps (length ids) (after_turns rules turns ids given)
        all each (stands given tell) (tells given tell) stopped;
    uncalled = uncalled;
  }
  ends (Err (Link node)) run all stands tells uncalled cut = (
    run.failed.0,
    elim cut [
      | inl opening ↦ absurd (let within = opening.within in let same = run.failed.1 in omega (arith, within, same))
      | inr turn ↦ in_own_turn (Link node) run.whole turn
    ],
  )
  ends (Err (Disk node)) run all stands tells uncalled cut = (
    run.failed last stopped,
    elim cut [
      | inl opening ↦ inl (at_opening durable one_state ids runners disks_old disks last stopped coming sent rules turns links_old links readings_old readings (Disk node)
          (KeepsOrOpens disk) (λ before after told why. unopened before after told why.2) opening)
      | inr turn ↦ inr (in_own_turn (Disk node) run.whole turn)
    ],
  )
  ends (Err (Damaged node key)) run all stands tells uncalled cut = (
    run.failed.0,
    elim cut [
      | inl opening ↦ at_opening durable one_state ids runners disks_old disks last stopped coming sent rules turns links_old links readings_old readings (Damaged node key)
          (KeepsImages disk) (λ before after told why. why.2 told) opening
      | inr turn ↦ absurd (let same = turn.all in let fewer = run.failed.1 in omega (arith, same, fewer))
    ],
  )
  ends (Err (AnotherLog node caller)) run all stands tells uncalled cut = (
    run.failed.0,
    elim cut [
      | inl opening ↦ absurd (let within = opening.within in let same = run.failed.1 in omega (arith, within, same))
      | inr turn ↦ in_turn (AnotherLog node caller) (IsCalledIn ids node caller) (λ place before here called. (here, called)) run.whole turn
    ],
  )

  begins : (ended : Result ⊤ Fault) → OnOk ended (length runners ≡ length ids) → Standing ended → WasCut ended →
      (given : RunInput) → Tell coming sent disk links_old disks_old readings_old given → (i : ℕ) (link : L) → i < length ids →
      (frames : List RawFrame) × (sent (slice_index_or links i link) ≡ Some frames) × IsPrefix frames ((after_turns rules turns ids given).running i).sent
  begins (Ok done) all stands cut given tell i link low =
      let whole_run = after_turns rules turns ids given in
      let within : i < length runners = omega (arith, all, low) in
      ((whole_run.running i).sent, ((stands given tell).each i (an_item runners i within) link within).sent_is, all_begin (length ids) 0 whole_run i)
  begins (Err fault) all stands cut given tell i link low =
      cut_begins_so durable one_state ids runners disks_old disks last stopped coming sent rules turns links_old links readings_old readings fault given tell each cut i link low

  pub written : (Wrote : List ℕ → Type 0) (ended : Result ⊤ Fault) → Standing ended → OnOk ended ((lines : List (List ℕ)) → Keeps steps lines → Wrote (report turns lines)) →
      IfErr ended (λ fault. Wrote (line_of (fault_status fault))) →
      IsWritten coming sent faults disk rules turns ids links_old links disks_old last readings_old readings Wrote (end_status ended)
  written Wrote (Ok done) stands by_report by_line = λ given tell. by_report (after_turns rules turns ids given).lines (stands given tell).lines
  written Wrote (Err (Link id)) stands by_report by_line = by_line
  written Wrote (Err (Disk id)) stands by_report by_line = by_line
  written Wrote (Err (Damaged id key)) stands by_report by_line = by_line
  written Wrote (Err (AnotherLog id node)) stands by_report by_line = by_line

  pub leaves : (Wrote : List ℕ → Type 0) (ended : Result ⊤ Fault) → HasRun faults ids disks_old disks links_old links runners ended → OnOk ended (length runners ≡ length ids) →
      Standing ended → OnOk ended (Told (AreTelling runners)) → NoneCalled ended → WasCut ended → RunQuietly faults ids disks_old disks links_old links runners ended →
      OnOk ended ((lines : List (List ℕ)) → Keeps steps lines → Wrote (report turns lines)) → IfErr ended (λ fault. Wrote (line_of (fault_status fault))) →
      Leaves coming sent faults disk rules turns ids links_old links disks_old last readings_old readings Wrote (end_status ended)
  leaves Wrote ended run all stands tells uncalled cut quiet by_report by_line =
      let still = stopped_run disk faults ids disks_old disks runners last links_old links ended (end_status ended) (λ id e. ap end_status e) (λ id e. ap end_status e) stopped quiet in record {
        end = ends ended run all stands tells uncalled cut;
        quiet_links = still.0;
        quiet_disks = still.1;
        begins = begins ended all stands cut;
        written = written Wrote ended stands by_report by_line;
      }

module _ {D L : Type 0} (coming : L → Option (List Received)) (sent : L → Option (List RawFrame)) (faults : L → ℕ) (disk : Ghosts D) (rules : Rules) (turns : ℕ) (ids : List ℕ) where
  -- the sink took what such a run writes
  pub as_ended : (links_old links : List L) (disks_old disks : List (Option D)) (readings_old readings before now : Option (List ℕ)) (ended : Result ⊤ Fault) →
      Leaves coming sent faults disk rules turns ids links_old links disks_old disks readings_old readings (Appends before now) (end_status ended) →
      LeavesWith coming sent faults disk rules turns ids links_old links disks_old disks readings_old readings before now (end_status ended)
  as_ended links_old links disks_old disks readings_old readings before now (Ok done) left = left
  as_ended links_old links disks_old disks readings_old readings before now (Err (Link id)) left = left
  as_ended links_old links disks_old disks readings_old readings before now (Err (Disk id)) left = left
  as_ended links_old links disks_old disks readings_old readings before now (Err (Damaged id key)) left = left
  as_ended links_old links disks_old disks readings_old readings before now (Err (AnotherLog id node)) left = left

  -- nothing was touched
  pub without_memory : (links : List L) (disks : List (Option D)) (readings : Option (List ℕ)) (sink_faults : ℕ) (written : Option (List ℕ)) →
      ((i : ℕ) → i < length ids → IsSome (slice_index_or disks i None)) →
      RunsNodes coming sent faults disk rules turns ids links links disks disks readings readings sink_faults sink_faults written written Memory
  without_memory links disks readings sink_faults written there = record {
    places = refl;
    put_back = there;
    leaves = (refl, refl, refl, refl);
    finishes = λ no_link no_disk no_sink. tt;
    refuses = λ id key is tell no_disk no_sink. inr refl;
  }
