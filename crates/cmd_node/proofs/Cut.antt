-- Turns that were cut off.
use Rattle.std.proofs.Common.{◌≡◌, ℕ, ◌<◌, List, length, length-set, true, refl, sym, ap, ◌∙◌, subst, inl, inr, arith}
use Rattle.std.proofs.lemmas.Bool.Decides.{eqb_tells}
use Rattle.std.specs.Prelude.{Option, Some, slice_index_or, slice_set}
use Rattle.disk_model.specs.declared.disk.Disk.{Ghosts}
use Rattle.outside.specs.Readings.{next_reading, readings_behind}
use Rattle.outside.specs.declared.received.RawFrame.{RawFrame}
use Rattle.outside.specs.declared.received.Received.{Received}
use Rattle.raft_core.specs.StoredPuts.{stored_puts}
use Rattle.raft_log.specs.DurableViews.{durable_state}
use Rattle.raft_log.specs.Rules.{StandsForState}
use Rattle.raft_log.specs.Stored.{AfterSome}
use Rattle.alloc_server.specs.Server.{LeavesSome, StandsFor, durable_of}
use Rattle.cmd_node.specs.Cut.{CalledBy, PutsAt, StandsAt}
use Rattle.cmd_node.specs.Ends.{fault_id}
use Rattle.cmd_node.specs.CutRun.{HoldsStateInPart, IsCutAt}
use Rattle.cmd_node.specs.Puts.{IsCutIn}
use Rattle.cmd_node.specs.Stands.{Stand, runner_disk}
use Rattle.cmd_node.specs.Taking.{HasCause}
use Rattle.cmd_node.specs.Turns.{Together, turning_at}
use Rattle.cmd_node.specs.declared.fault.Fault.{Fault}
use Rattle.cmd_node.specs.declared.fault.Fault.TheVariants.{Link, Disk, Damaged, AnotherLog}
use Rattle.cmd_node.specs.declared.runner.Runner.{Runner}
use Rattle.cmd_node.specs.declared.steps.LastSteps.{LastSteps}
use Rattle.cmd_node.proofs.Parts.{cut_as}
use Rattle.cmd_node.proofs.Together.{set_elsewhere, set_here}
use Rattle.cmd_node.proofs.WholeRun.{same_stored}

-- of the one at a place
module _ {D F : Type 0} {disk : Ghosts D} {L : Type 0} (runners : List (Runner D F disk)) (links : List L) (place : ℕ)
    (runner some : Runner D F disk) (link some_link : L) (here : place < length runners) (there : place < length links)
    (coming : L → Option (List Received)) (sent : L → Option (List RawFrame)) (readings : Option (List ℕ)) (steps : LastSteps) (before : Together)
    (stand : Stand coming sent runners links readings steps before) where
  pub cut_at : (now : Option (List ℕ)) → now ≡ Some (readings_behind before.readings) →
      sent link ≡ sent (slice_index_or links place some_link) →
      disk.tells (runner_disk runner) ≡ disk.tells (runner_disk (slice_index_or runners place some)) →
      IsCutIn (next_reading before.readings) (turning_at place before) (coming link) (LeavesSome (slice_index_or runners place some).server runner.server) →
      IsCutAt coming sent (slice_set links place link) now (length (slice_set runners place runner)) (StandsAt (slice_set runners place runner))
      (PutsAt (slice_set runners place runner)) before place
  cut_at now read unsent tells cut = record {
    readings_are = read;
    coming_is = λ i l low other.
        let within : i < length runners = (let size = length-set runners place runner in omega (arith, size, low)) in
        subst (λ x. coming x ≡ Some (before.running i).coming) (set_elsewhere links place i link l other) (stand.each i some l within).coming_is;
    sent_is = λ i l low.
        let within : i < length runners = (let size = length-set runners place runner in omega (arith, size, low)) in
        elim (eqb_tells i place) [
          | inl h ↦ subst (λ x. sent x ≡ Some (before.running i).sent) (set_here links place i link l h.1 there)
              (unsent ∙ (stand.each place some some_link here).sent_is ∙ ap (λ k. Some (before.running k).sent) (sym h.1))
          | inr h ↦ subst (λ x. sent x ≡ Some (before.running i).sent) (set_elsewhere links place i link l h.1) (stand.each i some l within).sent_is
        ];
    stored_is = λ i low other r.
        let within : i < length runners = (let size = length-set runners place runner in omega (arith, size, low)) in
        let one = stand.each i r some_link within in
        subst (λ (x : Runner D F disk). StandsFor x.server (before.running i).allocator × (durable_state (durable_of x.server) ≡ (before.running i).stored))
        (set_elsewhere runners place i runner r other) (one.server, one.stored);
    same = λ i low.
        let within : i < length runners = (let size = length-set runners place runner in omega (arith, size, low)) in
        let one = stand.each i some some_link within in
        same_stored one.stored one.server.member.raft.store;
    own_is = λ l.
        let state = (before.running place).stored in
        cut_as (LeavesSome (slice_index_or runners place some).server runner.server) (PutsAt (slice_set runners place runner) place state)
        (λ puts leaves r. subst (λ (x : Runner D F disk). disk.tells (runner_disk x) ≡ true → HoldsStateInPart disk (runner_disk x) state puts)
        (set_here runners place place runner r refl here) (λ told. record {
          tells = told;
          stands = λ image left. subst (λ s. AfterSome (StandsForState image) (stored_puts puts s) s) (stand.each place some some_link here).stored (leaves (sym tells ∙ told) image left);
        })) (next_reading before.readings) (turning_at place before) (coming (slice_index_or (slice_set links place link) place l))
        (subst (λ x. IsCutIn (next_reading before.readings) (turning_at place before) (coming x) (LeavesSome (slice_index_or runners place some).server runner.server))
        (set_here links place place link l refl there) cut);
  }

pub at_node : (fault : Fault) (id : ℕ) → ((node : ℕ) → fault ≡ Link node → node ≡ id) → ((node : ℕ) → fault ≡ Disk node → node ≡ id) →
    ((node key : ℕ) → fault ≡ Damaged node key → ⊥) → ((node caller : ℕ) → fault ≡ AnotherLog node caller → node ≡ id) → fault_id fault ≡ id
at_node (Link node) id link disk none called = link node refl
at_node (Disk node) id link disk none called = disk node refl
at_node (Damaged node key) id link disk none called = absurd (none node key refl)
at_node (AnotherLog node caller) id link disk none called = called node caller refl

pub called_by : (fault : Fault) (caller : Option ℕ) → ((node from : ℕ) → fault ≡ AnotherLog node from → caller ≡ Some from) → CalledBy fault caller
called_by (Link node) caller called = tt
called_by (Disk node) caller called = tt
called_by (Damaged node key) caller called = tt
called_by (AnotherLog node from) caller called = called node from refl

-- the node of a disk that was refused
pub of_refused : {D : Type 0} (disk : Ghosts D) (before after : D) (id : ℕ) (fault : Fault) → HasCause disk before after id fault → id ≡ fault_id fault
of_refused disk before after id (Link node) why = absurd why
of_refused disk before after id (Disk node) why = sym why.0
of_refused disk before after id (Damaged node key) why = sym why.0
of_refused disk before after id (AnotherLog node caller) why = absurd why
