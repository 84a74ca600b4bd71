-- Counts of faults that stay: of the link and the disk at a place, and from turn to turn.
use Rattle.std.proofs.Common.{◌≡◌, ℕ, ◌<◌, List, length, refl, sym, ap, ◌∙◌, subst, inl, inr, arith}
use Rattle.std.proofs.lemmas.Bool.Decides.{eqb_tells, leb_tells}
use Rattle.std.specs.Prelude.{Option, Some, None, Result, Ok, Err, IfErr, OnOk, slice_index, slice_index_or, slice_set, true, ⊤}
use Rattle.disk_model.specs.declared.disk.Disk.{Ghosts}
use Rattle.disk_model.specs.Device.{DeviceCall, Makes}
use Rattle.kv_store.specs.Image.{open_calls}
use Rattle.raft_log.specs.Opening.{opening_calls}
use Rattle.cmd_io.specs.declared.status.Status.{Status}
use Rattle.cmd_io.specs.declared.status.Status.TheVariants.{DiskFault, LinkFault}
use Rattle.cmd_node.specs.Quiet.{RunQuietly, StayQuiet}
use Rattle.cmd_node.specs.Status.{OfDisk, OfLink, OthersStay}
use Rattle.cmd_node.specs.Run.{AreStopped}
use Rattle.cmd_node.specs.Stands.{AreOpened, runner_disk}
use Rattle.cmd_node.specs.Taking.{HasCause, KeepsNodes, WasRefused}
use Rattle.cmd_node.specs.declared.fault.Fault.{Fault}
use Rattle.cmd_node.specs.declared.fault.Fault.TheVariants.{Link, Disk, Damaged, AnotherLog}
use Rattle.cmd_node.specs.declared.runner.Runner.{Runner}
use Rattle.cmd_node.proofs.Ending.{an_item}
use Rattle.cmd_node.proofs.Together.{one_item, set_elsewhere, set_here}

-- a call that fails with one fault alone, and did not fail so
pub unless_failed : {T E A : Type 0} (result : Result T E) (fault : E) → IfErr result (λ error. error ≡ fault) → OnOk result A → (result ≡ Err fault → ⊥) → A
unless_failed (Ok value) fault named holds other = holds
unless_failed (Err error) fault named holds other = absurd (other (ap (λ e. Err e) named))

module _ {D F : Type 0} {disk : Ghosts D} {L : Type 0} (faults : L → ℕ) where
  -- no turn was taken
  pub quiet_kept : (all : List (Runner D F disk)) (links : List L) → length links ≡ length all → StayQuiet faults all all links links (Ok tt)
  quiet_kept all links each = record {
    links = λ i r before after low other. ap faults (one_item links i after before (omega (arith, each, low)));
    disks = λ i before after low other. ap (λ (r : Runner D F disk). disk.faults (runner_disk r)) (one_item all i after before low);
  }

  -- turns to their end, and then some more
  pub quiet_then : (a b c : List (Runner D F disk)) (k l m : List L) (result : Result ⊤ Fault) → KeepsNodes a b →
      StayQuiet faults a b k l (Ok tt) → StayQuiet faults b c l m result → StayQuiet faults a c k m result
  quiet_then a b c k l m result nodes first second = record {
    links = λ i r before after low other.
        let count = nodes.count in
        second.links i r before after (omega (arith, count, low)) (λ e. other (e ∙ ap (λ n. Err (Link n)) (nodes.each i r r low).id))
        ∙ first.links i r before before low (λ e. absurd (cc (e)));
    disks = λ i before after low other.
        let count = nodes.count in
        second.disks i before after (omega (arith, count, low)) (λ e. other (e ∙ ap (λ n. Err (Disk n)) (nodes.each i before before low).id))
        ∙ first.disks i before before low (λ e. absurd (cc (e)));
  }

-- the one at a place took its turn
module _ {D F : Type 0} {disk : Ghosts D} {L : Type 0} (runners : List (Runner D F disk)) (links : List L) (place : ℕ)
    (runner : Runner D F disk) (link : L) (here : place < length runners) (there : place < length links)
    (old : List (Runner D F disk)) (links_old : List L) (faults : L → ℕ) (result : Result ⊤ Fault) where
  pub quiet_set : StayQuiet faults old runners links_old links (Ok tt) →
      ((r : Runner D F disk) (before : L) → (result ≡ Err (Link (slice_index_or old place r).id) → ⊥) → faults link ≡ faults (slice_index_or links_old place before)) →
      ((before : Runner D F disk) → (result ≡ Err (Disk (slice_index_or old place before).id) → ⊥) →
      disk.faults (runner_disk runner) ≡ disk.faults (runner_disk (slice_index_or old place before))) →
      StayQuiet faults old (slice_set runners place runner) links_old (slice_set links place link) result
  quiet_set so_far of_link of_disk = record {
    links = λ i r before after low other. elim (eqb_tells i place) [
      | inl h ↦ subst (λ l. faults l ≡ faults (slice_index_or links_old i before)) (set_here links place i link after h.1 there)
          (subst (λ k. (result ≡ Err (Link (slice_index_or old k r).id) → ⊥) → faults link ≡ faults (slice_index_or links_old k before)) (sym h.1) (of_link r before) other)
      | inr h ↦ subst (λ l. faults l ≡ faults (slice_index_or links_old i before)) (set_elsewhere links place i link after h.1)
          (so_far.links i r before after low (λ e. absurd (cc (e))))
    ];
    disks = λ i before after low other. elim (eqb_tells i place) [
      | inl h ↦ subst (λ (r : Runner D F disk). disk.faults (runner_disk r) ≡ disk.faults (runner_disk (slice_index_or old i before))) (set_here runners place i runner after h.1 here)
          (subst (λ k. (result ≡ Err (Disk (slice_index_or old k before).id) → ⊥) → disk.faults (runner_disk runner) ≡ disk.faults (runner_disk (slice_index_or old k before)))
          (sym h.1) (of_disk before) other)
      | inr h ↦ subst (λ (r : Runner D F disk). disk.faults (runner_disk r) ≡ disk.faults (runner_disk (slice_index_or old i before))) (set_elsewhere runners place i runner after h.1)
          (so_far.disks i before after low (λ e. absurd (cc (e))))
    ];
  }

-- ---- from what was handed in to what is there again

some_one : {A : Type 0} {x y : A} {o p : Option A} → o ≡ Some x → p ≡ Some y → p ≡ o → x ≡ y
some_one is was same = cc (is, was, same)

module _ {D L : Type 0} (disk : Ghosts D) (faults : L → ℕ)
    (quiet : (calls : List DeviceCall) (old new : D) → Makes disk.does calls true old new → disk.faults new ≡ disk.faults old)
    (ids : List ℕ) (disks_old disks_new : List (Option D)) where
  refused_quiet : (place : ℕ) (fault : Fault) (before after : D) → HasCause disk before after (slice_index ids place) fault →
      (◌≡◌ {A = Result ⊤ Fault} (Err fault) (Err (Disk (slice_index ids place))) → ⊥) → disk.faults after ≡ disk.faults before
  refused_quiet place (Link node) before after why other = absurd why
  refused_quiet place (Disk node) before after why other = absurd (other (ap (λ n. Err (Disk n)) why.0))
  refused_quiet place (Damaged node key) before after why other = quiet open_calls before after why.3
  refused_quiet place (AnotherLog node caller) before after why other = absurd why

  module _ {F : Type 0} (runners : List (Runner D F disk)) (opened : AreOpened runners disks_old ids) where
    opened_quiet : (i : ℕ) (before : D) (runner : Runner D F disk) → i < length runners → slice_index_or disks_old i None ≡ Some before →
        disk.faults (runner_disk (slice_index_or runners i runner)) ≡ disk.faults before
    opened_quiet i before runner low was =
        let opens = (opened i runner low).opens before was in
        quiet (opening_calls opens.found opens.copies) before (runner_disk (slice_index_or runners i runner)) opens.made

    -- an opening was refused
    pub refused_run : (links : List L) (fault : Fault) → length links ≡ length ids → WasRefused disk ids disks_old disks_new (length runners) fault →
        ((i : ℕ) → length runners < i → slice_index_or disks_new i None ≡ slice_index_or disks_old i None) →
        RunQuietly faults ids disks_old disks_new links links runners (Err fault)
    refused_run links fault each why behind = record {
      links = λ i before after low other. ap faults (one_item links i after before (omega (arith, each, low)));
      running = λ i before runner low other was. opened_quiet i before runner low was;
      others = λ i before after high low other was is. elim (eqb_tells i (length runners)) [
        | inl h ↦ refused_quiet (length runners) fault before after
            (why.refused.cause before after (ap (λ k. slice_index_or disks_old k None) (sym h.1) ∙ was) (ap (λ k. slice_index_or disks_new k None) (sym h.1) ∙ is))
            (λ e. other (e ∙ ap (λ k. Err (Disk (slice_index ids k))) (sym h.1)))
        | inr h ↦ ap disk.faults (sym (some_one was is (behind i (let differ = h.1 in omega (arith, high, differ)))))
      ];
    }

    -- all were opened, and took turns that ended so
    pub turned_run : (now : List (Runner D F disk)) (links_old links_new : List L) (result : Result ⊤ Fault) → length runners ≡ length ids →
        length now ≡ length runners → StayQuiet faults runners now links_old links_new result →
        RunQuietly faults ids disks_old disks_new links_old links_new now result
    turned_run now links_old links_new result all count turns = record {
      links = λ i before after low other.
          let first : i < length runners = omega (arith, all, low) in
          let some = an_item runners i first in
          turns.links i some before after first (λ e. other (e ∙ ap (λ n. Err (Link n)) (opened i some first).id_is));
      running = λ i before runner low other was.
          let first : i < length runners = omega (arith, count, low) in
          turns.disks i runner runner first (λ e. other (e ∙ ap (λ n. Err (Disk n)) (opened i runner first).id_is)) ∙ opened_quiet i before runner first was;
      others = λ i before after high low. absurd (omega (arith, all, count, high, low));
    }

module _ {D L : Type 0} (disk : Ghosts D) (faults : L → ℕ) (ids : List ℕ) (disks_old disks_new : List (Option D)) where
  -- the allocators were stopped, and the run has a status
  pub stopped_run : {F : Type 0} (runners : List (Runner D F disk)) (last : List (Option D)) (links_old links_new : List L) (result : Result ⊤ Fault) (status : Status) →
      ((id : ℕ) → result ≡ Err (Link id) → status ≡ LinkFault id) → ((id : ℕ) → result ≡ Err (Disk id) → status ≡ DiskFault id) →
      AreStopped runners disks_new last → RunQuietly faults ids disks_old disks_new links_old links_new runners result →
      OthersStay (OfLink faults links_old links_new) ids (λ id. status ≡ LinkFault id) × OthersStay (OfDisk disk.faults disks_old last) ids (λ id. status ≡ DiskFault id)
  stopped_run runners last links_old links_new result status of_link of_disk stopped run = (
    λ i low other before after. run.links i before after low (λ e. other (of_link (slice_index ids i) e)),
    λ i low other before after was is. elim (leb_tells (length runners) i) [
      | inl h ↦ run.others i before after h.1 low (λ e. other (of_disk (slice_index ids i) e)) was (sym (stopped.others i h.1) ∙ is)
      | inr h ↦ let within : i < length runners = omega (arith, let high = h.1 in high) in
          let some = an_item runners i within in
          ap disk.faults (sym (some_one (stopped.stopped i some within) is refl)) ∙ run.running i before some within (λ e. other (of_disk (slice_index ids i) e)) was
    ],
  )
