-- The first damaged disk ends a run in which nothing fails.
use Rattle.std.proofs.Common.{◌≡◌, ℕ, suc, ◌<◌, List, length, sym, ap, ◌∙◌, inl, inr, arith}
use Rattle.std.proofs.lemmas.Bool.Decides.{leb_tells}
use Rattle.std.specs.Prelude.{Option, Some, None, IfErr, IsSome, OnOk, Result, Ok, Err, slice_index, slice_index_or, ⊤}
use Rattle.disk_model.specs.declared.disk.Disk.{Ghosts}
use Rattle.raft_log.specs.Rules.{IsDamagedAt, StandsForState}
use Rattle.raft_log.specs.Stored.{Stored}
use Rattle.cmd_io.specs.declared.status.Status.TheVariants.{Damaged as DamagedStore}
use Rattle.cmd_node.specs.Ends.{end_status}
use Rattle.cmd_node.specs.Run.{AreStopped, EndsRun, HasRun}
use Rattle.cmd_node.specs.Status.{DisksTell, IsDamagedDisk, IsFaultless, IsWhole, NoneRose, OfDisk, OfLink}
use Rattle.cmd_node.specs.declared.fault.Fault.{Fault}
use Rattle.cmd_node.specs.declared.fault.Fault.TheVariants.{Link, Disk, Damaged, AnotherLog}
use Rattle.cmd_node.specs.declared.runner.Runner.{Runner}
use Rattle.cmd_node.proofs.Ending.{some_value}

module _ {D : Type 0} (disk : Ghosts D) (ids : List ℕ) (old : List (Option D)) (there : (i : ℕ) → i < length ids → IsSome (slice_index_or old i None))
    (one : (image : List ℕ) (a b : ℕ) → IsDamagedAt image a → IsDamagedAt image b → a ≡ b)
    (either : (image : List ℕ) (state : Stored) (key : ℕ) → StandsForState image state → IsDamagedAt image key → ⊥) where
  pub not_whole : (id key : ℕ) (is : IsDamagedDisk disk ids old id key) → DisksTell disk old (suc is.place) → ((before : D) → slice_index_or old is.place None ≡ Some before → IsWhole disk before) → ⊥
  not_whole id key is tell whole =
      let some = some_value (slice_index_or old is.place None) (there is.place is.within) in
      let told = tell is.place some.0 (omega arith) some.1 in
      let stands = whole some.0 some.1 told in
      either (disk.contents some.0).seen stands.0 key stands.1 (is.damaged some.0 some.1 told)

  pub one_damaged : (a k b m : ℕ) (is : IsDamagedDisk disk ids old a k) → DisksTell disk old (suc is.place) → IsDamagedDisk disk ids old b m → (b ≡ a) × (m ≡ k)
  one_damaged a k b m is tell other = elim (leb_tells is.place other.place) [
    | inl h ↦ elim (leb_tells other.place is.place) [
      | inl l ↦
          let up = h.1 in let down = l.1 in
          let same : other.place ≡ is.place = omega (arith, up, down) in
          let some = some_value (slice_index_or old is.place None) (there is.place is.within) in
          let told = tell is.place some.0 (omega arith) some.1 in (
            sym other.id_is ∙ ap (slice_index ids) same ∙ is.id_is,
            one (disk.contents some.0).seen m k
                (other.damaged some.0 (ap (λ i. slice_index_or old i None) same ∙ some.1) told) (is.damaged some.0 some.1 told),
          )
      | inr l ↦ absurd (let up = h.1 in let down = l.1 in not_whole a k is tell (λ before was. other.whole is.place before (omega (arith, up, down)) was))
    ]
    | inr h ↦ absurd (let down = h.1 in not_whole b m other (λ i before low was. tell i before (omega (arith, down, low)) was) (λ before was. is.whole other.place before (omega (arith, down)) was))
  ]

-- a run in which no count of a link or a disk rose
module _ {D F L : Type 0} {disk : Ghosts D} (faults : L → ℕ) (ids : List ℕ) (disks_old disks last : List (Option D)) (links_old links : List L)
    (runners : List (Runner D F disk)) (stopped : AreStopped runners disks last) (no_disk : NoneRose (OfDisk disk.faults disks_old last) ids) where
  pub faultless : (ended : Result ⊤ Fault) → IfErr ended (EndsRun faults ids disks_old disks links_old links runners) → NoneRose (OfLink faults links_old links) ids → IsFaultless (end_status ended)
  faultless (Ok done) failed no_link = tt
  faultless (Err (Link id)) failed no_link = absurd (no_link id failed.0)
  faultless (Err (Disk id)) failed no_link = absurd (no_disk id (failed last stopped))
  faultless (Err (Damaged id key)) failed no_link = tt
  faultless (Err (AnotherLog id node)) failed no_link = tt

  module _ (there : (i : ℕ) → i < length ids → IsSome (slice_index_or disks_old i None))
      (one : (image : List ℕ) (a b : ℕ) → IsDamagedAt image a → IsDamagedAt image b → a ≡ b)
      (either : (image : List ℕ) (state : Stored) (key : ℕ) → StandsForState image state → IsDamagedAt image key → ⊥)
      (id key : ℕ) (is : IsDamagedDisk disk ids disks_old id key) (tell : DisksTell disk disks_old (suc is.place)) where
    all_opened : length runners ≡ length ids → ((i : ℕ) (before : D) → i < length runners → slice_index_or disks_old i None ≡ Some before → IsWhole disk before) → ⊥
    all_opened all whole =
        let within = is.within in
        not_whole disk ids disks_old there one either id key is tell (λ before was. whole is.place before (omega (arith, all, within)) was)

    pub ends_damaged : (ended : Result ⊤ Fault) → HasRun faults ids disks_old disks links_old links runners ended → OnOk ended (length runners ≡ length ids) →
        end_status ended ≡ DamagedStore id key
    ends_damaged (Ok done) run all = absurd (all_opened all run.whole)
    ends_damaged (Err (Link node)) run all = absurd (all_opened run.failed.1 run.whole)
    ends_damaged (Err (Disk node)) run all = absurd (no_disk node (run.failed last stopped))
    ends_damaged (Err (AnotherLog node caller)) run all = absurd (all_opened run.failed.1 run.whole)
    ends_damaged (Err (Damaged node first)) run all =
        let same = one_damaged disk ids disks_old there one either id key node first is tell run.failed.0 in
        ap (λ k. DamagedStore node k) same.1 ∙ ap (λ n. DamagedStore n key) same.0
