-- A disk that was taken and opened, or refused.
use Rattle.std.proofs.Common.{◌≡◌, ℕ, ◌≤◌, true, refl, subst, sym}
use Rattle.std.specs.Prelude.{Option, Some}
use Rattle.disk_model.specs.Contents.{AddsNoImage}
use Rattle.disk_model.specs.Device.{Makes}
use Rattle.disk_model.specs.declared.disk.Disk.{Ghosts}
use Rattle.kv_store.specs.Image.{open_calls}
use Rattle.kv_store.specs.declared.fault.Fault.{Fault as StoreFault}
use Rattle.kv_store.specs.declared.fault.OpenFault.{OpenFault}
use Rattle.kv_store.specs.declared.fault.OpenFault.TheVariants.{Fault as DiskFailed, Damaged as DamagedAt}
use Rattle.outside.specs.Faults.{Rose}
use Rattle.raft_log.specs.Opening.{FailsToOpen}
use Rattle.raft_log.specs.Rules.{IsDamagedAt}
use Rattle.cmd_node.specs.Ends.{refusal_of}
use Rattle.cmd_node.specs.Taking.{HasCause, IsRefused}
use Rattle.cmd_node.specs.declared.fault.Fault.{Fault}

pub one_disk : {D : Type 0} (disk taken : D) (before : Option D) → Some disk ≡ before → before ≡ Some taken → disk ≡ taken
one_disk disk taken before is was = cc (is, was)

module _ {D : Type 0} (disk : Ghosts D) (id : ℕ) (before after : D) where
  has_cause : (why : OpenFault) → ((key : ℕ) → why ≡ DamagedAt key → disk.tells before ≡ true → IsDamagedAt (disk.contents before).seen key) →
      ((key : ℕ) → why ≡ DamagedAt key → disk.tells before ≡ true → AddsNoImage (disk.contents before) (disk.contents after)) →
      ((key : ℕ) → why ≡ DamagedAt key → Makes disk.does open_calls true before after) →
      ((fault : StoreFault) → why ≡ DiskFailed fault → Rose (disk.faults before) (disk.faults after)) →
      ((fault : StoreFault) → why ≡ DiskFailed fault → FailsToOpen disk before after) → HasCause disk before after id (refusal_of id why)
  has_cause (DiskFailed fault) damaged images made rose failed = (refl, rose fault refl, failed fault refl)
  has_cause (DamagedAt key) damaged images made rose failed = (refl, damaged key refl, images key refl, made key refl)

  pub is_refused : (place : Option D) (fault : Fault) (why : OpenFault) → Some before ≡ place → fault ≡ refusal_of id why → disk.faults before ≤ disk.faults after →
      disk.tells after ≡ disk.tells before → ((key : ℕ) → why ≡ DamagedAt key → disk.tells before ≡ true → IsDamagedAt (disk.contents before).seen key) →
      ((key : ℕ) → why ≡ DamagedAt key → disk.tells before ≡ true → AddsNoImage (disk.contents before) (disk.contents after)) →
      ((key : ℕ) → why ≡ DamagedAt key → Makes disk.does open_calls true before after) →
      ((f : StoreFault) → why ≡ DiskFailed f → Rose (disk.faults before) (disk.faults after)) →
      ((f : StoreFault) → why ≡ DiskFailed f → FailsToOpen disk before after) → IsRefused disk place (Some after) id fault
  is_refused place fault why taken is later tells damaged images made rose failed = record {
    later = λ old new was now.
        subst (λ n. disk.faults old ≤ disk.faults n) (one_disk after new (Some after) refl now)
        (subst (λ o. disk.faults o ≤ disk.faults after) (one_disk before old place taken was) later);
    tells = λ old new was now.
        subst (λ n. disk.tells n ≡ disk.tells old) (one_disk after new (Some after) refl now)
        (subst (λ o. disk.tells after ≡ disk.tells o) (one_disk before old place taken was) tells);
    cause = λ old new was now.
        subst (λ n. HasCause disk old n id fault) (one_disk after new (Some after) refl now)
        (subst (λ o. HasCause disk o after id fault) (one_disk before old place taken was)
        (subst (HasCause disk before after id) (sym is) (has_cause why damaged images made rose failed)));
  }
