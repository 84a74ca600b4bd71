-- A store that is not read as one.
use Rattle.std.proofs.Common.{◌≡◌, inl, inr, ℕ, refl}
use Rattle.std.specs.Prelude.{Option, None, Some}
use Rattle.disk_model.specs.declared.disk.Disk.{Ghosts}
use Rattle.newcomer_link.specs.Logs.{IsUnread}
use Rattle.outside.specs.Faults.{Rose}
use Rattle.store_audit.specs.Reads.{IsDamagedDisk, StaysAs}
use Rattle.store_audit.specs.declared.read.Refused.{Refused}
use Rattle.store_audit.specs.declared.read.Refused.TheVariants.{Damaged, Failed}

module _ {D : Type 0} (ghosts : Ghosts D) (place : Option D) where
  by_reason : (why : Refused) (disk : D) → StaysAs ghosts disk place →
      ((key : ℕ) → why ≡ Damaged key → IsDamagedDisk ghosts disk key) →
      ((after : D) → why ≡ Failed → place ≡ Some after → Rose (ghosts.faults disk) (ghosts.faults after)) →
      IsUnread ghosts (Some disk) place
  by_reason Failed disk stays damaged failed = inr (inr (record {
    disk = disk;
    is_there = refl;
    after = stays.after;
    is_still_there = stays.is;
    failed = failed stays.after refl stays.is;
  }))
  by_reason (Damaged key) disk stays damaged failed =
      inr (inl (record { disk = disk; is_there = refl; key = key; damaged = damaged key refl }))

  pub not_read : (why : Refused) (place_old : Option D) →
      ((disk : D) → place_old ≡ Some disk → StaysAs ghosts disk place) →
      ((key : ℕ) (disk : D) → why ≡ Damaged key → place_old ≡ Some disk → IsDamagedDisk ghosts disk key) →
      ((disk after : D) → why ≡ Failed → place_old ≡ Some disk → place ≡ Some after →
      Rose (ghosts.faults disk) (ghosts.faults after)) → IsUnread ghosts place_old place
  not_read why None stays damaged failed = inl refl
  not_read why (Some disk) stays damaged failed = by_reason why disk (stays disk refl)
      (λ key is. damaged key disk is refl) (λ after is there. failed disk after is refl there)
