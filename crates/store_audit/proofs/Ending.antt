-- How a comparison ends.
use Rattle.std.proofs.Common.{◌≡◌, inl, inr, ℕ, ◌<◌, ◌≤◌, List, [], length, refl, subst, append-nil}
use Rattle.std.specs.Prelude.{Option, None, Some, slice_index}
use Rattle.std.specs.Io.KnownBytes.{Appends, append_known}
use Rattle.cmd_io.specs.Output.{WritesFront}
use Rattle.cmd_io.specs.declared.status.Status.{Status}
use Rattle.cmd_io.specs.declared.status.Status.TheVariants.{Differ, DiskFault, Done, WriteFault}
use Rattle.raft_log.specs.declared.stored.Stored.{Stored}
use Rattle.store_audit.specs.Audits.{Comes, Compares, Ends, HasAgreement, IsWritten, Reads}
use Rattle.disk_model.specs.declared.disk.Disk.{Ghosts}
use Rattle.store_audit.specs.Reads.{AreStoresOf}
use Rattle.store_audit.specs.Report.{agreed_report, line_of}
use Rattle.store_audit.specs.Stores.{AreReadable, committed, store_at}
use Rattle.store_audit.specs.Verdict.{IsAgreement, IsDifference}
use Rattle.store_audit.proofs.Comparing.{agree_on, injective_front}

-- nothing had waited
pub from_nothing : (a b : Option (List ℕ)) (piece : List ℕ) → Appends (append_known a []) b piece → Appends a b piece
from_nothing None b piece wrote = wrote
from_nothing (Some x) b piece wrote = subst (λ l. Appends (Some l) b piece) (append-nil x) wrote

module _ (ids : List ℕ) (stores : List Stored) where
  -- stores that agree do on what the one has committed that has committed the most
  pub agreement : (count most : ℕ) → IsAgreement stores count → AreReadable stores → most < length stores
      → ((k : ℕ) → k < length stores → (store_at stores k).commit ≤ (store_at stores most).commit) → HasAgreement stores (agreed_report stores (committed (store_at stores most)))
  agreement count most agrees readable exists longest = record {
    list = committed (store_at stores most);
    agree = agree_on stores most (λ k below. (readable k below).commit) agrees.agree exists longest;
    injective = injective_front (store_at stores most).commit (store_at stores most).entries.items (readable most exists).commit (readable most exists).injective;
    lines = refl;
  }

  pub ends_agreed : (report : List ℕ) (a b : Option (List ℕ)) → HasAgreement stores report → Appends (append_known a []) b report → Ends ids stores a b Done
  ends_agreed report a b agrees wrote = record { outcome = Done; report = report; compares = agrees; written = inl (refl, from_nothing a b report wrote) }

  pub ends_unwritten : (report : List ℕ) (a b : Option (List ℕ)) → HasAgreement stores report → WritesFront a b report → Ends ids stores a b WriteFault
  ends_unwritten report a b agrees front = record { outcome = Done; report = report; compares = agrees; written = inr (refl, front) }

-- what stores come to is what the disks do that they were read of
module _ {D : Type 0} (ghosts : Ghosts D) (ids : List ℕ) (disks : List (Option D)) (stores : List Stored) (read : AreStoresOf ghosts disks stores) (all : length stores ≡ length ids) where
  pub come : (status : Status) (report : List ℕ) → Compares ids stores status report → Comes ghosts ids disks status report
  come Done report is = record { stores = stores; read = read; all = all; compares = is }
  come (Differ place first second) report is = record { stores = stores; read = read; all = all; compares = is }
  come _ report is = absurd is

pub no_disk_failed : (ids : List ℕ) (stores : List Stored) (status : Status) (report : List ℕ) → Compares ids stores status report → (id : ℕ) → status ≡ DiskFault id → ⊥
no_disk_failed ids stores status report is id e = subst (λ s. Compares ids stores s report) e is

-- a comparison comes of all disks
module _ {D : Type 0} (ghosts : Ghosts D) (ids : List ℕ) (disks : List (Option D)) (stores : List Stored) where
  pub of_all : (outcome : Status) (report : List ℕ) → Compares ids stores outcome report → Reads ghosts ids disks outcome (length ids)
  of_all Done report compares = refl
  of_all (Differ place first second) report compares = refl
  of_all _ report compares = absurd compares
