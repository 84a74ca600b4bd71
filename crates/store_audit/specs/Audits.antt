-- What an audit of disks comes to, what it writes, and what it leaves.
use Rattle.std.specs.Prelude.{⊤, ◌≡◌, ◌⊎◌, ℕ, suc, ◌<◌, true, List, length, Option, Some, None, slice_index, slice_index_or}
use Rattle.std.specs.Io.KnownBytes.{Appends}
use Rattle.can_frame.specs.declared.entry.Entry.{Entry}
use Rattle.can_frame.specs.Log.{IsInjective}
use Rattle.disk_model.specs.declared.disk.Disk.{Ghosts}
use Rattle.outside.specs.Faults.{Rose}
use Rattle.cmd_io.specs.Output.{WritesFront}
use Rattle.cmd_io.specs.declared.status.Status.{Status}
use Rattle.cmd_io.specs.declared.status.Status.TheVariants.{Damaged, Differ, DiskFault, Done, WriteFault}
use Rattle.raft_log.specs.declared.stored.Stored.{Stored}
use Rattle.store_audit.specs.Reads.{AllStay, AreReadUpTo, AreStoresOf, IsDamagedDisk}
use Rattle.store_audit.specs.Report.{AgreeOn, agreed_report, line_of}
use Rattle.store_audit.specs.Verdict.{IsDifference}

-- these two nodes have the stores that differ first, at this place
pub record HasDifference (ids : List ℕ) (stores : List Stored) (place first second : ℕ) : Type 0 where
  pub a : ℕ
  pub b : ℕ
  pub difference : IsDifference stores place a b
  pub first_is : first ≡ slice_index ids a
  pub second_is : second ≡ slice_index ids b

-- the stores agree on a list that gives nothing twice, and this is written of it
pub record HasAgreement (stores : List Stored) (report : List ℕ) : Type 0 where
  pub list : List Entry
  pub agree : AgreeOn stores list
  pub injective : IsInjective list
  pub lines : report ≡ agreed_report stores list

-- what the stores of these nodes come to, and what is written of it
abbrev pub Compares : List ℕ → List Stored → Status → List ℕ → Type 0
Compares ids stores Done report = HasAgreement stores report
Compares ids stores (Differ place first second) report =
    HasDifference ids stores place first second × (report ≡ line_of (Differ place first second))
Compares ids stores _ report = ⊥

-- how a run ends that came to this, with this to be written: it was written, or a front of it, where the sink failed.
-- The lists at the end are what the sink has been written, before and now
abbrev pub IsWritten : Status → List ℕ → Option (List ℕ) → Option (List ℕ) → Status → Type 0
IsWritten outcome report before now status =
    ((status ≡ outcome) × Appends before now report) ⊎ ((status ≡ WriteFault) × WritesFront before now report)

-- an end at which no disk failed
abbrev pub IsOfStores : Status → Type 0
IsOfStores Done = ⊤
IsOfStores (Differ place first second) = ⊤
IsOfStores (Damaged id key) = ⊤
IsOfStores _ = ⊥

-- each node has a disk, which tells what it holds
pub record IsTelling {D : Type 0} (ghosts : Ghosts D) (place : Option D) : Type 0 where
  pub disk : D
  pub is : place ≡ Some disk
  pub tells : ghosts.tells disk ≡ true

abbrev pub AllTell : {D : Type 0} → Ghosts D → List ℕ → List (Option D) → Type 0
AllTell ghosts ids disks = (k : ℕ) → k < length ids → IsTelling ghosts (slice_index_or disks k None)

-- a comparison of the stores of these nodes ends so
pub record Ends (ids : List ℕ) (stores : List Stored) (before now : Option (List ℕ)) (status : Status)
    : Type 0 where
  pub outcome : Status
  pub report : List ℕ
  pub compares : Compares ids stores outcome report
  pub written : IsWritten outcome report before now status

module _ {D : Type 0} (ghosts : Ghosts D) (ids : List ℕ) (disks : List (Option D)) where
  -- all are stores, which come to this
  pub record IsCompared (status : Status) (report : List ℕ) : Type 0 where
    pub stores : List Stored
    pub read : AreStoresOf ghosts disks stores
    pub all : length stores ≡ length ids
    pub compares : Compares ids stores status report

  -- the disks before that of this node have stores
  pub record AuditEndsAtDisk (id : ℕ) : Type 0 where
    pub stores : List Stored
    pub read : AreStoresOf ghosts disks stores
    pub within : length stores < length ids
    pub is : id ≡ slice_index ids (length stores)

  -- the disks before that of this node have stores, and its own is damaged, first at this key
  pub record AuditEndsAtDamage (id key : ℕ) : Type 0 where
    pub at : AuditEndsAtDisk id
    pub disk : D
    pub there : slice_index_or disks (length at.stores) None ≡ Some disk
    pub damaged : IsDamagedDisk ghosts disk key

  -- how an audit ends while nothing of the sink fails, and what it then writes
  abbrev pub Comes : Status → List ℕ → Type 0
  Comes Done report = IsCompared Done report
  Comes (Differ place first second) report = IsCompared (Differ place first second) report
  Comes (Damaged id key) report = AuditEndsAtDamage id key × (report ≡ line_of (Damaged id key))
  Comes (DiskFault id) report = AuditEndsAtDisk id × (report ≡ line_of (DiskFault id))
  Comes _ report = ⊥

  -- the disk of this node counted a fault
  pub record HasFailed (new : List (Option D)) (id : ℕ) : Type 0 where
    pub place : ℕ
    pub within : place < length ids
    pub is : id ≡ slice_index ids place
    pub before : D
    pub after : D
    pub was : slice_index_or disks place None ≡ Some before
    pub now : slice_index_or new place None ≡ Some after
    pub rose : Rose (ghosts.faults before) (ghosts.faults after)

  -- the count of faults of the disk that the status names rose, and no other
  pub record CountsOne (new : List (Option D)) (status : Status) : Type 0 where
    pub named : (id : ℕ) → status ≡ DiskFault id → HasFailed new id
    pub others : (k : ℕ) (before after : D) → k < length ids →
        (status ≡ DiskFault (slice_index ids k) → ⊥) → slice_index_or disks k None ≡ Some before →
        slice_index_or new k None ≡ Some after → ghosts.faults after ≡ ghosts.faults before

  -- the disk of this node is the last of so many
  pub record NamesLast (id count : ℕ) : Type 0 where
    pub place : ℕ
    pub within : place < length ids
    pub is : id ≡ slice_index ids place
    pub count_is : count ≡ suc place

  -- how many disks are read where an audit ends so: all, or those up to the one that is named
  abbrev pub Reads : Status → ℕ → Type 0
  Reads Done count = count ≡ length ids
  Reads (Differ place first second) count = count ≡ length ids
  Reads (Damaged id key) count = NamesLast id count
  Reads (DiskFault id) count = NamesLast id count
  Reads _ count = ⊥

  -- in order, and no other
  abbrev pub ReadsInOrder : List (Option D) → Status → Type 0
  ReadsInOrder new status = (count : ℕ) × Reads status count × AreReadUpTo ghosts count disks new

  -- all of an audit
  pub record Audits (new : List (Option D)) (before now : Option (List ℕ)) (status : Status) : Type 0 where
    pub outcome : Status
    pub report : List ℕ
    pub comes : Comes outcome report
    pub stay : AllStay ghosts disks new
    pub order : ReadsInOrder new outcome
    pub counts : CountsOne new outcome
    pub written : IsWritten outcome report before now status
