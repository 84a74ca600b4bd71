-- When the statuses of a run come.
use Rattle.std.specs.Prelude.{⊤, ◌≡◌, ℕ, ◌<◌, List, length, Option, Some, None, slice_index}
use Rattle.std.specs.Prelude.{slice_index_or, true}
use Rattle.disk_model.specs.declared.disk.Disk.{Ghosts}
use Rattle.outside.specs.Faults.{Rose}
use Rattle.raft_log.specs.Rules.{IsDamagedAt, StandsForState}
use Rattle.raft_log.specs.Stored.{Stored}
use Rattle.cmd_io.specs.declared.status.Status.{Status}
use Rattle.cmd_io.specs.declared.status.Status.TheVariants.{AnotherLog, Done, Memory, Damaged}

-- the status of a run in which no link, disk or sink failed
abbrev pub IsFaultless : Status → Type 0
IsFaultless Done = ⊤
IsFaultless (Damaged id key) = ⊤
IsFaultless (AnotherLog id node) = ⊤
IsFaultless Memory = ⊤
IsFaultless _ = ⊥

-- this holds of the counts of faults, before and now, of the link at a place
abbrev pub OfLink : {L : Type 0} → (L → ℕ) → List L → List L → ℕ → (ℕ → ℕ → Type 0) → Type 0
OfLink {L = L} faults old new place Holds =
    (before after : L) → Holds (faults (slice_index_or old place before)) (faults (slice_index_or new place after))

-- this holds of the counts of faults, before and now, of the disk at a place
abbrev pub OfDisk : {D : Type 0} → (D → ℕ) → List (Option D) → List (Option D) → ℕ →
    (ℕ → ℕ → Type 0) → Type 0
OfDisk {D = D} faults old new place Holds = (before after : D) → slice_index_or old place None ≡ Some before →
    slice_index_or new place None ≡ Some after → Holds (faults before) (faults after)

-- `Of` is one of the two: it says what holds of the counts of what stands at a place.
module _ (Of : ℕ → (ℕ → ℕ → Type 0) → Type 0) (ids : List ℕ) where
  -- the count of this node rose
  pub record HasRisen (id : ℕ) : Type 0 where
    pub place : ℕ
    pub within : place < length ids
    pub id_is : slice_index ids place ≡ id
    pub rose : Of place Rose

  -- no count rose
  abbrev pub NoneRose : Type 0
  NoneRose = (id : ℕ) → HasRisen id → ⊥

  -- each count stays but those of the nodes that are named
  abbrev pub OthersStay : (ℕ → Type 0) → Type 0
  OthersStay IsNamed =
      (i : ℕ) → i < length ids → (IsNamed (slice_index ids i) → ⊥) → Of i (λ before now. now ≡ before)

-- the first of the disks that were handed in, so many, tell what they hold
abbrev pub DisksTell : {D : Type 0} → Ghosts D → List (Option D) → ℕ → Type 0
DisksTell {D = D} disk old count =
    (i : ℕ) (before : D) → i < count → slice_index_or old i None ≡ Some before →
    disk.tells before ≡ true

-- what was handed in stands for a state, where it tells what it holds
abbrev pub IsWhole : {D : Type 0} → Ghosts D → D → Type 0
IsWhole disk before =
    disk.tells before ≡ true → (state : Stored) × StandsForState (disk.contents before).seen state

abbrev pub AreWhole : {D : Type 0} → Ghosts D → List ℕ → List (Option D) → Type 0
AreWhole {D = D} disk ids old =
    (i : ℕ) (before : D) → i < length ids → slice_index_or old i None ≡ Some before →
    IsWhole disk before

-- the disk that was handed in for this node is damaged, first at this key, and those before it are not
pub record IsDamagedDisk {D : Type 0} (disk : Ghosts D) (ids : List ℕ) (old : List (Option D))
    (id key : ℕ) : Type 0 where
  pub place : ℕ
  pub within : place < length ids
  pub id_is : slice_index ids place ≡ id
  pub damaged : (before : D) → slice_index_or old place None ≡ Some before → disk.tells before ≡ true →
      IsDamagedAt (disk.contents before).seen key
  pub whole : (i : ℕ) (before : D) → i < place → slice_index_or old i None ≡ Some before → IsWhole disk before
