-- What a run of `replace` makes, or what stands in its way, and what it writes.
use Rattle.std.specs.Prelude.{⊤, ◌≡◌, ◌⊎◌, ℕ, ◌<◌, true, List, [], ◌++◌, codes, decimal, length, slice_index, slice_index_or, Option, Some, None}
use Rattle.cmd_io.specs.declared.status.Status.{Status}
use Rattle.cmd_io.specs.declared.status.Status.TheVariants.{Damaged, DiskFault, Done, NoLeader, Uncommitted}
use Rattle.cmd_new.specs.Made.{HasImage, image_calls}
use Rattle.disk_model.specs.Device.{Makes}
use Rattle.disk_model.specs.declared.disk.Disk.{Ghosts}
use Rattle.raft_log.specs.declared.stored.Stored.{Stored}
use Rattle.store_audit.specs.Audits.{CountsOne, IsWritten}
use Rattle.store_audit.specs.Reads.{IsDamagedDisk, IsReadAs, StaysAs}
use Rattle.store_audit.specs.Stores.{store_at}
use Rattle.cmd_replace.specs.Guard.{MayReplace, StandsInWay}
use Rattle.cmd_replace.specs.declared.guard.Obstacle.{Obstacle}
use Rattle.cmd_replace.specs.declared.guard.Obstacle.TheVariants as obstacle

-- the line where a store was made: of this member, from the leader's, with so many entries
abbrev pub made_line : ℕ → ℕ → ℕ → List ℕ
made_line lost leader entries =
    codes "replaced " ++ decimal lost ++ codes " " ++ decimal leader ++ codes " " ++ decimal entries ++ codes "\n"

-- the line where none was made
abbrev pub line_of : Status → List ℕ
line_of (DiskFault id) = codes "disk fault " ++ decimal id ++ codes "\n"
line_of (Damaged id key) = codes "damaged " ++ decimal id ++ codes " " ++ decimal key ++ codes "\n"
line_of NoLeader = codes "no leader\n"
line_of (Uncommitted id) = codes "uncommitted " ++ decimal id ++ codes "\n"
line_of _ = []

-- the ends at which none was made
abbrev pub HasLine : Status → Type 0
HasLine (DiskFault id) = ⊤
HasLine (Damaged id key) = ⊤
HasLine NoLeader = ⊤
HasLine (Uncommitted id) = ⊤
HasLine _ = ⊥

-- the node has a place among the members
pub record IsListed (ids : List ℕ) (node : ℕ) : Type 0 where
  pub place : ℕ
  pub within : place < length ids
  pub is : slice_index ids place ≡ node

-- the image that was read at a place
abbrev pub image_at : List (List ℕ) → ℕ → List ℕ
image_at images k = slice_index_or images k []

-- this image was written over all of a disk and synced, and the disk counted no fault
pub record IsImaged {D : Type 0} (ghosts : Ghosts D) (image : List ℕ) (before : D) (place : Option D) : Type 0 where
  pub after : D
  pub is : place ≡ Some after
  pub made : Makes ghosts.does (image_calls image) true before after
  pub has : ghosts.tells before ≡ true → HasImage image (ghosts.contents after)
  pub faults : ghosts.faults after ≡ ghosts.faults before

module _ {D : Type 0} (ghosts : Ghosts D) (ids : List ℕ) (lost : ℕ) (old : List (Option D)) where
  -- of the members that are left, those among the first so many: each disk was read as a store
  abbrev pub AreRead : ℕ → List (List ℕ) → List Stored → Type 0
  AreRead count images stores = (k : ℕ) (disk : D) → k < count → (slice_index ids k ≡ lost → ⊥) →
      slice_index_or old k None ≡ Some disk → IsReadAs ghosts disk (image_at images k) (store_at stores k)

  -- all of them, with a place for the lost one
  pub record AreLeft (images : List (List ℕ)) (stores : List Stored) : Type 0 where
    pub read : AreRead (length ids) images stores
    pub all : length stores ≡ length ids

  -- what was read stands in the way
  pub record IsRefused (why : Obstacle) : Type 0 where
    pub images : List (List ℕ)
    pub stores : List Stored
    pub left : AreLeft images stores
    pub stands : StandsInWay ids lost stores why

  -- by what was read the store may be made from that of the leader, at this place
  pub record MayBeMade : Type 0 where
    pub images : List (List ℕ)
    pub stores : List Stored
    pub left : AreLeft images stores
    pub leader : ℕ
    pub may : MayReplace ids lost stores leader

  -- the disk of this node, which is left, is damaged, first at this key, and those before it are stores
  pub record EndsAtDamage (id key : ℕ) : Type 0 where
    pub images : List (List ℕ)
    pub stores : List Stored
    pub place : ℕ
    pub within : place < length ids
    pub is : id ≡ slice_index ids place
    pub left : id ≡ lost → ⊥
    pub read : AreRead place images stores
    pub disk : D
    pub there : slice_index_or old place None ≡ Some disk
    pub damaged : IsDamagedDisk ghosts disk key

  -- how the reading ends at a disk of a member that is left
  abbrev pub EndsReading : Status → Type 0
  EndsReading (Damaged id key) = EndsAtDamage id key
  EndsReading (DiskFault id) = id ≡ lost → ⊥
  EndsReading _ = ⊥

  module _ (new : List (Option D)) where
    -- no disk counted a fault
    abbrev pub AreQuiet : Type 0
    AreQuiet = (k : ℕ) (before after : D) → slice_index_or old k None ≡ Some before →
        slice_index_or new k None ≡ Some after → ghosts.faults after ≡ ghosts.faults before

    -- the disks of the members that are left hold what they held, and at most one device call of each was made: its read
    abbrev pub LeftStay : Type 0
    LeftStay = (k : ℕ) (before : D) → (slice_index ids k ≡ lost → ⊥) → slice_index_or old k None ≡ Some before →
        StaysAs ghosts before (slice_index_or new k None)

    -- nothing was done to the disk of the lost member
    abbrev pub LostStays : Type 0
    LostStays = (k : ℕ) → slice_index ids k ≡ lost → slice_index_or new k None ≡ slice_index_or old k None

    -- the image of the leader's store was written to it, and this line tells so
    pub record IsReplaced (report : List ℕ) : Type 0 where
      pub allowed : MayBeMade
      pub lost_is : IsListed ids lost
      pub imaged : (before : D) → slice_index_or old lost_is.place None ≡ Some before →
          IsImaged ghosts (image_at allowed.images allowed.leader) before (slice_index_or new lost_is.place None)
      pub lines : report ≡ made_line lost (slice_index ids allowed.leader)
          (length (store_at allowed.stores allowed.leader).entries.items)

    -- how a run ends while nothing of the sink fails, and what it then writes
    abbrev pub Comes : Status → List ℕ → Type 0
    Comes Done report = IsReplaced report
    Comes NoLeader report = IsRefused obstacle.NoLeader × LostStays × (report ≡ line_of NoLeader)
    Comes (Uncommitted id) report = (place : ℕ) × IsRefused (obstacle.Uncommitted place) × LostStays
        × (id ≡ slice_index ids place) × (report ≡ line_of (Uncommitted id))
    Comes (Damaged id key) report = EndsAtDamage id key × LostStays × (report ≡ line_of (Damaged id key))
    Comes (DiskFault id) report = (((id ≡ lost) × MayBeMade) ⊎ ((id ≡ lost → ⊥) × LostStays))
        × (report ≡ line_of (DiskFault id))
    Comes _ report = ⊥

    -- all of a run
    pub record Replaces (before now : Option (List ℕ)) (status : Status) : Type 0 where
      pub outcome : Status
      pub report : List ℕ
      pub comes : Comes outcome report
      pub stay : LeftStay
      pub count : length new ≡ length old
      pub counts : CountsOne ghosts ids old new outcome
      pub written : IsWritten outcome report before now status
