-- What the stores of members that are told a list may not have: an entry with the ID of a member. Where an entry has
-- one, the list is not that of the cluster whose log it is in, and a device was told the ID.
use Rattle.std.specs.Prelude.{◌≡◌, ◌⊎◌, ℕ, ◌<◌, ◌++◌, true, false, codes, decimal, List, length, slice_index, slice_index_or, Option, Some, None}
use Rattle.can_frame.specs.Log.{blank}
use Rattle.can_frame.specs.declared.entry.Entry.{Entry}
use Rattle.cluster_discovery.specs.Members.{is_on_list}
use Rattle.disk_model.specs.declared.disk.Disk.{Ghosts}
use Rattle.outside.specs.Faults.{Rose}
use Rattle.raft_log.specs.declared.stored.Stored.{Stored}
use Rattle.store_audit.specs.Reads.{IsDamagedDisk, IsStoreOf}

-- the node ID of an entry
abbrev pub node_at : List Entry → ℕ → ℕ
node_at entries place = (slice_index_or entries place (blank 0)).node

-- an entry has this node ID, which is on the list, and no entry before it has an ID of the list
pub record HasListed (list : List ℕ) (entries : List Entry) (node : ℕ) : Type 0 where
  pub place : ℕ
  pub within : place < length entries
  pub is : node ≡ node_at entries place
  pub listed : is_on_list list node ≡ true
  pub earlier : (k : ℕ) → k < place → is_on_list list (node_at entries k) ≡ false

-- no entry has a node ID of the list
abbrev pub HasNoListed : List ℕ → List Entry → Type 0
HasNoListed list entries = (place : ℕ) → place < length entries → is_on_list list (node_at entries place) ≡ false

module _ {D : Type 0} (ghosts : Ghosts D) (list : List ℕ) where
  -- the store of a disk has an entry with an ID of the list, and this is the ID of the first
  pub record IsListedOn (disk : D) (node : ℕ) : Type 0 where
    pub store : Stored
    pub is : IsStoreOf ghosts disk store
    pub entry : HasListed list store.entries.items node

  -- the store of a disk has no entry with an ID of the list
  pub record IsClear (disk : D) : Type 0 where
    pub store : Stored
    pub is : IsStoreOf ghosts disk store
    pub entries : HasNoListed list store.entries.items

  -- the store of a disk is damaged, which an opening says
  pub record IsDamaged (disk : D) : Type 0 where
    pub key : ℕ
    pub is : IsDamagedDisk ghosts disk key

  -- a disk was passed over: no entry of its store has an ID of the list, or it was not read, and what opens it says why
  abbrev pub IsPassed : D → D → Type 0
  IsPassed before after = IsClear before ⊎ (IsDamaged before ⊎ Rose (ghosts.faults before) (ghosts.faults after))

  -- of so many places, the first ones, each that has a disk was passed over
  abbrev pub ArePassed : ℕ → List (Option D) → List (Option D) → Type 0
  ArePassed count old new = (k : ℕ) (before after : D) → k < count → slice_index_or old k None ≡ Some before →
      slice_index_or new k None ≡ Some after → IsPassed before after

  -- the disk of this node, one of these, is there, and has this ID of the list first; the disks of the nodes before
  -- were passed over
  pub record IsFoundIn (ids : List ℕ) (old new : List (Option D)) (id node : ℕ) : Type 0 where
    pub place : ℕ
    pub within : place < length ids
    pub is : id ≡ slice_index ids place
    pub disk : D
    pub there : slice_index_or old place None ≡ Some disk
    pub listed : IsListedOn disk node
    pub earlier : ArePassed place old new

  -- the disks of all these nodes were passed over
  abbrev pub IsInNone : List ℕ → List (Option D) → List (Option D) → Type 0
  IsInNone ids = ArePassed (length ids)

-- the line that is written where an entry has an ID of the list: the member in whose store it is, and the ID
abbrev pub listed_line : ℕ → ℕ → List ℕ
listed_line id node = codes "listed " ++ decimal id ++ codes " " ++ decimal node ++ codes "\n"
