-- A run to its end, where links, disks and the clock tell what they have.
use Rattle.std.specs.Prelude.{◌≡◌, ℕ, ◌<◌, List, length, Option, Some, None, slice_index_or, true}
use Rattle.disk_model.specs.declared.disk.Disk.{Ghosts}
use Rattle.outside.specs.declared.received.RawFrame.{RawFrame}
use Rattle.outside.specs.declared.received.Received.{Received}
use Rattle.raft_log.specs.Rules.{AlwaysStandsForState, StandsForState}
use Rattle.raft_log.specs.Stored.{Stored}
use Rattle.alloc_spec.specs.Rules.{Rules}
use Rattle.cmd_node.specs.Opening.{RunInput, together_at_opening}
use Rattle.cmd_node.specs.Turns.{AreStored, Together, all_turns}

-- the allocators of these nodes, opened by these rules, after all their turns
abbrev pub after_turns : Rules → ℕ → List ℕ → RunInput → Together
after_turns rules turns ids given = all_turns (length ids) turns (together_at_opening rules ids given)

-- the disk tells what it holds, and it stands for a state
pub record TellsState {D : Type 0} (disk : Ghosts D) (before : D) (state : Stored) : Type 0 where
  pub tells : disk.tells before ≡ true
  pub stands : StandsForState (disk.contents before).seen state

-- the disk tells what it holds, and whatever a stop leaves of it stands for this state
pub record HoldsState {D : Type 0} (disk : Ghosts D) (after : D) (state : Stored) : Type 0 where
  pub tells : disk.tells after ≡ true
  pub stands : AlwaysStandsForState (disk.contents after) state

module _ {L D : Type 0} (coming : L → Option (List Received)) (sent : L → Option (List RawFrame))
    (disk : Ghosts D) where
  -- the links and disks at the places, and the clock, tell that this is what they have
  pub record Tell (links : List L) (disks : List (Option D)) (readings : Option (List ℕ))
      (given : RunInput) : Type 0 where
    pub coming_is : (i : ℕ) (link : L) → i < length links
        → coming (slice_index_or links i link) ≡ Some (given.coming i)
    pub sent_is : (i : ℕ) (link : L) → i < length links
        → sent (slice_index_or links i link) ≡ Some (given.sent i)
    pub stored_is : (i : ℕ) (before : D) → slice_index_or disks i None ≡ Some before →
        TellsState disk before (given.stored i)
    pub readings_are : readings ≡ Some given.readings

  -- what a run of so many allocators leaves that took so many turns each and are these then: each link tells the items
  -- that are left and the frames that were sent, each disk holds what its allocator has stored, and the clock tells the
  -- readings that are left
  pub record LeavesAll (links : List L) (disks : List (Option D)) (readings : Option (List ℕ)) (count : ℕ)
      (all : Together) : Type 0 where
    pub coming_is : (i : ℕ) (link : L) → i < count
        → coming (slice_index_or links i link) ≡ Some (all.running i).coming
    pub sent_is : (i : ℕ) (link : L) → i < count
        → sent (slice_index_or links i link) ≡ Some (all.running i).sent
    pub stored_is : (i : ℕ) (after : D) → i < count → slice_index_or disks i None ≡ Some after →
        HoldsState disk after (all.running i).stored
    pub same : AreStored count all
    pub readings_are : readings ≡ Some all.readings
