-- What is left where a run did not come to its end: at the opening of a node, or in one of its turns, a call of its
-- link or its disk failed, its store is damaged, or a call of another log came.
use Rattle.std.specs.Prelude.{◌≡◌, ℕ, suc, ◌<◌, ◌⊎◌, List, length, Option, Some, None, true}
use Rattle.std.specs.Prelude.{slice_index, slice_index_or}
use Rattle.disk_model.specs.declared.disk.Disk.{Ghosts}
use Rattle.disk_model.specs.Contents.{AddsNoImage, MayLeave}
use Rattle.outside.specs.declared.received.RawFrame.{RawFrame}
use Rattle.outside.specs.declared.received.Received.{Received}
use Rattle.outside.specs.Readings.{next_reading, readings_behind}
use Rattle.raft_core.specs.StoredPuts.{PutWithOrigin, stored_puts}
use Rattle.raft_log.specs.Rules.{StandsForState}
use Rattle.raft_log.specs.Stored.{AfterSome, Stored, after_puts, opening_puts}
use Rattle.cmd_io.specs.declared.status.Status.{Status}
use Rattle.cmd_io.specs.declared.status.Status.TheVariants.{AnotherLog, Damaged, DiskFault, LinkFault}
use Rattle.cmd_node.specs.Another.{NoneCalls, NoneCallsFor}
use Rattle.cmd_node.specs.Opening.{readings_after}
use Rattle.cmd_node.specs.Puts.{IsCutIn}
use Rattle.cmd_node.specs.Turn.{Running}
use Rattle.cmd_node.specs.Turns.{AreStored, Together, all_turns, first_turns, turning_at}
use Rattle.cmd_node.specs.WholeRun.{HoldsState, TellsState}

-- the status of a run that ended at this node
abbrev pub RunEndsAtNode : ℕ → Status → Type 0
RunEndsAtNode id status =
    (status ≡ LinkFault id) ⊎ ((status ≡ DiskFault id) ⊎ (((key : ℕ) × (status ≡ Damaged id key))
    ⊎ ((node : ℕ) × (status ≡ AnotherLog id node))))

-- ---- at an opening

-- a stop leaves no image of the disk that it could not leave before
abbrev pub KeepsImages : {D : Type 0} → Ghosts D → D → D → Type 0
KeepsImages disk before after = AddsNoImage (disk.contents before) (disk.contents after)

-- the same, or the disk stood for a state, and a stop leaves that state after some of the first puts of an opening
abbrev pub KeepsOrOpens : {D : Type 0} → Ghosts D → D → D → Type 0
KeepsOrOpens disk before after = KeepsImages disk before after ⊎ ((state : Stored) ×
    StandsForState (disk.contents before).seen state ×
    ((image : List ℕ) → MayLeave (disk.contents after) image →
    AfterSome (StandsForState image) (opening_puts state) state))

-- A run ended at the opening of the node with this ID. No link was touched, and the clock was read once for each node
-- up to there. The disks before its own hold what an opening makes of the state that they stood for when they were
-- handed in, where they did; this holds of its own, where it tells what it holds; and those behind it are as they were.
pub record IsCutAtOpening {L D : Type 0} (disk : Ghosts D) (ids : List ℕ) (links_old links : List L)
    (disks_old disks : List (Option D)) (readings_old readings : Option (List ℕ)) (Holds : D → D → Type 0)
    (id : ℕ) : Type 0 where
  pub place : ℕ
  pub within : place < length ids
  pub id_is : slice_index ids place ≡ id
  pub untouched : links ≡ links_old
  pub readings_are : (known : List ℕ) → readings_old ≡ Some known
      → readings ≡ Some (readings_after (suc place) known)
  pub stored_is : (i : ℕ) (before after : D) (state : Stored) → i < place →
      slice_index_or disks_old i None ≡ Some before → slice_index_or disks i None ≡ Some after →
      TellsState disk before state → HoldsState disk after (after_puts (opening_puts state) state)
  pub own_is : (before after : D) → slice_index_or disks_old place None ≡ Some before →
      slice_index_or disks place None ≡ Some after → disk.tells before ≡ true →
      (disk.tells after ≡ true) × Holds before after
  pub others : (i : ℕ) → place < i → slice_index_or disks i None ≡ slice_index_or disks_old i None

-- ---- in a turn, where links, disks and the clock tell what they have

-- the disk tells what it holds, and whatever a stop leaves of it stands for this state after some of the first of these
-- puts
pub record HoldsStateInPart {D : Type 0} (disk : Ghosts D) (after : D) (state : Stored)
    (puts : List PutWithOrigin) : Type 0 where
  pub tells : disk.tells after ≡ true
  pub stands : (image : List ℕ) → MayLeave (disk.contents after) image →
      AfterSome (StandsForState image) (stored_puts puts state) state

-- What is stored at a place is said by `Stores` of the others, and by `StoresPart` of the one whose turn it was.
module _ {L : Type 0} (coming : L → Option (List Received)) (sent : L → Option (List RawFrame)) (links : List L)
    (readings : Option (List ℕ)) (count : ℕ) (Stores : ℕ → Running → Type 0)
    (StoresPart : ℕ → Stored → List PutWithOrigin → Type 0) where
  -- in the turn of the one at a place, when all stood like this: no frame was sent in it, its clock was read, and some
  -- first puts of it were made: of its first step alone, where the next item of its link was not taken
  pub record IsCutAt (before : Together) (place : ℕ) : Type 0 where
    pub readings_are : readings ≡ Some (readings_behind before.readings)
    pub coming_is : (i : ℕ) (link : L) → i < count → (i ≡ place → ⊥) →
        coming (slice_index_or links i link) ≡ Some (before.running i).coming
    pub sent_is : (i : ℕ) (link : L) → i < count →
        sent (slice_index_or links i link) ≡ Some (before.running i).sent
    pub stored_is : (i : ℕ) → i < count → (i ≡ place → ⊥) → Stores i (before.running i)
    pub same : AreStored count before
    pub own_is : (link : L) → IsCutIn (next_reading before.readings) (turning_at place before)
        (coming (slice_index_or links place link)) (StoresPart place (before.running place).stored)

  -- in the turn of one of which this holds, as all stood then: those before its place had taken theirs
  pub record IsCutRound (Named : ℕ → Together → Type 0) (all : Together) : Type 0 where
    pub place : ℕ
    pub within : place < count
    pub named : Named place (first_turns place all)
    pub uncalled : NoneCalls place all
    pub cut : IsCutAt (first_turns place all) place

  -- after all had taken some turns
  pub record AreCutTurns (Named : ℕ → Together → Type 0) (turns : ℕ) (first : Together) : Type 0 where
    pub taken : ℕ
    pub fewer : taken < turns
    pub uncalled : NoneCallsFor count taken first
    pub turn : IsCutRound Named (all_turns count taken first)

-- of the disk at a place
module _ {D : Type 0} (disk : Ghosts D) (disks : List (Option D)) where
  abbrev pub HoldsAt : ℕ → Running → Type 0
  HoldsAt i r = (after : D) → slice_index_or disks i None ≡ Some after → HoldsState disk after r.stored

  abbrev pub HoldsPartAt : ℕ → Stored → List PutWithOrigin → Type 0
  HoldsPartAt i state puts =
      (after : D) → slice_index_or disks i None ≡ Some after → HoldsStateInPart disk after state puts

-- the same, of links and disks
abbrev pub IsCutAtTurn : {L D : Type 0} → (L → Option (List Received)) → (L → Option (List RawFrame)) →
    Ghosts D → List L → List (Option D) → Option (List ℕ) → ℕ → Together → ℕ → Type 0
IsCutAtTurn coming sent disk links disks readings count before place =
    IsCutAt coming sent links readings count (HoldsAt disk disks) (HoldsPartAt disk disks) before place
