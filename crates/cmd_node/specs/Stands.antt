-- What the allocators of the code stand for.
use Rattle.std.specs.Prelude.{◌≡◌, ℕ, ◌<◌, ◌≤◌, List, length, Option, Some, None, IsNone}
use Rattle.std.specs.Prelude.{slice_index, slice_index_or}
use Rattle.disk_model.specs.declared.disk.Disk.{Ghosts}
use Rattle.outside.specs.declared.received.RawFrame.{RawFrame}
use Rattle.outside.specs.declared.received.Received.{Received}
use Rattle.outside.specs.Readings.{next_reading}
use Rattle.cmd_node.specs.Words.{next_words, own_words, word_of}
use Rattle.raft_core.specs.StoredPuts.{store_of}
use Rattle.raft_log.specs.DurableViews.{durable_state}
use Rattle.raft_log.specs.Opening.{OpensTo}
use Rattle.alloc_spec.specs.AllocatorState.{AllocatorState}
use Rattle.alloc_spec.specs.Rules.{Rules, opening_by}
use Rattle.alloc_server.specs.Server.{StandsFor, accepts, disk_of, durable_of, fault_of}
use Rattle.cmd_node.specs.Opening.{readings_after}
use Rattle.cmd_node.specs.Turn.{Running, Turning}
use Rattle.cmd_node.specs.Turns.{Together}
use Rattle.cmd_node.specs.Steps.{Keeps}
use Rattle.cmd_node.specs.declared.runner.Runner.{Runner}
use Rattle.cmd_node.specs.declared.steps.LastSteps.{LastSteps}

module _ {D F : Type 0} {disk : Ghosts D} where
  abbrev pub runner_disk : Runner D F disk → D
  runner_disk runner = disk_of runner.server

  abbrev pub closure_of : Runner D F disk → F
  closure_of runner = accepts runner.server

  -- no step of it has failed
  abbrev pub Works : Runner D F disk → Type 0
  Works runner = IsNone (fault_of runner.server)

  -- the server of an allocator stands for one in time
  abbrev pub IsStanding : Runner D F disk → Type 0
  IsStanding runner = (t : AllocatorState) × StandsFor runner.server t

  abbrev pub AreStanding : List (Runner D F disk) → Type 0
  AreStanding runners = (i : ℕ) (runner : Runner D F disk) → i < length runners
      → IsStanding (slice_index_or runners i runner)

  -- a disk was taken and opened, for a node ID
  pub record IsOpened (runner : Runner D F disk) (before : Option D) (id : ℕ) : Type 0 where
    pub id_is : runner.id ≡ id
    pub opens : (taken : D) → before ≡ Some taken → OpensTo taken (durable_of runner.server)
    pub later : (taken : D) → before ≡ Some taken → disk.faults taken ≤ disk.faults (runner_disk runner)
    pub tells : (taken : D) → before ≡ Some taken → disk.tells (runner_disk runner) ≡ disk.tells taken
    pub works : Works runner
    pub standing : IsStanding runner

  -- at this moment, with its first word and with what it has stored
  pub record IsOpenedAt (rules : Rules) (runner : Runner D F disk) (moment : ℕ) : Type 0 where
    pub words : runner.words ≡ next_words (own_words rules.told runner.id)
    pub server : StandsFor runner.server (opening_by runner.id rules
        (store_of (durable_state (durable_of runner.server))) moment (word_of runner.words))

  -- the first of these nodes were opened, each on the disk at its place
  abbrev pub AreOpened : List (Runner D F disk) → List (Option D) → List ℕ → Type 0
  AreOpened runners disks ids = (i : ℕ) (runner : Runner D F disk) → i < length runners
      → IsOpened (slice_index_or runners i runner) (slice_index_or disks i None) (slice_index ids i)

  -- each at the next reading
  abbrev pub AreOpenedAt : Rules → List (Runner D F disk) → List ℕ → Type 0
  AreOpenedAt rules runners readings = (i : ℕ) (runner : Runner D F disk) → i < length runners
      → IsOpenedAt rules (slice_index_or runners i runner) (next_reading (readings_after i readings))

  -- a runner is this one, on a link that tells these items and frames
  pub record IsRunning (runner : Runner D F disk) (coming : Option (List Received))
      (sent : Option (List RawFrame)) (r : Running) : Type 0 where
    pub id : runner.id ≡ r.id
    pub server : StandsFor runner.server r.allocator
    pub stored : durable_state (durable_of runner.server) ≡ r.stored
    pub words : runner.words ≡ r.words
    pub coming_is : coming ≡ Some r.coming
    pub sent_is : sent ≡ Some r.sent

  -- a runner is this one in its turn, and these steps were made
  pub record IsTurning (runner : Runner D F disk) (coming : Option (List Received))
      (sent : Option (List RawFrame)) (steps : LastSteps) (t : Turning) : Type 0 where
    pub running : IsRunning runner coming sent t.running
    pub lines : Keeps steps t.lines

  -- each is the one at its place, on the link there
  abbrev pub AreRunning : {L : Type 0} → (L → Option (List Received)) → (L → Option (List RawFrame)) →
      List (Runner D F disk) → List L
      → (ℕ → Running) → Type 0
  AreRunning {L} coming sent runners links running =
      (i : ℕ) (runner : Runner D F disk) (link : L) → i < length runners
      → IsRunning (slice_index_or runners i runner) (coming (slice_index_or links i link))
      (sent (slice_index_or links i link)) (running i)

  -- all of them, on links and a clock that tell what they have
  pub record Stand {L : Type 0} (coming : L → Option (List Received))
      (sent : L → Option (List RawFrame)) (runners : List (Runner D F disk)) (links : List L)
      (readings : Option (List ℕ)) (steps : LastSteps) (all : Together) : Type 0 where
    pub each : AreRunning coming sent runners links all.running
    pub readings_are : readings ≡ Some all.readings
    pub lines : Keeps steps all.lines
