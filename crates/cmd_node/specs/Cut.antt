-- The allocators of a run that did not come to its end.
use Rattle.std.specs.Prelude.{⊤, ◌≡◌, ℕ, suc, ◌<◌, ◌⊎◌, List, length, Option, Some, None, true}
use Rattle.std.specs.Prelude.{slice_index, slice_index_or}
use Rattle.disk_model.specs.declared.disk.Disk.{Ghosts}
use Rattle.outside.specs.declared.received.RawFrame.{RawFrame}
use Rattle.outside.specs.declared.received.Received.{Received}
use Rattle.raft_core.specs.StoredPuts.{PutWithOrigin}
use Rattle.raft_log.specs.DurableViews.{durable_state}
use Rattle.raft_log.specs.Stored.{Stored}
use Rattle.alloc_server.specs.Server.{StandsFor, durable_of}
use Rattle.alloc_spec.specs.Rules.{Rules}
use Rattle.cmd_node.specs.Another.{caller_at}
use Rattle.cmd_node.specs.CutRun.{AreCutTurns, HoldsStateInPart, IsCutRound}
use Rattle.cmd_node.specs.Ends.{fault_id}
use Rattle.cmd_node.specs.Opening.{RunInput, together_at_opening, readings_after}
use Rattle.cmd_node.specs.Run.{AreTelling}
use Rattle.cmd_node.specs.Stands.{AreOpened, runner_disk}
use Rattle.cmd_node.specs.Taking.{IsOf, IsRefused}
use Rattle.cmd_node.specs.Turn.{Running}
use Rattle.cmd_node.specs.Turns.{Together}
use Rattle.cmd_node.specs.WholeRun.{Tell}
use Rattle.cmd_node.specs.declared.fault.Fault.{Fault}
use Rattle.cmd_node.specs.declared.fault.Fault.TheVariants.{Link, Disk, Damaged, AnotherLog}
use Rattle.cmd_node.specs.declared.runner.Runner.{Runner}

-- what came in a turn that ended so
abbrev pub CalledBy : Fault → Option ℕ → Type 0
CalledBy (Link id) caller = ⊤
CalledBy (Disk id) caller = ⊤
CalledBy (Damaged id key) caller = ⊤
CalledBy (AnotherLog id node) caller = caller ≡ Some node

module _ {D F : Type 0} {disk : Ghosts D} (runners : List (Runner D F disk)) where
  -- the allocator at a place stands for one in time, and has stored what that one has; or, if its disk tells what it
  -- holds, that disk holds a state after some of the first of some puts
  abbrev pub StandsAt : ℕ → Running → Type 0
  StandsAt i r = (runner : Runner D F disk) → let server = (slice_index_or runners i runner).server in
      StandsFor server r.allocator × (durable_state (durable_of server) ≡ r.stored)

  abbrev pub PutsAt : ℕ → Stored → List PutWithOrigin → Type 0
  PutsAt i state puts = (runner : Runner D F disk) → let after = runner_disk (slice_index_or runners i runner) in
      disk.tells after ≡ true → HoldsStateInPart disk after state puts

  -- the turn of the one at a place, as all stood then, ended so
  abbrev pub EndsAt : Fault → ℕ → Together → Type 0
  EndsAt fault place before = IsOf runners place (fault_id fault) × CalledBy fault (caller_at place before)

module _ {D F : Type 0} {disk : Ghosts D} {L : Type 0} (coming : L → Option (List Received))
    (sent : L → Option (List RawFrame)) (runners : List (Runner D F disk)) (links : List L)
    (readings : Option (List ℕ)) where
  -- a run of these allocators was cut off in a turn, and in one after all of them had taken some turns
  abbrev pub IsCutTurn : Together → Fault → Type 0
  IsCutTurn all fault = IsCutRound coming sent links readings (length runners) (StandsAt runners) (PutsAt runners)
      (EndsAt runners fault) all

  abbrev pub AreCutAfterTurns : ℕ → Together → Fault → Type 0
  AreCutAfterTurns turns all fault = AreCutTurns coming sent links readings (length runners) (StandsAt runners)
      (PutsAt runners) (EndsAt runners fault) turns all

module _ {D F : Type 0} {disk : Ghosts D} {L : Type 0} (coming : L → Option (List Received))
    (sent : L → Option (List RawFrame)) (rules : Rules) (turns : ℕ) (ids : List ℕ) (runners : List (Runner D F disk))
    (links_old links : List L) (disks_old disks : List (Option D)) (readings_old readings : Option (List ℕ))
    (fault : Fault) where
  -- a run was cut off at the opening of the next one: those so far were opened, its disk is back, and no link was
  -- touched
  pub record IsCutOpening : Type 0 where
    pub within : length runners < length ids
    pub id_is : slice_index ids (length runners) ≡ fault_id fault
    pub untouched : links ≡ links_old
    pub readings_are : (known : List ℕ) → readings_old ≡ Some known →
        readings ≡ Some (readings_after (suc (length runners)) known)
    pub opened : AreOpened runners disks_old ids
    pub refused : let place = length runners in IsRefused disk (slice_index_or disks_old place None)
        (slice_index_or disks place None) (slice_index ids place) fault
    pub behind : (i : ℕ) → length runners < i → slice_index_or disks i None ≡ slice_index_or disks_old i None

  -- all were opened, and a run was cut off in a turn; this is said where links, disks and the clock tell what they have
  pub record IsCutTurning : Type 0 where
    pub all : length runners ≡ length ids
    pub ids_are : (i : ℕ) (runner : Runner D F disk) → i < length runners →
        (slice_index_or runners i runner).id ≡ slice_index ids i
    pub telling : (given : RunInput) → Tell coming sent disk links_old disks_old readings_old given →
        AreTelling runners
    pub cut : (given : RunInput) → Tell coming sent disk links_old disks_old readings_old given →
        AreCutAfterTurns coming sent runners links readings turns (together_at_opening rules ids given) fault

  -- a run was cut off, at an opening or in a turn
  abbrev pub IsCut : Type 0
  IsCut = IsCutOpening ⊎ IsCutTurning
