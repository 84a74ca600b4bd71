-- What a run of `node` comes to.
use Rattle.std.specs.Prelude.{◌≡◌, ◌⊎◌, ◌<◌, ℕ, List, ◌++◌, length, Option, slice_index}
use Rattle.disk_model.specs.declared.disk.Disk.{Ghosts}
use Rattle.outside.specs.declared.received.RawFrame.{RawFrame}
use Rattle.outside.specs.declared.received.Received.{Received}
use Rattle.cmd_io.specs.declared.status.Status.{Status}
use Rattle.cmd_io.specs.declared.status.Status.TheVariants.{Done, WriteFault}
use Rattle.alloc_spec.specs.Rules.{Rules}
use Rattle.cmd_node.specs.CutRun.{RunEndsAtNode, IsCutAtOpening, KeepsOrOpens}
use Rattle.cmd_node.specs.Nodes.{RunsNodes}
use Rattle.cmd_node.specs.Opening.{RunInput}
use Rattle.cmd_node.specs.WholeRun.{Tell}
use Rattle.cmd_node_laws.specs.Processes.{Opening, Point, Turning, together_at}
use Rattle.cmd_node_laws.specs.Stands.{IsCutAsInWorld, IsCutOpeningAsInWorld, IsRunIn, LeavesAsInWorld, world_after}
use Rattle.cmd_node_laws.specs.Traces.{Event, all_rows}
use Rattle.bus_physics.specs.Runs.{StandOnBus}
use Rattle.bus_spec.specs.Cluster.{cluster}
use Rattle.allocator_app.specs.Promise.{KeepsPromise}

-- ---- the traces of a cluster in which the run of these members stands, which went on to a point

module _ {L D : Type 0} (coming : L → Option (List Received)) (sent : L → Option (List RawFrame)) (disk : Ghosts D)
    (links : List L) (disks : List (Option D)) (rules : Rules) (mine : List ℕ) (given : RunInput) where
  -- the promise holds along the rows of each of them
  abbrev pub KeepsInTraces : Point → Type 0
  KeepsInTraces to = (ids : List ℕ) (before during : List Event) → IsRunIn ids before during rules mine given to →
      KeepsPromise ids (all_rows (before ++ during) (cluster ids))

  -- The run came to its end: in each trace what was sent and is stored is what the world of its rows says
  pub record IsDoneInTraces (turns : ℕ) : Type 0 where
    pub in_world : (ids : List ℕ) (before during : List Event) →
        IsRunIn ids before during rules mine given (Turning turns 0) → let w = world_after ids before in
        LeavesAsInWorld sent disk links disks mine given w (world_after ids (before ++ during)) (all_rows during w)
    pub promise : KeepsInTraces (Turning turns 0)

  -- The run was cut off at the opening of the member with this ID, and touched no link. In each trace what its members
  -- have stored is what the world of its rows says, with a kill in that opening
  pub record IsCutOpeningInTraces (links_old : List L) (disks_old : List (Option D))
      (readings_old readings : Option (List ℕ)) (id : ℕ) : Type 0 where
    pub opening : IsCutAtOpening disk mine links_old links disks_old disks readings_old readings (KeepsOrOpens disk) id
    pub in_world : (ids : List ℕ) (before during : List Event) →
        IsRunIn ids before during rules mine given (Opening opening.place) → let w = world_after ids before in
        IsCutOpeningAsInWorld disk disks_old disks rules mine given w (world_after ids (before ++ during))
        (all_rows during w) opening.place
    pub promise : KeepsInTraces (Opening opening.place)

  -- The run, of so many turns, was cut off in a turn of the member with this ID: all had taken some of the turns, those
  -- before its place one more. In each trace what was sent and is stored is what the world of the rows of the trace
  -- says, with a kill in that turn
  pub record IsCutInTraces (turns id : ℕ) : Type 0 where
    pub taken : ℕ
    pub fewer : taken < turns
    pub place : ℕ
    pub within : place < length mine
    pub id_is : slice_index mine place ≡ id
    pub in_world : (ids : List ℕ) (before during : List Event) →
        IsRunIn ids before during rules mine given (Turning taken place) → let w = world_after ids before in
        IsCutAsInWorld coming sent disk links disks mine given w (world_after ids (before ++ during))
        (all_rows during w) (together_at rules mine given taken place) place
    pub promise : KeepsInTraces (Turning taken place)

-- What a run leaves and writes; and, where links, disks and the clock tell what they have, what it is in the traces of
-- a cluster. A run that was cut off at an opening touched no link; one whose output failed is what one of the others
-- says. Where the rows of a trace happen on a physical bus, the run stands in it without a premise on what is torn or
-- stale
pub record RunsInTraces {L D : Type 0} (coming : L → Option (List Received)) (sent : L → Option (List RawFrame))
    (link_faults : L → ℕ) (disk : Ghosts D) (rules : Rules) (turns : ℕ) (ids : List ℕ) (links_old links : List L)
    (disks_old disks : List (Option D)) (readings_old readings : Option (List ℕ)) (faults_old faults : ℕ)
    (before now : Option (List ℕ)) (status : Status) : Type 0 where
  pub runs : RunsNodes coming sent link_faults disk rules turns ids links_old links disks_old disks readings_old
      readings faults_old faults before now status
  pub done : (given : RunInput) → Tell coming sent disk links_old disks_old readings_old given → status ≡ Done →
      IsDoneInTraces coming sent disk links disks rules ids given turns
  pub cut : (given : RunInput) (id : ℕ) → Tell coming sent disk links_old disks_old readings_old given →
      RunEndsAtNode id status →
      IsCutOpeningInTraces coming sent disk links disks rules ids given links_old disks_old readings_old readings id
      ⊎ IsCutInTraces coming sent disk links disks rules ids given turns id
  pub output_failed : (given : RunInput) → Tell coming sent disk links_old disks_old readings_old given →
      status ≡ WriteFault →
      IsDoneInTraces coming sent disk links disks rules ids given turns
      ⊎ ((id : ℕ) × (IsCutOpeningInTraces coming sent disk links disks rules ids given links_old disks_old readings_old
      readings id ⊎ IsCutInTraces coming sent disk links disks rules ids given turns id))
  pub stands_on_bus : StandOnBus rules ids
