-- What holds of a trace under its premises.
use Rattle.std.specs.Prelude.{◌≡◌, ℕ, ◌<◌, ◌≤◌, ◌⊎◌, List, [], ◌++◌, length, Option, None, Some}
use Rattle.std.specs.Prelude.{slice_index, slice_index_or}
use Rattle.disk_model.specs.declared.disk.Disk.{Ghosts}
use Rattle.disk_model.specs.Contents.{MayLeave}
use Rattle.outside.specs.declared.received.RawFrame.{RawFrame}
use Rattle.outside.specs.declared.received.Received.{Received}
use Rattle.outside.specs.Readings.{next_reading}
use Rattle.outside.specs.Traffic.{items_behind, next_item}
use Rattle.cmd_node.specs.Words.{next_words, own_words, word_of}
use Rattle.raft_log.specs.Rules.{StandsForState}
use Rattle.raft_log.specs.Stored.{Stored}
use Rattle.raft_model.specs.Lists.{In}
use Rattle.raft_model.specs.Members.{HasNoneTwice}
use Rattle.bus_rows.specs.declared.row.Row.{Row}
use Rattle.alloc_spec.specs.Rules.{Rules, tells}
use Rattle.alloc_spec.specs.ClusterMembers.{AreMembers}
use Rattle.bus_spec.specs.Cluster.{Cluster, after_rows, cluster, rules_of}
use Rattle.bus_spec.specs.Members.MemberStatus.{Down}
use Rattle.cmd_node.specs.Opening.{RunInput, readings_after}
use Rattle.cmd_node.specs.Turn.{Running}
use Rattle.cmd_node.specs.Turns.{Together}
use Rattle.cmd_node_laws.specs.Traces.{Came, Event, DiesInTurn, DiesAtOpening, MayAllHappen, MayHappen, Silence}
use Rattle.cmd_node_laws.specs.Traces.{all_rows, rows_of}
use Rattle.cmd_node_laws.specs.Alike.{Alike, HoldsAlike, Likeness}
use Rattle.cmd_node_laws.specs.Mirrored.{Carries, raw_by}
use Rattle.cmd_node_laws.specs.Processes.{GoesOn, HasStoredAt, IsWaiting, Opening, Point, StandsAt, running_at}

-- the world of a trace
abbrev pub world_after : List ℕ → List Event → Cluster
world_after ids trace = after_rows (cluster ids) (all_rows trace (cluster ids))

-- A process went from one point to another, and the world from one to another. The member at a place is in the world
-- what it is in the process, and its link was sent what the member of the world sent. Where it had stored just what it
-- had in the process, it has so then.
pub record IsFollowed (rules : Rules) (mine : List ℕ) (given : RunInput) (w v : Cluster) (from to : Point)
    (sent : ℕ → List RawFrame) (i : ℕ) : Type 0 where
  pub stands : StandsAt rules mine given v to i
  pub frames : (running_at rules mine given to i).sent
      ≡ (running_at rules mine given from i).sent ++ sent (slice_index mine i)
  pub stored : HasStoredAt rules mine given w from i → HasStoredAt rules mine given v to i

-- a member is stopped, and what an image stands for is like what it has stored
pub record IsFoundStopped (likeness : Likeness) (image : List ℕ) (w : Cluster) (n : ℕ) : Type 0 where
  pub down : (w.member n).status ≡ Down
  pub found : Stored
  pub stands : StandsForState image found
  pub same : Alike likeness (w.member n).disk.store found

-- ---- a run of `node` in a trace

-- The run of these members stands in the trace of a cluster: some events came before it, and some while it went on to a
-- point. Its members were stopped when it began, and had stored what was handed in.
pub record IsRunIn (ids : List ℕ) (before during : List Event) (rules : Rules) (mine : List ℕ)
    (given : RunInput) (to : Point) : Type 0 where
  pub members : AreMembers ids
  -- they were told how many members there are, or also who
  pub rules_are : rules ≡ rules_of ids (tells rules)
  pub some : 1 ≤ length mine
  pub once : HasNoneTwice mine
  pub among : (n : ℕ) → In n mine → In n ids
  pub may : MayAllHappen (before ++ during) (cluster ids)
  pub waiting : (i : ℕ) → i < length mine → IsWaiting rules mine given (world_after ids before) i
  pub goes : GoesOn rules mine given (world_after ids before) during (Opening 0) to

-- what the member at a place had stored is like what was handed in
abbrev pub BeganAlike : Likeness → Cluster → List ℕ → RunInput → ℕ → Type 0
BeganAlike likeness w mine given i = Alike likeness (w.member (slice_index mine i)).disk.store (given.stored i)

-- Each link was sent, behind what it was sent before, what these rows send of its member; and whatever a stop leaves of
-- each disk stands for what is like what the member has stored in the world, where it was so before.
pub record LeavesAsInWorld {L D : Type 0} (sent : L → Option (List RawFrame)) (disk : Ghosts D) (links : List L)
    (disks : List (Option D)) (mine : List ℕ) (given : RunInput) (w v : Cluster) (rows : List Row) : Type 0 where
  pub sent_is : (i : ℕ) (link : L) → i < length mine →
      sent (slice_index_or links i link) ≡ Some (given.sent i ++ raw_by (slice_index mine i) w rows)
  pub stored_is : (likeness : Likeness) (i : ℕ) (after : D) → i < length mine → BeganAlike likeness w mine given i →
      slice_index_or disks i None ≡ Some after →
      HoldsAlike likeness disk after (v.member (slice_index mine i)).disk.store

-- the event of its next turn, in which it is killed after so many puts
abbrev pub kill_of : Running → ℕ → Came → ℕ → Event
kill_of r moment came puts = DiesInTurn r.id moment (word_of (next_words r.words)) came puts

-- for some number of puts it leaves the member with what the image stands for
abbrev pub IsFoundKilled : Likeness → List ℕ → Cluster → Running → ℕ → Came → Type 0
IsFoundKilled likeness image w r moment came =
    (puts : ℕ) × IsFoundStopped likeness image (after_rows w (rows_of (kill_of r moment came puts) w)) r.id

-- the premises hold of it
abbrev pub MayBeKilled : Cluster → Running → ℕ → Came → Type 0
MayBeKilled w r moment came = (puts : ℕ) → MayHappen (kill_of r moment came puts) w

-- A run was cut off in a turn of the member at a place, when all stood like this: each link was sent what the members
-- of the world sent by then, and each other disk holds what they had stored. Whatever a stop leaves of that member's
-- own disk, a kill leaves it with that in the world: a kill in a turn in which nothing comes, where the next item of
-- its link was not taken; else one in a turn in which that item comes, where the premises hold of it.
pub record IsCutAsInWorld {L D : Type 0} (coming : L → Option (List Received)) (sent : L → Option (List RawFrame))
    (disk : Ghosts D) (links : List L) (disks : List (Option D)) (mine : List ℕ) (given : RunInput) (w v : Cluster)
    (rows : List Row) (all : Together) (place : ℕ) : Type 0 where
  pub sent_is : (i : ℕ) (link : L) → i < length mine →
      sent (slice_index_or links i link) ≡ Some (given.sent i ++ raw_by (slice_index mine i) w rows)
  pub stored_is : (likeness : Likeness) (i : ℕ) (after : D) → i < length mine → BeganAlike likeness w mine given i →
      (i ≡ place → ⊥) → slice_index_or disks i None ≡ Some after →
      HoldsAlike likeness disk after (v.member (slice_index mine i)).disk.store
  pub killed : (likeness : Likeness) (link : L) (after : D) (image : List ℕ) → BeganAlike likeness w mine given place →
      slice_index_or disks place None ≡ Some after → MayLeave (disk.contents after) image →
      let r = all.running place in let moment = next_reading all.readings in
      let left = coming (slice_index_or links place link) in
      ((left ≡ Some r.coming) × IsFoundKilled likeness image v r moment Silence) ⊎
      ((left ≡ Some (items_behind r.coming)) × ((came : Came) → Carries v.frames (next_item r.coming) came →
      MayBeKilled v r moment came → IsFoundKilled likeness image v r moment came))

-- the event in which the process of the member at a place is killed while it opens it, after so many puts
abbrev pub opening_kill_of : Rules → List ℕ → RunInput → ℕ → ℕ → Event
opening_kill_of rules mine given place puts = let id = slice_index mine place in
    DiesAtOpening id (tells rules) (next_reading (readings_after place given.readings))
    (word_of (next_words (own_words rules.told id))) puts

-- A run was cut off at the opening of the member at a place, before which its members in the world had sent nothing.
-- Each disk before its own holds what its member has stored; its member and those behind it wait as they did. Whatever
-- a stop leaves of its own disk it could leave before the run, or a kill in that opening leaves it in the world.
pub record IsCutOpeningAsInWorld {D : Type 0} (disk : Ghosts D) (disks_old disks : List (Option D)) (rules : Rules)
    (mine : List ℕ) (given : RunInput) (w v : Cluster) (rows : List Row) (place : ℕ) : Type 0 where
  pub silent : (i : ℕ) → i < length mine → raw_by (slice_index mine i) w rows ≡ []
  pub stored_is : (likeness : Likeness) (i : ℕ) (before after : D) → i < place → BeganAlike likeness w mine given i →
      slice_index_or disks_old i None ≡ Some before → slice_index_or disks i None ≡ Some after →
      HoldsAlike likeness disk after (v.member (slice_index mine i)).disk.store
  pub waiting : (i : ℕ) → place ≤ i → i < length mine → IsWaiting rules mine given v i
  pub killed : (likeness : Likeness) (before after : D) (image : List ℕ) → BeganAlike likeness w mine given place →
      slice_index_or disks_old place None ≡ Some before → slice_index_or disks place None ≡ Some after →
      MayLeave (disk.contents after) image → MayLeave (disk.contents before) image ⊎ ((puts : ℕ) ×
      IsFoundStopped likeness image (after_rows v (rows_of (opening_kill_of rules mine given place puts) v))
      (slice_index mine place))
