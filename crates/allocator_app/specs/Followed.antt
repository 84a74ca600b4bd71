-- What a plan that was followed leaves and writes, a record a mode.
use Rattle.std.specs.Prelude.{ℕ, List, Option}
use Rattle.disk_model.specs.declared.disk.Disk.{Ghosts}
use Rattle.outside.specs.declared.received.RawFrame.{RawFrame}
use Rattle.outside.specs.declared.received.Received.{Received}
use Rattle.cmd_decode.specs.Ends.{Decodes}
use Rattle.cmd_logs.specs.Converted.{Converts}
use Rattle.cmd_logs.specs.Watched.{Watches}
use Rattle.cmd_new.specs.Made.{MakesStores}
use Rattle.cmd_node.specs.Nodes.{RunsNodes}
use Rattle.cmd_io.specs.declared.status.Status.{Status}
use Rattle.cmd_replace.specs.Replaced.{Replaces}
use Rattle.store_audit.specs.Audits.{Audits}
use Rattle.allocator_app.specs.declared.plans.Plan.{Plan}
use Rattle.allocator_app.specs.declared.plans.Plan.TheVariants.{Replay, Node, Soak, New, Replace, Audit, Watch, Convert, Decode}
use Rattle.allocator_app.specs.Rows.{Replays}
use Rattle.allocator_app.specs.Soaking.{Soaks}
use Rattle.allocator_app.specs.Told.{told_rules}

-- The objects of the outside before and now: links, disks, what the clock reads, what is left in the source and the
-- faults that it has counted, those that the sink has counted and what it has been written.
module _ {L D : Type 0} (coming : L → Option (List Received)) (sent : L → Option (List RawFrame))
    (link_faults : L → ℕ) (disk : Ghosts D) (links_old links : List L) (disks_old disks : List (Option D))
    (readings_old readings left_old left : Option (List ℕ)) (source_old source sink_old sink : ℕ)
    (before now : Option (List ℕ)) (status : Status) where
  abbrev pub IsFollowed : Plan → Type 0
  IsFollowed (Replay rows ids) = Replays rows ids.items left_old left before now status
  IsFollowed (Node told base turns ids) = RunsNodes coming sent link_faults disk (told_rules told) turns ids.items
      links_old links disks_old disks readings_old readings sink_old sink before now status
  IsFollowed (Soak told seed rounds size) = Soaks told seed rounds size sink_old sink before now status
  IsFollowed (New term ids) = MakesStores disk term ids.items disks_old disks before now status
  IsFollowed (Replace lost ids) = Replaces disk ids.items lost disks_old disks before now status
  IsFollowed (Audit ids) = Audits disk ids.items disks_old disks before now status
  IsFollowed (Watch form lines ids) =
      Watches form lines ids.items left_old left source_old source sink_old sink before now status
  IsFollowed (Convert from to lines) =
      Converts from to lines left_old left source_old source sink_old sink before now status
  IsFollowed (Decode name part payload) =
      Decodes name.items part payload.items left_old left source_old source sink_old sink before now status
