-- What a run of allocators over links and disks comes to, by its status.
use Rattle.std.specs.Prelude.{◌≡◌, ◌<◌, ◌⊎◌, ℕ, suc, List, length, Option, Some, None, IsSome}
use Rattle.std.specs.Prelude.{slice_index, slice_index_or}
use Rattle.std.specs.Io.KnownBytes.{Appends}
use Rattle.can_frame.specs.Log.{IsPrefix}
use Rattle.disk_model.specs.declared.disk.Disk.{Ghosts}
use Rattle.outside.specs.Faults.{Rose}
use Rattle.outside.specs.declared.received.RawFrame.{RawFrame}
use Rattle.outside.specs.declared.received.Received.{Received}
use Rattle.cmd_io.specs.Output.{WritesFront}
use Rattle.cmd_io.specs.declared.status.Status.{Status}
use Rattle.cmd_io.specs.declared.status.Status.TheVariants.{AnotherLog, Damaged, DiskFault, Done, LinkFault, Memory, WriteFault}
use Rattle.alloc_spec.specs.Rules.{Rules}
use Rattle.raft_model.specs.Lists.{In}
use Rattle.cmd_node.specs.Another.{NoneCallsFor, caller_at}
use Rattle.cmd_node.specs.CutRun.{AreCutTurns, HoldsAt, HoldsPartAt, IsCutAtOpening, KeepsImages, KeepsOrOpens}
use Rattle.cmd_node.specs.Opening.{RunInput, together_at_opening}
use Rattle.cmd_node.specs.Report.{line_of, report}
use Rattle.cmd_node.specs.Status.{AreWhole, DisksTell, HasRisen, IsDamagedDisk, IsFaultless, NoneRose, OfDisk, OfLink}
use Rattle.cmd_node.specs.Status.{OthersStay}
use Rattle.cmd_node.specs.Turns.{Together}
use Rattle.cmd_node.specs.WholeRun.{LeavesAll, Tell, after_turns}

-- the turn of the node with this ID, as all stood then; and one in which a call of another log came from that one
abbrev pub IsTurnOf : List ℕ → ℕ → ℕ → Together → Type 0
IsTurnOf ids id place before = slice_index ids place ≡ id

abbrev pub IsCalledIn : List ℕ → ℕ → ℕ → ℕ → Together → Type 0
IsCalledIn ids id node place before = IsTurnOf ids id place before × (caller_at place before ≡ Some node)

-- The members with these IDs, opened by these rules, take so many turns on these links and disks and this clock.
module _ {L D : Type 0} (coming : L → Option (List Received)) (sent : L → Option (List RawFrame))
    (link_faults : L → ℕ) (disk : Ghosts D) (rules : Rules) (turns : ℕ) (ids : List ℕ) (links_old links : List L)
    (disks_old disks : List (Option D)) (readings_old readings : Option (List ℕ)) where
  -- this holds of the counts of faults, before and now, of the link or the disk at a place
  abbrev pub OfLinks : ℕ → (ℕ → ℕ → Type 0) → Type 0
  OfLinks = OfLink link_faults links_old links

  abbrev pub OfDisks : ℕ → (ℕ → ℕ → Type 0) → Type 0
  OfDisks = OfDisk disk.faults disks_old disks

  -- links, disks and the clock tell that this was handed in
  abbrev pub Tells : RunInput → Type 0
  Tells given = Tell coming sent disk links_old disks_old readings_old given

  -- all were opened, and so no disk was damaged; all took their turns, in which no call of another log came
  pub record IsDone : Type 0 where
    pub whole : AreWhole disk ids disks_old
    pub left : (given : RunInput) → Tells given →
        LeavesAll coming sent disk links disks readings (length ids) (after_turns rules turns ids given)
    pub uncalled : (given : RunInput) → Tells given →
        NoneCallsFor (length ids) turns (together_at_opening rules ids given)

  -- all were opened, and the run ended in a turn of which this holds
  pub record IsCutWhere (Named : ℕ → Together → Type 0) : Type 0 where
    pub whole : AreWhole disk ids disks_old
    pub left : (given : RunInput) → Tells given → AreCutTurns coming sent links readings (length ids)
        (HoldsAt disk disks) (HoldsPartAt disk disks) Named turns (together_at_opening rules ids given)

  -- in a turn of the node with this ID
  abbrev pub IsCutInTurn : ℕ → Type 0
  IsCutInTurn id = IsCutWhere (IsTurnOf ids id)

  -- why a run ends with this status, and what it leaves on links, disks and clock
  abbrev pub IsEnd : Status → Type 0
  IsEnd Done = IsDone
  IsEnd (LinkFault id) = HasRisen OfLinks ids id × IsCutInTurn id
  IsEnd (DiskFault id) = HasRisen OfDisks ids id ×
      (IsCutAtOpening disk ids links_old links disks_old disks readings_old readings (KeepsOrOpens disk) id
      ⊎ IsCutInTurn id)
  IsEnd (Damaged id key) = IsDamagedDisk disk ids disks_old id key ×
      IsCutAtOpening disk ids links_old links disks_old disks readings_old readings (KeepsImages disk) id
  IsEnd (AnotherLog id node) = In id ids × IsCutWhere (IsCalledIn ids id node)
  IsEnd _ = ⊥

  -- the text that such a run writes, of which this holds: the report, or one line
  abbrev pub IsWritten : (List ℕ → Type 0) → Status → Type 0
  IsWritten Wrote Done =
      (given : RunInput) → Tells given → Wrote (report turns (after_turns rules turns ids given).lines)
  IsWritten Wrote status = Wrote (line_of status)

  -- what a run leaves that ends so; what each link was sent is a prefix of what it is sent in a run to its end
  pub record Leaves (Wrote : List ℕ → Type 0) (status : Status) : Type 0 where
    pub end : IsEnd status
    pub quiet_links : OthersStay OfLinks ids (λ id. status ≡ LinkFault id)
    pub quiet_disks : OthersStay OfDisks ids (λ id. status ≡ DiskFault id)
    pub begins : (given : RunInput) → Tells given → (i : ℕ) (link : L) → i < length ids →
        (frames : List RawFrame) × (sent (slice_index_or links i link) ≡ Some frames) ×
        IsPrefix frames ((after_turns rules turns ids given).running i).sent
    pub written : IsWritten Wrote status

  -- Without memory nothing was touched. Where the sink failed, all is left as by a run that ends otherwise, and a front
  -- is written of what that one writes.
  abbrev pub LeavesWith : (before now : Option (List ℕ)) → Status → Type 0
  LeavesWith before now Memory =
      (links ≡ links_old) × (disks ≡ disks_old) × (readings ≡ readings_old) × (now ≡ before)
  LeavesWith before now WriteFault = (ended : Status) × Leaves (WritesFront before now) ended
  LeavesWith before now status = Leaves (Appends before now) status

  -- The two numbers are the faults that the sink has counted before and now, and the two lists what it has been
  -- written.
  pub record RunsNodes (faults_old faults : ℕ) (before now : Option (List ℕ)) (status : Status) : Type 0 where
    -- every disk that was handed in is there again
    pub places : length disks ≡ length disks_old
    pub put_back : (i : ℕ) → i < length ids → IsSome (slice_index_or disks i None)
    pub leaves : LeavesWith before now status
    -- where nothing fails it comes to its end, or to the first damaged disk
    pub finishes : NoneRose OfLinks ids → NoneRose OfDisks ids → (Rose faults_old faults → ⊥) →
        IsFaultless status
    pub refuses : (id key : ℕ) (is : IsDamagedDisk disk ids disks_old id key) →
        DisksTell disk disks_old (suc is.place) → NoneRose OfDisks ids → (Rose faults_old faults → ⊥) →
        (status ≡ Damaged id key) ⊎ (status ≡ Memory)
