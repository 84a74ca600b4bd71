-- A run of nodes in the traces in which it stands.
use Rattle.std.proofs.Common.{ℕ, ◌<◌, ◌⊎◌, List, ◌++◌, length, Option, subst, inl, inr}
use Rattle.disk_model.specs.declared.disk.Disk.{Ghosts}
use Rattle.outside.specs.declared.received.RawFrame.{RawFrame}
use Rattle.outside.specs.declared.received.Received.{Received}
use Rattle.cmd_io.specs.declared.status.Status.{Status}
use Rattle.alloc_spec.specs.Rules.{Rules}
use Rattle.bus_physics.specs.Runs.{StandOnBus}
use Rattle.alloc_spec.specs.ClusterMembers.{AreMembers}
use Rattle.bus_spec.specs.Cluster.{cluster}
use Rattle.cmd_io.specs.declared.status.Status.TheVariants.{Done, Usage, BadRow, Unlawful, ReadFault, WriteFault, Memory, Limit, LinkFault, DiskFault, Damaged, NoLeader, Uncommitted, Differ, AnotherLog, NoPart, NoValue}
use Rattle.cmd_node.specs.CutRun.{IsCutAtOpening, IsCutAtTurn, KeepsImages, KeepsOrOpens}
use Rattle.cmd_node.specs.Nodes.{IsCalledIn, IsCutInTurn, IsCutWhere, IsDone, IsEnd, LeavesWith, RunsNodes}
use Rattle.cmd_node.specs.Opening.{RunInput}
use Rattle.cmd_node.specs.WholeRun.{LeavesAll, Tell, after_turns}
use Rattle.cmd_node_laws.specs.Processes.{Opening, Turning, together_at}
use Rattle.cmd_node_laws.specs.Stands.{IsCutAsInWorld, IsCutOpeningAsInWorld, IsRunIn, LeavesAsInWorld, world_after}
use Rattle.cmd_node_laws.specs.Traces.{Event, MayAllHappen, all_rows}
use Rattle.allocator_app.specs.Nodes.{IsCutInTraces, IsCutOpeningInTraces, IsDoneInTraces, RunsInTraces}
use Rattle.allocator_app.specs.Promise.{KeepsPromise}

module _ {L D : Type 0} (coming : L → Option (List Received)) (sent : L → Option (List RawFrame)) (link_faults : L → ℕ) (disk : Ghosts D)
    (rules : Rules) (turns : ℕ) (mine : List ℕ) (links_old links : List L) (disks_old disks : List (Option D)) (readings_old readings : Option (List ℕ))
    (faults_old faults : ℕ) (before now : Option (List ℕ)) (status : Status) where
  abbrev Ended : Status → Type 0
  Ended = LeavesWith coming sent link_faults disk rules turns mine links_old links disks_old disks readings_old readings before now

  module _ (done : (ids mine : List ℕ) (before during : List Event) (rules : Rules) (turns : ℕ) (given : RunInput) (links : List L) (disks : List (Option D)) (readings : Option (List ℕ)) →
      IsRunIn ids before during rules mine given (Turning turns 0) → LeavesAll coming sent disk links disks readings (length mine) (after_turns rules turns mine given) →
      let w = world_after ids before in LeavesAsInWorld sent disk links disks mine given w (world_after ids (before ++ during)) (all_rows during w))
      (cut : (ids mine : List ℕ) (before during : List Event) (rules : Rules) (taken place : ℕ) (given : RunInput) (links : List L) (disks : List (Option D)) (readings : Option (List ℕ)) →
      place < length mine → IsRunIn ids before during rules mine given (Turning taken place) → let all = together_at rules mine given taken place in
      IsCutAtTurn coming sent disk links disks readings (length mine) all place → let w = world_after ids before in
      IsCutAsInWorld coming sent disk links disks mine given w (world_after ids (before ++ during)) (all_rows during w) all place)
      (opening : (ids mine : List ℕ) (before during : List Event) (rules : Rules) (given : RunInput) (links_old links : List L) (disks_old disks : List (Option D)) (readings_old readings : Option (List ℕ)) (id : ℕ) →
      Tell coming sent disk links_old disks_old readings_old given →
      (cut : IsCutAtOpening disk mine links_old links disks_old disks readings_old readings (KeepsOrOpens disk) id) →
      IsRunIn ids before during rules mine given (Opening cut.place) → let w = world_after ids before in
      IsCutOpeningAsInWorld disk disks_old disks rules mine given w (world_after ids (before ++ during)) (all_rows during w) cut.place)
      (promise : (ids : List ℕ) (trace : List Event) → AreMembers ids → MayAllHappen trace (cluster ids) → KeepsPromise ids (all_rows trace (cluster ids)))
      (on_bus : StandOnBus rules mine) where
    cut_in_traces : (given : RunInput) (id : ℕ) → Tell coming sent disk links_old disks_old readings_old given →
        IsCutInTurn coming sent link_faults disk rules turns mine links_old links disks_old disks readings_old readings id → IsCutInTraces coming sent disk links disks rules mine given turns id
    cut_in_traces given id tell is =
        let left = is.left given tell in
        let turn = left.turn in record {
          taken = left.taken;
          fewer = left.fewer;
          place = turn.place;
          within = turn.within;
          id_is = turn.named;
          in_world = λ ids first rest stands. cut ids mine first rest rules left.taken turn.place given links disks readings turn.within stands turn.cut;
          promise = λ ids first rest stands. promise ids (first ++ rest) stands.members stands.may;
        }

    -- a run that ended by a call of another log
    called_in_traces : (given : RunInput) (id node : ℕ) → Tell coming sent disk links_old disks_old readings_old given →
        IsCutWhere coming sent link_faults disk rules turns mine links_old links disks_old disks readings_old readings (IsCalledIn mine id node) →
        IsCutInTraces coming sent disk links disks rules mine given turns id
    called_in_traces given id node tell is = cut_in_traces given id tell (record {
      whole = is.whole;
      left = λ given tell. let left = is.left given tell in let turn = left.turn in record {
        taken = left.taken;
        fewer = left.fewer;
        uncalled = left.uncalled;
        turn = record { place = turn.place; within = turn.within; named = turn.named.0; uncalled = turn.uncalled; cut = turn.cut };
      };
    })

    abbrev AtOpening : ℕ → Type 0
    AtOpening id = IsCutAtOpening disk mine links_old links disks_old disks readings_old readings (KeepsOrOpens disk) id

    abbrev OpeningInTraces : RunInput → ℕ → Type 0
    OpeningInTraces given id = IsCutOpeningInTraces coming sent disk links disks rules mine given links_old disks_old readings_old readings id

    opening_in_traces : (given : RunInput) (id : ℕ) → Tell coming sent disk links_old disks_old readings_old given → AtOpening id → OpeningInTraces given id
    opening_in_traces given id tell is = record {
      opening = is;
      in_world = λ ids first rest stands. opening ids mine first rest rules given links_old links disks_old disks readings_old readings id tell is stands;
      promise = λ ids first rest stands. promise ids (first ++ rest) stands.members stands.may;
    }

    widened : (id : ℕ) → IsCutAtOpening disk mine links_old links disks_old disks readings_old readings (KeepsImages disk) id → AtOpening id
    widened id o = record {
      place = o.place;
      within = o.within;
      id_is = o.id_is;
      untouched = o.untouched;
      readings_are = o.readings_are;
      stored_is = o.stored_is;
      own_is = λ first last was is tells. let has = o.own_is first last was is tells in (has.0, inl has.1);
      others = o.others;
    }

    done_in_traces : (given : RunInput) → Tell coming sent disk links_old disks_old readings_old given → IsDone coming sent link_faults disk rules turns mine links_old links disks_old disks readings_old readings → IsDoneInTraces coming sent disk links disks rules mine given turns
    done_in_traces given tell is = record {
      in_world = λ ids first rest stands. done ids mine first rest rules turns given links disks readings stands (is.left given tell);
      promise = λ ids first rest stands. promise ids (first ++ rest) stands.members stands.may;
    }

    by_end : (given : RunInput) → Tell coming sent disk links_old disks_old readings_old given → (ended : Status) → IsEnd coming sent link_faults disk rules turns mine links_old links disks_old disks readings_old readings ended →
        IsDoneInTraces coming sent disk links disks rules mine given turns ⊎ ((id : ℕ) × (OpeningInTraces given id ⊎ IsCutInTraces coming sent disk links disks rules mine given turns id))
    by_end given tell Done end = inl (done_in_traces given tell end)
    by_end given tell (LinkFault id) end = inr (id, inr (cut_in_traces given id tell end.1))
    by_end given tell (DiskFault id) end = inr (
      id,
      elim end.1 [
        | inl opening ↦ inl (opening_in_traces given id tell opening)
        | inr turn ↦ inr (cut_in_traces given id tell turn)
      ],
    )
    by_end given tell (Damaged id key) end = inr (id, inl (opening_in_traces given id tell (widened id end.1)))
    by_end given tell Usage end = absurd end
    by_end given tell (BadRow row) end = absurd end
    by_end given tell (Unlawful row number) end = absurd end
    by_end given tell ReadFault end = absurd end
    by_end given tell WriteFault end = absurd end
    by_end given tell Memory end = absurd end
    by_end given tell (Limit row) end = absurd end
    by_end given tell (Differ index a b) end = absurd end
    by_end given tell NoPart end = absurd end
    by_end given tell NoLeader end = absurd end
    by_end given tell (Uncommitted id) end = absurd end
    by_end given tell (AnotherLog id node) end = inr (id, inr (called_in_traces given id node tell end.1))
    by_end given tell NoValue end = absurd end

    pub in_traces : RunsNodes coming sent link_faults disk rules turns mine links_old links disks_old disks readings_old readings faults_old faults before now status →
        RunsInTraces coming sent link_faults disk rules turns mine links_old links disks_old disks readings_old readings faults_old faults before now status
    in_traces runs = record {
      runs = runs;
      done = λ given tell over. let left = subst Ended over runs.leaves in record {
        in_world = λ ids first rest stands. done ids mine first rest rules turns given links disks readings stands (left.end.left given tell);
        promise = λ ids first rest stands. promise ids (first ++ rest) stands.members stands.may;
      };
      cut = λ given id tell ends. elim ends [
        | inl of_link ↦ let left = subst Ended of_link runs.leaves in inr (cut_in_traces given id tell left.end.1)
        | inr (inl of_disk) ↦ let left = subst Ended of_disk runs.leaves in elim left.end.1 [
          | inl opening ↦ inl (opening_in_traces given id tell opening)
          | inr turn ↦ inr (cut_in_traces given id tell turn)
        ]
        | inr (inr (inl damaged)) ↦ let left = subst Ended damaged.1 runs.leaves in inl (opening_in_traces given id tell (widened id left.end.1))
        | inr (inr (inr called)) ↦ let left = subst Ended called.1 runs.leaves in inr (called_in_traces given id called.0 tell left.end.1)
      ];
      output_failed = λ given tell is. let left = subst Ended is runs.leaves in by_end given tell left.0 left.1.end;
      stands_on_bus = on_bus;
    }
