-- A step that its disk cut off is one stop of the run.
use Rattle.std.proofs.Common.{◌≡◌, ℕ, suc, ◌+◌, ◌<◌, ◌≤◌, Bool, true, false, List, [], ◌∷◌, ◌++◌, length, take, refl, sym, ap, subst, ◌∙◌, arith, Option, Some, None}
use Rattle.std.specs.Prelude.{if◌then◌else◌}
use Rattle.kv_store.specs.KeyDisk.{Unsynced, KeyDisk, keeps, restarted_on}
use Rattle.outside.specs.declared.pattern.Pattern.{Pattern}
use Rattle.raft_core.specs.StoredPuts.{PutWithOrigin, VoteForNodes, puts_alone, store_of, stored_put, stored_puts}
use Rattle.raft_log.specs.KeyDisk.{are_put, done_on, found_by, kept_by, puts_on}
use Rattle.raft_log.specs.Stored.{Put as StoredPut, Stored, after_put, after_puts}
use Rattle.disk_model.specs.declared.calls.Calls.{Calls}
use Rattle.raft_model.specs.Handlers.{server_after_all, puts_of_all}
use Rattle.raft_model.specs.Invariants.{Invariants}
use Rattle.raft_model.specs.Lists.{In, at, at_here, at_other}
use Rattle.raft_model.specs.Messages.{Message}
use Rattle.raft_model.specs.Moves.{Move, puts}
use Rattle.raft_model.specs.Runs as raft
use Rattle.raft_model.specs.Runs.{MayOccur, after, local_state_after, local_state_of}
use Rattle.raft_model.specs.Runs.Event.{StopsWithin}
use Rattle.raft_model.specs.Server.{RaftServer, Put, Store, memory_when_down, put_all}
use Rattle.raft_model.specs.Stops.{AllEnabled, LocalState, state_after_moves, state_after_stop_within}
use Rattle.alloc_spec_laws.specs.Coming.{IsOfTheMachine}
use Rattle.alloc_spec_laws.specs.Sound.{IsOnTheBus}
use Rattle.alloc_spec.specs.StepState.{StepState}
use Rattle.alloc_spec.specs.Step.{Event, step}
use Rattle.alloc_spec.specs.AllocatorState.{AllocatorState}
use Rattle.alloc_spec.specs.Transfers.{SentTransfer}
use Rattle.alloc_spec.specs.ClusterMembers.{AreMembers}
use Rattle.bus_spec.specs.Cluster.{Cluster}
use Rattle.bus_spec.specs.Members.{Failure, Member, after_cut_off, stopped_with}
use Rattle.bus_spec.specs.Members.MemberStatus.{Failed}
use Rattle.bus_spec.specs.Choices.{one_if}
use Rattle.bus_spec.specs.Refinement.{cut_event, more_done}
use Rattle.bus_agreement.specs.Cuts.{IsOneStop}
use Rattle.bus_agreement.specs.Events.{MayHappen}
use Rattle.bus_agreement.specs.Said.{IsRunWritable, IsStoreWritable}
use Rattle.bus_agreement.specs.Shows.{Shows, ShowsMember, ShowsUp}
use Rattle.bus_agreement.specs.LawsBelow.{FrameLaws, CodecLaws}
use Rattle.bus_agreement.specs.StepLaws.{StepLaws, MoreLaws}
use Rattle.bus_agreement.proofs.CutPrefixes.{one_stop}
use Rattle.bus_agreement.proofs.FinishedSteps.{of_machine, proposes_well, puts_vote}
use Rattle.bus_agreement.proofs.StillShown.{with_one}
use Rattle.bus_agreement.proofs.ByteRanges.{ArePutsWritable, after_all, all_puts_fit, front}
use Rattle.bus_agreement.proofs.StopsAndOpenings.{restarted_down}
use Rattle.bus_agreement.proofs.StillWritable.{stores_with}

pub record CutLaws : Type 0 where
  pub counted : (puts : List StoredPut) (calls : Calls) → are_put puts calls ≡ false → done_on puts calls < length puts
  pub found_again : (puts : List StoredPut) (key_disk : KeyDisk Stored) (pattern : Pattern) → key_disk.unsynced ≡ None → let after = puts_on puts key_disk in
      let count = done_on puts key_disk.calls + found_by pattern after in
      (restarted_on pattern after).store ≡ after_puts (take count puts) key_disk.store
  pub front : (puts : List PutWithOrigin) (state : Stored) (count : ℕ) → VoteForNodes (puts_alone puts)
      → store_of (after_puts (take count (stored_puts puts state)) state) ≡ put_all (store_of state) (take count (puts_alone puts))
  pub apart : (members : List ℕ) (member number : ℕ) (bag : List Message) (first second : List Move) (local_state : LocalState)
      → AllEnabled members member number bag local_state (first ++ second)
      → AllEnabled members member number bag local_state first × AllEnabled members member number bag (state_after_moves members member number local_state first) second

as_many : (with_origin : List PutWithOrigin) (state : Stored) → length (stored_puts with_origin state) ≡ length (puts_alone with_origin)
as_many [] state = refl
as_many (first ∷ rest) state = ap suc (as_many rest (after_put (stored_put first state) state))

if_few : (b : Bool) → (if b then 1 else 0) ≤ 1
if_few true = omega arith
if_few false = omega arith

pub found_few : (pattern : Pattern) (unsynced : Option (Unsynced Stored)) (disk : KeyDisk Stored) → kept_by pattern unsynced disk ≤ 1
found_few pattern None disk = omega arith
found_few pattern (Some unsynced) disk = if_few (keeps pattern (disk.copies unsynced.key))

one_few : (b : Bool) → one_if b ≤ 1
one_few true = omega arith
one_few false = omega arith

module _ (laws : StepLaws) (more : MoreLaws) (cuts : CutLaws) (frame_laws : FrameLaws) (codec : CodecLaws) (choice : ℕ → Bool) (made : List SentTransfer) (w : Cluster)
    (run : raft.World) (shows : Shows choice made w run) (members : AreMembers w.ids) (sound : Invariants run) (written : IsRunWritable w.ids run)
    (t : AllocatorState) (listed : In t.me w.ids) (is : ShowsUp made w.ids w.frames run t.me t (w.member t.me).disk) (event : Event)
    (may : MayHappen w.frames t event) (narrow : IsOnTheBus event)
    (failed : are_put (stored_puts (step t (w.rows + 1) event).step_state.puts (w.member t.me).disk.store) (w.member t.me).disk.calls ≡ false) where
  abbrev number : ℕ
  number = w.rows + 1

  abbrev step_state : StepState
  step_state = (step t number event).step_state

  abbrev disk : KeyDisk Stored
  disk = (w.member t.me).disk

  abbrev its_puts : List StoredPut
  its_puts = stored_puts step_state.puts disk.store

  abbrev disk_after : KeyDisk Stored
  disk_after = puts_on its_puts disk

  abbrev count : ℕ
  count = done_on its_puts disk.calls

  abbrev local_state : LocalState
  local_state = local_state_of run t.me

  machine_step : IsOfTheMachine w.ids t.me number run.bag local_state step_state
  machine_step = of_machine laws more frame_laws codec choice made w run shows members sound written t listed is event may narrow

  votes : VoteForNodes (puts_alone step_state.puts)
  votes = puts_vote laws more frame_laws codec choice made w run shows members sound written t listed is event may narrow

  same_puts : puts_alone step_state.puts ≡ puts_of_all w.ids t.me number t.raft_server step_state.moves
  same_puts = machine_step.puts ∙ ap (λ (p : RaftServer). puts_of_all w.ids t.me number p step_state.moves) is.runs.raft_server

  inside : count < length (puts_of_all w.ids t.me number t.raft_server step_state.moves)
  inside = omega (arith, cuts.counted its_puts disk.calls failed, as_many step_state.puts disk.store, ap (λ (l : List Put). length l) same_puts)

  puts_fit : ArePutsWritable w.ids (puts_alone step_state.puts)
  puts_fit = subst (λ (all : List Put). ArePutsWritable w.ids all) (sym machine_step.puts)
      (all_puts_fit w.ids (λ n i. (members.nodes n i).0) t.me (members.nodes t.me listed).0 number run.bag shows.holds.written step_state.moves local_state machine_step.come
      (proposes_well laws more frame_laws codec choice made w run shows members sound written t listed is event may narrow) (written.stores t.me))

  -- what a restart finds: so many of the puts as are done for sure, or one more
  found : (pattern : Pattern) → store_of (restarted_on pattern disk_after).store
      ≡ put_all t.raft_server.store (take (count + found_by pattern disk_after) (puts_alone step_state.puts))
  found pattern =
      ap store_of (cuts.found_again its_puts disk pattern is.runs.nothing_unsynced)
      ∙ (cuts.front step_state.puts disk.store (count + found_by pattern disk_after) votes
      ∙ ap (λ (s : Store). put_all s (take (count + found_by pattern disk_after) (puts_alone step_state.puts))) is.runs.stored)

  abbrev failure : Failure
  failure = record { row = number; before = t; step_state = step_state; done = count }

  module _ (extra : ℕ) (few : extra ≤ 1) where
    stop : IsOneStop w.ids t.me number t.raft_server [] step_state.moves count extra (cut_event w.ids t.me number t.raft_server [] step_state.moves count extra)
    stop = one_stop w.ids t.me number extra few t.raft_server [] step_state.moves count inside

    abbrev event_of : raft.Event
    event_of = StopsWithin t.me number stop.before stop.next (stop.count + extra)

    abbrev AreComing : List ℕ → Type 0
    AreComing ms = AllEnabled ms t.me number run.bag local_state stop.before
        × AllEnabled ms t.me number run.bag (state_after_moves ms t.me number local_state stop.before) (stop.next ∷ stop.rest)

    coming : AreComing run.members
    coming = subst AreComing (sym shows.members) (cuts.apart w.ids t.me number run.bag stop.before (stop.next ∷ stop.rest) local_state
        (subst (λ (ms : List Move). AllEnabled w.ids t.me number run.bag local_state ms) stop.split machine_step.come))

    may_stop : MayOccur run event_of
    may_stop = (ap (λ (p : RaftServer). p.memory.up) is.runs.raft_server ∙ is.runs.up, coming.0, coming.1.0)

    abbrev run_then : raft.World
    run_then = after run event_of

    abbrev stopped_local_state : List ℕ → LocalState
    stopped_local_state ms = state_after_stop_within ms t.me (stop.count + extra) (state_after_moves ms t.me number local_state stop.before) stop.next

    its_server : run_then.server t.me ≡ (stopped_local_state run.members).raft_server
    its_server = at_here run.server t.me t.me (stopped_local_state run.members).raft_server refl

    its_raft_server : (state_after_moves w.ids t.me number local_state stop.before).raft_server ≡ server_after_all w.ids t.me number t.raft_server stop.before
    its_raft_server = more.raft_server w.ids t.me number stop.before local_state ∙ ap (λ (p : RaftServer). server_after_all w.ids t.me number p stop.before) is.runs.raft_server

    its_store : (run_then.server t.me).store ≡ put_all t.raft_server.store (take (count + extra) (puts_alone step_state.puts))
    its_store =
        ap (λ (p : RaftServer). p.store) its_server
        ∙ (ap (λ (ms : List ℕ). (stopped_local_state ms).raft_server.store) shows.members
        ∙ (ap (λ (p : RaftServer). put_all p.store (take (stop.count + extra) (puts w.ids t.me p stop.next))) its_raft_server
        ∙ (sym stop.stored
        ∙ ap (λ (l : List Put). put_all t.raft_server.store (take (count + extra) l)) (sym same_puts))))

    still_written : IsRunWritable w.ids run_then
    still_written = record {
      stores = stores_with w.ids run.server t.me (stopped_local_state run.members).raft_server written.stores (subst (λ (s : Store). IsStoreWritable w.ids s) (sym its_store ∙ ap (λ (p : RaftServer). p.store) its_server)
          (after_all w.ids t.raft_server.store (take (count + extra) (puts_alone step_state.puts)) (subst (λ (p : RaftServer). IsStoreWritable w.ids p.store) is.runs.raft_server (written.stores t.me))
          (front w.ids (count + extra) (puts_alone step_state.puts) puts_fit)));
      bag = written.bag;
    }

    is_down : (run_then.server t.me).memory ≡ memory_when_down
    is_down = ap (λ (p : RaftServer). p.memory) its_server

    shown_with : (x : Member) → ShowsMember choice made w.ids w.frames run_then t.me x.status x.disk
        → Shows choice made (record w { member = at w.member t.me x; rows = number }) run_then
    shown_with x here = record {
      members = shows.members;
      steps = omega (arith, shows.steps);
      lives = with_one choice made made (λ y i. i) w.ids w.frames w.frames (λ f i. i) run run_then w.member shows.lives t.me x (λ i. here)
          (λ m apart. at_other run.server t.me m (stopped_local_state run.members).raft_server apart);
      asking = shows.asking;
      bus = shows.bus;
      narrow = shows.narrow;
      holds = shows.holds;
      past = λ y i. omega (arith, shows.past y i);
    }

  -- the member stopped with its disk, or stays as one that failed
  pub record IsCutOff : Type 0 where
    pub stopping : raft.Event
    pub one_event : cut_event w.ids t.me number t.raft_server [] step_state.moves count (more_done choice number (w.member t.me).pattern disk_after) ≡ stopping ∷ []
    pub comes_now : MayOccur run stopping
    pub written_then : IsRunWritable w.ids (after run stopping)
    pub shows_then : Shows choice made (record w { member = at w.member t.me (after_cut_off (w.member t.me) number t step_state disk_after); rows = number }) (after run stopping)

  abbrev By : Bool → Type 0
  By b = let extra = if b then found_by (w.member t.me).pattern disk_after else one_if (choice number) in
      let x = if b then stopped_with (w.member t.me).pattern disk_after (w.member t.me) else record (w.member t.me) { status = Failed failure; disk = disk_after } in
      (e : raft.Event) × (cut_event w.ids t.me number t.raft_server [] step_state.moves count extra ≡ e ∷ []) × MayOccur run e
      × IsRunWritable w.ids (after run e) × Shows choice made (record w { member = at w.member t.me x; rows = number }) (after run e)

  by : (b : Bool) → By b
  by true =
      let extra = found_by (w.member t.me).pattern disk_after in
      let few : extra ≤ 1 = found_few (w.member t.me).pattern disk_after.unsynced disk_after in
      let x = stopped_with (w.member t.me).pattern disk_after (w.member t.me) in (
        event_of extra few,
        (stop extra few).one,
        may_stop extra few,
        still_written extra few,
        shown_with extra few x
            (restarted_down (run_then extra few) t.me disk_after (w.member t.me).pattern (is_down extra few) (found (w.member t.me).pattern ∙ sym (its_store extra few))),
      )
  by false =
      let extra = one_if (choice number) in
      let few : extra ≤ 1 = one_few (choice number) in
      let x : Member = record (w.member t.me) { status = Failed failure; disk = disk_after } in (
        event_of extra few,
        (stop extra few).one,
        may_stop extra few,
        still_written extra few,
        shown_with extra few x
            (record { down = is_down extra few; stored = its_store extra few; found = found }),
      )

  pub cut_shown : IsCutOff
  cut_shown = let r = by disk_after.calls.stopped in record { stopping = r.0; one_event = r.1; comes_now = r.2; written_then = r.3; shows_then = r.4 }

-- ---- of a member by its node ID

module _ (laws : StepLaws) (more : MoreLaws) (cuts : CutLaws) (frame_laws : FrameLaws) (codec : CodecLaws) (choice : ℕ → Bool) (made : List SentTransfer) (w : Cluster)
    (run : raft.World) (shows : Shows choice made w run) (members : AreMembers w.ids) (sound : Invariants run) (written : IsRunWritable w.ids run)
    (t : AllocatorState) (event : Event) (may : MayHappen w.frames t event) (narrow : IsOnTheBus event) where
  abbrev step_of : StepState
  step_of = (step t (w.rows + 1) event).step_state

  abbrev disk_then : ℕ → KeyDisk Stored
  disk_then n = puts_on (stored_puts step_of.puts (w.member n).disk.store) (w.member n).disk

  pub record IsCutAt (n : ℕ) : Type 0 where
    pub stop_event : raft.Event
    pub is_one : cut_event w.ids n (w.rows + 1) t.raft_server [] step_of.moves (done_on (stored_puts step_of.puts (w.member n).disk.store) (w.member n).disk.calls)
        (more_done choice (w.rows + 1) (w.member n).pattern (disk_then n)) ≡ stop_event ∷ []
    pub may_be : MayOccur run stop_event
    pub stays_written : IsRunWritable w.ids (after run stop_event)
    pub shown_then : Shows choice made (record w { member = at w.member n (after_cut_off (w.member n) (w.rows + 1) t step_of (disk_then n)); rows = w.rows + 1 }) (after run stop_event)

  abbrev CutAt : ℕ → Type 0
  CutAt n = In n w.ids → ShowsUp made w.ids w.frames run n t (w.member n).disk
      → are_put (stored_puts step_of.puts (w.member n).disk.store) (w.member n).disk.calls ≡ false → IsCutAt n

  own : CutAt t.me
  own listed is failed = let r = cut_shown laws more cuts frame_laws codec choice made w run shows members sound written t listed is event may narrow failed in
      record { stop_event = r.stopping; is_one = r.one_event; may_be = r.comes_now; stays_written = r.written_then; shown_then = r.shows_then }

  pub cut_at : (n : ℕ) → t.me ≡ n → CutAt n
  cut_at n e = subst CutAt e own
