-- A step that finished is one event of the run, and what is shown is shown after it.
use Rattle.std.proofs.Common.{◌≡◌, ◌≢◌, ℕ, ◌+◌, ◌<◌, ◌≤◌, Bool, true, List, length, refl, sym, ap, subst, ◌∙◌, arith, inl, inr, Some}
use Rattle.std.specs.Prelude.{slice_index_or}
use Rattle.can_frame.specs.declared.entry.Entry.{Entry}
use Rattle.can_frame.specs.declared.step.What.TheVariants.{Alloc, Disc}
use Rattle.can_frame.specs.Log.{IsInjective, blank}
use Rattle.cluster_discovery.specs.Members.{IsMemberList}
use Rattle.dsdl_codec.specs.declared.allocation.Allocation.{Allocation}
use Rattle.dsdl_codec.specs.declared.discovery.Discovery.{Discovery}
use Rattle.dsdl_codec.specs.Allocation.{allocation_of}
use Rattle.dsdl_codec.specs.Discovery.{discovery_of}
use Rattle.dsdl_codec.specs.Entry.{IsEntry}
use Rattle.kv_store.specs.KeyDisk.{KeyDisk}
use Rattle.raft_core.specs.StoredPuts.{AreOfNodes, VoteForNodes, puts_alone, store_of, stored_puts}
use Rattle.raft_log.specs.KeyDisk.{are_put, puts_on}
use Rattle.raft_log.specs.Stored.{Stored}
use Rattle.raft_model.specs.Invariants.{Invariants}
use Rattle.raft_model.specs.Lists.{In, at, at_here, at_other}
use Rattle.raft_model.specs.Messages.{Message}
use Rattle.raft_model.specs.Messages.Message.{Answers, Requests}
use Rattle.raft_model.specs.Runs as raft
use Rattle.raft_model.specs.Runs.{MayOccur, after, bag_with, local_state_after, local_state_of}
use Rattle.raft_model.specs.Runs.Event.{Steps}
use Rattle.raft_model.specs.Server.{RaftServer, Put, Store, committed, put_all}
use Rattle.raft_model.specs.Stops.{AllEnabled, LocalState, state_after_moves}
use Rattle.alloc_spec_laws.specs.Coming.{IsOfTheMachine, KnowsMembers, MayStep, TakesFrom}
use Rattle.alloc_spec_laws.specs.Sound.{IsInRange, IsOnTheBus}
use Rattle.alloc_spec.specs.StepState.{StepState, messages}
use Rattle.alloc_spec.specs.Step.{Event, step}
use Rattle.alloc_spec.specs.Step.Event.{Rx, Tick}
use Rattle.alloc_spec.specs.AllocatorState.{AllocatorState, members_of, start_of}
use Rattle.alloc_spec.specs.Transfers.{SentTransfer, Offer}
use Rattle.alloc_spec.specs.ClusterMembers.{AreMembers}
use Rattle.bus_spec.specs.Cluster.{Cluster}
use Rattle.bus_spec.specs.Members.{Member}
use Rattle.bus_spec.specs.Members.MemberStatus.{Up}
use Rattle.bus_spec.specs.Refinement.{transfers_of_offers}
use Rattle.bus_agreement.specs.Said.{AreWritable, IsRunWritable, IsStoreWritable, ProposesWell}
use Rattle.bus_agreement.specs.Shows.{HoldsOfMade, IsAtWork, IsInRun, Shows, ShowsUp}
use Rattle.bus_agreement.specs.LawsBelow.{FrameLaws, CodecLaws}
use Rattle.bus_agreement.specs.StepLaws.{StepLaws, MoreLaws}
use Rattle.bus_agreement.proofs.Deliveries.{takes_from}
use Rattle.bus_agreement.proofs.Lists.{equal, in_at, in_taken, none_twice}
use Rattle.bus_agreement.proofs.StillShown.{asking_more, bus_more, with_one}
use Rattle.bus_agreement.proofs.MadeTransfers.{each_made, posted_when, still_made}
use Rattle.bus_agreement.proofs.ByteRanges.{IsMessageWritable, Moved, moved_fits, of_nodes}
use Rattle.bus_agreement.proofs.StopsAndOpenings.{firm_after}
use Rattle.bus_agreement.proofs.StillWritable.{stores_with}
use Rattle.bus_agreement.specs.Events.{MayHappen}
use Rattle.bus_agreement.proofs.StepEffects.{among_after, answered_after, called_after, heard_after, queue_after, said_after, transfers_after}

-- ---- a step that may come

module _ (laws : StepLaws) (more : MoreLaws) (frame_laws : FrameLaws) (codec : CodecLaws) (choice : ℕ → Bool) (made : List SentTransfer) (w : Cluster)
    (run : raft.World) (shows : Shows choice made w run) (members : AreMembers w.ids) (sound : Invariants run) (written : IsRunWritable w.ids run)
    (t : AllocatorState) (listed : In t.me w.ids) (is : ShowsUp made w.ids w.frames run t.me t (w.member t.me).disk) (event : Event)
    (may : MayHappen w.frames t event) (narrow : IsOnTheBus event) where
  abbrev number : ℕ
  number = w.rows + 1

  abbrev step_state : StepState
  step_state = (step t number event).step_state

  abbrev low : (n : ℕ) → In n w.ids → 1 ≤ n
  low n i = (members.nodes n i).0

  abbrev high : (n : ℕ) → In n w.ids → n ≤ 125
  high n i = (members.nodes n i).1

  its_list : IsMemberList t.me t.size (members_of t)
  its_list = more.list (start_of t) t.heard (record {
    numbered = low t.me listed;
    device = high t.me listed;
    least = omega (arith, members.some, is.runs.size);
    most = omega (arith, members.few, is.runs.size);
  })

  knows : KnowsMembers t w.ids
  knows = record {
    all = λ e. record {
      once = none_twice (members_of t) its_list.different;
      among = is.works.among;
      as_many = equal (length (members_of t)) t.size e ∙ is.runs.size;
    };
    counting = is.runs.order.counting;
  }

  takes : (e : Event) → event ≡ e → TakesFrom number run.bag t e
  takes (Tick now word) same = tt
  takes (Rx arrival) same = takes_from frame_laws codec w.ids low high made shows.holds.transfers run.bag shows.holds.said shows.holds.written shows.holds.answered
      w.frames shows.bus t (low t.me listed) is.works.among is.works.heard is.works.called number arrival (may.came arrival same) (may.harmless arrival same)

  pub may_step : MayStep t number event w.ids run.bag
  may_step = record {
    knows = knows;
    fit = is.runs.order.fit;
    calls = is.runs.order.calls;
    injective = subst (λ (p : RaftServer). IsInjective p.store.log) is.runs.raft_server (sound.stores t.me).injective;
    takes = takes event refl;
  }

  abbrev local_state : LocalState
  local_state = local_state_of run t.me

  pub of_machine : IsOfTheMachine w.ids t.me number run.bag local_state step_state
  of_machine = more.moves t number event w.ids run.bag may_step local_state (record { raft_server = is.runs.raft_server; called = λ peer i. i })

  pub all_come : AllEnabled run.members t.me number run.bag local_state step_state.moves
  all_come = subst (λ (ms : List ℕ). AllEnabled ms t.me number run.bag local_state step_state.moves) (sym shows.members) of_machine.come

  abbrev finished : raft.Event
  finished = Steps t.me number step_state.moves (messages number step_state)

  pub may_finish : MayOccur run finished
  may_finish = (
    ap (λ (p : RaftServer). p.memory.up) is.runs.raft_server ∙ is.runs.up,
    omega (arith, shows.steps),
    all_come,
    λ m i. subst (λ (ms : List ℕ). In m (state_after_moves ms t.me number local_state step_state.moves).offered) (sym shows.members) (of_machine.say m i),
  )

  pub are_of_nodes : AreOfNodes step_state.moves
  are_of_nodes = of_nodes w.ids t.me number run.bag shows.holds.written.senders step_state.moves local_state of_machine.come

  pub puts_vote : VoteForNodes (puts_alone step_state.puts)
  puts_vote = subst VoteForNodes (sym of_machine.puts) (more.votes w.ids t.me number local_state.raft_server step_state.moves (low t.me listed) are_of_nodes)

  -- what it records has a unique ID of 16 bytes, and no member's node ID
  pub proposes_well : ProposesWell w.ids step_state.moves
  proposes_well entry i = (
    more.records t number event is.runs.uids entry i,
    elim (of_machine.outside entry i) [
      | inl none ↦ λ member. absurd (omega (arith, low entry.node member, none.0))
      | inr outside ↦ outside
    ],
  )

  module _ (well : ProposesWell w.ids step_state.moves) where
    pub moved_well : Moved w.ids low t.me (low t.me listed) number run.bag shows.holds.written (state_after_moves w.ids t.me number local_state step_state.moves)
    moved_well = moved_fits w.ids low t.me (low t.me listed) number run.bag shows.holds.written step_state.moves local_state of_machine.come well
        (record { store = written.stores t.me; offered = λ m i. absurd i })

    offered_well : (message : Message) → In message (messages number step_state)
        → IsMessageWritable w.ids low t.me (low t.me listed) number run.bag shows.holds.written message
    offered_well message i = moved_well.offered message (of_machine.say message i)

    written_after : AreWritable w.ids (bag_with (messages number step_state) run.bag)
    written_after = record {
      requests = λ request i. elim (posted_when (messages number step_state) run.bag (Requests request) i) [
        | inl new ↦ (offered_well (Requests request) new).0
        | inr old ↦ shows.holds.written.requests request old
      ];
      senders = λ request i. elim (posted_when (messages number step_state) run.bag (Requests request) i) [
        | inl new ↦ (offered_well (Requests request) new).1
        | inr old ↦ shows.holds.written.senders request old
      ];
      answers = λ answer i. elim (posted_when (messages number step_state) run.bag (Answers answer) i) [
        | inl new ↦ offered_well (Answers answer) new
        | inr old ↦ shows.holds.written.answers answer old
      ];
    }

    abbrev store : Store
    store = step_state.allocator.raft_server.store

    -- an Allocation of the step that gives a node ID has the unique ID of an entry, of 16 bytes
    whole_uids : (offer : Offer) (answer : Allocation) → In offer step_state.offers → offer.what ≡ Alloc
        → allocation_of offer.payload ≡ Some answer → answer.node ≢ 0 → length answer.uid.items ≡ 16
    whole_uids offer answer i what reads some =
        let is = more.given t number event inside offer (answer.uid.items, answer.node) i
        (record { kind = what; answer = answer; reads = reads; some = omega (arith, some); is = refl }) in
        let entry : Entry = slice_index_or (committed store) is.place (blank 0) in
        let there : In entry store.log = in_taken store.commit store.log entry (in_at (committed store) is.place (blank 0) is.inside) in
        let fits : IsEntry entry = ((subst (λ (p : RaftServer). IsStoreWritable w.ids p.store) of_machine.leave moved_well.store).entries entry there).fits in
        ap length (sym is.uid) ∙ fits.uid
      where
        inside : t.raft_server.store.commit ≤ length t.raft_server.store.log
        inside = subst (λ (p : RaftServer). p.store.commit ≤ length p.store.log) is.runs.raft_server (sound.stores t.me).commit

    -- ---- what its server is in the run

    abbrev after_run : raft.World
    after_run = after run finished

    raft_server_after : (local_state_after run t.me number step_state.moves).raft_server ≡ step_state.allocator.raft_server
    raft_server_after = ap (λ (ms : List ℕ). (state_after_moves ms t.me number local_state step_state.moves).raft_server) shows.members ∙ of_machine.leave

    its_raft_server : after_run.server t.me ≡ step_state.allocator.raft_server
    its_raft_server = at_here run.server t.me t.me (local_state_after run t.me number step_state.moves).raft_server refl ∙ raft_server_after

    its_store : step_state.allocator.raft_server.store ≡ put_all t.raft_server.store (puts_alone step_state.puts)
    its_store =
        ap (λ (p : RaftServer). p.store) (sym of_machine.leave)
        ∙ (ap (λ (p : RaftServer). p.store) (more.raft_server w.ids t.me number step_state.moves local_state)
        ∙ (more.store w.ids t.me number step_state.moves local_state.raft_server
        ∙ (ap (λ (l : List Put). put_all local_state.raft_server.store l) (sym of_machine.puts)
        ∙ ap (λ (p : RaftServer). put_all p.store (puts_alone step_state.puts)) is.runs.raft_server)))

    module _ (done : are_put (stored_puts step_state.puts (w.member t.me).disk.store) (w.member t.me).disk.calls ≡ true) where
      abbrev disk : KeyDisk Stored
      disk = (w.member t.me).disk

      abbrev disk_after : KeyDisk Stored
      disk_after = puts_on (stored_puts step_state.puts disk.store) disk

      stored_after : store_of disk_after.store ≡ step_state.allocator.raft_server.store
      stored_after =
          ap store_of (more.done disk (stored_puts step_state.puts disk.store) done)
          ∙ (more.same step_state.puts disk.store puts_vote
          ∙ (ap (λ (s : Store). put_all s (puts_alone step_state.puts)) is.runs.stored ∙ sym its_store))

      abbrev made_after : List SentTransfer
      made_after = transfers_of_offers number t.me step_state.offers made

      still_there : (x : SentTransfer) → In x made → In x made_after
      still_there x i = still_made number t.me step_state.offers made x i

      past : (x : SentTransfer) → In x made → x.step < number
      past x i = omega (arith, shows.past x i)

      in_range : (offer : Offer) → In offer step_state.offers → IsInRange offer
      in_range = more.ranges t number event is.runs.sound narrow

      abbrev x_after : Member
      x_after = record (w.member t.me) { status = Up step_state.allocator; disk = disk_after }

      runs_after : IsInRun w.ids after_run t.me step_state.allocator disk_after
      runs_after = record {
        me = laws.me t number event;
        size = more.size t number event ∙ is.runs.size;
        raft_server = its_raft_server;
        up = more.up t number event ∙ is.runs.up;
        stored = stored_after;
        nothing_unsynced = firm_after (stored_puts step_state.puts disk.store) disk done is.runs.nothing_unsynced;
        sound = more.sound t number event is.runs.sound narrow;
        order = more.keeps t number event w.ids run.bag may_step;
        uids = more.uids t number event is.runs.uids;
      }

      works_after : IsAtWork made_after w.ids w.frames t.me step_state.allocator
      works_after = record {
        queue = queue_after laws frame_laws codec w.ids low high made run.bag shows.holds w.frames shows.bus t listed is.works number some past event may in_range;
        heard = heard_after laws w.frames t number event may is.works.heard;
        called = called_after laws frame_laws codec w.ids low high made run.bag shows.holds w.frames shows.bus t listed is.works number some past event may in_range;
        among = among_after laws frame_laws codec w.ids low high made run.bag shows.holds w.frames shows.bus t listed is.works number some past event may in_range
            (more.named t number event);
      }
        where
          some : 1 ≤ w.rows + 1
          some = omega arith

      -- a Discovery of the step lists members that it knows
      module _ (told : (offer : Offer) → In offer step_state.offers → offer.what ≡ Disc → (message : Discovery) → discovery_of offer.payload ≡ Some message
          → (peer : ℕ) → In peer message.known.items → In peer (members_of t)) where
        holds_after : HoldsOfMade made_after w.ids (bag_with (messages number step_state) run.bag)
        holds_after = record {
          transfers = transfers_after laws frame_laws codec w.ids low high made run.bag shows.holds w.frames shows.bus t listed is.works number some past event may in_range;
          said = said_after laws frame_laws codec w.ids low high made run.bag shows.holds w.frames shows.bus t listed is.works number some past event may in_range;
          written = written_after;
          answered = answered_after laws frame_laws codec w.ids low high made run.bag shows.holds w.frames shows.bus t listed is.works number some past event may in_range;
          discoveries = λ x message peer i what reads known.
              each_made number t.me w.ids made shows.holds.transfers past step_state.offers (laws.one t number event) in_range listed some
              (λ y. (m : Discovery) (p : ℕ) → y.offer.what ≡ Disc → discovery_of y.offer.payload ≡ Some m → In p m.known.items → In p w.ids)
              (λ y j m p e r k. shows.holds.discoveries y m p j e r k)
              (λ offer j fits m p e r k. is.works.among p (told offer j e m r p k)) x i message peer what reads known;
          allocations = λ x answer i what reads gives.
              each_made number t.me w.ids made shows.holds.transfers past step_state.offers (laws.one t number event) in_range listed some
              (λ y. (a : Allocation) → y.offer.what ≡ Alloc → allocation_of y.offer.payload ≡ Some a → a.node ≢ 0 → length a.uid.items ≡ 16)
              (λ y j a e r g. shows.holds.allocations y a j e r g)
              (λ offer j fits a e r g. whole_uids offer a j e r g) x i answer what reads gives;
        }
          where
            some : 1 ≤ w.rows + 1
            some = omega arith

        pub finished_shown : Shows choice made_after (record w { member = at w.member t.me x_after; rows = number }) after_run
        finished_shown = record {
          members = shows.members;
          steps = omega arith;
          lives = with_one choice made made_after still_there w.ids w.frames w.frames (λ f i. i) run after_run w.member shows.lives t.me x_after
              (λ i. record { runs = runs_after; works = works_after })
              (λ m apart. at_other run.server t.me m (local_state_after run t.me number step_state.moves).raft_server apart);
          asking = λ a x e. asking_more made made_after still_there w.frames w.frames (λ f i. i) x (shows.asking a x e);
          bus = λ frame i. bus_more made made_after still_there w.ids frame (shows.bus frame i);
          narrow = shows.narrow;
          holds = holds_after;
          past = each_made number t.me w.ids made shows.holds.transfers past step_state.offers (laws.one t number event) in_range listed some
              (λ x. x.step ≤ w.rows + 1) (λ x i. omega (arith, shows.past x i)) (λ offer i fits. omega arith);
        }
          where
            some : 1 ≤ w.rows + 1
            some = omega arith

      pub still_written : IsRunWritable w.ids after_run
      still_written = record {
        stores = stores_with w.ids run.server t.me (local_state_after run t.me number step_state.moves).raft_server written.stores
            (subst (λ (ms : List ℕ). IsStoreWritable w.ids (state_after_moves ms t.me number local_state step_state.moves).raft_server.store) (sym shows.members) moved_well.store);
        bag = written_after;
      }

-- ---- of a member by its node ID

module _ (laws : StepLaws) (more : MoreLaws) (frame_laws : FrameLaws) (codec : CodecLaws) (choice : ℕ → Bool) (made : List SentTransfer) (w : Cluster)
    (run : raft.World) (shows : Shows choice made w run) (members : AreMembers w.ids) (sound : Invariants run) (written : IsRunWritable w.ids run)
    (t : AllocatorState) (event : Event) (may : MayHappen w.frames t event) (narrow : IsOnTheBus event) where
  abbrev its_step_state : StepState
  its_step_state = (step t (w.rows + 1) event).step_state

  abbrev its_member : ℕ → Member
  its_member n = record (w.member n) { status = Up its_step_state.allocator; disk = puts_on (stored_puts its_step_state.puts (w.member n).disk.store) (w.member n).disk }

  abbrev its_event : ℕ → raft.Event
  its_event n = Steps n (w.rows + 1) its_step_state.moves (messages (w.rows + 1) its_step_state)

  pub record IsFinished (n : ℕ) : Type 0 where
    pub may_come : MayOccur run (its_event n)
    pub shown : Shows choice (transfers_of_offers (w.rows + 1) n its_step_state.offers made) (record w { member = at w.member n (its_member n); rows = w.rows + 1 }) (after run (its_event n))
    pub writable : IsRunWritable w.ids (after run (its_event n))

  abbrev Finishes : ℕ → Type 0
  Finishes n = In n w.ids → ShowsUp made w.ids w.frames run n t (w.member n).disk
      → are_put (stored_puts its_step_state.puts (w.member n).disk.store) (w.member n).disk.calls ≡ true → IsFinished n

  own : Finishes t.me
  own listed is done = record {
    may_come = may_finish laws more frame_laws codec choice made w run shows members sound written t listed is event may narrow;
    shown = finished_shown laws more frame_laws codec choice made w run shows members sound written t listed is event may narrow well done (more.tells t (w.rows + 1) event);
    writable = still_written laws more frame_laws codec choice made w run shows members sound written t listed is event may narrow well done;
  }
    where
      well : ProposesWell w.ids its_step_state.moves
      well = proposes_well laws more frame_laws codec choice made w run shows members sound written t listed is event may narrow

  pub finishes : (n : ℕ) → t.me ≡ n → Finishes n
  finishes n e = subst Finishes e own
