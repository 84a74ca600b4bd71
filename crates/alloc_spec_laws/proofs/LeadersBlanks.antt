-- When a step adds a leader's blank.
use Rattle.std.proofs.Common.{◌≡◌, ◌≢◌, ℕ, ◌≤◌, Bool, true, false, List, [], ◌∷◌, ◌++◌, ◌⊎◌, inl, inr, refl, sym, ap, subst, ◌∙◌, append_assoc, arith, Option, Some, None}
use Rattle.std.specs.Prelude.{⊤, ◌-◌, ◌&&◌, max, nat_le, nat_lt, not, length, if◌then◌else◌}
use Rattle.std.proofs.lemmas.Bool.{lt-ltb}
use Rattle.can_frame.specs.declared.entry.Entry.{Entry}
use Rattle.can_frame.specs.declared.step.What.TheVariants.{InfoQ}
use Rattle.can_frame.specs.Log.{IsBlank, blank, last_term}
use Rattle.cluster_discovery.specs.Members.{is_due}
use Rattle.id_selector.specs.Choice.{IsChoice, chosen}
use Rattle.node_discovery.specs.Watch.{next_query}
use Rattle.raft_core.specs.Handled.{moves_of_expire}
use Rattle.raft_core.specs.Taken.{proposal}
use Rattle.raft_core.specs.Times.{HandedIn, Times, given_at, given_call, given_tick, has_waited, overdue, raise, step_down, times_after, times_after_all}
use Rattle.raft_model.specs.Duty.{is_heard, tick_phase}
use Rattle.raft_model.specs.Handlers.{server_after, server_after_all}
use Rattle.raft_model.specs.Lists.{In, how_many}
use Rattle.raft_model.specs.Moves.{Move}
use Rattle.raft_model.specs.Moves.Appending.Verdict.{Added, Held, Outdated, Refused}
use Rattle.raft_model.specs.Moves.Elections.{counts, has_quorum, is_leader, own_vote, votes_with}
use Rattle.raft_model.specs.Moves.Leading.{has_matched}
use Rattle.raft_model.specs.Moves.Move.{AnswerAgain, CallForVote, CallToAppend, CommitTo, GiveUp, ProposeEntry, TakeAppendAnswer, TakeAppendRequest, TakeVoteAnswer, TakeVoteRequest, TellNothing, TellPair, TimeOut}
use Rattle.raft_model.specs.Server.{RaftServer, Role, Store, quorum}
use Rattle.raft_model.specs.Server.Role.{Candidate, Follower, Leader}
use Rattle.transfer_rx.specs.Reassembly.{Arrival}
use Rattle.transfer_rx.specs.Reassembly as rx
use Rattle.alloc_spec.specs.Accepted.{setting_for}
use Rattle.alloc_spec.specs.AllocatorState.{AllocatorState, known, knows_all, may_propose, members_of, start_of}
use Rattle.alloc_spec.specs.Ending.{end_phase}
use Rattle.alloc_spec.specs.Rules.{Rules, opening_by, tells, with_told}
use Rattle.alloc_spec.specs.Step.{Event, all_nodes, at_moment, at_step, begin_phase, receive_phase, step, with_sessions}
use Rattle.alloc_spec.specs.Step.Event.{Rx, Tick}
use Rattle.alloc_spec.specs.StepState.{StepState, with_moves, with_transfer}
use Rattle.alloc_spec.specs.Tick.{asks, candidate, clock_phase, discovery_phase, election_phase, new_uid, query_phase, record_phase, records_as, records_node, status_phase, tells_members, tells_status, with_query}
use Rattle.alloc_spec.specs.Transfers.{has_room, id_of}
use Rattle.alloc_spec.proofs.Blanks.{tick_with_blank}
use Rattle.alloc_spec_laws.specs.Blanks.{AddsBlank, IsHeard, server_behind}
use Rattle.alloc_spec_laws.proofs.AddedBlanks.{IsAddedTo, adds, server_by}
use Rattle.alloc_spec_laws.proofs.CalledPeers.{quiet_proposals, tick_quiet}
use Rattle.alloc_spec_laws.proofs.Choices.{and_left, and_right, either, le_true, lt_true}
use Rattle.alloc_spec_laws.proofs.FreeNodes.{IsChosen, RecordsNone, answers, begins, ends, in_turn, is_before, same}
use Rattle.alloc_spec_laws.proofs.KeptBySteps.{step_keeps}
use Rattle.alloc_spec_laws.proofs.Lists.{in_append}
use Rattle.alloc_spec_laws.proofs.Proposals.{candidate_is, chosen_new}
use Rattle.alloc_spec_laws.proofs.StepDuties.{expire_role}

-- ---- who waits is told at the opening, and goes on to wait

lowered : (now : ℕ) (role : Role) (times : Times) → (step_down now role times).waits ≡ times.waits
lowered now Follower times = refl
lowered now Candidate times = refl
lowered now Leader times = refl

raised : (now term : ℕ) (server : RaftServer) (times : Times) → (raise now term server times).waits ≡ times.waits
raised now term server times = either (λ (ts : Times). ts.waits ≡ times.waits) (nat_lt server.store.term term) _ times (λ e. lowered now server.memory.role times) (λ e. refl)

waits_after : (members : List ℕ) (me : ℕ) (given : HandedIn) (server : RaftServer) (move : Move) (times : Times) → (times_after members me given server move times).waits ≡ times.waits
waits_after members me given server TimeOut times = either (λ (ts : Times). ts.waits ≡ times.waits) (has_quorum members (own_vote me)) _ _ (λ e. refl) (λ e. refl)
waits_after members me given server (TakeVoteRequest request granted) times =
    either (λ (ts : Times). ts.waits ≡ times.waits) granted _ _ (λ e. refl) (λ e. raised given.now request.term server times)
waits_after members me given server (TakeVoteAnswer answer) times =
    either (λ (ts : Times). ts.waits ≡ times.waits) (nat_lt server.store.term answer.term) _ _ (λ e. lowered given.now server.memory.role _)
    (λ e. either (λ (ts : Times). ts.waits ≡ times.waits) (counts server answer && has_quorum members (votes_with server.memory answer)) _ _ (λ e. refl) (λ e. refl))
waits_after members me given server (TakeAppendRequest request Outdated) times = refl
waits_after members me given server (TakeAppendRequest request Refused) times = refl
waits_after members me given server (TakeAppendRequest request Held) times = refl
waits_after members me given server (TakeAppendRequest request (Added entry)) times = refl
waits_after members me given server (TakeAppendAnswer answer) times = raised given.now answer.term server _
waits_after members me given server (ProposeEntry entry) times = refl
waits_after members me given server (CommitTo index) times = refl
waits_after members me given server TellPair times = refl
waits_after members me given server TellNothing times = refl
waits_after members me given server (CallForVote peer) times = refl
waits_after members me given server (CallToAppend peer previous with_entry) times = refl
waits_after members me given server (AnswerAgain place) times = refl
waits_after members me given server (GiveUp peer) times = refl

waits_after_all : (members : List ℕ) (me step : ℕ) (given : HandedIn) (moves : List Move) (server : RaftServer) (times : Times)
    → (times_after_all members me step given server moves times).waits ≡ times.waits
waits_after_all members me step given [] server times = refl
waits_after_all members me step given (move ∷ moves) server times =
    waits_after_all members me step given moves (server_after members me step server move) (times_after members me given server move times)
    ∙ waits_after members me given server move times

pub goes_on_to_wait : (t : AllocatorState) (number : ℕ) (event : Event) → (step t number event).step_state.allocator.times.waits ≡ t.times.waits
goes_on_to_wait t number event =
    step_keeps number event (λ g. g.allocator.times.waits ≡ t.times.waits) (λ d. ⊤) (record {
      takes_keep = λ given moves g quiet decided h. waits_after_all (members_of g.allocator) g.allocator.me number given moves g.allocator.raft_server g.allocator.times ∙ h;
      proposes_keep = λ given uid node g found h. h;
      sends_keep = λ what to payload says g sends h. h;
      calls_keep = λ what peer move request payload g makes fits h. waits_after (members_of g.allocator) g.allocator.me (given_call g.allocator.now (id_of g.allocator.ids what peer)) g.allocator.raft_server move g.allocator.times ∙ h;
      responds_keep = λ what d payload says g comes responds h. h;
      changes_keep = λ u g like h. ap (λ (times : Times). times.waits) like.times ∙ h;
      watches_keep = λ node happens g has h. h;
      tells_keep = λ g h. h;
      hears_keep = λ d message g comes kind other read h. h;
    }) t (λ arrival is d e. tt) refl

pub told_waits : (me : ℕ) (rules : Rules) (store : Store) (now word : ℕ) → (opening_by me rules store now word).times.waits ≡ tells rules
told_waits me rules store now word = by rules.told where
  by : (told : List ℕ) → (with_told told (opening_by me (record { size = rules.size; told = [] }) store now word)).times.waits ≡ nat_lt 0 (length told)
  by [] = refl
  by (node ∷ nodes) = sym (lt-ltb 0 (length (node ∷ nodes)) (omega arith))

-- ---- a step that has recorded nothing yet

record IsStill (t : AllocatorState) (number : ℕ) (g : StepState) : Type 0 where
  server : g.allocator.raft_server ≡ server_behind t number g.moves
  members : members_of g.allocator ≡ members_of t
  me : g.allocator.me ≡ t.me
  waits : g.allocator.times.waits ≡ t.times.waits
  role : g.allocator.raft_server.memory.role ≡ t.raft_server.memory.role
  nothing : (entry : Entry) → In (ProposeEntry entry) g.moves → ⊥

begun : (t : AllocatorState) (number now : ℕ) → IsStill t number (begin_phase number now t)
begun t number now =
    let nodes : List ℕ = overdue t.times (max t.now now) all_nodes in record {
      server = refl;
      members = refl;
      me = refl;
      waits = waits_after_all (members_of (at_moment now t)) t.me number (given_at (max t.now now)) (moves_of_expire nodes) t.raft_server t.times;
      role = expire_role (members_of (at_moment now t)) t.me number nodes t.raft_server;
      nothing = begins number now t;
    }

-- a state that differs in none of these
still : {t : AllocatorState} {number : ℕ} (g h : StepState) → IsStill t number g → h.allocator.raft_server ≡ g.allocator.raft_server → h.moves ≡ g.moves
    → members_of h.allocator ≡ members_of g.allocator → h.allocator.me ≡ g.allocator.me → h.allocator.times ≡ g.allocator.times → IsStill t number h
still {t} {number} g h is server moves members me times = record {
  server = server ∙ is.server ∙ ap (λ (ms : List Move). server_behind t number ms) (sym moves);
  members = members ∙ is.members;
  me = me ∙ is.me;
  waits = ap (λ (ts : Times). ts.waits) times ∙ is.waits;
  role = ap (λ (p : RaftServer). p.memory.role) server ∙ is.role;
  nothing = λ entry i. is.nothing entry (subst (λ (ms : List Move). In (ProposeEntry entry) ms) moves i);
}

discovery_still : (t : AllocatorState) (number : ℕ) (g : StepState) → IsStill t number g → IsStill t number (discovery_phase number g)
discovery_still t number g h =
    either (IsStill t number) (is_due (start_of g.allocator) g.allocator.heard g.allocator.now) (tells_members number g) g
    (λ e. still g (tells_members number g) h refl refl refl refl refl) (λ e. h)

status_still : (t : AllocatorState) (number : ℕ) (g : StepState) → IsStill t number g → IsStill t number (status_phase number g)
status_still t number g h =
    either (IsStill t number) (nat_le 1000 (g.allocator.now - g.allocator.status_at)) (tells_status number g) g
    (λ e. still g (tells_status number g) h refl refl refl refl refl) (λ e. h)

-- ---- a blank that it adds then

after_both : (members : List ℕ) (me step : ℕ) (first second : List Move) (server : RaftServer)
    → server_after_all members me step server (first ++ second) ≡ server_after_all members me step (server_after_all members me step server first) second
after_both members me step [] second server = refl
after_both members me step (move ∷ first) second server = after_both members me step first second (server_after members me step server move)

behind_both : (first second : List Move) (move : Move) (more : List Move) → (first ++ (second ++ move ∷ [])) ++ more ≡ (first ++ second) ++ move ∷ more
behind_both first second move more =
    append_assoc first (second ++ move ∷ []) more ∙ ap (λ (l : List Move). first ++ l) (append_assoc second (move ∷ []) more)
    ∙ sym (append_assoc first second (move ∷ more))

if_true : (b x y : Bool) → b ≡ true → (if b then x else y) ≡ true → x ≡ true
if_true true x y e h = h
if_true false x y e h = absurd (cc (e))

if_false : (b x y : Bool) → b ≡ false → (if b then x else y) ≡ true → y ≡ true
if_false true x y e h = absurd (cc (e))
if_false false x y e h = h

heard_is : (members : List ℕ) (me : ℕ) (server : RaftServer) → is_heard members me server ≡ true → IsHeard members me server
heard_is members me server h = record {
  earlier = lt_true (last_term server.store.log) server.store.term (and_left _ _ h);
  matched = le_true (quorum members) (how_many (has_matched me server (length server.store.log)) members)
      (and_right (nat_lt (last_term server.store.log) server.store.term) _ h);
}

not_leader : (role : Role) → not (is_leader role) ≡ true → role ≢ Leader
not_leader Follower h e = absurd (cc (e))
not_leader Candidate h e = absurd (cc (e))
not_leader Leader h e = absurd (cc (h))

module _ (t : AllocatorState) (number : ℕ) (event : Event) where
  -- behind what it was added to, the step goes on
  adds_then : (g h : StepState) (more : List Move) (entry : Entry) → IsStill t number g → IsAddedTo number g h entry
      → (step t number event).step_state.moves ≡ h.moves ++ more → AddsBlank t number event entry
  adds_then g h more entry is added goes = record {
    before = g.moves ++ added.before;
    rest = more;
    split = goes ∙ ap (λ (moves : List Move). moves ++ more) added.moves ∙ behind_both g.moves added.before (ProposeEntry entry) more;
    leads = ap (λ (p : RaftServer). p.memory.role) (sym server) ∙ added.leads;
    is = added.is ∙ ap (λ (p : RaftServer). blank p.store.term) server;
    heard = λ waits. subst (λ (p : RaftServer). IsHeard (members_of t) t.me p) server
        (subst (λ (me : ℕ). IsHeard (members_of t) me then_) is.me (subst (λ (members : List ℕ). IsHeard members g.allocator.me then_) is.members
        (heard_is (members_of g.allocator) g.allocator.me then_ (if_true g.allocator.times.waits _ _ (is.waits ∙ waits) added.moment))));
    won = λ waits leads. not_leader g.allocator.raft_server.memory.role (if_false g.allocator.times.waits _ _ (is.waits ∙ waits) added.moment) (is.role ∙ leads);
  }
    where
      then_ : RaftServer
      then_ = server_by number g added.before

      server : then_ ≡ server_behind t number (g.moves ++ added.before)
      server =
          ap (λ (members : List ℕ). server_after_all members g.allocator.me number g.allocator.raft_server added.before) is.members
          ∙ ap (λ (me : ℕ). server_after_all (members_of t) me number g.allocator.raft_server added.before) is.me
          ∙ ap (λ (p : RaftServer). server_after_all (members_of t) t.me number p added.before) is.server
          ∙ sym (after_both (members_of t) t.me number g.moves added.before t.raft_server)

-- ---- a frame

module _ (chosen_is : (busy : List Bool) (preferred : ℕ) → IsChoice busy preferred (chosen busy preferred)) where
  -- a node ID that is chosen is no blank's
  no_choice : (u : AllocatorState) (entry : Entry) → IsChosen u entry → IsBlank entry → ⊥
  no_choice u entry h none = absurd (let new = (chosen_new chosen_is u h.preference entry.node h.is).0 in omega (arith, new, none.0))

  rx_adds : (t : AllocatorState) (number : ℕ) (arrival : Arrival) (entry : Entry) → In (ProposeEntry entry) (step t number (Rx arrival)).step_state.moves
      → IsBlank entry → AddsBlank t number (Rx arrival) entry
  unfolding step
  rx_adds t number arrival entry i none =
      let begin : StepState = begin_phase number arrival.moment t in
      let taken : StepState = with_sessions arrival begin in
      let received : StepState = (receive_phase number arrival begin).step_state in
      let ended = ends number received in
      elim ((answers number (rx.answer (setting_for begin.allocator.me) begin.allocator.sessions (at_step begin.allocator arrival)) taken).before entry (is_before ended entry i)) [
        | inl j ↦ absurd (begins number arrival.moment t entry j)
        | inr (inl added) ↦ adds_then t number (Rx arrival) taken received ended.more entry (still begin taken (begun t number arrival.moment) refl refl refl refl refl) added ended.moves
        | inr (inr h) ↦ absurd (no_choice taken.allocator entry h none)
      ]

-- ---- a tick

-- what it records of the nodes, if anything
record RecordsNodes (g h : StepState) : Type 0 where
  more : List Move
  moves : h.moves ≡ g.moves ++ more
  nodes : (entry : Entry) → In (ProposeEntry entry) more → 1 ≤ entry.node

module _ (number : ℕ) where
  node_records : (node : ℕ) (uid : Option (List ℕ)) (g : StepState) → 1 ≤ node → RecordsNodes g (records_as number node uid g)
  node_records node None g low = record {
    more = ProposeEntry (proposal g.allocator.raft_server.store.term _ node) ∷ [];
    moves = refl;
    nodes = λ entry i. elim i [ inl e ↦ subst (λ (n : ℕ). 1 ≤ n) (sym (ap (λ (x : Entry). x.node) (the_entry entry _ e))) low | inr j ↦ absurd j ];
  }
    where
      the_entry : (a b : Entry) → ProposeEntry a ≡ ProposeEntry b → a ≡ b
      the_entry a b e = cc (e)
  node_records node (Some uid) g low = record {
    more = ProposeEntry (proposal g.allocator.raft_server.store.term uid node) ∷ [];
    moves = refl;
    nodes = λ entry i. elim i [ inl e ↦ subst (λ (n : ℕ). 1 ≤ n) (sym (ap (λ (x : Entry). x.node) (the_entry entry _ e))) low | inr j ↦ absurd j ];
  }
    where
      the_entry : (a b : Entry) → ProposeEntry a ≡ ProposeEntry b → a ≡ b
      the_entry a b e = cc (e)

  nodes_recorded : (g : StepState) → RecordsNodes g (record_phase number g)
  nodes_recorded g =
      either (RecordsNodes g) (may_propose g.allocator) (records_node number (candidate g.allocator) g) g (λ e. go (candidate g.allocator) refl) (λ e. none)
    where
      none : RecordsNodes g g
      none = let n = same g g refl in record { more = n.more; moves = n.moves; nodes = λ entry i. absurd (n.nothing entry i) }

      go : (node : Option ℕ) → candidate g.allocator ≡ node → RecordsNodes g (records_node number node g)
      go None e = none
      go (Some node) e = node_records node (new_uid g.allocator node) g (candidate_is g.allocator node e).0

  queries : (g : StepState) → RecordsNone g (query_phase number g)
  queries g =
      either (RecordsNone g) (is_leader g.allocator.raft_server.memory.role) (asks number (next_query g.allocator.watch (known g.allocator) g.allocator.now) g) g
      (λ e. go (next_query g.allocator.watch (known g.allocator) g.allocator.now)) (λ e. same g g refl)
    where
      go : (node : Option ℕ) → RecordsNone g (asks number node g)
      go None = same g g refl
      go (Some node) =
          either (RecordsNone g) (has_room g.allocator.queue []) (with_query node (id_of g.allocator.ids InfoQ node) (with_transfer number InfoQ node [] None g))
          (with_transfer number InfoQ node [] None g) (λ e. same g _ refl) (λ e. same g _ refl)

  -- the tick of Raft records nothing, or adds a blank
  elects : (word : ℕ) (g : StepState) (entry : Entry) → In (ProposeEntry entry) (election_phase number word g).moves
      → In (ProposeEntry entry) g.moves ⊎ IsAddedTo number g (election_phase number word g) entry
  elects word g entry =
      let waited : Bool = knows_all g.allocator && has_waited g.allocator.times g.allocator.now in
      let given : HandedIn = given_tick g.allocator.now word in
      let moves : List Move = tick_phase waited g.allocator.raft_server in
      let ticked : StepState = with_moves number given moves g in
      let quiet : In (ProposeEntry entry) ticked.moves → In (ProposeEntry entry) g.moves = λ i. elim (in_append (ProposeEntry entry) g.moves moves i) [
        | inl j ↦ j
        | inr j ↦ absurd (quiet_proposals moves (tick_quiet waited g.allocator.raft_server) entry j)
      ] in
      tick_with_blank (λ h. In (ProposeEntry entry) h.moves → In (ProposeEntry entry) g.moves ⊎ IsAddedTo number g h entry) number word g (λ i. inl (quiet i))
      (λ moment i. elim (in_append (ProposeEntry entry) ticked.moves (ProposeEntry (blank ticked.allocator.raft_server.store.term) ∷ []) i) [
        | inl j ↦ inl (quiet j)
        | inr (inl e) ↦ inr (adds number given moves g entry moment e)
        | inr (inr j) ↦ absurd j
      ])

tick_adds : (t : AllocatorState) (number now word : ℕ) (entry : Entry) → In (ProposeEntry entry) (step t number (Tick now word)).step_state.moves
    → IsBlank entry → AddsBlank t number (Tick now word) entry
unfolding step
tick_adds t number now word entry i none =
    elim (in_append (ProposeEntry entry) elected.moves recorded.more (subst (λ (moves : List Move). In (ProposeEntry entry) moves) recorded.moves (is_before later entry i))) [
      | inr j ↦ absurd (let low = recorded.nodes entry j in omega (arith, low, none.0))
      | inl j ↦ elim (elects number word g entry j) [
        | inl k ↦ absurd (ready.nothing entry k)
        | inr added ↦ adds_then t number (Tick now word) g elected (recorded.more ++ later.more) entry ready added
            (later.moves ∙ ap (λ (moves : List Move). moves ++ later.more) recorded.moves ∙ append_assoc elected.moves recorded.more later.more)
      ]
    ]
  where
    g : StepState
    g = status_phase number (discovery_phase number (begin_phase number now t))

    ready : IsStill t number g
    ready = status_still t number (discovery_phase number (begin_phase number now t)) (discovery_still t number (begin_phase number now t) (begun t number now))

    elected : StepState
    elected = election_phase number word g

    recorded : RecordsNodes elected (record_phase number elected)
    recorded = nodes_recorded number elected

    later : RecordsNone (record_phase number elected) (end_phase number (clock_phase number word (begin_phase number now t)))
    later = in_turn (queries number (record_phase number elected)) (ends number (query_phase number (record_phase number elected)))

pub blank_is_added : ((busy : List Bool) (preferred : ℕ) → IsChoice busy preferred (chosen busy preferred))
    → (t : AllocatorState) (number : ℕ) (event : Event) (entry : Entry) → In (ProposeEntry entry) (step t number event).step_state.moves
    → IsBlank entry → AddsBlank t number event entry
blank_is_added chosen_is t number (Tick now word) entry i none = tick_adds t number now word entry i none
blank_is_added chosen_is t number (Rx arrival) entry i none = rx_adds chosen_is t number arrival entry i none
