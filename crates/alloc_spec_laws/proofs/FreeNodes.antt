-- The node ID of an entry that a step records when it takes a frame.
use Rattle.std.proofs.Common.{◌≡◌, ◌≢◌, ℕ, zero, suc, ◌+◌, ◌-◌, ◌<◌, ◌≤◌, Bool, true, false, List, [], ◌∷◌, ◌++◌, append_assoc, append-nil, drop, get_or, ◌⊎◌, inl, inr, refl, sym, ◌∙◌, ap, subst, arith, Option, Some, None}
use Rattle.std.specs.Prelude.{◌&&◌, ◌||◌, not, is_none, max, nat_eq, nat_lt, slice_index_or}
use Rattle.std.specs.List.{range_with_len}
use Rattle.std.proofs.lemmas.Bool.{le-leb, leb-false}
use Rattle.std.proofs.lemmas.List.FromFn.{get_or-map-range_with_len}
use Rattle.alloc_exchange.specs.declared.heard.Heard.{Heard}
use Rattle.alloc_exchange.specs.declared.heard.Heard.TheVariants.{Denied, FollowUp, Ignored, Whole}
use Rattle.alloc_exchange.specs.Exchange.{answer}
use Rattle.can_frame.specs.declared.entry.Entry.{Entry}
use Rattle.can_frame.specs.declared.identifier.Kind.{Kind}
use Rattle.can_frame.specs.declared.identifier.Kind.TheVariants.{Anonymous, Message as Broadcast, Request as RequestKind, Response}
use Rattle.can_frame.specs.declared.step.What.{What}
use Rattle.can_frame.specs.declared.step.What.TheVariants.{Alloc, AppQ, VoteQ}
use Rattle.can_frame.specs.Log.{HasNodeId, blank}
use Rattle.cluster_discovery.specs.Members.{is_on_list}
use Rattle.dsdl_codec.specs.declared.allocation.Allocation.{Allocation}
use Rattle.dsdl_codec.specs.declared.append_request.AppendRequest.{AppendRequest}
use Rattle.dsdl_codec.specs.declared.vote_request.VoteRequest.{VoteRequest}
use Rattle.dsdl_codec.specs.Allocation.{allocation_of}
use Rattle.dsdl_codec.specs.AppendAnswer.{append_answer_of}
use Rattle.dsdl_codec.specs.AppendRequest.{append_request_of}
use Rattle.dsdl_codec.specs.Discovery.{discovery_of}
use Rattle.dsdl_codec.specs.NodeInfo.{node_info_of}
use Rattle.dsdl_codec.specs.NodeStatus.{node_status_of}
use Rattle.dsdl_codec.specs.VoteAnswer.{vote_answer_of}
use Rattle.dsdl_codec.specs.VoteRequest.{vote_request_of}
use Rattle.id_selector.specs.Choice.{IsChoice, chosen}
use Rattle.node_discovery.specs.History.{Event as Happens, is_online, last_status, unique_id}
use Rattle.node_discovery.specs.Watch.{devices, history, is_unknown, some_unknown}
use Rattle.raft_core.specs.Calls.{owed}
use Rattle.raft_core.specs.Handled as handled
use Rattle.raft_core.specs.Taken.{proposal}
use Rattle.raft_core.specs.Times.{HandedIn, given_at, given_call, is_awaited, overdue}
use Rattle.raft_model.specs.Decisions.{grants, verdict_on}
use Rattle.raft_model.specs.Duty as duty
use Rattle.raft_model.specs.Lists.{In}
use Rattle.raft_model.specs.Messages.{Request}
use Rattle.raft_model.specs.Messages.Message.{Requests}
use Rattle.raft_model.specs.Moves.{Move, next_entry}
use Rattle.raft_model.specs.Moves.Appending.{Verdict}
use Rattle.raft_model.specs.Moves.Elections.{with_term}
use Rattle.raft_model.specs.Moves.Leading.{append_request, vote_request}
use Rattle.raft_model.specs.Moves.Move.{AnswerAgain, CallForVote, CallToAppend, ProposeEntry, TakeAppendRequest, TakeVoteRequest, TellNothing, TellPair}
use Rattle.raft_model.specs.Server.{Store}
use Rattle.transfer_rx.specs.Reassembly.{Answer as Received, Arrival, Delivery}
use Rattle.transfer_rx.specs.Reassembly.Answer.{Continues, Drops, Gives}
use Rattle.transfer_rx.specs.Reassembly as rx
use Rattle.alloc_spec.specs.Accepted.{setting_for}
use Rattle.alloc_spec.specs.AllocatorState.{AllocatorState, is_known, is_recorded, is_zero, known, may_propose, members_of, recorded_at, taken}
use Rattle.alloc_spec.specs.Delivered.{StepResult, asks_info, by_kind, delivery_phase, hears_discovery, hears_status, reads, request, response}
use Rattle.alloc_spec.specs.Delivered as delivered
use Rattle.alloc_spec.specs.Ending.{append_call_bytes, calls_all, calls_by, calls_owed, calls_peer, commit_phase, end_phase, has_to_tell, tell_phase, tells_next, vote_call_bytes}
use Rattle.alloc_spec.specs.Exchange.{allocation_payload, answers_or_records, answers_request, gives_entry, hears_allocation, may_follow, records_at, with_request}
use Rattle.alloc_spec.specs.Services.{answers_append_request, answers_call, answers_vote_request, append_answered, ends_append_call, ends_vote_call, hears_info, is_listed, takes_append_answer, takes_append_request, takes_vote_answer, takes_vote_request, vote_answered}
use Rattle.alloc_spec.specs.Step.{all_nodes, at_step, begin_phase, receive_phase, step, with_answer, with_sessions}
use Rattle.alloc_spec.specs.Step.Event.{Rx}
use Rattle.alloc_spec.specs.StepState.{StepState, with_moves, with_transfer}
use Rattle.alloc_spec.specs.Transfers.{has_room, id_of}
use Rattle.alloc_spec.proofs.Blanks.{move_with_blank}
use Rattle.alloc_spec_laws.specs.FreeNodes.{AllAreIdentified, GivesFreeNode, IsBlankOf, IsIdentified}
use Rattle.alloc_spec_laws.specs.Phases.{when_seen}
use Rattle.alloc_spec_laws.proofs.AddedBlanks.{IsAddedTo, adds}
use Rattle.alloc_spec_laws.proofs.CalledPeers.{IsQuiet, commit_quiet, expire_quiet, quiet_proposals}
use Rattle.alloc_spec_laws.proofs.Choices.{and_right, either, eq_false, eq_true, not_true, tell}
use Rattle.alloc_spec_laws.proofs.Lists.{in_append, none_passes}
use Rattle.alloc_spec_laws.proofs.PhaseMoves.{expire_log}
use Rattle.alloc_spec_laws.proofs.Proposals.{chosen_new, chosen_offline}

-- ---- who is known

listed : (list : List ℕ) (node : ℕ) → is_on_list list node ≡ true → In node list
listed [] node e = absurd (cc (e))
listed (member ∷ list) node e = elim (tell (nat_eq member node)) [
  | inl same ↦ inl (sym (eq_true member node same))
  | inr apart ↦ inr (listed list node (rw apart at e))
]

recorded : (log : List Entry) (node : ℕ) → is_recorded log node ≡ true → HasNodeId log node
recorded [] node e = absurd (cc (e))
recorded (entry ∷ log) node e = elim (tell (nat_eq entry.node node)) [
  | inl same ↦ record { place = 0; within = omega arith; same = eq_true entry.node node same }
  | inr apart ↦ let r = recorded log node (rw apart at e) in record { place = suc r.place; within = omega (arith, r.within); same = r.same }
]

or_true : (a b : Bool) → (a || b) ≡ true → (a ≡ true) ⊎ (b ≡ true)
or_true true b e = inl refl
or_true false b e = inr e

is_not : (b : Bool) → not b ≡ false → b ≡ true
is_not true e = refl
is_not false e = absurd (cc (e))

in_devices : (from count node : ℕ) → from ≤ node → node < from + count → In node (range_with_len from count)
in_devices from zero node low high = absurd (omega (arith, low, high))
in_devices from (suc count) node low high = elim (tell (nat_eq node from)) [
  | inl same ↦ inl (eq_true node from same)
  | inr apart ↦ inr (in_devices (from + 1) count node (omega (arith, low, eq_false node from apart)) (omega (arith, high)))
]

-- where no online node is unknown, each that was heard of late is identified
all_identified : (t : AllocatorState) → some_unknown t.watch (known t) t.now ≡ false → AllAreIdentified t t.now
unfolding some_unknown
all_identified t none node moment least most heard recent = by_uid (unique_id (history node t.watch)) refl
  where
    online : is_online (history node t.watch) t.now ≡ true
    online = let last : last_status (history node t.watch) ≡ Some moment = heard in rw last (le-leb (t.now - moment) 3000 recent)

    unknown : (is_online (history node t.watch) t.now && is_none (unique_id (history node t.watch)) && not (slice_index_or (known t) node true)) ≡ false
    unknown = none_passes (λ n. is_unknown t.watch (known t) n t.now) devices none node (in_devices 1 125 node least (omega (arith, most)))

    place : get_or (known t) node true ≡ is_known t node
    place = get_or-map-range_with_len (is_known t) 0 128 node node true (omega (arith, most)) (omega arith)

    is_there : is_known t node ≡ true → IsIdentified t node
    is_there e = elim (or_true (is_on_list (members_of t) node) (is_recorded t.raft_server.store.log node) e) [
      | inl member ↦ inl (listed (members_of t) node member)
      | inr given ↦ inr (inl (recorded t.raft_server.store.log node given))
    ]

    by_uid : (uid : Option (List ℕ)) → unique_id (history node t.watch) ≡ uid → IsIdentified t node
    by_uid (Some uid) e = inr (inr (uid, e))
    by_uid None e = is_there (sym place ∙ is_not (get_or (known t) node true) (rw (online, e) at unknown))

-- no NodeStatus of a node that is not online was heard of late
not_heard : (events : List Happens) (now moment : ℕ) → is_online events now ≡ false → last_status events ≡ Some moment → 3000 < now - moment
not_heard events now moment off heard = leb-false (now - moment) 3000 (rw heard at off)

-- ---- what the exchange chose

pub record IsChosen (t : AllocatorState) (entry : Entry) : Type 0 where
  pub preference : ℕ
  pub is : chosen (taken t) preference ≡ Some entry.node
  pub none : some_unknown t.watch (known t) t.now ≡ false

module _ (chosen_is : (busy : List Bool) (preferred : ℕ) → IsChoice busy preferred (chosen busy preferred)) where
  chosen_gives : (t : AllocatorState) (entry : Entry) → IsChosen t entry → GivesFreeNode t t.now entry
  chosen_gives t entry h =
      let new = chosen_new chosen_is t h.preference entry.node h.is in
      record {
        free = record {
          least = new.0;
          most = new.1;
          no_member = new.3;
          not_recorded = new.2;
          not_heard = λ moment heard. not_heard (history entry.node t.watch) t.now moment (chosen_offline chosen_is t h.preference entry.node h.is) heard;
        };
        identified = all_identified t h.none;
      }

-- ---- what a step records from one state to another

-- nothing
pub record RecordsNone (g h : StepState) : Type 0 where
  pub more : List Move
  pub moves : h.moves ≡ g.moves ++ more
  pub nothing : (entry : Entry) → In (ProposeEntry entry) more → ⊥

-- nothing but what the exchange chose, or a leader's blank at its moment
pub record RecordsChosen (number : ℕ) (g h : StepState) : Type 0 where
  pub before : (entry : Entry) → In (ProposeEntry entry) h.moves
      → In (ProposeEntry entry) g.moves ⊎ (IsAddedTo number g h entry ⊎ IsChosen g.allocator entry)

pub in_turn : {f g h : StepState} → RecordsNone f g → RecordsNone g h → RecordsNone f h
in_turn {f} {g} {h} first second = record {
  more = first.more ++ second.more;
  moves = second.moves ∙ ap (λ (moves : List Move). moves ++ second.more) first.moves ∙ append_assoc f.moves first.more second.more;
  nothing = λ entry i. elim (in_append (ProposeEntry entry) first.more second.more i) [ inl j ↦ first.nothing entry j | inr j ↦ second.nothing entry j ];
}

-- a state with the same moves
pub same : (g h : StepState) → h.moves ≡ g.moves → RecordsNone g h
same g h e = record { more = []; moves = e ∙ sym (append-nil g.moves); nothing = λ entry i. i }

none : (g : StepState) → RecordsNone g g
none g = same g g refl

-- of states with the same moves
like : {f g h k : StepState} → g.moves ≡ f.moves → k.moves ≡ h.moves → RecordsNone g h → RecordsNone f k
like {f} {g} {h} {k} first last n = record { more = n.more; moves = last ∙ n.moves ∙ ap (λ (moves : List Move). moves ++ n.more) first; nothing = n.nothing }

pub is_before : {g h : StepState} → RecordsNone g h → (entry : Entry) → In (ProposeEntry entry) h.moves → In (ProposeEntry entry) g.moves
is_before {g} {h} n entry i = elim (in_append (ProposeEntry entry) g.moves n.more (subst (λ (moves : List Move). In (ProposeEntry entry) moves) n.moves i)) [
  | inl j ↦ j
  | inr j ↦ absurd (n.nothing entry j)
]

only : {number : ℕ} {g h : StepState} → RecordsNone g h → RecordsChosen number g h
only n = record { before = λ entry i. inl (is_before n entry i) }

module _ (number : ℕ) where
  moved : (given : HandedIn) (moves : List Move) (g : StepState) → ((entry : Entry) → In (ProposeEntry entry) moves → ⊥) → RecordsNone g (with_moves number given moves g)
  moved given moves g other = record { more = moves; moves = refl; nothing = other }

  one_move : (given : HandedIn) (move : Move) (g : StepState) → IsQuiet move → RecordsNone g (with_moves number given (move ∷ []) g)
  one_move given move g quiet = moved given (move ∷ []) g (quiet_proposals (move ∷ []) (quiet, tt))

  gives : (move : Move) (entry : Entry) (g : StepState) → IsQuiet move → RecordsNone g (gives_entry number move entry g)
  gives move entry g quiet =
      let payload : List ℕ = allocation_payload entry.node entry.uid in
      let offered : StepState = with_transfer number Alloc 0 payload None g in
      either (RecordsNone g) (has_room g.allocator.queue payload) _ offered
      (λ e. like refl refl (one_move (given_at g.allocator.now) move offered quiet)) (λ e. same g offered refl)

  -- ---- the end

  commits : (g : StepState) → RecordsNone g (commit_phase number g)
  commits g = moved (given_at g.allocator.now) (duty.commit_phase (members_of g.allocator) g.allocator.me g.allocator.raft_server) g
      (quiet_proposals (duty.commit_phase (members_of g.allocator) g.allocator.me g.allocator.raft_server)
      (commit_quiet (members_of g.allocator) g.allocator.me g.allocator.raft_server))

  tells : (g : StepState) → RecordsNone g (tell_phase number g)
  tells g =
      either (RecordsNone g) (has_to_tell g.allocator.raft_server) (tells_next number g) g
      (λ e. either (RecordsNone g) (is_zero (next_entry g.allocator.raft_server).uid) _ _
      (λ z. one_move (given_at g.allocator.now) TellNothing g tt)
      (λ z. gives TellPair (slice_index_or g.allocator.raft_server.store.log g.allocator.raft_server.memory.told (blank 0)) g tt)) (λ e. none g)

  by_call : (what : What) (peer : ℕ) (move : Move) (request : Request) (payload : List ℕ) (g : StepState) → ((entry : Entry) → move ≢ ProposeEntry entry)
      → RecordsNone g (calls_by number what peer move request payload g)
  by_call what peer move request payload g other =
      let offered : StepState = with_transfer number what peer payload (Some (Requests request)) g in
      either (RecordsNone g) (has_room g.allocator.queue payload) _ offered
      (λ e. like refl refl (moved (given_call g.allocator.now (id_of g.allocator.ids what peer)) (move ∷ []) offered
      (λ entry i. elim i [ inl is ↦ other entry (sym is) | inr j ↦ j ])))
      (λ e. same g offered refl)

  owed_call : (call : Option Move) (g : StepState) → RecordsNone g (calls_owed number call g)
  owed_call None g = none g
  owed_call (Some (CallForVote node)) g =
      let request : Request = vote_request g.allocator.me number g.allocator.raft_server.store node in
      by_call VoteQ node (CallForVote node) request (vote_call_bytes request) g (λ entry e. cc (e))
  owed_call (Some (CallToAppend node previous with_entry)) g =
      let request : Request = append_request g.allocator.me number g.allocator.raft_server.store node previous with_entry in
      by_call AppQ node (CallToAppend node previous with_entry) request (append_call_bytes request) g (λ entry e. cc (e))
  owed_call (Some move) g = none g

  calls : (peers : List ℕ) (g : StepState) → RecordsNone g (calls_all number peers g)
  calls [] g = none g
  calls (peer ∷ peers) g =
      in_turn (owed_call (owed g.allocator.raft_server g.allocator.times peer g.allocator.now) g) (calls peers (calls_peer number peer g))

  pub ends : (g : StepState) → RecordsNone g (end_phase number g)
  ends g =
      let told : StepState = tell_phase number (commit_phase number g) in
      in_turn (in_turn (commits g) (tells (commit_phase number g))) (calls (drop 1 (members_of told.allocator)) told)

  -- ---- a transfer that is no request of a device

  reading : {A : Type 0} (Holds : StepState → Type 0) (does : A → StepState → StepState) (value : Option A) (g : StepState) → Holds g
      → ((found : A) → Holds (does found g)) → Holds (reads does value g).step_state
  reading Holds does None g h f = h
  reading Holds does (Some value) g h f = f value

  asked : (d : Delivery) (bytes : List ℕ) (g : StepState) → RecordsNone g (asks_info number d bytes g).step_state
  asked d [] g = same g (asks_info number d [] g).step_state refl
  asked d (byte ∷ bytes) g = none g

  votes : (d : Delivery) (value : VoteRequest) (g : StepState) → RecordsNone g (answers_vote_request number d value g)
  votes d value g =
      let request = handled.vote_request_of value d.mark.step d.ident.source g.allocator.me in
      let granted : Bool = grants (with_term g.allocator.raft_server.store request.term) request in
      like refl refl (one_move (given_at g.allocator.now) (TakeVoteRequest request granted) g tt)

  appends : (d : Delivery) (value : AppendRequest) (g : StepState) → RecordsNone g (answers_append_request number d value g)
  appends d value g =
      let request = handled.append_request_of value d.mark.step d.ident.source g.allocator.me in
      let verdict : Verdict = verdict_on g.allocator.raft_server request in
      like refl refl (one_move (given_at g.allocator.now) (TakeAppendRequest request verdict) g tt)

  abbrev Result : StepState → StepResult → Type 0
  Result g s = RecordsNone g s.step_state

  messages : (d : Delivery) (g : StepState) → RecordsNone g (delivered.message d g).step_state
  messages d g =
      either (Result g) (nat_eq d.ident.number 341) (reads (λ status. hears_status d) (node_status_of d.payload) g) (reads (hears_discovery d) (discovery_of d.payload) g)
      (λ e. reading (RecordsNone g) (λ status. hears_status d) (node_status_of d.payload) g (none g) (λ status. same g (hears_status d g) refl))
      (λ e. reading (RecordsNone g) (hears_discovery d) (discovery_of d.payload) g (none g) (λ message. same g (hears_discovery d message g) refl))

  requests : (d : Delivery) (g : StepState) → RecordsNone g (request number d g).step_state
  requests d g =
      either (Result g) (nat_eq d.ident.number 1) (asks_info number d d.payload g) _ (λ e. asked d d.payload g)
      (λ e. either (Result g) (nat_eq d.ident.number 30) (reads (takes_append_request number d) (append_request_of d.payload) g)
      (reads (takes_vote_request number d) (vote_request_of d.payload) g)
      (λ e. reading (RecordsNone g) (takes_append_request number d) (append_request_of d.payload) g (none g)
      (λ value. either (RecordsNone g) (is_listed d g.allocator) _ g (λ e. appends d value g) (λ e. none g)))
      (λ e. reading (RecordsNone g) (takes_vote_request number d) (vote_request_of d.payload) g (none g)
      (λ value. either (RecordsNone g) (is_listed d g.allocator) _ g (λ e. votes d value g) (λ e. none g))))

  -- by an answer the moment for a blank may come
  call_ended : (move : Request → Move) (pending : Option Request) (g : StepState) → ((request : Request) → IsQuiet (move request))
      → RecordsChosen number g (answers_call number move pending g)
  call_ended move None g quiet = only (none g)
  call_ended move (Some request) g quiet =
      let given : HandedIn = given_at g.allocator.now in
      let ended : StepState = with_moves number given (move request ∷ []) g in
      let own : Entry = blank ended.allocator.raft_server.store.term in
      let nothing : RecordsNone g ended = one_move given (move request) g (quiet request) in
      move_with_blank (RecordsChosen number g) number given (move request) g (only nothing) (λ moment. record {
        before = λ entry i. elim (in_append (ProposeEntry entry) ended.moves (ProposeEntry own ∷ []) i) [
          | inl j ↦ inl (is_before nothing entry j)
          | inr (inl is) ↦ inr (inl (adds number given (move request ∷ []) g entry moment is))
          | inr (inr j) ↦ absurd j
        ];
      })

  abbrev Chosen : StepState → StepResult → Type 0
  Chosen g s = RecordsChosen number g s.step_state

  responses : (d : Delivery) (g : StepState) → RecordsChosen number g (response number d g).step_state
  responses d g =
      either (Chosen g) (nat_eq d.ident.number 1) (reads (hears_info d) (node_info_of d.payload) g) _
      (λ e. reading (RecordsChosen number g) (hears_info d) (node_info_of d.payload) g (only (none g)) (λ info. only (same g (hears_info d info g) refl)))
      (λ e. either (Chosen g) (nat_eq d.ident.number 30) (reads (takes_append_answer number d) (append_answer_of d.payload) g)
      (reads (takes_vote_answer number d) (vote_answer_of d.payload) g)
      (λ e. reading (RecordsChosen number g) (takes_append_answer number d) (append_answer_of d.payload) g (only (none g)) (λ says.
      either (RecordsChosen number g) (is_listed d g.allocator) (ends_append_call number d says g) g
      (λ e. either (RecordsChosen number g) (is_awaited g.allocator.raft_server g.allocator.times d.ident.source true d.id) _ g
      (λ e. call_ended (append_answered d says) (g.allocator.raft_server.memory.pending d.ident.source) g (λ request. tt)) (λ e. only (none g))) (λ e. only (none g))))
      (λ e. reading (RecordsChosen number g) (takes_vote_answer number d) (vote_answer_of d.payload) g (only (none g)) (λ says.
      either (RecordsChosen number g) (is_listed d g.allocator) (ends_vote_call number d says g) g
      (λ e. either (RecordsChosen number g) (is_awaited g.allocator.raft_server g.allocator.times d.ident.source false d.id) _ g
      (λ e. call_ended (vote_answered d says) (g.allocator.raft_server.memory.pending d.ident.source) g (λ request. tt)) (λ e. only (none g))) (λ e. only (none g)))))

  -- ---- a request of a device

  by_choice : (uid : List ℕ) (preference : ℕ) (choice : Option ℕ) (g : StepState) → chosen (taken g.allocator) preference ≡ choice
      → some_unknown g.allocator.watch (known g.allocator) g.allocator.now ≡ false → RecordsChosen number g (records_at number uid choice g)
  by_choice uid preference None g e unknown = only (none g)
  by_choice uid preference (Some node) g e unknown =
      let own : Entry = proposal g.allocator.raft_server.store.term uid node in
      record {
        before = λ entry i. elim (in_append (ProposeEntry entry) g.moves (ProposeEntry own ∷ []) i) [
          | inl j ↦ inl j
          | inr (inl is) ↦
              let same : entry ≡ own = cc (is) in
              inr (inr (record { preference = preference; is = e ∙ ap (λ (x : Entry). Some x.node) (sym same); none = unknown }))
          | inr (inr j) ↦ absurd j
        ];
      }

  by_place : (uid : List ℕ) (preference : ℕ) (place : Option ℕ) (g : StepState) → RecordsChosen number g (answers_or_records number uid preference place g)
  by_place uid preference (Some place) g =
      either (RecordsChosen number g) (nat_lt place g.allocator.raft_server.store.commit) _ g
      (λ e. only (gives (AnswerAgain place) (slice_index_or g.allocator.raft_server.store.log place (blank 0)) g tt)) (λ e. only (none g))
  by_place uid preference None g =
      let unknown : Bool = some_unknown g.allocator.watch (known g.allocator) g.allocator.now in
      either (RecordsChosen number g) (may_propose g.allocator && not unknown) _ g
      (λ e. by_choice uid preference (chosen (taken g.allocator) preference) g refl (not_true unknown (and_right (may_propose g.allocator) (not unknown) e)))
      (λ e. only (none g))

  hears : (heard : Heard) (g : StepState) → RecordsChosen number g (answers_request number heard g)
  hears (FollowUp bytes) g = only (same g (answers_request number (FollowUp bytes) g) refl)
  hears (Whole uid preference) g =
      either (RecordsChosen number g) (is_zero uid) g _ (λ e. only (none g)) (λ e. by_place uid preference (recorded_at g.allocator.raft_server.store.log uid) g)
  hears (Ignored why) g = only (none g)
  hears Denied g = only (none g)

  by_kinds : (d : Delivery) (kind : Kind) (g : StepState) → RecordsChosen number g (by_kind number d kind g).step_state
  by_kinds d Anonymous g = by_message (allocation_of d.payload) where
    by_message : (value : Option Allocation) → RecordsChosen number g (reads (hears_allocation number) value g).step_state
    by_message None = only (none g)
    by_message (Some message) = record {
      before = λ entry i. elim ((hears (answer g.allocator.accepted message g.allocator.now (may_follow g.allocator)) (with_request message g)).before entry i) [
        | inl j ↦ inl j
        | inr (inl own) ↦ inr (inl (record { before = own.before; moves = own.moves; moment = own.moment; leads = own.leads; is = own.is; of = own.of }))
        | inr (inr h) ↦ inr (inr (record { preference = h.preference; is = h.is; none = h.none }))
      ];
    }
  by_kinds d Broadcast g = only (messages d g)
  by_kinds d RequestKind g = only (requests d g)
  by_kinds d Response g = responses d g

  delivers : (d : Delivery) (g : StepState) → RecordsChosen number g (delivery_phase number d g).step_state
  unfolding delivery_phase
  delivers d g = by_kinds d d.ident.kind g

  pub answers : (answer : Received) (g : StepState) → RecordsChosen number g (with_answer number answer g).step_state
  answers (Gives d) g = delivers d g
  answers Continues g = only (none g)
  answers (Drops why) g = only (none g)

  -- ---- the step

  pub begins : (now : ℕ) (t : AllocatorState) (entry : Entry) → In (ProposeEntry entry) (begin_phase number now t).moves → ⊥
  begins now t entry i =
      let nodes : List ℕ = overdue t.times (max t.now now) all_nodes in quiet_proposals (handled.moves_of_expire nodes) (expire_quiet nodes) entry i

-- the state after the calls of 1,000 ms are given up has the log, the lists and the moment of the step
begun : (t : AllocatorState) (number now : ℕ) (entry : Entry) → GivesFreeNode (begin_phase number now t).allocator (max t.now now) entry → GivesFreeNode t (max t.now now) entry
begun t number now entry h =
    let then_ : AllocatorState = (begin_phase number now t).allocator in
    let store : then_.raft_server.store ≡ t.raft_server.store =
    expire_log (members_of t) t.me number (overdue t.times (max t.now now) all_nodes) t.raft_server in
    record {
      free = record {
        least = h.free.least;
        most = h.free.most;
        no_member = h.free.no_member;
        not_recorded = λ has. h.free.not_recorded (subst (λ (s : Store). HasNodeId s.log entry.node) (sym store) has);
        not_heard = h.free.not_heard;
      };
      identified = λ node moment least most heard recent. elim (h.identified node moment least most heard recent) [
        | inl member ↦ inl member
        | inr (inl given) ↦ inr (inl (subst (λ (s : Store). HasNodeId s.log node) store given))
        | inr (inr told) ↦ inr (inr told)
      ];
    }

pub step_gives : ((busy : List Bool) (preferred : ℕ) → IsChoice busy preferred (chosen busy preferred))
    → (t : AllocatorState) (number : ℕ) (arrival : Arrival) (entry : Entry) → In (ProposeEntry entry) (step t number (Rx arrival)).step_state.moves
    → IsBlankOf (when_seen t number (Rx arrival)).allocator.raft_server entry ⊎ GivesFreeNode t (max t.now arrival.moment) entry
unfolding step
step_gives chosen_is t number arrival entry i =
    let begin : StepState = begin_phase number arrival.moment t in
    let received : StepState = (receive_phase number arrival begin).step_state in
    let recorded = (answers number (rx.answer (setting_for begin.allocator.me) begin.allocator.sessions (at_step begin.allocator arrival)) (with_sessions arrival begin)).before entry
    (is_before (ends number received) entry i) in
    elim recorded [
      | inl j ↦ absurd (begins number arrival.moment t entry j)
      | inr (inl own) ↦ inl own.of
      | inr (inr h) ↦ inr (begun t number arrival.moment entry
          (chosen_gives chosen_is begin.allocator entry (record { preference = h.preference; is = h.is; none = h.none })))
    ]
