-- No call is old when a step is over: those that are overdue are given up as it begins, and each later one is made now.
use Rattle.std.proofs.Common.{◌≡◌, ℕ, ◌+◌, ◌-◌, ◌<◌, ◌≤◌, Bool, true, false, List, [], ◌∷◌, ◌⊎◌, inl, inr, refl, sym, ◌∙◌, ap, subst, arith, max, zero, suc, Option, Some, None}
use Rattle.std.specs.Prelude.{⊤, ◌||◌, nat_le, drop, length, if◌then◌else◌}
use Rattle.std.specs.List.{range_with_len}
use Rattle.std.proofs.lemmas.Bool.Decides.{eqb_tells, leb_tells}
use Rattle.can_frame.specs.declared.step.What.{What}
use Rattle.raft_core.specs.Handled.{moves_of_expire}
use Rattle.raft_core.specs.Times.{HandedIn, Sending, Times, given_at, given_call, is_overdue, is_silent, overdue, times_after_all}
use Rattle.raft_model.specs.Handlers.{server_after}
use Rattle.raft_model.specs.Lists.{In, at, at_here, at_other}
use Rattle.raft_model.specs.Messages.{Request}
use Rattle.raft_model.specs.Messages.Message.{Requests}
use Rattle.raft_model.specs.Moves.{Move}
use Rattle.raft_core.specs.Calls.{due, due_unless}
use Rattle.raft_model.specs.Decisions.{commit_index}
use Rattle.raft_model.specs.Duty.{commit_moves}
use Rattle.raft_model.specs.Moves.{next_entry}
use Rattle.raft_model.specs.Moves.Elections.{is_leader}
use Rattle.raft_model.specs.Moves.Leading.{append_request, vote_request}
use Rattle.raft_model.specs.Moves.Move.{CallForVote, CallToAppend, GiveUp, TellNothing, TellPair}
use Rattle.raft_model.specs.Server.{RaftServer, Role}
use Rattle.raft_model.specs.Server.Role.{Candidate, Follower, Leader}
use Rattle.can_frame.specs.declared.entry.Entry.{Entry}
use Rattle.can_frame.specs.declared.step.What.TheVariants.{Alloc, AppQ, VoteQ}
use Rattle.alloc_spec.specs.Ending.{append_call_bytes, calls_all, calls_owed, calls_peer, commit_phase, end_phase, has_to_tell, tell_phase, tells_next, vote_call_bytes}
use Rattle.alloc_spec.specs.Exchange.{allocation_payload, gives_pair}
use Rattle.alloc_spec.specs.AllocatorState.{AllocatorState, is_zero, members_of}
use Rattle.alloc_spec.specs.Step.{Event, all_nodes, at_moment, begin_phase, event_phase, moment_of, step}
use Rattle.alloc_spec.specs.StepState.{StepState, with_move_if, with_moves, with_transfer}
use Rattle.alloc_spec.specs.Transfers.{has_room, id_of}
use Rattle.alloc_spec_laws.proofs.CalledPeers.{AreQuiet, quiet_calls}
use Rattle.alloc_spec_laws.proofs.KeptByChanges.{Keeping, MakesCall}
use Rattle.alloc_spec_laws.proofs.KeptBySteps.{event_keeps}
use Rattle.alloc_spec_laws.proofs.Pending.{after_moves}

-- ---- those that are overdue

in_range : (from count x : ℕ) → from ≤ x → x < from + count → In x (range_with_len from count)
in_range from zero x low high = absurd (omega (arith, low, high))
in_range from (suc count) x low high = elim (leb_tells x from) [
  | inl z ↦ inl (omega (arith, low, z.1))
  | inr z ↦ inr (in_range (from + 1) count x (omega (arith, z.1)) (omega (arith, high)))
]

listed : (node : ℕ) → node < 128 → In node all_nodes
unfolding all_nodes
listed node low = in_range 0 128 node (omega (arith)) low

if_listed : (b : Bool) (q node : ℕ) (nodes : List ℕ) → In q nodes → In q (if b then node ∷ nodes else nodes)
if_listed true q node nodes i = inr i
if_listed false q node nodes i = i

overdue_listed : (t : Times) (now q : ℕ) (nodes : List ℕ) → In q nodes → is_overdue (t.sending q) now ≡ true → In q (overdue t now nodes)
overdue_listed t now q [] i late = i
overdue_listed t now q (node ∷ nodes) (inl same) late =
    let here : is_overdue (t.sending node) now ≡ true = subst (λ (x : ℕ). is_overdue (t.sending x) now ≡ true) same late in
    subst (λ (b : Bool). In q (if b then node ∷ overdue t now nodes else overdue t now nodes)) (sym here) (inl same)
overdue_listed t now q (node ∷ nodes) (inr i) late =
    if_listed (is_overdue (t.sending node) now) q node (overdue t now nodes) (overdue_listed t now q nodes i late)

-- ---- giving up

module _ (members : List ℕ) (me number : ℕ) (given : HandedIn) (q : ℕ) where
  abbrev sent_after : List ℕ → RaftServer → Times → Option Sending
  sent_after qs server times = (times_after_all members me number given server (moves_of_expire qs) times).sending q

  none_stays : (qs : List ℕ) (server : RaftServer) (times : Times) → times.sending q ≡ None → sent_after qs server times ≡ None
  none_stays [] server times none = none
  none_stays (node ∷ qs) server times none = none_stays qs (server_after members me number server (GiveUp node)) (record times { sending = at times.sending node None })
      (elim (eqb_tells q node) [
        | inl z ↦ at_here times.sending node q None z.1
        | inr z ↦ at_other times.sending node q None z.1 ∙ none
      ])

  ends : (qs : List ℕ) (server : RaftServer) (times : Times) → In q qs → sent_after qs server times ≡ None
  ends [] server times i = absurd i
  ends (node ∷ qs) server times (inl same) = none_stays qs (server_after members me number server (GiveUp node)) (record times { sending = at times.sending node None })
      (at_here times.sending node q None same)
  ends (node ∷ qs) server times (inr i) = ends qs (server_after members me number server (GiveUp node)) (record times { sending = at times.sending node None }) i

  stays : (qs : List ℕ) (server : RaftServer) (times : Times) → (sent_after qs server times ≡ times.sending q) ⊎ (sent_after qs server times ≡ None)
  stays [] server times = inl refl
  stays (node ∷ qs) server times = elim (eqb_tells q node) [
    | inl z ↦ inr (ends (node ∷ qs) server times (inl z.1))
    | inr z ↦ elim (stays qs (server_after members me number server (GiveUp node)) (record times { sending = at times.sending node None })) [
      | inl same ↦ inl (same ∙ at_other times.sending node q None z.1)
      | inr none ↦ inr none
    ]
  ]

abbrev by_role : Role → ℕ → ℕ → Bool → Bool → Option Move
by_role Follower node previous answered is_due = None
by_role Candidate node previous answered is_due = if answered then None else Some (CallForVote node)
by_role Leader node previous answered is_due = if is_due then Some (CallToAppend node previous true) else None

-- ---- what each change keeps

abbrev IsYoung : ℕ → StepState → Type 0
IsYoung peer g = is_overdue (g.allocator.times.sending peer) g.allocator.now ≡ false

made_now : (now id : ℕ) → is_overdue (Some (record { id = id; moment = now })) now ≡ false
made_now now id = elim (leb_tells 1000 (now - now)) [
  | inl z ↦ absurd (omega (arith, z.1))
  | inr z ↦ z.0
]

module _ (number peer : ℕ) where
  after_takes : (given : HandedIn) (moves : List Move) (g : StepState) → AreQuiet moves → IsYoung peer g → IsYoung peer (with_moves number given moves g)
  after_takes given moves g quiet h =
      elim (after_moves peer (members_of g.allocator) g.allocator.me number given moves g.allocator.raft_server g.allocator.times (quiet_calls moves quiet)) [
        | inl stays ↦ ap (λ (call : Option Sending). is_overdue call g.allocator.now) stays.sending ∙ h
        | inr ends ↦ ap (λ (call : Option Sending). is_overdue call g.allocator.now) ends.sending
      ]

  after_call : (what : What) (node : ℕ) (move : Move) (request : Request) (payload : List ℕ) (g : StepState)
      → MakesCall number g.allocator.me g.allocator what node move request → has_room g.allocator.queue payload ≡ true
      → IsYoung peer (with_transfer number what node payload (Some (Requests request)) g)
      → IsYoung peer (with_moves number (given_call g.allocator.now (id_of g.allocator.ids what node)) (move ∷ []) (with_transfer number what node payload (Some (Requests request)) g))
  after_call what node move request payload g makes fits h =
      let call : Sending = record { id = id_of g.allocator.ids what node; moment = g.allocator.now } in
      ap (λ (f : ℕ → Option Sending). is_overdue (f peer) g.allocator.now)
      (makes.sending (members_of g.allocator) (given_call g.allocator.now (id_of g.allocator.ids what node)) g.allocator.times)
      ∙ elim (eqb_tells peer node) as (λ _. is_overdue (at g.allocator.times.sending node (Some call) peer) g.allocator.now ≡ false) [
        | inl z ↦ ap (λ (c : Option Sending). is_overdue c g.allocator.now) (at_here g.allocator.times.sending node peer (Some call) z.1)
            ∙ made_now g.allocator.now (id_of g.allocator.ids what node)
        | inr z ↦ ap (λ (c : Option Sending). is_overdue c g.allocator.now) (at_other g.allocator.times.sending node peer (Some call) z.1) ∙ h
      ]

  keeping : (event : Event) → Keeping number event (IsYoung peer) (λ d. ⊤)
  keeping event = record {
    takes_keep = λ given moves g quiet decided h. after_takes given moves g quiet h;
    proposes_keep = λ origin uid node g found h. h;
    sends_keep = λ what to payload says g sends h. h;
    calls_keep = after_call;
    responds_keep = λ what d payload says g comes responds h. h;
    changes_keep = λ u g like h. ap (λ (times : Times). is_overdue (times.sending peer) u.now) like.times
        ∙ ap (λ (now : ℕ). is_overdue (g.allocator.times.sending peer) now) like.now ∙ h;
    watches_keep = λ node happens g has h. h;
    tells_keep = λ g h. h;
    hears_keep = λ d message g comes kind other read h. h;
  }

  -- as a step begins
  begun : (t : AllocatorState) (now : ℕ) → peer < 128 → IsYoung peer (begin_phase number now t)
  begun t now low = by (is_overdue (t.times.sending peer) (max t.now now)) refl
    where
      late : List ℕ
      late = overdue t.times (max t.now now) all_nodes

      ended : List ℕ → Option Sending
      ended qs = sent_after (members_of (at_moment now t)) t.me number (given_at (max t.now now)) peer qs t.raft_server t.times

      by : (b : Bool) → is_overdue (t.times.sending peer) (max t.now now) ≡ b → IsYoung peer (begin_phase number now t)
      by true old = ap (λ (c : Option Sending). is_overdue c (max t.now now))
          (ends (members_of (at_moment now t)) t.me number (given_at (max t.now now)) peer late t.raft_server t.times
          (overdue_listed t.times (max t.now now) peer all_nodes (listed peer low) old))
      by false young = elim (stays (members_of (at_moment now t)) t.me number (given_at (max t.now now)) peer late t.raft_server t.times) [
        | inl same ↦ ap (λ (c : Option Sending). is_overdue c (max t.now now)) same ∙ young
        | inr none ↦ ap (λ (c : Option Sending). is_overdue c (max t.now now)) none
      ]

-- ---- as a step ends

module _ (number peer : ℕ) where
  commits : (g : StepState) (leads : Bool) (index : Option ℕ) → IsYoung peer g
      → IsYoung peer (with_moves number (given_at g.allocator.now) (if leads then commit_moves index else []) g)
  commits g true None h = h
  commits g true (Some index) h = h
  commits g false index h = h

  gives : (g : StepState) (fits : Bool) (move : Move) (offered : StepState) → IsYoung peer offered → IsYoung peer (with_moves number (given_at g.allocator.now) (move ∷ []) offered)
      → IsYoung peer (with_move_if fits number (given_at g.allocator.now) move offered)
  gives g true move offered h made = made
  gives g false move offered h made = h

  tells : (g : StepState) (none : Bool) → IsYoung peer g
      → IsYoung peer (if none then with_moves number (given_at g.allocator.now) (TellNothing ∷ []) g else gives_pair number TellPair g.allocator.raft_server.memory.told g)
  tells g true h = h
  tells g false h =
      let entry : Entry = next_entry g.allocator.raft_server in
      gives g (has_room g.allocator.queue (allocation_payload entry.node entry.uid)) TellPair (with_transfer number Alloc 0 (allocation_payload entry.node entry.uid) None g) h h

  tells_if : (g : StepState) (has : Bool) → IsYoung peer g → IsYoung peer (if has then tells_next number g else g)
  tells_if g true h = tells g (is_zero (next_entry g.allocator.raft_server).uid) h
  tells_if g false h = h

  -- a call, by whether it fits
  made : (node : ℕ) (t : Times) (now id : ℕ) → is_overdue (t.sending peer) now ≡ false
      → is_overdue (at t.sending node (Some (record { id = id; moment = now })) peer) now ≡ false
  made node t now id h = elim (eqb_tells peer node) as (λ _. is_overdue (at t.sending node (Some (record { id = id; moment = now })) peer) now ≡ false) [
    | inl z ↦ ap (λ (c : Option Sending). is_overdue c now) (at_here t.sending node peer (Some (record { id = id; moment = now })) z.1) ∙ made_now now id
    | inr z ↦ ap (λ (c : Option Sending). is_overdue c now) (at_other t.sending node peer (Some (record { id = id; moment = now })) z.1) ∙ h
  ]

  by_room : (fits : Bool) (given : HandedIn) (move : Move) (offered : StepState) → IsYoung peer offered → IsYoung peer (with_moves number given (move ∷ []) offered)
      → IsYoung peer (with_move_if fits number given move offered)
  by_room true given move offered h called = called
  by_room false given move offered h called = h

  calls : (node : ℕ) (g : StepState) (pending : Option Request) (role : Role) (answered due : Bool) → IsYoung peer g
      → IsYoung peer (calls_owed number (due_unless pending (by_role role node (g.allocator.raft_server.memory.next node - 1) answered due)) g)
  calls node g (Some request) role answered due h = h
  calls node g None Follower answered due h = h
  calls node g None Candidate true due h = h
  calls node g None Candidate false due h =
      let request : Request = vote_request g.allocator.me number g.allocator.raft_server.store node in
      by_room (has_room g.allocator.queue (vote_call_bytes request)) (given_call g.allocator.now (id_of g.allocator.ids VoteQ node)) (CallForVote node)
      (with_transfer number VoteQ node (vote_call_bytes request) (Some (Requests request)) g) h
      (made node g.allocator.times g.allocator.now (id_of g.allocator.ids VoteQ node) h)
  calls node g None Leader answered false h = h
  calls node g None Leader answered true h =
      let request : Request = append_request g.allocator.me number g.allocator.raft_server.store node (g.allocator.raft_server.memory.next node - 1) true in
      by_room (has_room g.allocator.queue (append_call_bytes request)) (given_call g.allocator.now (id_of g.allocator.ids AppQ node))
      (CallToAppend node (g.allocator.raft_server.memory.next node - 1) true)
      (with_transfer number AppQ node (append_call_bytes request) (Some (Requests request)) g) h
      (made node g.allocator.times g.allocator.now (id_of g.allocator.ids AppQ node) h)

  same_due : (node : ℕ) (g : StepState) (role : Role) → due role g.allocator.raft_server g.allocator.times node g.allocator.now
      ≡ by_role role node (g.allocator.raft_server.memory.next node - 1) (g.allocator.times.answered node)
      (nat_le (g.allocator.raft_server.memory.next node) (length g.allocator.raft_server.store.log) || is_silent (g.allocator.times.appended node) g.allocator.now)
  same_due node g Follower = refl
  same_due node g Candidate = refl
  same_due node g Leader = refl

  calls_one : (node : ℕ) (g : StepState) → IsYoung peer g → IsYoung peer (calls_peer number node g)
  calls_one node g h = subst (λ (move : Option Move). IsYoung peer (calls_owed number (due_unless (g.allocator.raft_server.memory.pending node) move) g))
      (sym (same_due node g g.allocator.raft_server.memory.role))
      (calls node g (g.allocator.raft_server.memory.pending node) g.allocator.raft_server.memory.role (g.allocator.times.answered node)
      (nat_le (g.allocator.raft_server.memory.next node) (length g.allocator.raft_server.store.log) || is_silent (g.allocator.times.appended node) g.allocator.now) h)

  calls_many : (nodes : List ℕ) (g : StepState) → IsYoung peer g → IsYoung peer (calls_all number nodes g)
  calls_many [] g h = h
  calls_many (node ∷ nodes) g h = calls_many nodes (calls_peer number node g) (calls_one node g h)

  ends_young : (g : StepState) → IsYoung peer g → IsYoung peer (end_phase number g)
  ends_young g h =
      let committed : StepState = commit_phase number g in
      let told : StepState = tell_phase number committed in
      calls_many (drop 1 (members_of told.allocator)) told
      (tells_if committed (has_to_tell committed.allocator.raft_server)
      (commits g (is_leader g.allocator.raft_server.memory.role) (commit_index (members_of g.allocator) g.allocator.me g.allocator.raft_server) h))

pub no_call_is_old : (t : AllocatorState) (number : ℕ) (event : Event) (peer : ℕ) → peer < 128 → IsYoung peer (step t number event).step_state
unfolding step
no_call_is_old t number event peer low =
    ends_young number peer (event_phase number event (begin_phase number (moment_of event) t)).step_state
    (event_keeps number event (IsYoung peer) (λ d. ⊤) (keeping number peer event) (begin_phase number (moment_of event) t) (λ arrival is d e. tt)
    (begun number peer t (moment_of event) low))
