-- What each step owes that ends.
use Rattle.std.proofs.Common.{◌≡◌, ◌≢◌, ℕ, ◌+◌, ◌<◌, Bool, true, false, List, [], ◌∷◌, ◌++◌, inl, inr, refl, sym, ◌∙◌, ap, subst, arith, Option, Some, None, drop}
use Rattle.std.specs.Prelude.{◌-◌, ◌&&◌, max, nat_le, if◌then◌else◌}
use Rattle.std.proofs.lemmas.List.{append-nil}
use Rattle.can_frame.specs.declared.step.What.{What}
use Rattle.can_frame.specs.declared.step.What.TheVariants.{AppQ, InfoQ, VoteQ}
use Rattle.can_frame.specs.Zeros.{zeros}
use Rattle.cluster_discovery.specs.Members.{is_due}
use Rattle.node_discovery.specs.Watch.{next_query}
use Rattle.raft_core.specs.Calls.{owed}
use Rattle.raft_core.specs.Handled.{moves_of_expire}
use Rattle.raft_core.specs.Times.{HandedIn, Times, given_at, given_tick, has_waited, overdue, times_after_all}
use Rattle.raft_model.specs.Decisions.{commit_index}
use Rattle.raft_model.specs.Duty as duty
use Rattle.raft_model.specs.Duty.{CommitDuty, TellDuty, TickDuty}
use Rattle.raft_model.specs.Moves.{next_entry, Move}
use Rattle.raft_model.specs.Handlers.{offers_of_all, server_after_all}
use Rattle.raft_model.specs.Members.{IsAll}
use Rattle.raft_model.specs.Messages.{Request}
use Rattle.raft_model.specs.Moves.Elections.{is_leader, term_limit}
use Rattle.raft_model.specs.Moves.Leading.{append_request, vote_request}
use Rattle.raft_model.specs.Moves.Move.{CallForVote, CallToAppend}
use Rattle.raft_model.specs.Server.{RaftServer}
use Rattle.raft_model.specs.Server.Role.{Follower, Leader}
use Rattle.alloc_spec.specs.Ending.{append_call_bytes, call_phase, calls_all, calls_by, calls_owed, calls_peer, commit_phase, end_phase, has_to_tell, tell_phase, tells_next, vote_call_bytes}
use Rattle.alloc_spec.specs.StepState.{StepState, with_transfer, with_moves}
use Rattle.alloc_spec.specs.Step.{Event, all_nodes, at_moment, begin_phase, step}
use Rattle.alloc_spec.specs.Step.Event.{Tick}
use Rattle.alloc_spec.specs.Tick.{asks, candidate, discovery_phase, election_phase, new_uid, query_phase, record_phase, records_as, records_node, status_phase, tells_members, tells_status, clock_phase, with_query}
use Rattle.alloc_spec.specs.AllocatorState.{AllocatorState, is_zero, known, knows_all, may_propose, members_of, start_of}
use Rattle.alloc_spec.specs.Transfers.{has_room, id_of}
use Rattle.alloc_spec.proofs.Blanks.{tick_with_blank}
use Rattle.alloc_spec_laws.specs.Phases.{TellsDuly, has_room_to_tell, told_allocation, when_committed, when_told}
use Rattle.alloc_spec_laws.specs.LawsBelow.{Laws}
use Rattle.alloc_spec_laws.proofs.Choices.{either, lt_tells, tell}
use Rattle.alloc_spec_laws.proofs.Logs.{are_zeros, no_zeros}

-- ---- a leader commits as far as it can

pub commits : (laws : Laws) (list members : List ℕ) (me number : ℕ) (raft_server : RaftServer) → IsAll list members → raft_server.memory.role ≡ Leader
    → CommitDuty members me raft_server (server_after_all list me number raft_server (duty.commit_phase list me raft_server))
commits laws list members me number raft_server all leads =
    subst (λ (p : RaftServer). CommitDuty members me raft_server p) (sym same) (laws.commit_duty members me number raft_server leads)
  where
    moves : duty.commit_phase list me raft_server ≡ duty.commit_phase members me raft_server
    moves = ap (λ (index : Option ℕ). if is_leader raft_server.memory.role then duty.commit_moves index else []) (laws.same_commit list members me raft_server all)

    same : server_after_all list me number raft_server (duty.commit_phase list me raft_server) ≡ server_after_all members me number raft_server (duty.commit_phase members me raft_server)
    same = laws.all_after list members me number raft_server (duty.commit_phase list me raft_server) (record { counting = λ role. all; standing = λ i. all })
        ∙ ap (λ (ms : List Move). server_after_all members me number raft_server ms) moves

-- ---- and tells one place

-- the moves of the phase, and the server after them
abbrev Tells : ℕ → StepState → List Move → StepState → Type 0
Tells number g moves told = (told.moves ≡ g.moves ++ moves) × (told.allocator.raft_server ≡ server_after_all (members_of g.allocator) g.allocator.me number g.allocator.raft_server moves)

pub tells : (number : ℕ) (g : StepState) → Tells number g (duty.tell_phase (has_room_to_tell g.allocator) g.allocator.raft_server) (tell_phase number g)
tells number g = elim (tell (has_to_tell g.allocator.raft_server)) [
  | inr b ↦ rw (b) (sym (append-nil g.moves), refl)
  | inl b ↦ rw (b) (elim (tell (is_zero (next_entry g.allocator.raft_server).uid)) [
    | inl z ↦ rw (z) (refl, refl)
    | inr z ↦ rw (z) (elim (tell (has_room_to_tell g.allocator)) [
      | inl r ↦ rw (r) (refl, refl)
      | inr r ↦ rw (r) (sym (append-nil g.moves), refl)
    ])
  ])
]

pub tells_duty : (laws : Laws) (number : ℕ) (g : StepState) → g.allocator.raft_server.memory.role ≡ Leader
    → TellDuty g.allocator.me number (has_room_to_tell g.allocator) g.allocator.raft_server (tell_phase number g).allocator.raft_server
    (offers_of_all (members_of g.allocator) g.allocator.me number g.allocator.raft_server (duty.tell_phase (has_room_to_tell g.allocator) g.allocator.raft_server))
tells_duty laws number g leads =
    subst (λ (p : RaftServer). TellDuty g.allocator.me number (has_room_to_tell g.allocator) g.allocator.raft_server p
    (offers_of_all (members_of g.allocator) g.allocator.me number g.allocator.raft_server (duty.tell_phase (has_room_to_tell g.allocator) g.allocator.raft_server)))
    (sym (tells number g).1) (laws.tell_duty (members_of g.allocator) g.allocator.me number (has_room_to_tell g.allocator) g.allocator.raft_server leads)

some_uid : (uid : List ℕ) → uid ≢ zeros → is_zero uid ≡ false
some_uid uid some = elim (tell (is_zero uid)) [ inl z ↦ absurd (some (are_zeros uid z)) | inr z ↦ z ]

no_uid : (uid : List ℕ) → uid ≡ zeros → is_zero uid ≡ true
no_uid uid none = elim (tell (is_zero uid)) [ inl z ↦ z | inr z ↦ absurd (no_zeros uid z none) ]

has_one_to_tell : (raft_server : RaftServer) → raft_server.memory.role ≡ Leader → raft_server.memory.told < raft_server.store.commit → has_to_tell raft_server ≡ true
has_one_to_tell raft_server leads below = elim (lt_tells raft_server.memory.told raft_server.store.commit) [
  | inl z ↦ rw (z.0) (rw (ap is_leader leads) refl)
  | inr z ↦ absurd (omega (arith, z.1, below))
]

-- a pair is listed, and a place without one is not
lists : (number : ℕ) (g : StepState) → has_to_tell g.allocator.raft_server ≡ true → is_zero (next_entry g.allocator.raft_server).uid ≡ false
    → (tell_phase number g).offers ≡ g.offers ++ told_allocation g.allocator ∷ []
lists number g one some = rw (one) (rw (some) (elim (tell (has_room_to_tell g.allocator)) [ inl r ↦ rw (r) refl | inr r ↦ rw (r) refl ]))

passes : (number : ℕ) (g : StepState) → is_zero (next_entry g.allocator.raft_server).uid ≡ true → (tell_phase number g).offers ≡ g.offers
passes number g none = elim (tell (has_to_tell g.allocator.raft_server)) [ inl b ↦ rw (b) (rw (none) refl) | inr b ↦ rw (b) refl ]

pub tells_duly : (laws : Laws) (t : AllocatorState) (number : ℕ) (event : Event) → TellsDuly number (when_committed t number event) (when_told t number event)
tells_duly laws t number event = record {
  moves = (tells number (when_committed t number event)).0;
  tells = tells_duty laws number (when_committed t number event);
  lists = λ leads below some. lists number (when_committed t number event)
      (has_one_to_tell (when_committed t number event).allocator.raft_server leads below)
      (some_uid (next_entry (when_committed t number event).allocator.raft_server).uid some);
  passes = λ none. passes number (when_committed t number event) (no_uid (next_entry (when_committed t number event).allocator.raft_server).uid none);
}

-- ---- who has waited stands

-- calls that are given up leave the role, what is stored, and the wait
pub expire_role : (list : List ℕ) (me number : ℕ) (nodes : List ℕ) (raft_server : RaftServer)
    → (server_after_all list me number raft_server (moves_of_expire nodes)).memory.role ≡ raft_server.memory.role
expire_role list me number [] raft_server = refl
expire_role list me number (node ∷ nodes) raft_server = expire_role list me number nodes _

expire_term : (list : List ℕ) (me number : ℕ) (nodes : List ℕ) (raft_server : RaftServer)
    → (server_after_all list me number raft_server (moves_of_expire nodes)).store.term ≡ raft_server.store.term
expire_term list me number [] raft_server = refl
expire_term list me number (node ∷ nodes) raft_server = expire_term list me number nodes _

expire_wait : (list : List ℕ) (me number now : ℕ) (given : HandedIn) (nodes : List ℕ) (raft_server : RaftServer) (times : Times)
    → has_waited (times_after_all list me number given raft_server (moves_of_expire nodes) times) now ≡ has_waited times now
expire_wait list me number now given [] raft_server times = refl
expire_wait list me number now given (node ∷ nodes) raft_server times = expire_wait list me number now given nodes _ _

-- the server has waited in this term, and does not lead
abbrev Waits : ℕ → StepState → Type 0
Waits term g = (g.allocator.raft_server.memory.role ≢ Leader) × (g.allocator.raft_server.store.term ≡ term)
    × ((knows_all g.allocator && has_waited g.allocator.times g.allocator.now) ≡ true)

-- the server stood for election, and this is the next term
abbrev Stood : ℕ → StepState → Type 0
Stood term g = (g.allocator.raft_server.memory.role ≢ Follower) × (g.allocator.raft_server.store.term ≡ term)

discovery_waits : (number term : ℕ) (g : StepState) → Waits term g → Waits term (discovery_phase number g)
discovery_waits number term g h =
    either (Waits term) (is_due (start_of g.allocator) g.allocator.heard g.allocator.now) (tells_members number g) g (λ e. h) (λ e. h)

status_waits : (number term : ℕ) (g : StepState) → Waits term g → Waits term (status_phase number g)
status_waits number term g h =
    either (Waits term) (nat_le 1000 (g.allocator.now - g.allocator.status_at)) (tells_status number g) g (λ e. h) (λ e. h)

election_stands : (laws : Laws) (number word term : ℕ) (g : StepState) → term < term_limit → Waits term g → Stood (term + 1) (election_phase number word g)
election_stands laws number word term g low h = tick_with_blank (Stood (term + 1)) number word g stood (λ moment. stood)
  where
    waited : Bool
    waited = knows_all g.allocator && has_waited g.allocator.times g.allocator.now

    duly : TickDuty g.allocator.raft_server (server_after_all (members_of g.allocator) g.allocator.me number g.allocator.raft_server (duty.tick_phase waited g.allocator.raft_server))
    duly = subst (λ (b : Bool). TickDuty g.allocator.raft_server (server_after_all (members_of g.allocator) g.allocator.me number g.allocator.raft_server (duty.tick_phase b g.allocator.raft_server)))
        (sym h.2) (laws.tick_duty (members_of g.allocator) g.allocator.me number g.allocator.raft_server h.0 (omega (arith, low, h.1)))

    stood : Stood (term + 1) (with_moves number (given_tick g.allocator.now word) (duty.tick_phase waited g.allocator.raft_server) g)
    stood = (duly.stands, duly.next ∙ ap (λ (n : ℕ). n + 1) h.1)

record_stood : (number term : ℕ) (g : StepState) → Stood term g → Stood term (record_phase number g)
record_stood number term g h =
    either (Stood term) (may_propose g.allocator) (records_node number (candidate g.allocator) g) g (λ e. go (candidate g.allocator)) (λ e. h)
  where
    recorded : (node : ℕ) (uid : Option (List ℕ)) → Stood term (records_as number node uid g)
    recorded node None = h
    recorded node (Some uid) = h

    go : (node : Option ℕ) → Stood term (records_node number node g)
    go None = h
    go (Some node) = recorded node (new_uid g.allocator node)

query_stood : (number term : ℕ) (g : StepState) → Stood term g → Stood term (query_phase number g)
query_stood number term g h =
    either (Stood term) (is_leader g.allocator.raft_server.memory.role) (asks number (next_query g.allocator.watch (known g.allocator) g.allocator.now) g) g
    (λ e. go (next_query g.allocator.watch (known g.allocator) g.allocator.now)) (λ e. h)
  where
    go : (node : Option ℕ) → Stood term (asks number node g)
    go None = h
    go (Some node) =
        either (Stood term) (has_room g.allocator.queue []) (with_query node (id_of g.allocator.ids InfoQ node) (with_transfer number InfoQ node [] None g))
        (with_transfer number InfoQ node [] None g) (λ e. h) (λ e. h)

commit_stood : (number term : ℕ) (g : StepState) → Stood term g → Stood term (commit_phase number g)
commit_stood number term g h =
    either (λ (moves : List Move). Stood term (with_moves number (given_at g.allocator.now) moves g)) (is_leader g.allocator.raft_server.memory.role)
    (duty.commit_moves (commit_index (members_of g.allocator) g.allocator.me g.allocator.raft_server)) []
    (λ e. go (commit_index (members_of g.allocator) g.allocator.me g.allocator.raft_server)) (λ e. h)
  where
    go : (index : Option ℕ) → Stood term (with_moves number (given_at g.allocator.now) (duty.commit_moves index) g)
    go None = h
    go (Some index) = h

tell_stood : (number term : ℕ) (g : StepState) → Stood term g → Stood term (tell_phase number g)
tell_stood number term g h =
    either (Stood term) (has_to_tell g.allocator.raft_server) (tells_next number g) g
    (λ e. either (Stood term) (is_zero (next_entry g.allocator.raft_server).uid) _ _ (λ z. h)
    (λ z. either (Stood term) (has_room_to_tell g.allocator) _ _ (λ r. h) (λ r. h))) (λ e. h)

by_call_stood : (number term : ℕ) (what : What) (peer : ℕ) (move : Move) (request : Request) (payload : List ℕ) (g : StepState)
    → Stood term (with_moves number (given_at g.allocator.now) (move ∷ []) g) → Stood term g → Stood term (calls_by number what peer move request payload g)
by_call_stood number term what peer move request payload g moved h =
    either (Stood term) (has_room g.allocator.queue payload) _ _ (λ e. moved) (λ e. h)

owed_stood : (number term : ℕ) (call : Option Move) (g : StepState) → Stood term g → Stood term (calls_owed number call g)
owed_stood number term None g h = h
owed_stood number term (Some (CallForVote peer)) g h = by_call_stood number term VoteQ peer (CallForVote peer)
    (vote_request g.allocator.me number g.allocator.raft_server.store peer) (vote_call_bytes (vote_request g.allocator.me number g.allocator.raft_server.store peer)) g h h
owed_stood number term (Some (CallToAppend peer previous with_entry)) g h =
    by_call_stood number term AppQ peer (CallToAppend peer previous with_entry)
    (append_request g.allocator.me number g.allocator.raft_server.store peer previous with_entry)
    (append_call_bytes (append_request g.allocator.me number g.allocator.raft_server.store peer previous with_entry)) g h h
owed_stood number term (Some move) g h = h

calls_stood : (number term : ℕ) (peers : List ℕ) (g : StepState) → Stood term g → Stood term (calls_all number peers g)
calls_stood number term [] g h = h
calls_stood number term (peer ∷ peers) g h = calls_stood number term peers (calls_peer number peer g)
    (owed_stood number term (owed g.allocator.raft_server g.allocator.times peer g.allocator.now) g h)

ends_stood : (number term : ℕ) (g : StepState) → Stood term g → Stood term (end_phase number g)
ends_stood number term g h =
    calls_stood number term (drop 1 (members_of (tell_phase number (commit_phase number g)).allocator)) (tell_phase number (commit_phase number g))
    (tell_stood number term (commit_phase number g) (commit_stood number term g h))

ticks_stood : (laws : Laws) (number word term : ℕ) (g : StepState) → term < term_limit → Waits term g → Stood (term + 1) (clock_phase number word g)
ticks_stood laws number word term g low h =
    query_stood number (term + 1) (record_phase number (election_phase number word (status_phase number (discovery_phase number g))))
    (record_stood number (term + 1) (election_phase number word (status_phase number (discovery_phase number g)))
    (election_stands laws number word term (status_phase number (discovery_phase number g)) low
    (status_waits number term (discovery_phase number g) (discovery_waits number term g h))))

pub stands : (laws : Laws) (t : AllocatorState) (number now word : ℕ) → knows_all t ≡ true → has_waited t.times (max t.now now) ≡ true → t.raft_server.memory.role ≢ Leader
    → t.raft_server.store.term < term_limit → TickDuty t.raft_server (step t number (Tick now word)).step_state.allocator.raft_server
unfolding step
stands laws t number now word whole waited role low = record { stands = s.0; next = s.1 }
  where
    begun : Waits t.raft_server.store.term (begin_phase number now t)
    begun = (
      λ e. role (sym (expire_role (members_of (at_moment now t)) t.me number (overdue t.times (max t.now now) all_nodes) t.raft_server) ∙ e),
      expire_term (members_of (at_moment now t)) t.me number (overdue t.times (max t.now now) all_nodes) t.raft_server,
      rw (whole) (expire_wait (members_of (at_moment now t)) t.me number (max t.now now) (given_at (max t.now now)) (overdue t.times (max t.now now) all_nodes) t.raft_server t.times ∙ waited),
    )

    s : Stood (t.raft_server.store.term + 1) (end_phase number (clock_phase number word (begin_phase number now t)))
    s = ends_stood number (t.raft_server.store.term + 1) (clock_phase number word (begin_phase number now t))
        (ticks_stood laws number word t.raft_server.store.term (begin_phase number now t) low begun)

pub phases : (t : AllocatorState) (number : ℕ) (event : Event) → (step t number event).step_state ≡ call_phase number (when_told t number event)
unfolding step
phases t number event = refl
