-- Who is alone commits a pair that it recorded, and tells it, in the same step.
use Rattle.std.proofs.Common.{◌≡◌, ℕ, zero, suc, ◌<◌, ◌≤◌, Bool, true, false, List, [], ◌∷◌, ◌++◌, length, length-append, inl, inr, refl, sym, ◌∙◌, ap, subst, arith, Some, None}
use Rattle.std.specs.Prelude.{nat_le, nat_lt, slice_index_or}
use Rattle.std.proofs.Math.Seq.{get_or-append_seam}
use Rattle.std.proofs.lemmas.Bool.Decides.{leb_tells}
use Rattle.alloc_exchange.specs.declared.heard.Heard.TheVariants.{Whole}
use Rattle.alloc_exchange.specs.Exchange.{answer}
use Rattle.can_frame.specs.declared.entry.Entry.{Entry}
use Rattle.can_frame.specs.declared.step.What.TheVariants.{Alloc}
use Rattle.can_frame.specs.Log.{blank, entry_at}
use Rattle.dsdl_codec.specs.declared.allocation.Allocation.{Allocation}
use Rattle.raft_core.specs.Taken.{proposal}
use Rattle.raft_core.specs.Times.{given_at}
use Rattle.raft_model.specs.Decisions.{can_commit, commit_index, greatest_to}
use Rattle.raft_model.specs.Duty as duty
use Rattle.raft_model.specs.Log.{term_at}
use Rattle.raft_model.specs.Moves.{Move}
use Rattle.raft_model.specs.Moves.Elections.{is_leader}
use Rattle.raft_model.specs.Moves.Move.{CommitTo, TellPair}
use Rattle.raft_model.specs.Server.{RaftServer, Store}
use Rattle.raft_model.specs.Server.Role.{Leader}
use Rattle.transfer_rx.specs.Reassembly.{Arrival}
use Rattle.alloc_spec.specs.Delivered.{StepResult, took}
use Rattle.alloc_spec.specs.Ending.{call_phase, commit_phase, end_phase, has_to_tell, tell_phase}
use Rattle.alloc_spec.specs.Exchange.{allocation_payload, may_follow}
use Rattle.alloc_spec.specs.Step.{step}
use Rattle.alloc_spec.specs.Step.Event.{Rx}
use Rattle.alloc_spec.specs.StepState.{StepState, with_moves, with_transfer}
use Rattle.alloc_spec.specs.AllocatorState.{AllocatorState, is_zero, members_of}
use Rattle.alloc_spec.specs.Transfers.{has_room}
use Rattle.alloc_spec_laws.proofs.Choices.{lt_tells}
use Rattle.service_steps.specs.Requests.{IsRequest, moment_at}
use Rattle.service_steps.specs.Serving.{IsReady, MayRecord, TellsAtOnce}
use Rattle.service_steps.proofs.Begins.{IsAsBefore}
use Rattle.service_steps.proofs.FollowUps.{begun, same_number, when_come}
use Rattle.service_steps.proofs.Records.{records_there, when_recorded}

-- ---- the last place of a log that has one entry more

pub one_longer : (log : List Entry) (entry : Entry) → length (log ++ entry ∷ []) ≡ suc (length log)
one_longer log entry = omega (arith, length-append log (entry ∷ []))

pub last_entry : (log : List Entry) (entry : Entry) → entry_at (log ++ entry ∷ []) (length (log ++ entry ∷ [])) ≡ entry
last_entry log entry =
    ap (λ (n : ℕ). entry_at (log ++ entry ∷ []) n) (one_longer log entry) ∙ get_or-append_seam log entry [] (blank 0)

-- ---- a leader that is alone commits to the end of its log, where its last entry is its own

-- a number below another one is tested to be so
pub lt_is : (a b : ℕ) → a < b → nat_lt a b ≡ true
lt_is a b h = elim (lt_tells a b) [ inl z ↦ z.0 | inr z ↦ absurd (omega (arith, z.1, h)) ]

le_is : (a b : ℕ) → a ≤ b → nat_le a b ≡ true
le_is a b h = elim (leb_tells a b) [ inl z ↦ z.0 | inr z ↦ absurd (omega (arith, z.1, h)) ]

top : (limit : ℕ) (test : ℕ → Bool) → test limit ≡ true → greatest_to limit test ≡ Some limit
top zero test e = rw (e) refl
top (suc n) test e = rw (e) refl

-- it commits up to the end of its log
pub to_the_end : (me : ℕ) (server : RaftServer) → server.store.commit < length server.store.log
    → term_at server.store.log (length server.store.log) ≡ server.store.term
    → commit_index (me ∷ []) me server ≡ Some (length server.store.log)
to_the_end me server below own =
    top (length server.store.log) (can_commit (me ∷ []) me server)
    (rw (lt_is server.store.commit (length server.store.log) below)
    (rw (le_is (length server.store.log) (length server.store.log) (omega arith))
    (rw (own) (rw (same_number server.store.term) (rw (same_number me) refl)))))

-- ---- the end of the step

record IsTellable (g : StepState) (front : List Entry) (entry : Entry) : Type 0 where
  alone : members_of g.allocator ≡ g.allocator.me ∷ []
  leads : g.allocator.raft_server.memory.role ≡ Leader
  log : g.allocator.raft_server.store.log ≡ front ++ entry ∷ []
  commit : g.allocator.raft_server.store.commit ≡ length front
  told : g.allocator.raft_server.memory.told ≡ length front
  own : entry.term ≡ g.allocator.raft_server.store.term
  device : is_zero entry.uid ≡ false
  room : has_room g.allocator.queue (allocation_payload entry.node entry.uid) ≡ true

abbrev when_committed : ℕ → StepState → StepState
when_committed number g =
    with_moves number (given_at g.allocator.now) (CommitTo (length g.allocator.raft_server.store.log) ∷ []) g

abbrev when_told : ℕ → Entry → StepState → StepState
when_told number entry g =
    with_moves number (given_at g.allocator.now) (TellPair ∷ [])
    (with_transfer number Alloc 0 (allocation_payload entry.node entry.uid) None g)

commits : (number : ℕ) (g : StepState) (log : List Entry) (entry : Entry) → IsTellable g log entry
    → commit_phase number g ≡ when_committed number g
commits number g log entry h =
    ap (λ (moves : List Move). with_moves number (given_at g.allocator.now) moves g)
    (rw (ap is_leader h.leads) (rw (h.alone) (ap duty.commit_moves (to_the_end g.allocator.me g.allocator.raft_server below own))))
  where
    below : g.allocator.raft_server.store.commit < length g.allocator.raft_server.store.log
    below = omega (arith, h.commit, ap length h.log, one_longer log entry)

    own : term_at g.allocator.raft_server.store.log (length g.allocator.raft_server.store.log) ≡ g.allocator.raft_server.store.term
    own = ap (λ (l : List Entry). term_at l (length l)) h.log ∙ (ap (λ (e : Entry). e.term) (last_entry log entry) ∙ h.own)

tells : (number : ℕ) (g : StepState) (log : List Entry) (entry : Entry) → IsTellable g log entry
    → tell_phase number (when_committed number g) ≡ when_told number entry (when_committed number g)
tells number g log entry h = rw (one) (rw (next) (rw (h.device) (rw (h.room) refl)))
  where
    one : has_to_tell (when_committed number g).allocator.raft_server ≡ true
    one = rw (h.leads) (lt_is g.allocator.raft_server.memory.told (length g.allocator.raft_server.store.log)
        (omega (arith, h.told, ap length h.log, one_longer log entry)))

    next : slice_index_or g.allocator.raft_server.store.log g.allocator.raft_server.memory.told (blank 0) ≡ entry
    next = rw (h.log) (rw (h.told) (get_or-append_seam log entry [] (blank 0)))

calls : (number : ℕ) (g : StepState) → members_of g.allocator ≡ g.allocator.me ∷ [] → call_phase number g ≡ g
calls number g alone = rw (alone) refl

ends : (number : ℕ) (g : StepState) (log : List Entry) (entry : Entry) → IsTellable g log entry
    → end_phase number g ≡ when_told number entry (when_committed number g)
ends number g log entry h =
    ap (λ (k : StepState). call_phase number (tell_phase number k)) (commits number g log entry h)
    ∙ (ap (λ (k : StepState). call_phase number k) (tells number g log entry h)
    ∙ calls number (when_told number entry (when_committed number g)) h.alone)

-- ---- the step

pub tells_at_once : (t : AllocatorState) (number : ℕ) (arrival : Arrival) (message : Allocation) (uid : List ℕ) (preferred node : ℕ)
    → IsReady t → members_of t ≡ t.me ∷ [] → t.raft_server.memory.told ≡ t.raft_server.store.commit
    → IsRequest arrival message → answer t.accepted message (moment_at t arrival) (may_follow t) ≡ Whole uid preferred
    → MayRecord t (moment_at t arrival) preferred uid node
    → has_room t.queue (allocation_payload node uid) ≡ true → TellsAtOnce t uid node (step t number (Rx arrival))
tells_at_once t number arrival message uid preferred node ready alone told request whole m room =
    subst (λ (s : StepResult). TellsAtOnce t uid node s) (sym (records_there t number arrival message uid preferred node request whole m))
    (subst (λ (k : StepState). TellsAtOnce t uid node (record { seen = (took g).seen; step_state = k })) (sym (ends number g t.raft_server.store.log entry tellable))
    (record { committed = refl; offered = rw (room) refl }))
  where
    before : IsAsBefore t.raft_server (when_come t number arrival).allocator.raft_server
    before = begun t number arrival

    g : StepState
    g = when_recorded t number arrival message uid node

    entry : Entry
    entry = proposal t.raft_server.store.term uid node

    tellable : IsTellable g t.raft_server.store.log entry
    tellable = record {
      alone = alone;
      leads = before.role ∙ ready.leads;
      log = ap (λ (s : Store). s.log ++ proposal s.term uid node ∷ []) before.store;
      commit = ap (λ (s : Store). s.commit) before.store ∙ ready.committed;
      told = before.told ∙ (told ∙ ready.committed);
      own = ap (λ (s : Store). s.term) (sym before.store);
      device = m.device;
      room = room;
    }
