-- A vote request stays pending in each step in which no answer of the peer comes, until the call timeout; unless the
-- member stands anew, or leads.
use Rattle.std.proofs.Common.{◌≡◌, ◌≢◌, ℕ, ◌+◌, ◌<◌, Bool, true, false, List, refl, sym, ◌∙◌, ap, inl, inr, max, Some}
use Rattle.std.specs.Prelude.{⊤, ◌⊎◌, if◌then◌else◌}
use Rattle.can_frame.specs.declared.identifier.Kind.TheVariants.{Response}
use Rattle.raft_core.specs.Times.{Sending, Times, given_tick, overdue, stand, times_after, win}
use Rattle.raft_model.specs.Handlers.{server_after}
use Rattle.raft_model.specs.Messages.{Request}
use Rattle.raft_model.specs.Moves.Elections.{has_quorum, own_vote, stand_memory, stand_puts, win_memory}
use Rattle.raft_model.specs.Moves.Move.{TimeOut}
use Rattle.raft_model.specs.Server.{RaftServer, Role, Store, put_all}
use Rattle.raft_model.specs.Server.Role.{Candidate, Leader}
use Rattle.transfer_rx.specs.Reassembly.{Arrival, Delivery, Gives, answer}
use Rattle.alloc_spec.specs.Accepted.{setting_for}
use Rattle.alloc_spec.specs.AllocatorState.{AllocatorState, members_of}
use Rattle.alloc_spec.specs.Step.{Event, all_nodes, at_moment, step}
use Rattle.alloc_spec.specs.StepState.{StepState}
use Rattle.service_steps.specs.Requests.{moment_at}
use Rattle.service_steps.proofs.Begins.{expired}
use Rattle.service_leader.proofs.CallStays as stays
use Rattle.service_leader.proofs.CallStays.{IsRole}
use Rattle.service_leader.proofs.RaftPhases.{Keeps, OfServer, at_tick}

-- whatever the role is
abbrev AnyRole : Role → Type 0
AnyRole role = ⊤

-- the server leads, or this holds of its role and its term
abbrev LeadsOr : (Role → ℕ → Type 0) → Role → ℕ → Type 0
LeadsOr New role term = (role ≡ Leader) ⊎ New role term

any_role : (New : Role → ℕ → Type 0) → IsRole AnyRole (LeadsOr New)
any_role New = record { follows = λ role term any. inl tt; wins = λ role term stands any. inl refl }

module _ (number m : ℕ) (New : Role → ℕ → Type 0) (request : Request) (sending : Sending) where
  -- this call to peer m is pending, since this moment
  abbrev Pends : OfServer
  Pends me server times now = (server.memory.pending m ≡ Some request) × (times.sending m ≡ Some sending)

  -- or the server leads, or this holds of its role and its term
  abbrev pub Still : OfServer
  Still me server times now = Pends me server times now ⊎ ((server.memory.role ≡ Leader) ⊎ New server.memory.role server.store.term)

  still_so : (g : StepState) → Keeps (stays.Still number m AnyRole (LeadsOr New) request sending) g → Keeps Still g
  still_so g (inl k) = inl (k.1, k.2)
  still_so g (inr new) = inr new

-- ---- a tick

-- a candidate in the next term
abbrev pub IsNext : ℕ → Role → ℕ → Type 0
IsNext term_then role term = (role ≡ Candidate) × (term ≡ term_then + 1)

module _ (number m term_then : ℕ) (request : Request) (sending : Sending) where
  abbrev Before : OfServer
  Before me server times now = stays.Pends number m AnyRole (LeadsOr (IsNext term_then)) request sending me server times now × (server.store.term ≡ term_then)

  -- who stands leads, or is a candidate of the next term
  stands : (members : List ℕ) (me word : ℕ) (server : RaftServer) (times : Times) (now : ℕ) → Before me server times now
      → stays.Still number m AnyRole (LeadsOr (IsNext term_then)) request sending me (server_after members me number server TimeOut)
      (times_after members me (given_tick now word) server TimeOut times) now
  stands members me word server times now h = by (has_quorum members (own_vote me))
    where
      by : (q : Bool) → stays.Still number m AnyRole (LeadsOr (IsNext term_then)) request sending me
          (record {
            store = put_all server.store (stand_puts me server.store);
            memory = if q then win_memory server.store (stand_memory me server.memory) else stand_memory me server.memory;
          })
          (if q then win (stand (given_tick now word) times) else stand (given_tick now word) times) now
      by true = inr (inl refl)
      by false = inr (inr (refl, ap (λ (k : ℕ). k + 1) h.1))

-- ---- the step

module _ (t : AllocatorState) (number m : ℕ) (request : Request) (sending : Sending) (vote : request.append ≡ false)
    (pending : t.raft_server.memory.pending m ≡ Some request) (sent : t.times.sending m ≡ Some sending) where
  abbrev pub Next : Role → ℕ → Type 0
  Next = IsNext t.raft_server.store.term

  -- a tick
  pub pends_at_tick : (now word : ℕ) → max t.now now < sending.moment + 1000
      → Keeps (Still number m Next request sending) (step t number (Event.Tick now word)).step_state
  pends_at_tick now word soon = still_so number m Next request sending (step t number (Event.Tick now word)).step_state
      (at_tick number (Before number m t.raft_server.store.term request sending) (stays.Still number m AnyRole (LeadsOr Next) request sending)
      (λ me server times at h. inl h.0) (stands number m t.raft_server.store.term request sending) (stays.grows number m AnyRole (LeadsOr Next) request sending)
      (stays.ends number m AnyRole (LeadsOr Next) request sending) t now word (
        stays.begins t number m AnyRole (LeadsOr Next) request sending tt pending sent now soon,
        ap (λ (s : Store). s.term) (expired (members_of (at_moment now t)) t.me number (overdue t.times (max t.now now) all_nodes) t.raft_server).store,
      ))

  abbrev pub Never : Role → ℕ → Type 0
  Never role term = ⊥

  -- a frame
  pub pends_at_frame : (arrival : Arrival) → max t.now arrival.moment < sending.moment + 1000
      → ((d : Delivery) → answer (setting_for t.me) t.sessions (record arrival { moment = moment_at t arrival }) ≡ Gives d
      → d.ident.kind ≡ Response → d.ident.number ≢ 1 → d.ident.number ≢ 30 → d.ident.source ≡ m → sending.id ≡ d.id → ⊥)
      → Keeps (Still number m Never request sending) (step t number (Event.Rx arrival)).step_state
  pends_at_frame arrival soon none = still_so number m Never request sending (step t number (Event.Rx arrival)).step_state
      (stays.stays_at_frame t number m AnyRole (LeadsOr Never) request sending tt pending sent (any_role Never) arrival soon
      (λ d gives is. none d gives) (λ d gives is kind thirty source id. absurd (cc (sym vote ∙ is))))
