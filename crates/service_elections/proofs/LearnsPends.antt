-- An append request stays pending in each step in which its answer does not come, until the call timeout, unless the
-- member stands for election: it may lead on, or follow.
use Rattle.std.proofs.Common.{◌≡◌, ◌≢◌, ℕ, ◌+◌, ◌<◌, true, List, refl, sym, ◌∙◌, ap, inl, inr, max, Some}
use Rattle.can_frame.specs.declared.identifier.Kind.TheVariants.{Response}
use Rattle.raft_core.specs.Times.{Sending, Times, given_tick, overdue, times_after}
use Rattle.raft_model.specs.Handlers.{server_after}
use Rattle.raft_model.specs.Messages.{Request}
use Rattle.raft_model.specs.Moves.Elections.{is_candidate}
use Rattle.raft_model.specs.Moves.Move.{TimeOut}
use Rattle.raft_model.specs.Server.{RaftServer, Role, Store}
use Rattle.raft_model.specs.Server.Role.{Candidate, Follower, Leader}
use Rattle.transfer_rx.specs.Reassembly.{Arrival, Delivery, Gives, answer}
use Rattle.alloc_spec.specs.Accepted.{setting_for}
use Rattle.alloc_spec.specs.AllocatorState.{AllocatorState, members_of}
use Rattle.alloc_spec.specs.Step.{Event, all_nodes, at_moment, step}
use Rattle.service_steps.specs.Requests.{moment_at}
use Rattle.service_steps.proofs.Begins.{expired}
use Rattle.service_leader.proofs.CallStays as stays
use Rattle.service_leader.proofs.CallStays.{IsRole}
use Rattle.service_leader.proofs.RaftPhases.{Keeps, OfServer, at_tick}

-- the role is not a candidate's
abbrev IsOther : Role → Type 0
IsOther role = role ≢ Candidate

candidate_is : (role : Role) → is_candidate role ≡ true → role ≡ Candidate
candidate_is Follower e = absurd (cc e)
candidate_is Candidate e = refl
candidate_is Leader e = absurd (cc e)

other_role : (New : Role → ℕ → Type 0) → IsRole IsOther New
other_role New = record { follows = λ role term other. inl (λ f. cc f); wins = λ role term stands other. absurd (other (candidate_is role stands)) }

-- the member is no candidate, and this call to peer m is pending, since this moment; or this holds of its role and its term
abbrev pub Still : (number m : ℕ) → (Role → ℕ → Type 0) → Request → Sending → OfServer
Still number m New request sending = stays.Still number m IsOther New request sending

-- ---- a tick

-- the next term
abbrev pub IsNext : ℕ → Role → ℕ → Type 0
IsNext term_then role term = term ≡ term_then + 1

module _ (number m term_then : ℕ) (request : Request) (sending : Sending) where
  abbrev Before : OfServer
  Before me server times now = stays.Pends number m IsOther (IsNext term_then) request sending me server times now × (server.store.term ≡ term_then)

  -- who stands is in the next term
  stands : (members : List ℕ) (me word : ℕ) (server : RaftServer) (times : Times) (now : ℕ) → Before me server times now
      → Still number m (IsNext term_then) request sending me (server_after members me number server TimeOut)
      (times_after members me (given_tick now word) server TimeOut times) now
  stands members me word its_server its_times now h = inr (ap (λ (k : ℕ). k + 1) h.1)

-- ---- the step

module _ (t : AllocatorState) (number m : ℕ) (request : Request) (sending : Sending) (append : request.append ≡ true)
    (role : t.raft_server.memory.role ≢ Candidate) (pending : t.raft_server.memory.pending m ≡ Some request) (sent : t.times.sending m ≡ Some sending) where
  abbrev pub Next : Role → ℕ → Type 0
  Next = IsNext t.raft_server.store.term

  -- a tick
  pub pends_at_tick : (now word : ℕ) → max t.now now < sending.moment + 1000
      → Keeps (Still number m Next request sending) (step t number (Event.Tick now word)).step_state
  pends_at_tick now word soon = at_tick number (Before number m t.raft_server.store.term request sending) (Still number m Next request sending)
      (λ me server times at h. inl h.0) (stands number m t.raft_server.store.term request sending) (stays.grows number m IsOther Next request sending)
      (stays.ends number m IsOther Next request sending) t now word (
        stays.begins t number m IsOther Next request sending role pending sent now soon,
        ap (λ (s : Store). s.term) (expired (members_of (at_moment now t)) t.me number (overdue t.times (max t.now now) all_nodes) t.raft_server).store,
      )

  abbrev pub Never : Role → ℕ → Type 0
  Never role term = ⊥

  -- a frame
  pub pends_at_frame : (arrival : Arrival) → max t.now arrival.moment < sending.moment + 1000
      → ((d : Delivery) → answer (setting_for t.me) t.sessions (record arrival { moment = moment_at t arrival }) ≡ Gives d
      → d.ident.kind ≡ Response → d.ident.number ≡ 30 → d.ident.source ≡ m → sending.id ≡ d.id → ⊥)
      → Keeps (Still number m Never request sending) (step t number (Event.Rx arrival)).step_state
  pends_at_frame arrival soon none = stays.stays_at_frame t number m IsOther Never request sending role pending sent (other_role Never) arrival soon
      (λ d gives is kind one thirty source id. absurd (cc (sym append ∙ is))) (λ d gives is. none d gives)
