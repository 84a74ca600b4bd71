-- When a step of a leader is over, it has committed what a quorum has.
use Rattle.std.proofs.Common.{◌≡◌, ℕ, ◌+◌, ◌<◌, ◌≤◌, Bool, true, false, List, [], length, refl, sym, ◌∙◌, ap, subst, inl, inr, arith, Option, None, Some}
use Rattle.std.specs.Prelude.{◌⊎◌, if◌then◌else◌}
use Rattle.raft_core.specs.Times.{given_at}
use Rattle.raft_model.specs.Decisions.{commit_index}
use Rattle.raft_model.specs.Duty.{CommitDuty, commit_moves}
use Rattle.raft_model.specs.Lists.{how_many}
use Rattle.raft_model.specs.Log.{term_at}
use Rattle.raft_model.specs.Moves.Elections.{is_leader}
use Rattle.raft_model.specs.Moves.Leading.{CanCommit, has_matched}
use Rattle.raft_model.specs.Server.{RaftServer, Role, quorum}
use Rattle.raft_model.specs.Server.Role.{Leader}
use Rattle.bus_rows.specs.declared.row.Row.{Row}
use Rattle.bus_rows.specs.declared.row.Row.TheVariants.{AEnd, AOpen, ARx, ASend, ATick, Crash, Ext, Fault, Open, Rx, Send, Tick}
use Rattle.alloc_spec.specs.AllocatorState.{AllocatorState, members_of}
use Rattle.alloc_spec.specs.Step.{Event, step}
use Rattle.alloc_spec.specs.StepState.{StepState, with_moves}
use Rattle.alloc_spec_laws.specs.Phases.{when_seen}
use Rattle.alloc_spec_laws.proofs.Choices.{lt_tells}
use Rattle.bus_agreement.specs.Duty.{DoDutyIn, DoesItsDuty, IsDutiful}
use Rattle.service_steps.proofs.Ends.{IsKept, rest_keeps}
use Rattle.service_calm.proofs.Pair.{same_event, same_stepper}
use Rattle.bus_spec.specs.Cluster.{Cluster, receipt_of, step_of, tick_of}
use Rattle.bus_spec.specs.Members.MemberStatus.{Up}

-- each place of the log that is of the server's term, and that a quorum has, it has committed
abbrev pub HasCommitted : List ℕ → ℕ → RaftServer → Type 0
HasCommitted members me s = (index : ℕ) → index ≤ length s.store.log → term_at s.store.log index ≡ s.store.term
    → quorum members ≤ how_many (has_matched me s index) members → index ≤ s.store.commit

module _ (members : List ℕ) (me number : ℕ) where
  abbrev Keeps : StepState → Type 0
  Keeps g = HasCommitted members me g.allocator.raft_server

  -- telling and calling changes nothing of it
  committed_kept : IsKept number Keeps
  committed_kept = record {
    passes = λ g e h. h;
    tells = λ given g e h. h;
    votes = λ given peer g h. h;
    appends = λ given peer previous with_entry g h. h;
    sends = λ what to payload says g h. h;
  }

  -- a commit as far as the quorum lets it
  by_duty : (s : RaftServer) (leads : Bool) (index : Option ℕ) (g : StepState) → g.allocator.raft_server ≡ s
      → CommitDuty members me s (with_moves number (given_at g.allocator.now) (if leads then commit_moves index else []) g).allocator.raft_server
      → Keeps (with_moves number (given_at g.allocator.now) (if leads then commit_moves index else []) g)
  by_duty s leads index g same duty = cases leads index duty
    where
      held : (after : ℕ) → ((place : ℕ) → CanCommit members me s place → place ≤ after) → ((after ≡ s.store.commit) ⊎ (s.store.commit < after)) → (place : ℕ)
          → place ≤ length s.store.log → term_at s.store.log place ≡ s.store.term → quorum members ≤ how_many (has_matched me s place) members → place ≤ after
      held after greatest only place inside own many = elim (lt_tells s.store.commit place) [
        | inl z ↦ greatest place (record { above = z.1; inside = inside; own_term = own; held = many })
        | inr z ↦ let low = z.1 in elim only [
          | inl e ↦ omega (arith, e, low)
          | inr up ↦ omega (arith, up, low)
        ]
      ]

      cases : (leads : Bool) (index : Option ℕ) → CommitDuty members me s (with_moves number (given_at g.allocator.now)
          (if leads then commit_moves index else []) g).allocator.raft_server
          → Keeps (with_moves number (given_at g.allocator.now) (if leads then commit_moves index else []) g)
      cases true None duty = subst (HasCommitted members me) (sym same) (held s.store.commit
          (λ place can. subst (λ (x : RaftServer). place ≤ x.store.commit) same (duty.greatest place can)) (inl refl))
      cases true (Some index) duty = subst (λ (x : RaftServer). HasCommitted members me
          (record { store = record x.store { commit = index }; memory = x.memory })) (sym same)
          (held index (λ place can. duty.greatest place can) (elim duty.only [ inl e ↦ inl e | inr can ↦ inr can.above ]))
      cases false index duty = subst (HasCommitted members me) (sym same) (held s.store.commit
          (λ place can. subst (λ (x : RaftServer). place ≤ x.store.commit) same (duty.greatest place can)) (inl refl))

-- the end of a step leaves the role
role_kept : (number : ℕ) (role : Role) → IsKept number (λ g. g.allocator.raft_server.memory.role ≡ role)
role_kept number role = record {
  passes = λ g e h. h;
  tells = λ given g e h. h;
  votes = λ given peer g h. h;
  appends = λ given peer previous with_entry g h. h;
  sends = λ what to payload says g h. h;
}

role_commit : (number : ℕ) (role : Role) (leads : Bool) (index : Option ℕ) (g : StepState) → g.allocator.raft_server.memory.role ≡ role
    → (with_moves number (given_at g.allocator.now) (if leads then commit_moves index else []) g).allocator.raft_server.memory.role ≡ role
role_commit number role true None g h = h
role_commit number role true (Some index) g h = h
role_commit number role false index g h = h

module _ (members : List ℕ) (t : AllocatorState) (number : ℕ) (event : Event)
    (leads : (step t number event).step_state.allocator.raft_server.memory.role ≡ Leader) where
  abbrev g : StepState
  g = when_seen t number event

  -- who leads when a step is over led when its event was done
  seen_leads : g.allocator.raft_server.memory.role ≡ Leader
  unfolding step
  seen_leads = sym (rest_keeps number (λ x. x.allocator.raft_server.memory.role ≡ g.allocator.raft_server.memory.role)
      (role_kept number g.allocator.raft_server.memory.role) g
      (role_commit number g.allocator.raft_server.memory.role (is_leader g.allocator.raft_server.memory.role)
      (commit_index (members_of g.allocator) g.allocator.me g.allocator.raft_server) g refl)) ∙ leads

  -- and has committed what a quorum has
  pub has_committed : DoesItsDuty members t number event → HasCommitted members t.me (step t number event).step_state.allocator.raft_server
  unfolding step
  has_committed duty = rest_keeps number (λ x. HasCommitted members t.me x.allocator.raft_server) (committed_kept members t.me number) g
      (by_duty members t.me number g.allocator.raft_server (is_leader g.allocator.raft_server.memory.role)
      (commit_index (members_of g.allocator) g.allocator.me g.allocator.raft_server) g refl (duty.commit seen_leads))

-- the duty of a row that is a step of this member
pub duty_at : (w : Cluster) (row : Row) (n : ℕ) (t : AllocatorState) (event : Event) → step_of w row ≡ Some (n, event) → (w.member n).status ≡ Up t
    → IsDutiful w row
    → DoesItsDuty w.ids t (w.rows + 1) event
duty_at w (Tick k ms word) n t event is up duty =
    subst (λ (e : Event). DoesItsDuty w.ids t (w.rows + 1) e) (same_event k n (tick_of ms word) event is)
    (subst (DoDutyIn w.ids (w.rows + 1) (tick_of ms word)) (ap (λ (p : ℕ). (w.member p).status) (same_stepper k n (tick_of ms word) event is) ∙ up) duty)
duty_at w (Rx k f ms) n t event is up duty =
    subst (λ (e : Event). DoesItsDuty w.ids t (w.rows + 1) e) (same_event k n (receipt_of w f ms) event is)
    (subst (DoDutyIn w.ids (w.rows + 1) (receipt_of w f ms)) (ap (λ (p : ℕ). (w.member p).status) (same_stepper k n (receipt_of w f ms) event is) ∙ up) duty)
duty_at w (Send k) n t event is up duty = absurd (cc is)
duty_at w (ATick a ms word) n t event is up duty = absurd (cc is)
duty_at w (ARx a k ms word) n t event is up duty = absurd (cc is)
duty_at w (ASend a) n t event is up duty = absurd (cc is)
duty_at w (Open k told ms word) n t event is up duty = absurd (cc is)
duty_at w (Ext frame) n t event is up duty = absurd (cc is)
duty_at w (Crash k calls pattern) n t event is up duty = absurd (cc is)
duty_at w (Fault k call) n t event is up duty = absurd (cc is)
duty_at w (AOpen a uid pref ms word) n t event is up duty = absurd (cc is)
duty_at w (AEnd a) n t event is up duty = absurd (cc is)
