-- A leader commits what a quorum has.
use Rattle.std.proofs.Common.{◌≡◌, ◌⊎◌, inl, inr, ℕ, ◌+◌, ◌<◌, ◌≤◌, Bool, false, List, [], ◌∷◌, Option, Some, None, refl, sym, ap, subst, ◌∙◌, arith}
use Rattle.std.proofs.lemmas.Bool.Decides.{eqb_tells, leb_tells}
use Rattle.std.specs.Prelude.{slice_index_or, if◌then◌else◌, ◌==◌, Result, Err}
use Rattle.std.specs.Result.{result_err}
use Rattle.can_frame.specs.declared.step.Role.TheVariants.{Leader}
use Rattle.disk_model.specs.declared.disk.Disk.{Ghosts}
use Rattle.kv_store.specs.declared.fault.Fault.{Fault}
use Rattle.raft_log.specs.declared.origin.TheConstants.{LEADER}
use Rattle.raft_log.specs.declared.durable.Durable.{Durable}
use Rattle.raft_log.specs.DurableViews.{durable_state}
use Rattle.raft_model.specs.Decisions.{commit_index}
use Rattle.raft_model.specs.Duty.{commit_moves, commit_phase}
use Rattle.raft_model.specs.Moves.Elections.{is_leader}
use Rattle.raft_model.specs.Moves.Leading.{CanCommit, IsCommitIndex}
use Rattle.raft_model.specs.Moves.Move.{CommitTo}
use Rattle.raft_model.specs.Server.{RaftServer, Store, Role as ModelRole}
use Rattle.raft_model.specs.Server.Put.{PutCommit}
use Rattle.raft_core.specs.declared.peer.Peer.{Peer}
use Rattle.raft_core.specs.declared.raft.Cause.{Cause}
use Rattle.raft_core.specs.declared.raft.Cause.TheVariants.{Place}
use Rattle.raft_core.specs.declared.raft.Raft.{Raft}
use Rattle.raft_core.specs.Backs.{Backs, backs}
use Rattle.raft_core.specs.Handled.{MakesMoves}
use Rattle.raft_core.specs.Peers.{fresh}
use Rattle.raft_core.specs.Stands.{StandsFor, role_of}
use Rattle.raft_core.specs.StoredPuts.{CallWrites, with_origin, store_of}
use Rattle.raft_core.specs.Times.{HandedIn, Times}
use Rattle.raft_core.proofs.Moving.{leads, no_move, one_move, one_move_failed, storing_stands}

itself : (me place node : ℕ) (peer : Peer) → node ≡ me → (node == me) ≡ backs me (Place place) node peer
itself me place node peer same = elim (eqb_tells node me) [ inl t ↦ rw t.0 refl | inr t ↦ absurd (t.1 same) ]

-- a member itself has all of its log
pub itself_backs : (me : ℕ) (peers : List Peer) (cause : Cause) (place node : ℕ) (test : ℕ → Bool) → Backs me peers cause test → cause ≡ Place place → node ≡ me → node < 128 → (node == me) ≡ test node
itself_backs me peers cause place node test says is same below =
    itself me place node (slice_index_or peers node (fresh 0)) same ∙ (ap (λ x. backs me x node (slice_index_or peers node (fresh 0))) (sym is) ∙ sym (says node (fresh 0) below))

-- places are tried from the last one down
pub greatest : (members : List ℕ) (me : ℕ) (p : RaftServer) (place : ℕ) → CanCommit members me p place → ((i : ℕ) → place < i → CanCommit members me p i → ⊥) → IsCommitIndex members me p place
greatest members me p place can none = record { can = can; greatest = λ i can_i. elim (leb_tells i place) [ inl t ↦ t.1 | inr t ↦ absurd (none i t.1 can_i) ] }

pub next_down : (members : List ℕ) (me : ℕ) (p : RaftServer) (place below : ℕ) → place ≤ below + 1 → (CanCommit members me p place → ⊥) → ((i : ℕ) → place < i → CanCommit members me p i → ⊥)
    → (i : ℕ) → below < i → CanCommit members me p i → ⊥
next_down members me p place below one not_here none i above can = elim (eqb_tells i place) [
  | inl t ↦ not_here (subst (CanCommit members me p) t.1 can)
  | inr t ↦ none i (let other = t.1 in omega (arith, one, above, other)) can
]

pub not_leading : (x : ModelRole) → (x ≡ ModelRole.Leader → ⊥) → is_leader x ≡ false
not_leading ModelRole.Follower h = refl
not_leading ModelRole.Candidate h = refl
not_leading ModelRole.Leader h = absurd (h refl)

found_moves : (members : List ℕ) (m : ℕ) (p : RaftServer) (k : ℕ) → p.memory.role ≡ ModelRole.Leader → commit_index members m p ≡ Some k → commit_phase members m p ≡ CommitTo k ∷ []
found_moves members m p k role is = rw (role, is) refl

no_moves : (members : List ℕ) (m : ℕ) (p : RaftServer) → (p.memory.role ≡ ModelRole.Leader → commit_index members m p ≡ None) → commit_phase members m p ≡ []
no_moves members m p none = by_role p.memory.role refl where
  by_role : (x : ModelRole) → p.memory.role ≡ x → (if is_leader x then commit_moves (commit_index members m p) else []) ≡ []
  by_role ModelRole.Follower is = refl
  by_role ModelRole.Candidate is = refl
  by_role ModelRole.Leader is = rw (none is) refl

known : (o : Option ℕ) → (o ≡ None) ⊎ ((k : ℕ) × (o ≡ Some k))
known None = inl refl
known (Some k) = inr (k, refl)

-- no index where none can be committed
pub no_index : (members : List ℕ) (m : ℕ) (p : RaftServer) → ((k : ℕ) → commit_index members m p ≡ Some k → IsCommitIndex members m p k) → ((k : ℕ) → CanCommit members m p k → ⊥) → commit_index members m p ≡ None
no_index members m p law none = elim (known (commit_index members m p)) [ inl e ↦ e | inr x ↦ absurd (none x.0 (law x.0 x.1).can) ]

module _ {D : Type 0} {disk : Ghosts D} (members : List ℕ) (m n : ℕ) (given : HandedIn) (p : RaftServer) (t : Times) (old : Durable D disk) (raft : Raft) (st : StandsFor raft members (durable_state old) p t) where
  module _ (k : ℕ) (role : raft.role ≡ Leader) (is : commit_index members m p ≡ Some k) (new : Durable D disk) where
    moves : commit_phase members m p ≡ CommitTo k ∷ []
    moves = found_moves members m p k (st.role ∙ ap role_of role) is

    pub committed : CallWrites (with_origin LEADER (PutCommit k ∷ [])) old new None → MakesMoves members m n given (commit_phase members m p) p t old new raft None
    committed made = subst (λ mvs. MakesMoves members m n given mvs p t old new raft None) (sym moves)
        (one_move members m n given (CommitTo k) p t old new raft made
        (storing_stands raft members (durable_state old) (durable_state new) p t _ st
        (ap (λ (z : Store). record z { commit = k }) st.store ∙ sym (ap store_of (made.made.state refl)))))

    pub commit_failed : (fault : Fault) (result : Result (Unit {0}) Fault) → result ≡ Err fault → CallWrites (with_origin LEADER (PutCommit k ∷ [])) old new (Some fault) → MakesMoves members m n given (commit_phase members m p) p t old new raft (result_err result)
    commit_failed fault result failed made = subst (λ mvs. MakesMoves members m n given mvs p t old new raft (result_err result)) (sym moves)
        (one_move_failed members m n given (CommitTo k) p t old new raft result fault failed made)

  pub nothing_committed : (raft.role ≡ Leader → commit_index members m p ≡ None) → CallWrites [] old old None → MakesMoves members m n given (commit_phase members m p) p t old old raft None
  nothing_committed none made = subst (λ mvs. MakesMoves members m n given mvs p t old old raft None) (sym (no_moves members m p (λ role. none (leads raft.role (sym st.role ∙ role)))))
      (no_move members m n p t old raft made st)
