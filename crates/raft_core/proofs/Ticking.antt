-- The exits of a tick.
use Rattle.std.proofs.Common.{◌≡◌, ℕ, Bool, true, false, List, [], ◌∷◌, refl, sym, ap, subst, ◌∙◌}
use Rattle.std.specs.Prelude.{Option, Some, None, Result, Err, if◌then◌else◌, nat_le, nat_lt, not, ◌&&◌}
use Rattle.std.specs.Result.{result_err}
use Rattle.can_frame.specs.declared.step.Role.TheVariants.{Follower, Candidate}
use Rattle.disk_model.specs.declared.disk.Disk.{Ghosts}
use Rattle.kv_store.specs.declared.fault.Fault.{Fault}
use Rattle.raft_log.specs.declared.origin.TheConstants.{LEADER}
use Rattle.raft_log.specs.declared.durable.Durable.{Durable}
use Rattle.raft_log.specs.DurableViews.{durable_state}
use Rattle.raft_log.specs.Stored.{Stored}
use Rattle.raft_model.specs.Lists.{how_many}
use Rattle.raft_model.specs.Moves.Elections.{has_quorum, is_leader, own_vote, stand_memory, stand_puts, term_limit, win_memory}
use Rattle.raft_model.specs.Moves.Move.{TimeOut}
use Rattle.raft_model.specs.Server.{RaftServer, Store, put_all, quorum}
use Rattle.raft_core.specs.declared.raft.Cause.TheVariants.{Candidacy}
use Rattle.raft_core.specs.declared.raft.Raft.{Raft}
use Rattle.raft_core.specs.Backs.{Backs}
use Rattle.raft_core.specs.Handled.{MakesMoves, counted_at, moves_of_tick, with_blank}
use Rattle.raft_core.specs.Stands.{StandsFor, role_of}
use Rattle.raft_core.specs.StoredPuts.{CallWrites, with_origin, store_of}
use Rattle.raft_core.specs.Times.{HandedIn, Times, has_waited, stand, win}
use Rattle.raft_core.proofs.Moving.{no_move, one_move, one_move_failed}

-- whether a tick begins an election
abbrev pub stands : Bool → ℕ → RaftServer → Times → Bool
stands complete now p t = (complete && has_waited t now) && (not (is_leader p.memory.role) && nat_lt p.store.term term_limit)

-- `last` are the members of the last election, `known` those that are known now
abbrev pub Ticks : {D : Type 0} {disk : Ghosts D} → List ℕ → List ℕ → ℕ → ℕ → HandedIn → RaftServer → Times → Bool → Durable D disk → Durable D disk → Raft → Option Fault → Type 0
Ticks last known m n given p t complete old new raft2 failed = let moves = moves_of_tick known m n complete given.now p t in MakesMoves (counted_at moves last known) m n given moves p t old new raft2 failed

-- what a candidate counts is what the Raft model counts
pub counted_as : (raft : Raft) (members : List ℕ) (s : Stored) (p : RaftServer) (t : Times) → StandsFor raft members s p t → raft.role ≡ Candidate → (result : Bool)
    → ((test : ℕ → Bool) → Backs raft.me raft.peers Candidacy test → result ≡ nat_le (quorum raft.members.items) (how_many test raft.members.items)) → result ≡ has_quorum members p.memory.votes
counted_as raft members s p t st role result counts =
    counts p.memory.votes (λ q d below. (st.peers q d below).voted (st.role ∙ ap role_of role))
    ∙ ap (λ list. nat_le (quorum list) (how_many p.memory.votes list)) (st.known (λ h. no_follower (sym role ∙ h)))
  where
    no_follower : Candidate ≡ Follower → ⊥
    no_follower h = cc h

-- a tick that begins no election
pub stays : {D : Type 0} {disk : Ghosts D} (members known : List ℕ) (m n : ℕ) (given : HandedIn) (p : RaftServer) (t : Times) (complete : Bool) (old : Durable D disk) (raft : Raft) → StandsFor raft members (durable_state old) p t
    → stands complete given.now p t ≡ false → CallWrites [] old old None → Ticks members known m n given p t complete old old raft None
stays members known m n given p t complete old raft st no_stand made = rw no_stand (no_move members m n p t old raft made st)

-- a tick that begins one
pub ticked : {D : Type 0} {disk : Ghosts D} (last known : List ℕ) (m n : ℕ) (given : HandedIn) (p : RaftServer) (t : Times) (complete : Bool) (old new : Durable D disk) (raft2 : Raft) (failed : Option Fault)
    → stands complete given.now p t ≡ true → MakesMoves known m n given (with_blank known m n t p (TimeOut ∷ [])) p t old new raft2 failed → Ticks last known m n given p t complete old new raft2 failed
ticked last known m n given p t complete old new raft2 failed yes_stand made = rw yes_stand made

-- it does not lead
pub no_leader_stands : (complete : Bool) (now : ℕ) (p : RaftServer) (t : Times) → stands complete now p t ≡ true → is_leader p.memory.role ≡ false
no_leader_stands complete now p t yes_stand = by_test (complete && has_waited t now) (is_leader p.memory.role) (nat_lt p.store.term term_limit) yes_stand where
  by_test : (a b c : Bool) → (a && (not b && c)) ≡ true → b ≡ false
  by_test a false c h = refl
  by_test true true c h = absurd (cc h)
  by_test false true c h = absurd (cc h)

-- ---- an election

module _ {D : Type 0} {disk : Ghosts D} (members : List ℕ) (m n : ℕ) (given : HandedIn) (p : RaftServer) (t : Times) (old new : Durable D disk) (raft2 : Raft) (store : p.store ≡ store_of (durable_state old)) where
  its_puts : (failed : Option Fault) → CallWrites (with_origin LEADER (stand_puts m (store_of (durable_state old)))) old new failed → CallWrites (with_origin LEADER (stand_puts m p.store)) old new failed
  its_puts failed made = subst (λ (z : Store). CallWrites (with_origin LEADER (stand_puts m z)) old new failed) (sym store) made

  pub stand_failed : {T : Type 0} (result : Result T Fault) (fault : Fault) → result ≡ Err fault → CallWrites (with_origin LEADER (stand_puts m (store_of (durable_state old)))) old new (Some fault)
      → MakesMoves members m n given (TimeOut ∷ []) p t old new raft2 (result_err result)
  stand_failed result fault failed made = one_move_failed members m n given TimeOut p t old new raft2 result fault failed (its_puts (Some fault) made)

  abbrev pub after_with : Bool → Type 0
  after_with b = StandsFor raft2 members (durable_state new)
      (record { store = put_all p.store (stand_puts m p.store); memory = if b then win_memory p.store (stand_memory m p.memory) else stand_memory m p.memory })
      (if b then win (stand given t) else stand given t)

  -- with the votes counted
  pub stood : (b : Bool) → has_quorum members (own_vote m) ≡ b → CallWrites (with_origin LEADER (stand_puts m (store_of (durable_state old)))) old new None → after_with b
      → MakesMoves members m n given (TimeOut ∷ []) p t old new raft2 None
  stood b counted made after = one_move members m n given TimeOut p t old new raft2 (its_puts None made) (subst after_with (sym counted) after)
