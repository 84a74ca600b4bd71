-- An answer of a peer: the call ends, a higher term counts, and else what the answer says.
use Rattle.std.proofs.Common.{◌≡◌, ℕ, None, Bool, true, false, List, [], ◌∷◌, refl, sym, subst, ◌∙◌}
use Rattle.std.specs.Prelude.{if◌then◌else◌, ◌&&◌, ◌==◌, nat_lt}
use Rattle.disk_model.specs.declared.disk.Disk.{Ghosts}
use Rattle.can_frame.specs.declared.step.Role.{Role}
use Rattle.can_frame.specs.declared.step.Role.TheVariants.{Follower, Candidate, Leader}
use Rattle.raft_log.specs.declared.origin.TheConstants.{LEADER}
use Rattle.raft_log.specs.declared.durable.Durable.{Durable}
use Rattle.raft_log.specs.DurableViews.{durable_state}
use Rattle.raft_log.specs.Stored.{Stored}
use Rattle.raft_model.specs.Messages.{Answer}
use Rattle.raft_model.specs.Moves.{memory_after}
use Rattle.raft_model.specs.Moves.Appending.{matched_memory}
use Rattle.raft_model.specs.Moves.Elections.{votes_with, counts, memory_without_call, has_quorum, is_leader, term_memory, term_puts, with_term}
use Rattle.raft_model.specs.Moves.Move.{TakeAppendAnswer, TakeVoteAnswer}
use Rattle.raft_model.specs.Server.{Memory, RaftServer, put_all, Role as ModelRole}
use Rattle.raft_model.specs.Server.Put.{PutTerm, PutVote}
use Rattle.raft_core.specs.declared.raft.Raft.{Raft}
use Rattle.raft_core.specs.Handled.{MakesMoves}
use Rattle.raft_core.specs.Stands.{StandsFor, role_of}
use Rattle.raft_core.specs.StoredPuts.{CallWrites, with_origin}
use Rattle.raft_core.specs.Times.{HandedIn, Times, end_call, end_vote_call, raise, step_down, win}
use Rattle.raft_core.proofs.Moving.{one_move}
use Rattle.raft_core.proofs.VoteAnswer.{CountsVotes}

-- ---- choices

skip : {A : Type 0} (b c : Bool) (x y z : A) → (b ≡ false → c ≡ false) → (if b then x else z) ≡ (if b then x else (if c then y else z))
skip true c x y z h = refl
skip false c x y z h = rw (h refl) refl

and_false : (c q : Bool) → c ≡ false → (c && q) ≡ false
and_false c q e = rw e refl

-- no higher term
pub unraised : (raft : Raft) (members : List ℕ) (s : Stored) (p : RaftServer) (t : Times) (now term : ℕ) → nat_lt p.store.term term ≡ false
    → StandsFor raft members s (record { store = with_term p.store term; memory = term_memory p term }) (raise now term p t) → StandsFor raft members s p t
unraised raft members s p t now term low st = by_test (nat_lt p.store.term term) low st where
  by_test : (b : Bool) → b ≡ false → StandsFor raft members s
      (record { store = put_all p.store (if b then PutTerm term ∷ PutVote None ∷ [] else []); memory = if b then record p.memory { role = ModelRole.Follower } else p.memory }) (if b then step_down now p.memory.role t else t) → StandsFor raft members s p t
  by_test true e h = absurd (cc e)
  by_test false e h = h

-- who is no Follower by then had no higher term
pub not_higher : (p : RaftServer) (term : ℕ) (role : Role) → (term_memory p term).role ≡ role_of role → (role ≡ Follower → ⊥) → nat_lt p.store.term term ≡ false
not_higher p term role same other = by_test (nat_lt p.store.term term) same where
  follower : (x : Role) → ModelRole.Follower ≡ role_of x → x ≡ Follower
  follower Follower h = refl
  follower Candidate h = absurd (cc h)
  follower Leader h = absurd (cc h)

  by_test : (b : Bool) → (if b then record p.memory { role = ModelRole.Follower } else p.memory).role ≡ role_of role → b ≡ false
  by_test true h = absurd (other (follower role h))
  by_test false h = refl

-- who leads by then led before
pub leader_stays : (raft raft2 : Raft) → ((raft2.role ≡ Follower → ⊥) → raft2.role ≡ raft.role) → raft2.role ≡ Leader → raft.role ≡ Leader
leader_stays raft raft2 stays leads = sym (stays (λ h. no_follower (sym leads ∙ h))) ∙ leads where
  no_follower : Leader ≡ Follower → ⊥
  no_follower h = cc h

-- ---- exits

module _ {D : Type 0} {disk : Ghosts D} (members : List ℕ) (m n : ℕ) (given : HandedIn) (p : RaftServer) (t : Times) (a : Answer) (old new : Durable D disk) (raft2 : Raft) where
  abbrev p1 : RaftServer
  p1 = record p { memory = memory_without_call p.memory a.from }

  abbrev higher : Bool
  higher = nat_lt p.store.term a.term

  abbrev pub Raised : Times → Type 0
  Raised t1 = StandsFor raft2 members (durable_state new) (record { store = with_term p.store a.term; memory = term_memory (record p { memory = memory_without_call p.memory a.from }) a.term }) (raise given.now a.term (record p { memory = memory_without_call p.memory a.from }) t1)

  -- a vote that does not count
  pub no_vote_counted : (nat_lt p.store.term a.term ≡ false → counts p a ≡ false) → CallWrites (with_origin LEADER (term_puts p.store a.term)) old new None → Raised (end_vote_call a.from t)
      → MakesMoves members m n given (TakeVoteAnswer a ∷ []) p t old new raft2 None
  no_vote_counted none made after = one_move members m n given (TakeVoteAnswer a) p t old new raft2 made
      (subst (λ (x : Times). StandsFor raft2 members (durable_state new) (record { store = with_term p.store a.term; memory = memory_after members m n p (TakeVoteAnswer a) }) x)
      (skip higher (counts p a && has_quorum members (votes_with p.memory a)) (step_down given.now p.memory.role (end_vote_call a.from t)) (win (end_vote_call a.from t)) (end_vote_call a.from t) (λ low. and_false (counts p a) _ (none low)))
      (subst (λ (x : Memory). StandsFor raft2 members (durable_state new) (record { store = with_term p.store a.term; memory = x }) (raise given.now a.term p1 (end_vote_call a.from t)))
      (skip higher (counts p a) (record (memory_without_call p.memory a.from) { role = ModelRole.Follower }) _ (memory_without_call p.memory a.from) none) after))

  -- one that counts
  pub vote_counted : nat_lt p.store.term a.term ≡ false → counts p a ≡ true → CallWrites (with_origin LEADER (term_puts p.store a.term)) old new None
      → CountsVotes members (record p { memory = memory_without_call p.memory a.from }) (end_vote_call a.from t) (votes_with p.memory a) (durable_state new) raft2
      → MakesMoves members m n given (TakeVoteAnswer a ∷ []) p t old new raft2 None
  vote_counted low so made after = one_move members m n given (TakeVoteAnswer a) p t old new raft2 made (rw (low, so) after)

  -- an append answer that does not count
  pub not_matched : (nat_lt p.store.term a.term ≡ false → (is_leader p.memory.role && (a.term == p.store.term)) ≡ false) → CallWrites (with_origin LEADER (term_puts p.store a.term)) old new None → Raised (end_call a.from t)
      → MakesMoves members m n given (TakeAppendAnswer a ∷ []) p t old new raft2 None
  not_matched none made after = one_move members m n given (TakeAppendAnswer a) p t old new raft2 made
      (subst (λ (x : Memory). StandsFor raft2 members (durable_state new) (record { store = with_term p.store a.term; memory = x }) (raise given.now a.term p1 (end_call a.from t)))
      (skip higher (is_leader p.memory.role && (a.term == p.store.term)) (record (memory_without_call p.memory a.from) { role = ModelRole.Follower }) (matched_memory p.memory a) (memory_without_call p.memory a.from) none) after)

  -- one that counts
  pub matched : nat_lt p.store.term a.term ≡ false → (is_leader p.memory.role && (a.term == p.store.term)) ≡ true → CallWrites (with_origin LEADER (term_puts p.store a.term)) old new None
      → StandsFor raft2 members (durable_state new) (record p { memory = matched_memory p.memory a }) (end_call a.from t)
      → MakesMoves members m n given (TakeAppendAnswer a ∷ []) p t old new raft2 None
  matched low so made after = one_move members m n given (TakeAppendAnswer a) p t old new raft2 made (rw (low, so) after)
