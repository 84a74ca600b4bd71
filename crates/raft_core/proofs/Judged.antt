-- An append request is judged, first by its term.
use Rattle.std.proofs.Common.{◌≡◌, ◌⊎◌, inl, inr, None, ℕ, ◌+◌, ◌<◌, ◌≤◌, Bool, true, false, List, [], ◌∷◌, ◌++◌, refl, sym, ap, subst, ◌∙◌, arith}
use Rattle.std.specs.Prelude.{Option, is_none, nat_lt, min, if◌then◌else◌, length}
use Rattle.std.proofs.lemmas.Bool.Decides.{leb_tells}
use Rattle.disk_model.specs.declared.disk.Disk.{Ghosts}
use Rattle.kv_store.specs.declared.fault.Fault.{Fault}
use Rattle.raft_log.specs.declared.durable.Durable.{Durable}
use Rattle.raft_log.specs.Calls.{FaultIsSticky, WritesInOrder}
use Rattle.raft_log.specs.DurableViews.{durable_state}
use Rattle.raft_log.specs.Stored.{Stored, Put as StoredPut}
use Rattle.raft_model.specs.Handlers.{server_after}
use Rattle.raft_model.specs.Messages.{Request, reach}
use Rattle.raft_model.specs.Moves.Appending.{IsCurrent, IsJudged, IsOutdated, IsRuled, Verdict, append_memory, append_puts}
use Rattle.raft_model.specs.Moves.Elections.{term_memory, term_puts, with_term}
use Rattle.raft_model.specs.Moves.Move.{TakeAppendRequest}
use Rattle.raft_model.specs.Moves.Appending.Verdict.{Outdated, Refused, Held, Added}
use Rattle.raft_model.specs.Server.{Memory, RaftServer, Put, Store, put_all, Role as ModelRole}
use Rattle.raft_model.specs.Server.Put.{PutTerm, PutVote, PutShorter, PutCommit}
use Rattle.raft_core.specs.declared.raft.Raft.{Raft}
use Rattle.can_frame.specs.declared.step.Role.{Role}
use Rattle.can_frame.specs.declared.step.Role.TheVariants.{Follower, Candidate, Leader}
use Rattle.raft_core.specs.Roles.{StepsDown, since_after}
use Rattle.raft_core.specs.Stands.{StandsFor, role_of}
use Rattle.raft_core.specs.StoredPuts.{CallWrites, VoteForNodes, with_origin, store_of}
use Rattle.raft_core.specs.Times.{HandedIn, Times, raise, step_down, times_after}
use Rattle.raft_core.proofs.Appending.{lt_false, lt_true}
use Rattle.raft_core.proofs.Puts.{does}
use Rattle.raft_core.proofs.Moving.{follower_stands, leads}

-- ---- a term

same_term : (s : Store) (term : ℕ) → term ≤ s.term → with_term s term ≡ s
same_term s term low = rw (lt_false s.term term low) refl

pub no_term_puts : (s : Store) (term : ℕ) → term ≤ s.term → term_puts s term ≡ []
no_term_puts s term low = rw (lt_false s.term term low) refl

pub own_term : (s : Store) (term : ℕ) → term ≤ s.term → s.term ≡ (with_term s term).term
own_term s term low = sym (ap (λ (z : Store). z.term) (same_term s term low))

pub raised_term : (s : Store) (term : ℕ) → s.term ≤ term → term ≡ (with_term s term).term
raised_term s term high = elim (leb_tells (s.term + 1) term) [
  | inl t ↦ rw (lt_true s.term term (omega (arith, t.1))) refl
  | inr t ↦ let same : term ≡ s.term = omega (arith, t.1, high) in same ∙ own_term s term (omega (arith, same))
]

if_same : {A B : Type 0} (b : Bool) (x y : A) (f : A → B) → f x ≡ f y → f (if b then x else y) ≡ f y
if_same true x y f e = e
if_same false x y f e = refl

pub term_told : (p : RaftServer) (term : ℕ) → (term_memory p term).told ≡ p.memory.told
term_told p term = if_same (nat_lt p.store.term term) (record p.memory { role = ModelRole.Follower }) p.memory (λ (x : Memory). x.told) refl

pub term_pending : (p : RaftServer) (term : ℕ) → (term_memory p term).pending ≡ p.memory.pending
term_pending p term = if_same (nat_lt p.store.term term) (record p.memory { role = ModelRole.Follower }) p.memory (λ (x : Memory). x.pending) refl

down_sending : (now : ℕ) (role : ModelRole) (t : Times) → (step_down now role t).sending ≡ t.sending
down_sending now ModelRole.Follower t = refl
down_sending now ModelRole.Candidate t = refl
down_sending now ModelRole.Leader t = refl

down_word : (now : ℕ) (role : ModelRole) (t : Times) → (step_down now role t).word ≡ t.word
down_word now ModelRole.Follower t = refl
down_word now ModelRole.Candidate t = refl
down_word now ModelRole.Leader t = refl

pub down_waits : (now : ℕ) (role : ModelRole) (t : Times) → (step_down now role t).waits ≡ t.waits
down_waits now ModelRole.Follower t = refl
down_waits now ModelRole.Candidate t = refl
down_waits now ModelRole.Leader t = refl

pub raise_sending : (now term : ℕ) (p : RaftServer) (t : Times) → (raise now term p t).sending ≡ t.sending
raise_sending now term p t = if_same (nat_lt p.store.term term) (step_down now p.memory.role t) t (λ (x : Times). x.sending) (down_sending now p.memory.role t)

pub raise_word : (now term : ℕ) (p : RaftServer) (t : Times) → (raise now term p t).word ≡ t.word
raise_word now term p t = if_same (nat_lt p.store.term term) (step_down now p.memory.role t) t (λ (x : Times). x.word) (down_word now p.memory.role t)

pub raise_waits : (now term : ℕ) (p : RaftServer) (t : Times) → (raise now term p t).waits ≡ t.waits
raise_waits now term p t = if_same (nat_lt p.store.term term) (step_down now p.memory.role t) t (λ (x : Times). x.waits) (down_waits now p.memory.role t)

down_since : (now : ℕ) (role : Role) (t : Times) → (step_down now (role_of role) t).since ≡ since_after role t.since now
down_since now Follower t = refl
down_since now Candidate t = refl
down_since now Leader t = refl

pub raised_stands : (raft raft2 : Raft) (members : List ℕ) (s s2 : Stored) (p : RaftServer) (t : Times) (now term : ℕ) → StandsFor raft members s p t → s.term < term
    → s2 ≡ record s { term = term; vote = 0 } → StepsDown raft raft2 now
    → StandsFor raft2 members s2 (record { store = with_term p.store term; memory = term_memory p term }) (raise now term p t)
raised_stands raft raft2 members s s2 p t now term st higher stored down =
    let test : nat_lt p.store.term term ≡ true = subst (λ (z : Store). nat_lt z.term term ≡ true) (sym st.store) (lt_true s.term term higher) in
    rw test (follower_stands raft raft2 members s s2 p (record { store = record p.store { term = term; vote = None }; memory = record p.memory { role = ModelRole.Follower } }) t (step_down now p.memory.role t) st
    refl refl refl
    (ap (λ (z : Store). record z { term = term; vote = None }) st.store ∙ sym (ap store_of stored))
    (down_sending now p.memory.role t)
    (down_word now p.memory.role t)
    (down_waits now p.memory.role t)
    (ap (λ (x : ModelRole). (step_down now x t).since) st.role ∙ (down_since now raft.role t ∙ (ap (λ (k : ℕ). since_after raft.role k now) st.since ∙ sym down.since)))
    down.role down.rest.told down.rest.word down.rest.waits down.rest.peers)

-- a higher term is stored, with no vote
pub term_made : {D : Type 0} {disk : Ghosts D} (origin : ℕ) (old new : Durable D disk) (ok : Bool) (failed : Option Fault) (term : ℕ) → ok ≡ is_none failed → (durable_state old).term < term
    → WritesInOrder (StoredPut.PutTerm term ∷ StoredPut.PutVote 0 ∷ []) old new ok → FaultIsSticky old new failed → CallWrites (with_origin origin (term_puts (store_of (durable_state old)) term)) old new failed
term_made origin old new ok failed term ended higher made keeps = rw (lt_true (durable_state old).term term higher) (does (with_origin origin (PutTerm term ∷ PutVote None ∷ [])) _ old new ok failed tt ended refl made keeps)

-- ---- verdicts

not_both : (p : RaftServer) (r : Request) → IsCurrent p r → IsOutdated p r → ⊥
not_both p r (inl a) (inl b) = omega (arith, a, b)
not_both p r (inl a) (inr b) = let e : r.term ≡ p.store.term = b.0 in omega (arith, a, e)
not_both p r (inr a) (inl b) = let e : r.term ≡ p.store.term = a.0 in omega (arith, e, b)
not_both p r (inr a) (inr b) = a.1 b.1

pub judged_outdated : (p : RaftServer) (r : Request) (v : Verdict) → IsJudged p r v → IsOutdated p r → v ≡ Outdated
judged_outdated p r Outdated h o = refl
judged_outdated p r Refused h o = absurd (not_both p r h.0 o)
judged_outdated p r Held h o = absurd (not_both p r h.0 o)
judged_outdated p r (Added e) h o = absurd (not_both p r h.0 o)

pub judged_ruled : (p : RaftServer) (r : Request) (v : Verdict) → IsJudged p r v → (IsOutdated p r → ⊥) → IsRuled (with_term p.store r.term) r v
judged_ruled p r Outdated h n = absurd (n h)
judged_ruled p r Refused h n = h.1
judged_ruled p r Held h n = h.1
judged_ruled p r (Added e) h n = h.1

-- a request that is outdated is not of a higher term, and one that is current not of a lower one
pub outdated_term : (p : RaftServer) (r : Request) → IsOutdated p r → r.term ≤ p.store.term
outdated_term p r (inl a) = omega (arith, a)
outdated_term p r (inr a) = let e : r.term ≡ p.store.term = a.0 in omega (arith, e)

-- ---- puts and memory

commits_count : (b : Bool) (k : ℕ) → VoteForNodes (if b then PutCommit k ∷ [] else [])
commits_count true k = (tt, tt)
commits_count false k = tt

after_cut : (b : Bool) (k : ℕ) (xs : List Put) → VoteForNodes xs → VoteForNodes ((if b then PutShorter k ∷ [] else []) ++ xs)
after_cut true k xs h = (tt, h)
after_cut false k xs h = h

pub append_counts : (s : Store) (r : Request) (v : Verdict) → VoteForNodes (append_puts s r v)
append_counts s r Outdated = tt
append_counts s r Refused = tt
append_counts s r Held = commits_count (nat_lt s.commit (min r.commit (reach r))) (min r.commit (reach r))
append_counts s r (Added e) = after_cut (nat_lt r.previous (length s.log)) r.previous _ (tt, (tt, commits_count (nat_lt s.commit (min r.commit (reach r))) (min r.commit (reach r))))

append_role : (p : RaftServer) (r : Request) (s : Store) (v : Verdict) → IsRuled s r v → (append_memory p r v).role ≡ ModelRole.Follower
append_role p r s Outdated h = absurd h
append_role p r s Refused h = refl
append_role p r s Held h = refl
append_role p r s (Added e) h = refl

append_told : (p : RaftServer) (r : Request) (v : Verdict) → (append_memory p r v).told ≡ p.memory.told
append_told p r Outdated = refl
append_told p r Refused = refl
append_told p r Held = refl
append_told p r (Added e) = refl

append_pending : (p : RaftServer) (r : Request) (v : Verdict) → (append_memory p r v).pending ≡ p.memory.pending
append_pending p r Outdated = refl
append_pending p r Refused = refl
append_pending p r Held = refl
append_pending p r (Added e) = refl

append_times : (members : List ℕ) (m : ℕ) (given : HandedIn) (p : RaftServer) (t : Times) (r : Request) (s : Store) (v : Verdict) → IsRuled s r v
    → times_after members m given p (TakeAppendRequest r v) t ≡ record t { since = given.now }
append_times members m given p t r s Outdated h = absurd h
append_times members m given p t r s Refused h = refl
append_times members m given p t r s Held h = refl
append_times members m given p t r s (Added e) h = refl

-- the member after an append request that is not outdated
pub taken_stands : (members : List ℕ) (m n : ℕ) (given : HandedIn) (p : RaftServer) (t : Times) (r : Request) (v : Verdict) (raft raft2 : Raft) (mid new : Stored)
    → StandsFor raft members mid (record { store = with_term p.store r.term; memory = term_memory p r.term }) (raise given.now r.term p t)
    → IsRuled (with_term p.store r.term) r v
    → store_of new ≡ put_all p.store (term_puts p.store r.term ++ append_puts (with_term p.store r.term) r v)
    → raft2.role ≡ Follower → given.now ≡ raft2.since → raft2.told ≡ raft.told → raft2.word ≡ raft.word → raft2.waits ≡ raft.waits → raft2.peers ≡ raft.peers
    → StandsFor raft2 members new (server_after members m n p (TakeAppendRequest r v)) (times_after members m given p (TakeAppendRequest r v) t)
taken_stands members m n given p t r v raft raft2 mid new st ruled store role since told word waits peers =
    let p1 : RaftServer = record { store = with_term p.store r.term; memory = term_memory p r.term } in
    let t1 = raise given.now r.term p t in
    let p2 = server_after members m n p (TakeAppendRequest r v) in
    let t2 : Times = record t { since = given.now } in
    subst (λ (x : Times). StandsFor raft2 members new p2 x) (sym (append_times members m given p t r (with_term p.store r.term) v ruled))
    (follower_stands raft raft2 members mid new p1 p2 t1 t2 st
    (append_role p r (with_term p.store r.term) v ruled)
    (append_told p r v ∙ sym (term_told p r.term))
    (append_pending p r v ∙ sym (term_pending p r.term))
    (sym store)
    (sym (raise_sending given.now r.term p t))
    (sym (raise_word given.now r.term p t))
    (sym (raise_waits given.now r.term p t))
    since role told word waits peers)

-- ---- told of what the code keeps

module _ (raft : Raft) (members : List ℕ) (s : Stored) (p : RaftServer) (t : Times) (r : Request) (st : StandsFor raft members s p t) where
  abbrev pub IsLate : Type 0
  IsLate = (r.term < s.term) ⊎ ((r.term ≡ s.term) × (raft.role ≡ Leader))

  stored_term : p.store.term ≡ s.term
  stored_term = ap (λ (z : Store). z.term) st.store

  pub late : IsLate → IsOutdated p r
  late (inl low) = inl (subst (λ n. r.term < n) (sym stored_term) low)
  late (inr own) = inr (own.0 ∙ sym stored_term, st.role ∙ ap role_of own.1)

  pub not_late : (IsLate → ⊥) → IsOutdated p r → ⊥
  not_late no_late (inl low) = no_late (inl (subst (λ n. r.term < n) stored_term low))
  not_late no_late (inr own) = no_late (inr (own.0 ∙ stored_term, leads raft.role (sym st.role ∙ own.1)))

  pub not_lower : (IsLate → ⊥) → p.store.term ≤ r.term
  not_lower no_late = elim (leb_tells p.store.term r.term) [
    | inl x ↦ x.1
    | inr x ↦ absurd (no_late (inl (subst (λ n. r.term < n) stored_term x.1)))
  ]
