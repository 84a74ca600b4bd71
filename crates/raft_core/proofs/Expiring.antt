-- Calls that are given up.
use Rattle.std.proofs.Common.{◌≡◌, ◌≢◌, ◌⊎◌, inl, inr, ℕ, ◌<◌, ◌-◌, Bool, true, false, List, [], ◌∷◌, Option, Some, None, refl, sym, ap, subst, ◌∙◌}
use Rattle.std.proofs.lemmas.Bool.{cases_Bool}
use Rattle.std.proofs.lemmas.Bool.Decides.{eqb_tells}
use Rattle.std.specs.Prelude.{nat_le, slice_index_or, if◌then◌else◌}
use Rattle.raft_log.specs.Stored.{Stored}
use Rattle.raft_model.specs.Handlers.{server_after_all}
use Rattle.raft_model.specs.Lists.{In, at}
use Rattle.raft_model.specs.Messages.{Request}
use Rattle.raft_model.specs.Server.{Memory, RaftServer}
use Rattle.raft_model.specs.Lists.{at_here, at_other}
use Rattle.raft_core.specs.declared.peer.Peer.{Peer}
use Rattle.raft_core.specs.declared.peer.Waiting.{Waiting}
use Rattle.raft_core.specs.declared.raft.Raft.{Raft}
use Rattle.raft_core.specs.Handled.{moves_of_expire}
use Rattle.raft_core.specs.Peers.{expired, young}
use Rattle.raft_core.specs.Stands.{StandsFor, Tells, Waits, role_of}
use Rattle.raft_core.specs.Times.{HandedIn, Sending, Times, is_overdue, overdue, times_after_all}

-- ---- those that are overdue

-- a node that is listed stays so, whether or not one more is
listed_still : (b : Bool) (q node : ℕ) (qs : List ℕ) → In q qs → In q (if b then node ∷ qs else qs)
listed_still true q node qs h = inr h
listed_still false q node qs h = h

overdue_listed : (t : Times) (now q : ℕ) (nodes : List ℕ) → In q nodes → is_overdue (t.sending q) now ≡ true → In q (overdue t now nodes)
overdue_listed t now q [] h late = h
overdue_listed t now q (node ∷ nodes) (inl same) late =
    let here : is_overdue (t.sending node) now ≡ true = subst (λ (x : ℕ). is_overdue (t.sending x) now ≡ true) same late in
    subst (λ (b : Bool). In q (if b then node ∷ overdue t now nodes else overdue t now nodes)) (sym here) (inl same)
overdue_listed t now q (node ∷ nodes) (inr h) late = listed_still (is_overdue (t.sending node) now) q node (overdue t now nodes) (overdue_listed t now q nodes h late)

-- the first is the node, and is late; or it stands further on
first_or_rest : (t : Times) (now q node : ℕ) (qs : List ℕ) (b : Bool) → is_overdue (t.sending node) now ≡ b → In q (if b then node ∷ qs else qs) → (is_overdue (t.sending q) now ≡ true) ⊎ In q qs
first_or_rest t now q node qs true late (inl same) = inl (subst (λ (x : ℕ). is_overdue (t.sending x) now ≡ true) (sym same) late)
first_or_rest t now q node qs true late (inr h) = inr h
first_or_rest t now q node qs false late h = inr h

overdue_only : (t : Times) (now q : ℕ) (nodes : List ℕ) → In q (overdue t now nodes) → is_overdue (t.sending q) now ≡ true
overdue_only t now q [] h = absurd h
overdue_only t now q (node ∷ nodes) h = elim (first_or_rest t now q node (overdue t now nodes) (is_overdue (t.sending node) now) refl h) [
  | inl late ↦ late
  | inr rest ↦ overdue_only t now q nodes rest
]

-- ---- the moves

-- no call is pending to it
abbrev IsFree : ℕ → RaftServer → Times → Type 0
IsFree q p t = (p.memory.pending q ≡ None) × (t.sending q ≡ None)

-- the calls to these nodes have ended, and all else is as it was
record HaveEnded (qs : List ℕ) (p p2 : RaftServer) (t t2 : Times) : Type 0 where
  store : p2.store ≡ p.store
  memory : p2.memory ≡ record p.memory { pending = p2.memory.pending }
  times : t2 ≡ record t { sending = t2.sending }
  free : (q : ℕ) → IsFree q p t → IsFree q p2 t2
  ended : (q : ℕ) → In q qs → IsFree q p2 t2
  others : (q : ℕ) → (In q qs → ⊥) → (p2.memory.pending q ≡ p.memory.pending q) × (t2.sending q ≡ t.sending q)

-- one more call had ended before
first_ended : (node : ℕ) (qs : List ℕ) (p p2 : RaftServer) (t t2 : Times)
    → HaveEnded qs (record { store = p.store; memory = record p.memory { pending = at p.memory.pending node None } }) p2 (record t { sending = at t.sending node None }) t2 → HaveEnded (node ∷ qs) p p2 t t2
first_ended node qs p p2 t t2 rest = record {
  store = rest.store;
  memory = rest.memory;
  times = rest.times;
  free = λ q h. elim (eqb_tells q node) [
    | inl same ↦ here q same.1
    | inr differs ↦ rest.free q (at_other p.memory.pending node q None differs.1 ∙ h.0, at_other t.sending node q None differs.1 ∙ h.1)
  ];
  ended = λ q h. elim h [
    | inl same ↦ here q same
    | inr later ↦ rest.ended q later
  ];
  others = λ q h.
      let differs : q ≢ node = λ same. h (inl same) in
      let later = rest.others q (λ l. h (inr l)) in
      (later.0 ∙ at_other p.memory.pending node q None differs, later.1 ∙ at_other t.sending node q None differs);
}
  where
    here : (q : ℕ) → q ≡ node → IsFree q p2 t2
    here q same = rest.free q (at_here p.memory.pending node q None same, at_here t.sending node q None same)

module _ (members : List ℕ) (m n : ℕ) (given : HandedIn) where
  given_up : (qs : List ℕ) (p : RaftServer) (t : Times)
      → HaveEnded qs p (server_after_all members m n p (moves_of_expire qs)) t (times_after_all members m n given p (moves_of_expire qs) t)
  given_up [] p t = record { store = refl; memory = refl; times = refl; free = λ q h. h; ended = λ q h. absurd h; others = λ q h. (refl, refl) }
  given_up (node ∷ qs) p t =
      first_ended node qs p _ t _ (given_up qs (record { store = p.store; memory = record p.memory { pending = at p.memory.pending node None } }) (record t { sending = at t.sending node None }))

-- ---- a peer

-- its call is given up just where it is overdue
waits_young : (now : ℕ) (call : Option Waiting) (r r2 : Option Request) (s s2 : Option Sending) → Waits call r s
    → (r ≢ None → is_overdue s now ≡ true → (r2 ≡ None) × (s2 ≡ None)) → ((is_overdue s now ≡ true → ⊥) → (r2 ≡ r) × (s2 ≡ s))
    → Waits (young now call) r2 s2
waits_young now None None r2 None s2 waits late kept = let same = kept (λ h. cc h) in subst (λ x. Waits None x s2) (sym same.0) (subst (λ x. Waits None None x) (sym same.1) tt)
waits_young now None None r2 (Some s) s2 waits late kept = absurd waits
waits_young now None (Some r) r2 s s2 waits late kept = absurd waits
waits_young now (Some call) None r2 s s2 waits late kept = absurd waits
waits_young now (Some call) (Some r) r2 None s2 waits late kept = absurd waits
waits_young now (Some call) (Some r) r2 (Some s) s2 waits late kept = elim (cases_Bool (nat_le 1000 (now - call.sent))) [
  | inl old ↦
      let gone = late (λ h. cc h) (ap (λ moment. nat_le 1000 (now - moment)) waits.moment ∙ old) in
      subst (λ b. Waits (if b then None else Some call) r2 s2) (sym old) (subst (λ x. Waits None x s2) (sym gone.0) (subst (λ x. Waits None None x) (sym gone.1) tt))
  | inr new ↦
      let same = kept (λ h. cc (h, ap (λ moment. nat_le 1000 (now - moment)) waits.moment, new)) in
      subst (λ b. Waits (if b then None else Some call) r2 s2) (sym new) (subst (λ x. Waits (Some call) x s2) (sym same.0) (subst (λ x. Waits (Some call) (Some r) x) (sym same.1) waits))
]

-- only its call and the moment of it change
tells_expired : (now q : ℕ) (peer : Peer) (p p2 : RaftServer) (t t2 : Times) → Tells peer p t q
    → p2.memory ≡ record p.memory { pending = p2.memory.pending } → t2 ≡ record t { sending = t2.sending }
    → Waits (young now peer.call) (p2.memory.pending q) (t2.sending q) → Tells (expired now peer) p2 t2 q
tells_expired now q peer p p2 t t2 tells memory times waits =
    let role : p2.memory.role ≡ p.memory.role = ap (λ (x : Memory). x.role) memory in
    record {
      call = waits;
      voted = λ candidate. ap (λ (x : Memory). x.votes q) memory ∙ tells.voted (sym role ∙ candidate);
      answered = λ candidate. ap (λ (x : Times). x.answered q) times ∙ tells.answered (sym role ∙ candidate);
      next = λ leader. ap (λ (x : Memory). x.next q) memory ∙ tells.next (sym role ∙ leader);
      matched = λ leader. ap (λ (x : Memory). x.matched q) memory ∙ tells.matched (sym role ∙ leader);
      appended = λ leader. ap (λ (x : Times). x.appended q) times ∙ tells.appended (sym role ∙ leader);
    }

-- ---- the member

module _ (members : List ℕ) (now : ℕ) (state : Stored) (p : RaftServer) (t : Times) (raft raft2 : Raft) (nodes : List ℕ)
    (st : StandsFor raft members state p t) (listed : (q : ℕ) → q < 128 → p.memory.pending q ≢ None → In q nodes)
    (role : raft2.role ≡ raft.role) (told : raft2.told ≡ raft.told) (known : raft2.members ≡ raft.members) (since : raft2.since ≡ raft.since) (word : raft2.word ≡ raft.word) (waits : raft2.waits ≡ raft.waits)
    (peers : (q : ℕ) (d : Peer) → q < 128 → slice_index_or raft2.peers q d ≡ expired now (slice_index_or raft.peers q d)) where
  ended_stands : (p2 : RaftServer) (t2 : Times) → HaveEnded (overdue t now nodes) p p2 t t2 → StandsFor raft2 members state p2 t2
  ended_stands p2 t2 ended = record {
    store = ended.store ∙ st.store;
    role = ap (λ (x : Memory). x.role) ended.memory ∙ (st.role ∙ ap role_of (sym role));
    told = ap (λ (x : Memory). x.told) ended.memory ∙ (st.told ∙ sym told);
    known = λ other. ap (λ x. x.items) known ∙ st.known (λ follower. other (role ∙ follower));
    since = ap (λ (x : Times). x.since) ended.times ∙ (st.since ∙ sym since);
    word = ap (λ (x : Times). x.word) ended.times ∙ (st.word ∙ sym word);
    waits = ap (λ (x : Times). x.waits) ended.times ∙ (st.waits ∙ sym waits);
    peers = λ q d below. subst (λ (peer : Peer). Tells peer p2 t2 q) (sym (peers q d below))
        (tells_expired now q (slice_index_or raft.peers q d) p p2 t t2 (st.peers q d below) ended.memory ended.times
        (waits_young now (slice_index_or raft.peers q d).call (p.memory.pending q) (p2.memory.pending q) (t.sending q) (t2.sending q) (st.peers q d below).call
        (λ some late. ended.ended q (overdue_listed t now q nodes (listed q below some) late))
        (λ young. ended.others q (λ late. young (overdue_only t now q nodes late)))));
  }

  pub expired_stands : (m n : ℕ) (given : HandedIn)
      → StandsFor raft2 members state (server_after_all members m n p (moves_of_expire (overdue t now nodes))) (times_after_all members m n given p (moves_of_expire (overdue t now nodes)) t)
  expired_stands m n given = ended_stands _ _ (given_up members m n given (overdue t now nodes) p t)
