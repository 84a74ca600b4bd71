-- The decisions are what the relations of the moves say.
use Rattle.std.proofs.Common.{◌≡◌, ◌≢◌, ℕ, zero, suc, ◌+◌, ◌<◌, ◌≤◌, Bool, true, false, List, [], ◌∷◌, ◌++◌, length, refl, arith, sym, ◌∙◌, ap, subst, inl, inr, ◌⊎◌, Option, Some, None, take, get_or, Decides, ◌&&◌, ◌||◌, not}
use Rattle.std.specs.Prelude.{◌==◌, ◌↔◌, nat_le, nat_lt}
use Rattle.std.specs.Str.{bytes_eq}
use Rattle.std.proofs.lemmas.Bool.Decides.{eqb_tells}
use Rattle.std.proofs.lemmas.Slice.Eq.{bytes_eq-Decides}
use Rattle.can_frame.specs.declared.entry.Entry.{Entry}
use Rattle.can_frame.specs.Log.{AreDistinct, IsBlank, IsInjective, IsPair, IsReservation, IsWellFormed, blank, last_term, log_limit}
use Rattle.can_frame.specs.Zeros.{zeros}
use Rattle.raft_model.specs.Lists.{how_many}
use Rattle.raft_model.specs.Log.{term_at}
use Rattle.raft_model.specs.Messages.{Request}
use Rattle.raft_model.specs.Server.{Role, Store, RaftServer, quorum}
use Rattle.raft_model.specs.Server.Role.{Follower, Candidate, Leader}
use Rattle.raft_model.specs.Moves.{Verdict, MayGrant, IsGranted, HasPrevious, Adds, IsThere, IsRuled, IsCurrent, IsOutdated, IsJudged, with_term, MayPropose, CanCommit, IsCommitIndex, has_matched, is_leader}
use Rattle.raft_model.specs.Moves.Verdict.{Outdated, Refused, Held, Added}
use Rattle.raft_model.specs.Decisions.{is_blank, is_pair, is_reservation, is_well_formed, are_distinct, is_distinct_from_all, is_injective, is_free, grants, has_previous, is_there, may_add, rule_on_entry, is_current, verdict_on, may_propose, can_commit, greatest_to, commit_index}
use Rattle.raft_model.proofs.Apart.{some_same}
use Rattle.raft_model.proofs.Quorum.{tell}
use Rattle.raft_model.proofs.Whole.{lt_tells, le_tells}

cross : {A : Type 0} → false ≡ true → A
cross e = absurd (cc)

-- Tests and what they decide.

both : {a b : Bool} {P Q : Type 0} → Decides a P → Decides b Q → Decides (a && b) (P × Q)
both {a = true} {b = true} x y = (λ e. (x.0 refl, y.0 refl), λ h. refl)
both {a = true} {b = false} x y = (λ e. cross e, λ h. y.1 h.1)
both {a = false} x y = (λ e. cross e, λ h. x.1 h.0)

either : {a b : Bool} {P Q : Type 0} → Decides a P → Decides b Q → Decides (a || b) (P ⊎ Q)
either {a = true} x y = (λ e. inl (x.0 refl), λ h. refl)
either {a = false} x y = (λ e. inr (y.0 e), λ h. elim h [ inl p ↦ cross (x.1 p) | inr q ↦ y.1 q ])

never : {a : Bool} {P : Type 0} → Decides a P → Decides (not a) (P → ⊥)
never {a = true} x = (λ e. cross e, λ h. absurd (h (x.0 refl)))
never {a = false} x = (λ e p. cross (x.1 p), λ h. refl)

-- the first of two, or else the second
unless : {a b : Bool} {P Q : Type 0} → Decides a P → Decides b Q → Decides (a || b) ((P → ⊥) → Q)
unless {a = true} x y = (λ e n. absurd (n (x.0 refl)), λ h. refl)
unless {a = false} x y = (λ e n. y.0 e, λ h. y.1 (h (λ p. cross (x.1 p))))

told : {a : Bool} {P Q : Type 0} → (P → Q) → (Q → P) → Decides a P → Decides a Q
told f g x = (λ e. f (x.0 e), λ h. x.1 (g h))

pub refuted : {a : Bool} {P : Type 0} → Decides a P → a ≡ false → P → ⊥
refuted {a = true} x e p = absurd (cc)
refuted {a = false} x e p = cross (x.1 p)

less : (a b : ℕ) → Decides (nat_lt a b) (a < b)
less a b = elim (lt_tells a b) [ inl z ↦ (λ e. z.1, λ h. z.0) | inr z ↦ (λ e. cross (sym z.0 ∙ e), λ h. absurd (omega (arith, h, z.1))) ]

at_most : (a b : ℕ) → Decides (nat_le a b) (a ≤ b)
at_most a b = elim (le_tells a b) [ inl z ↦ (λ e. z.1, λ h. z.0) | inr z ↦ (λ e. cross (sym z.0 ∙ e), λ h. absurd (omega (arith, h, z.1))) ]

equal : (a b : ℕ) → Decides (a == b) (a ≡ b)
equal a b = elim (eqb_tells a b) [ inl z ↦ (λ e. z.1, λ h. z.0) | inr z ↦ (λ e. cross (sym z.0 ∙ e), λ h. absurd (z.1 h)) ]

-- Entries and logs.

blank_decided : (entry : Entry) → Decides (is_blank entry) (IsBlank entry)
blank_decided entry = both (equal entry.node 0) (bytes_eq-Decides entry.uid zeros)

reservation_decided : (entry : Entry) → Decides (is_reservation entry) (IsReservation entry)
reservation_decided entry = told (λ h. record { uid = h.0; least = h.1.0; most = h.1.1 }) (λ h. (h.uid, (h.least, h.most)))
    (both (bytes_eq-Decides entry.uid zeros) (both (at_most 1 entry.node) (at_most entry.node 125)))

pair_decided : (entry : Entry) → Decides (is_pair entry) (IsPair entry)
pair_decided entry = told (λ h. record { uid = h.0; least = h.1.0; most = h.1.1 }) (λ h. (h.uid, (h.least, h.most)))
    (both (never (bytes_eq-Decides entry.uid zeros)) (both (at_most 1 entry.node) (at_most entry.node 125)))

well_formed_decided : (entry : Entry) → Decides (is_well_formed entry) (IsWellFormed entry)
well_formed_decided entry = either (blank_decided entry) (either (reservation_decided entry) (pair_decided entry))

distinct_decided : (a b : Entry) → Decides (are_distinct a b) (AreDistinct a b)
distinct_decided a b = told to from (unless (either (blank_decided a) (blank_decided b))
    (both (never (equal a.node b.node)) (either (bytes_eq-Decides a.uid zeros) (never (bytes_eq-Decides a.uid b.uid)))))
  where
    to : (((IsBlank a ⊎ IsBlank b) → ⊥) → (a.node ≢ b.node) × ((a.uid ≡ zeros) ⊎ (a.uid ≡ b.uid → ⊥))) → AreDistinct a b
    to h = record {
      nodes = λ na nb. (h (λ o. elim o [ inl x ↦ na x | inr y ↦ nb y ])).0;
      uids = λ na nb e. elim (h (λ o. elim o [ inl x ↦ na x | inr y ↦ nb y ])).1 [ inl z ↦ z | inr n ↦ absurd (n e) ];
    }

    by_test : (t : Bool) → Decides t (a.uid ≡ b.uid) → (a.uid ≡ b.uid → a.uid ≡ zeros) → (a.uid ≡ zeros) ⊎ (a.uid ≡ b.uid → ⊥)
    by_test true d f = inl (f (d.0 refl))
    by_test false d f = inr (refuted d refl)

    from : AreDistinct a b → ((IsBlank a ⊎ IsBlank b) → ⊥) → (a.node ≢ b.node) × ((a.uid ≡ zeros) ⊎ (a.uid ≡ b.uid → ⊥))
    from h n = (
      h.nodes (λ x. n (inl x)) (λ y. n (inr y)),
      by_test (bytes_eq a.uid b.uid) (bytes_eq-Decides a.uid b.uid) (λ e. h.uids (λ x. n (inl x)) (λ y. n (inr y)) e),
    )

distinct_from_all_decided : (entry : Entry) (log : List Entry)
    → Decides (is_distinct_from_all entry log) ((j : ℕ) → j < length log → AreDistinct entry (get_or log j (blank 0)))
distinct_from_all_decided entry [] = (λ e j b. absurd (omega (arith, b)), λ h. refl)
distinct_from_all_decided entry (first ∷ rest) = told to from (both (distinct_decided entry first) (distinct_from_all_decided entry rest))
  where
    to : AreDistinct entry first × ((j : ℕ) → j < length rest → AreDistinct entry (get_or rest j (blank 0))) → (j : ℕ)
        → j < length (first ∷ rest) → AreDistinct entry (get_or (first ∷ rest) j (blank 0))
    to h zero b = h.0
    to h (suc j) b = h.1 j (omega (arith, b))

    from : ((j : ℕ) → j < length (first ∷ rest) → AreDistinct entry (get_or (first ∷ rest) j (blank 0)))
        → AreDistinct entry first × ((j : ℕ) → j < length rest → AreDistinct entry (get_or rest j (blank 0)))
    from h = (h 0 (omega arith), λ j b. h (suc j) (omega (arith, b)))

injective_decided : (log : List Entry) → Decides (is_injective log) (IsInjective log)
injective_decided [] = (λ e i j b c. absurd (omega (arith, c)), λ h. refl)
injective_decided (first ∷ rest) = told to from (both (distinct_from_all_decided first rest) (injective_decided rest))
  where
    to : ((j : ℕ) → j < length rest → AreDistinct first (get_or rest j (blank 0))) × IsInjective rest → IsInjective (first ∷ rest)
    to h i zero b c = absurd (omega (arith, b))
    to h zero (suc j) b c = h.0 j (omega (arith, c))
    to h (suc i) (suc j) b c = h.1 i j (omega (arith, b)) (omega (arith, c))

    from : IsInjective (first ∷ rest) → ((j : ℕ) → j < length rest → AreDistinct first (get_or rest j (blank 0))) × IsInjective rest
    from h = (λ j b. h 0 (suc j) (omega arith) (omega (arith, b)), λ i j b c. h (suc i) (suc j) (omega (arith, b)) (omega (arith, c)))

-- Votes.

free_decided : (vote : Option ℕ) (candidate : ℕ) → Decides (is_free vote candidate) ((vote ≡ None) ⊎ (vote ≡ Some candidate))
free_decided None candidate = (λ e. inl refl, λ h. refl)
free_decided (Some vote) candidate = told (λ e. inr (ap (λ (v : ℕ). Some v) e)) same (equal vote candidate)
  where
    same : (Some vote ≡ None) ⊎ (Some vote ≡ Some candidate) → vote ≡ candidate
    same (inl e) = absurd (cc)
    same (inr e) = cc

grants_decided : (store : Store) (request : Request) → Decides (grants store request) (MayGrant store request)
grants_decided store request = told (λ h. record { own_term = h.0; free = h.1.0; not_above = h.1.1 })
    (λ h. (h.own_term, (h.free, h.not_above)))
    (both (equal request.term store.term)
    (both (free_decided store.vote request.from)
    (either (less (last_term store.log) request.previous_term)
    (both (equal (last_term store.log) request.previous_term) (at_most (length store.log) request.previous)))))

pub granted : (store : Store) (request : Request) → IsGranted store request (grants store request)
granted store request = by_test (grants store request) (grants_decided store request)
  where
    by_test : (test : Bool) → Decides test (MayGrant store request) → IsGranted store request test
    by_test true d = d.0 refl
    by_test false d = refuted d refl

pub one_grant : (store : Store) (request : Request) (answer : Bool) → IsGranted store request answer → answer ≡ grants store request
one_grant store request true x = sym ((grants_decided store request).1 x)
one_grant store request false x = by_test (grants store request) (grants_decided store request)
  where
    by_test : (test : Bool) → Decides test (MayGrant store request) → false ≡ test
    by_test true d = absurd (x (d.0 refl))
    by_test false d = refl

-- Append requests.

previous_decided : (store : Store) (request : Request) → Decides (has_previous store request) (HasPrevious store request)
previous_decided store request = told (λ h. record { previous = h.0; previous_term = h.1 }) (λ h. (h.previous, h.previous_term))
    (both (at_most request.previous (length store.log)) (equal (term_at store.log request.previous) request.previous_term))

there_decided : (store : Store) (request : Request) (entry : Entry) → Decides (is_there store request entry) (IsThere store request entry)
there_decided store request entry = both (less request.previous (length store.log))
    (equal (term_at store.log (request.previous + 1)) entry.term)

-- what is asked of an entry that is not there
abbrev MayAdd : Store → Request → Entry → Type 0
MayAdd store request entry = (store.commit < request.previous + 1)
    × (IsWellFormed entry
    × ((term_at store.log request.previous ≤ entry.term)
    × ((entry.term ≤ request.term) × IsInjective (take request.previous store.log ++ (entry ∷ [])))))

add_decided : (store : Store) (request : Request) (entry : Entry) → Decides (may_add store request entry) (MayAdd store request entry)
add_decided store request entry = both (less store.commit (request.previous + 1))
    (both (well_formed_decided entry)
    (both (at_most (term_at store.log request.previous) entry.term)
    (both (at_most entry.term request.term) (injective_decided (take request.previous store.log ++ (entry ∷ []))))))

leader_decided : (role : Role) → Decides (is_leader role) (role ≡ Leader)
leader_decided Follower = (λ e. cross e, λ h. absurd (cc))
leader_decided Candidate = (λ e. cross e, λ h. absurd (cc))
leader_decided Leader = (λ e. refl, λ h. refl)

current_decided : (server : RaftServer) (request : Request) → Decides (is_current server request) (IsCurrent server request)
current_decided server request = either (less server.store.term request.term)
    (both (equal request.term server.store.term) (never (leader_decided server.memory.role)))

-- a verdict that the rules on log and entry give is a verdict on the request, where its term is current
judged_by_rules : (server : RaftServer) (request : Request) (verdict : Verdict) → IsCurrent server request
    → IsRuled (with_term server.store request.term) request verdict → IsJudged server request verdict
judged_by_rules server request Outdated current ruled = elim ruled [ ]
judged_by_rules server request Refused current ruled = (current, ruled)
judged_by_rules server request Held current ruled = (current, ruled)
judged_by_rules server request (Added entry) current ruled = (current, ruled)

-- of two that do not both hold one fails
one_fails : {a : Bool} {P Q : Type 0} → Decides a P → (P × Q → ⊥) → (P → ⊥) ⊎ (Q → ⊥)
one_fails {a = true} x n = inr (λ q. n (x.0 refl, q))
one_fails {a = false} x n = inl (refuted x refl)

bad_entry : (store : Store) (request : Request) (entry : Entry) → (MayAdd store request entry → ⊥) →
    (request.previous + 1 ≤ store.commit)
    ⊎ ((IsWellFormed entry → ⊥)
    ⊎ ((entry.term < term_at store.log request.previous)
    ⊎ ((request.term < entry.term) ⊎ (IsInjective (take request.previous store.log ++ (entry ∷ [])) → ⊥))))
bad_entry store request entry n = elim (one_fails (less store.commit (request.previous + 1)) n) [
  | inl a ↦ inl (omega (arith, a))
  | inr n1 ↦ elim (one_fails (well_formed_decided entry) n1) [
    | inl a ↦ inr (inl a)
    | inr n2 ↦ elim (one_fails (at_most (term_at store.log request.previous) entry.term) n2) [
      | inl a ↦ inr (inr (inl (omega (arith, a))))
      | inr n3 ↦
          elim (one_fails (at_most entry.term request.term) n3)
          [ inl a ↦ inr (inr (inr (inl (omega (arith, a))))) | inr n4 ↦ inr (inr (inr (inr n4))) ]
    ]
  ]
]

ruled_on_entry : (store : Store) (request : Request) (carried : Option Entry) → request.entry ≡ carried → HasPrevious store request
    → IsRuled store request (rule_on_entry store request carried)
ruled_on_entry store request None e fits = record { fits = fits; has = inl e }
ruled_on_entry store request (Some entry) e fits = elim (tell (nat_lt log_limit (request.previous + 1))) [
  | inl a ↦ rw (a) (inr (entry, e, inl ((less log_limit (request.previous + 1)).0 a)))
  | inr a ↦ rw (a) (elim (tell (is_there store request entry)) [
    | inl b ↦ rw (b) (record { fits = fits; has = inr (entry, e, room a, (there_decided store request entry).0 b) })
    | inr b ↦ rw (b) (elim (tell (may_add store request entry)) [
      | inl c ↦ rw (c) (added a (refuted (there_decided store request entry) b) ((add_decided store request entry).0 c))
      | inr c ↦
          rw (c)
          (inr (
            entry,
            e,
            inr (refuted (there_decided store request entry) b, bad_entry store request entry (refuted (add_decided store request entry) c)),
          ))
    ])
  ])
]
  where
    room : nat_lt log_limit (request.previous + 1) ≡ false → request.previous + 1 ≤ log_limit
    room a = let n : log_limit < request.previous + 1 → ⊥ = refuted (less log_limit (request.previous + 1)) a in omega (arith, n)

    added : nat_lt log_limit (request.previous + 1) ≡ false → (IsThere store request entry → ⊥) → MayAdd store request entry
        → Adds store request entry
    added a not_there h = record {
      fits = fits;
      carried = e;
      room = room a;
      not_there = not_there;
      after_commit = h.0;
      well_formed = h.1.0;
      rises = h.1.1.0;
      below = h.1.1.1.0;
      injective = h.1.1.1.1;
    }

outdated : (server : RaftServer) (request : Request) → (IsCurrent server request → ⊥) → IsOutdated server request
outdated server request n = elim (lt_tells request.term server.store.term) [
  | inl z ↦ inl z.1
  | inr z ↦ elim (eqb_tells request.term server.store.term) [
    | inr k ↦ absurd (n (inl (omega (arith, z.1, k.1))))
    | inl k ↦ inr (k.1, is_leader_if server.memory.role (λ e. n (inr (k.1, e))))
  ]
]
  where
    is_leader_if : (role : Role) → ((role ≢ Leader) → ⊥) → role ≡ Leader
    is_leader_if Follower h = absurd (h (λ e. cc))
    is_leader_if Candidate h = absurd (h (λ e. cc))
    is_leader_if Leader h = refl

pub judged : (server : RaftServer) (request : Request) → IsJudged server request (verdict_on server request)
judged server request = elim (tell (is_current server request)) [
  | inr a ↦ rw (a) (outdated server request (refuted (current_decided server request) a))
  | inl a ↦ rw (a) (elim (tell (has_previous (with_term server.store request.term) request)) [
    | inr b ↦
        rw (b) ((current_decided server request).0 a, inl (refuted (previous_decided (with_term server.store request.term) request) b))
    | inl b ↦
        rw (b)
        (judged_by_rules server request (rule_on_entry (with_term server.store request.term) request request.entry)
        ((current_decided server request).0 a)
        (ruled_on_entry (with_term server.store request.term) request request.entry refl
        ((previous_decided (with_term server.store request.term) request).0 b)))
  ])
]

-- Proposals.

propose_decided : (server : RaftServer) (entry : Entry) → Decides (may_propose server entry) (MayPropose server entry)
propose_decided server entry = told
    (λ h. record {
      leads = h.0;
      room = h.1.0;
      own_term = h.1.1.0;
      kind = h.1.1.1.0;
      injective = h.1.1.1.1;
    })
    (λ h. (h.leads, (h.room, (h.own_term, (h.kind, h.injective)))))
    (both (leader_decided server.memory.role)
    (both (less (length server.store.log) log_limit)
    (both (equal entry.term server.store.term)
    (both (well_formed_decided entry) (injective_decided (server.store.log ++ (entry ∷ [])))))))

pub proposal : (server : RaftServer) (entry : Entry) → (may_propose server entry ≡ true) ↔ MayPropose server entry
proposal server entry = propose_decided server entry

-- Commit.

can_commit_decided : (members : List ℕ) (member : ℕ) (server : RaftServer) (index : ℕ)
    → Decides (can_commit members member server index) (CanCommit members member server index)
can_commit_decided members member server index = told (λ h. record { above = h.0; inside = h.1.0; own_term = h.1.1.0; held = h.1.1.1 })
    (λ h. (h.above, (h.inside, (h.own_term, h.held))))
    (both (less server.store.commit index)
    (both (at_most index (length server.store.log))
    (both (equal (term_at server.store.log index) server.store.term)
    (at_most (quorum members) (how_many (has_matched member server index) members)))))

-- the greatest that passes
pub record IsGreatest (limit : ℕ) (test : ℕ → Bool) (found : Option ℕ) : Type 0 where
  pub passes : (k : ℕ) → found ≡ Some k → test k ≡ true
  pub greatest : (k : ℕ) → found ≡ Some k → (i : ℕ) → i ≤ limit → test i ≡ true → i ≤ k
  pub none : found ≡ None → (i : ℕ) → i ≤ limit → test i ≡ false

greatest : (limit : ℕ) (test : ℕ → Bool) → IsGreatest limit test (greatest_to limit test)
greatest zero test = elim (tell (test zero)) [
  | inl a ↦
      rw (a)
      (record
      { passes = λ k e. subst (λ (i : ℕ). test i ≡ true) (some_same _ _ e) a; greatest = λ k e i b p. omega (arith, b); none = λ e. absurd (cc) })
  | inr a ↦ rw (a) (record {
    passes = λ k e. absurd (cc);
    greatest = λ k e. absurd (cc);
    none = λ e i b. let z : zero ≡ i = omega (arith, b) in subst (λ (j : ℕ). test j ≡ false) z a;
  })
]
greatest (suc limit) test = elim (tell (test (suc limit))) [
  | inl a ↦ rw (a) (record {
    passes = λ k e. subst (λ (i : ℕ). test i ≡ true) (some_same _ _ e) a;
    greatest = λ k e i b p. omega (arith, b, some_same (suc limit) k e);
    none = λ e. absurd (cc);
  })
  | inr a ↦ let below : IsGreatest limit test (greatest_to limit test) = greatest limit test in rw (a) (record {
    passes = below.passes;
    greatest = λ k e i b p. elim (eqb_tells i (suc limit)) [
      | inl z ↦ cross (sym a ∙ subst (λ (j : ℕ). test j ≡ true) z.1 p)
      | inr z ↦ below.greatest k e i (omega (arith, b, z.1)) p
    ];
    none = λ e i b. elim (eqb_tells i (suc limit)) [
      | inl z ↦ subst (λ (j : ℕ). test j ≡ false) (sym z.1) a
      | inr z ↦ below.none e i (omega (arith, b, z.1))
    ];
  })
]

greatest_index : (members : List ℕ) (member : ℕ) (server : RaftServer)
    → IsGreatest (length server.store.log) (can_commit members member server) (commit_index members member server)
greatest_index members member server = greatest (length server.store.log) (can_commit members member server)

pub commit : (members : List ℕ) (member : ℕ) (server : RaftServer) (index : ℕ) → commit_index members member server ≡ Some index
    → IsCommitIndex members member server index
commit members member server index e = record {
  can = (can_commit_decided members member server index).0 ((greatest_index members member server).passes index e);
  greatest = λ place can. (greatest_index members member server).greatest index e place can.inside
      ((can_commit_decided members member server place).1 can);
}

pub no_commit : (members : List ℕ) (member : ℕ) (server : RaftServer) → commit_index members member server ≡ None → (index : ℕ)
    → CanCommit members member server index → ⊥
no_commit members member server e index can = cross
    (sym ((greatest_index members member server).none e index can.inside) ∙ (can_commit_decided members member server index).1 can)

pub one_commit : (members : List ℕ) (member : ℕ) (server : RaftServer) (index : ℕ) → IsCommitIndex members member server index
    → commit_index members member server ≡ Some index
one_commit members member server index is = by_answer (commit_index members member server) refl
  where
    by_answer : (answer : Option ℕ) → commit_index members member server ≡ answer → answer ≡ Some index
    by_answer None e = absurd (no_commit members member server e index is.can)
    by_answer (Some found) e =
        let other : IsCommitIndex members member server found = commit members member server found e in
        let same : found ≡ index = omega (arith, is.greatest found other.can, other.greatest index is.can) in
        ap (λ (i : ℕ). Some i) same
