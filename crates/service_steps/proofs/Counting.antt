-- Counts of members.
use Rattle.std.proofs.Common.{◌≡◌, ◌≢◌, ℕ, ◌+◌, ◌≤◌, Bool, true, false, List, [], ◌∷◌, length, inl, inr, refl, sym, ◌∙◌, ap, subst, arith}
use Rattle.std.specs.Prelude.{if◌then◌else◌}
use Rattle.std.proofs.lemmas.Bool.Decides.{eqb_tells, leb_tells}
use Rattle.raft_model.specs.Lists.{In, how_many}
use Rattle.raft_model.specs.Members.{HasNoneTwice}
use Rattle.raft_model.specs.Moves.Elections.{has_quorum, own_vote}
use Rattle.raft_model.specs.Server.{quorum}
use Rattle.raft_model.proofs.Quorum.{count_step}

-- the list without the place at which x stands
abbrev without : (x : ℕ) (ys : List ℕ) → In x ys → List ℕ
without x [] i = elim i [ ]
without x (y ∷ ys) (inl e) = ys
without x (y ∷ ys) (inr i) = y ∷ without x ys i

without_count : (test : ℕ → Bool) (x : ℕ) (ys : List ℕ) (i : In x ys)
    → how_many test ys ≡ (if test x then 1 else 0) + how_many test (without x ys i)
without_count test x [] i = elim i [ ]
without_count test x (y ∷ ys) (inl e) = ap (λ (z : ℕ). (if test z then 1 else 0) + how_many test ys) (sym e)
without_count test x (y ∷ ys) (inr i) = omega (arith, without_count test x ys i)

still_there : (x z : ℕ) (ys : List ℕ) (i : In x ys) → z ≢ x → In z ys → In z (without x ys i)
still_there x z [] i n j = elim i [ ]
still_there x z (y ∷ ys) (inl e) n (inl d) = absurd (n (d ∙ sym e))
still_there x z (y ∷ ys) (inl e) n (inr j) = j
still_there x z (y ∷ ys) (inr i) n (inl d) = inl d
still_there x z (y ∷ ys) (inr i) n (inr j) = inr (still_there x z ys i n j)

-- members that all pass a test, none twice, are counted
pub all_counted : (group members : List ℕ) (test : ℕ → Bool) → HasNoneTwice group → ((n : ℕ) → In n group → In n members)
    → ((n : ℕ) → In n group → test n ≡ true) → length group ≤ how_many test members
all_counted [] members test once listed passes = omega arith
all_counted (x ∷ xs) members test once listed passes =
    let here : In x members = listed x (inl refl) in
    let rest : length xs ≤ how_many test (without x members here)
    = all_counted xs (without x members here) test once.1
    (λ n i. still_there x n members here (λ e. once.0 (subst (λ (m : ℕ). In m xs) e i)) (listed n (inr i))) (λ n i. passes n (inr i)) in
    let all : how_many test members ≡ 1 + how_many test (without x members here)
    = without_count test x members here ∙ ap (λ (b : Bool). (if b then 1 else 0) + how_many test (without x members here)) (passes x (inl refl)) in
    omega (arith, rest, all)

pub is_quorum : (members : List ℕ) (votes : ℕ → Bool) → quorum members ≤ how_many votes members → has_quorum members votes ≡ true
is_quorum members votes h = elim (leb_tells (quorum members) (how_many votes members)) [ inl z ↦ z.0 | inr z ↦ absurd (omega (arith, z.1, h)) ]

-- ---- a member that is a quorum alone has no peers

nobody : (me : ℕ) (xs : List ℕ) → (In me xs → ⊥) → how_many (own_vote me) xs ≡ 0
nobody me [] none = refl
nobody me (x ∷ xs) none = elim (eqb_tells x me) [
  | inl z ↦ absurd (none (inl (sym z.1)))
  | inr z ↦ omega (arith, count_step (own_vote me) x xs false z.0, nobody me xs (λ i. none (inr i)))
]

once_at_most : (me : ℕ) (xs : List ℕ) → HasNoneTwice xs → how_many (own_vote me) xs ≤ 1
once_at_most me [] once = omega arith
once_at_most me (x ∷ xs) once = elim (eqb_tells x me) [
  | inl z ↦ omega (arith, count_step (own_vote me) x xs true z.0, nobody me xs (λ i. once.0 (subst (λ (n : ℕ). In n xs) (sym z.1) i)))
  | inr z ↦ omega (arith, count_step (own_vote me) x xs false z.0, once_at_most me xs once.1)
]

two_at_least : (a b : ℕ) (xs : List ℕ) → In a xs → In b xs → a ≢ b → 2 ≤ length xs
two_at_least a b [] i j n = elim i [ ]
two_at_least a b (x ∷ []) (inl e) (inl d) n = absurd (n (e ∙ sym d))
two_at_least a b (x ∷ []) (inl e) (inr j) n = absurd j
two_at_least a b (x ∷ []) (inr i) j n = absurd i
two_at_least a b (x ∷ y ∷ xs) i j n = omega arith

pub no_peers : (me other : ℕ) (members : List ℕ) → HasNoneTwice members → In me members → In other members → other ≢ me
    → has_quorum members (own_vote me) ≡ true → ⊥
no_peers me other members once here there n q = elim (leb_tells (quorum members) (how_many (own_vote me) members)) [
  | inl z ↦ omega (arith, z.1, once_at_most me members once, two_at_least other me members there here n)
  | inr z ↦ absurd (cc (q, z.0))
]
