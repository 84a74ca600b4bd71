-- The others of a group, which with one of them are a quorum; and that one member alone is none.
use Rattle.std.proofs.Common.{◌≡◌, ◌≢◌, ℕ, ◌≤◌, arith, Bool, true, false, List, [], ◌∷◌, length, refl, sym, ◌∙◌, ap, subst, inl, inr}
use Rattle.std.specs.Prelude.{◌==◌, ◌||◌, nat_le, if◌then◌else◌}
use Rattle.std.proofs.lemmas.Bool.Decides.{eqb_tells}
use Rattle.raft_model.specs.Lists.{In, any, how_many}
use Rattle.raft_model.specs.Members.{HasNoneTwice}
use Rattle.raft_model.specs.Moves.Leading.{has_matched}
use Rattle.raft_model.specs.Server.{RaftServer, quorum}
use Rattle.raft_model.proofs.Quorum.{count_grows, count_step, tell}
use Rattle.alloc_spec_laws.proofs.Choices.{le_true}
use Rattle.service_calm.specs.Calm.{Device as OfDevice, Member as OfMember, Party}
use Rattle.service_candidate.specs.Wins.{is_of}
use Rattle.service_leader.specs.Entries.{is_one_of}

-- ---- one alone

-- where none of them passes, none is counted
none_counted : (test : ℕ → Bool) (xs : List ℕ) → ((y : ℕ) → In y xs → test y ≡ true → ⊥) → how_many test xs ≤ 0
none_counted test [] none = omega arith
none_counted test (x ∷ xs) none = elim (tell (test x)) [
  | inl t ↦ absurd (none x (inl refl) t)
  | inr f ↦ let more = none_counted test xs (λ y i. none y (inr i)) in let e = count_step test x xs false f in omega (arith, more, e)
]

-- where one node alone passes, one is counted at most
pub at_most_one : (test : ℕ → Bool) (me : ℕ) → ((p : ℕ) → test p ≡ true → p ≡ me) → (xs : List ℕ) → HasNoneTwice xs → how_many test xs ≤ 1
at_most_one test me only [] once = omega arith
at_most_one test me only (x ∷ xs) once = elim (tell (test x)) [
  | inl t ↦
      let none = none_counted test xs (λ y i own. once.0 (subst (λ (p : ℕ). In p xs) (only y own ∙ sym (only x t)) i)) in
      let e = count_step test x xs true t in omega (arith, none, e)
  | inr f ↦ let more = at_most_one test me only xs once.1 in let e = count_step test x xs false f in omega (arith, more, e)
]

-- a leader that knows of no place of another one is not heard
pub knows_none : (me : ℕ) (server : RaftServer) (count : ℕ) → 1 ≤ count → ((m : ℕ) → server.memory.matched m ≡ 0) → (p : ℕ)
    → has_matched me server count p ≡ true → p ≡ me
knows_none me server count some none p e = elim (eqb_tells p me) [
  | inl z ↦ z.1
  | inr z ↦
      let low = le_true count (server.memory.matched p) (sym (ap (λ (b : Bool). if b then true else nat_le count (server.memory.matched p)) z.0) ∙ e) in
      let zero_there = none p in absurd (omega (arith, some, low, zero_there))
]

-- ---- the others of a group

abbrev pub others_in : List Party → (c : ℕ) → List ℕ
others_in [] c = []
others_in (OfMember m ∷ group) c = if m == c then others_in group c else m ∷ others_in group c
others_in (OfDevice a ∷ group) c = others_in group c

pub apart_in : (group : List Party) (c m : ℕ) → In m (others_in group c) → In (OfMember m) group × (m ≢ c)
apart_in [] c m i = absurd i
apart_in (OfMember p ∷ group) c m i = elim (eqb_tells p c) [
  | inl z ↦
      let more = apart_in group c m (subst (λ (b : Bool). In m (if b then others_in group c else p ∷ others_in group c)) z.0 i) in
      (inr more.0, more.1)
  | inr z ↦ elim (subst (λ (b : Bool). In m (if b then others_in group c else p ∷ others_in group c)) z.0 i) [
    | inl e ↦ (inl (ap OfMember e), λ same. z.1 (sym e ∙ same))
    | inr j ↦ let more = apart_in group c m j in (inr more.0, more.1)
  ]
]
apart_in (OfDevice a ∷ group) c m i = let more = apart_in group c m i in (inr more.0, more.1)

any_other : (group : List Party) (c p : ℕ) → p ≢ c → is_of group p ≡ true → any (λ other. other == p) (others_in group c) ≡ true
any_other [] c p differs e = absurd (cc (e))
any_other (OfMember m ∷ group) c p differs e = elim (eqb_tells m p) [
  | inl same ↦ elim (eqb_tells m c) [
    | inl z ↦ absurd (differs (sym same.1 ∙ z.1))
    | inr z ↦ ap (λ (b : Bool). any (λ other. other == p) (if b then others_in group c else m ∷ others_in group c)) z.0
        ∙ ap (λ (b : Bool). if b then true else any (λ other. other == p) (others_in group c)) same.0
  ]
  | inr other ↦
      let more = any_other group c p differs (sym (ap (λ (b : Bool). b || is_of group p) other.0) ∙ e) in
      elim (eqb_tells m c) [
        | inl z ↦ ap (λ (b : Bool). any (λ other. other == p) (if b then others_in group c else m ∷ others_in group c)) z.0 ∙ more
        | inr z ↦ ap (λ (b : Bool). any (λ other. other == p) (if b then others_in group c else m ∷ others_in group c)) z.0
            ∙ (ap (λ (b : Bool). if b then true else any (λ other. other == p) (others_in group c)) other.0 ∙ more)
      ]
]
any_other (OfDevice a ∷ group) c p differs e = any_other group c p differs e

-- with the others it is a quorum, where the group is one
pub as_many : (group : List Party) (c : ℕ) (ids : List ℕ) → quorum ids ≤ how_many (is_of group) ids → quorum ids ≤ how_many (is_one_of c (others_in group c)) ids
as_many group c ids many = let more = count_grows (is_of group) (is_one_of c (others_in group c)) ids is_one in omega (arith, many, more)
  where
    is_one : (p : ℕ) → is_of group p ≡ true → is_one_of c (others_in group c) p ≡ true
    is_one p e = elim (eqb_tells p c) [
      | inl z ↦ ap (λ (b : Bool). b || any (λ other. other == p) (others_in group c)) z.0
      | inr z ↦ ap (λ (b : Bool). b || any (λ other. other == p) (others_in group c)) z.0 ∙ any_other group c p z.1 e
    ]

-- one alone is no quorum of two or more
pub not_alone : (c : ℕ) (ids : List ℕ) → HasNoneTwice ids → 2 ≤ length ids → quorum ids ≤ how_many (is_one_of c []) ids → ⊥
not_alone c ids once two many = let few = at_most_one (is_one_of c []) c only ids once in absurd (omega (arith, two, many, few))
  where
    only : (p : ℕ) → is_one_of c [] p ≡ true → p ≡ c
    only p e = elim (eqb_tells p c) [
      | inl z ↦ z.1
      | inr z ↦ absurd (cc (sym (ap (λ (b : Bool). b || false) z.0) ∙ e))
    ]
