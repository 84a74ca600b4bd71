-- A list of members, as it is tested and as it is handed in.
use Rattle.std.proofs.Common.{◌≡◌, ℕ, ◌≤◌, Bool, true, List, [], ◌∷◌, length, take, sym, ap, ◌∙◌, arith, inl, inr, take_all}
use Rattle.std.specs.Prelude.{◌==◌, ◌↔◌, ◌||◌, IsTrue, min}
use Rattle.std.specs.List.{list_any}
use Rattle.std.proofs.lemmas.Bool.Decides.{eqb_tells, leb_tells}
use Rattle.alloc_spec.specs.Rules.{IsToldAll, rules_by}
use Rattle.alloc_spec.specs.ClusterMembers.{AreMembers}
use Rattle.raft_model.specs.Lists.{In}

is_in : (xs : List ℕ) (x : ℕ) → list_any (λ y. y == x) xs ≡ true → In x xs
is_in [] x e = absurd (cc (e))
is_in (y ∷ ys) x e = elim (eqb_tells y x) [
  | inl same ↦ inl (sym same.1)
  | inr apart ↦ inr (is_in ys x (ap (λ (b : Bool). b || list_any (λ z. z == x) ys) (sym apart.0) ∙ e))
]

is_found : (xs : List ℕ) (x : ℕ) → In x xs → list_any (λ y. y == x) xs ≡ true
is_found [] x i = absurd i
is_found (y ∷ ys) x i = elim (eqb_tells y x) [
  | inl same ↦ ap (λ (b : Bool). b || list_any (λ z. z == x) ys) same.0
  | inr apart ↦ elim i [
    | inl e ↦ absurd (apart.1 (sym e))
    | inr j ↦ ap (λ (b : Bool). b || list_any (λ z. z == x) ys) apart.0 ∙ is_found ys x j
  ]
]

pub among : (xs : List ℕ) (x : ℕ) (b : Bool) → b ≡ list_any (λ y. y == x) xs → IsTrue b ↔ In x xs
among xs x b e = (λ is. is_in xs x (sym e ∙ is), λ i. e ∙ is_found xs x i)

-- members of a cluster of this size
pub told_all : (members : List ℕ) (me size : ℕ) (b : Bool) → length members ≡ size → In me members → IsTrue b ↔ AreMembers members → 1 ≤ size → size ≤ 5 → IsTrue b ↔ IsToldAll me (rules_by size members)
told_all members me size b all own is some five = (
  λ t. let m = is.0 t in record { own = own; nodes = m.nodes; once = m.once; all = all },
  λ told. is.1 (record { some = omega (arith, all, some); few = omega (arith, all, five); nodes = told.nodes; once = told.once }),
)

-- of eight at most eight are taken
pub first_of_eight : (count : ℕ) (xs : List ℕ) → length xs ≡ 8 → take (min count 8) xs ≡ take count xs
first_of_eight count xs eight = elim (leb_tells count 8) [
  | inl few ↦ ap (λ (n : ℕ). take n xs) (omega (arith, few.1))
  | inr many ↦ take_all (min count 8) xs (omega (arith, many.1, eight)) ∙ sym (take_all count xs (omega (arith, many.1, eight)))
]
