-- Node IDs of members, one after another.
use Rattle.std.proofs.Common.{length, ℕ, ◌≡◌, ◌≤◌, ◌↔◌, Bool, true, false, IsTrue, List, ◌∷◌, refl, inl, inr, subst, sym}
use Rattle.raft_model.specs.Members.{HasNoneTwice}
use Rattle.alloc_spec.specs.ClusterMembers.{AreMembers, AreNodes}

abbrev pub IsNode : ℕ → Type 0
IsNode n = (1 ≤ n) × (n ≤ 125)

false_not_true : IsTrue false → ⊥
false_not_true e = cc

more_nodes : (first : ℕ) (rest : List ℕ) → IsNode first → AreNodes rest → AreNodes (first ∷ rest)
more_nodes first rest node others n (inl e) = subst IsNode (sym e) node
more_nodes first rest node others n (inr stands) = others n stands

pub nodes_then : (ids rest : List ℕ) (first : ℕ) (is others : Bool) → ids ≡ first ∷ rest → is ≡ true → IsTrue is ↔ IsNode first
    → IsTrue others ↔ AreNodes rest → IsTrue others ↔ AreNodes ids
nodes_then ids rest first is others e is_true node tells = (
  λ true_. subst AreNodes (sym e) (more_nodes first rest (node.0 (subst IsTrue (sym is_true) refl)) (tells.0 true_)),
  λ all. tells.1 (λ n stands. subst AreNodes e all n (inr stands)),
)

pub nodes_else : (ids rest : List ℕ) (first : ℕ) (is : Bool) → ids ≡ first ∷ rest → IsTrue is ↔ IsNode first → is ≡ false
    → IsTrue is ↔ AreNodes ids
nodes_else ids rest first is e node not_ =
    (λ true_. absurd (false_not_true (subst IsTrue not_ true_)), λ all. node.1 (subst AreNodes e all first (inl refl)))

pub three_parts : (ids : List ℕ) (different : Bool) → (1 ≤ length ids) × (length ids ≤ 5) → AreNodes ids → IsTrue different ↔ HasNoneTwice ids
    → IsTrue different ↔ AreMembers ids
three_parts ids different count nodes once =
    (λ true_. record { some = count.0; few = count.1; nodes = nodes; once = once.0 true_ }, λ members. once.1 members.once)
