-- The members of a soak may be those of a cluster.
use Rattle.std.proofs.Common.{◌≡◌, ◌≤◌, ◌<◌, ℕ, zero, suc, List, [], ◌∷◌, length, take, inl, inr, lit<, arith}
use Rattle.raft_model.specs.Lists.{In}
use Rattle.raft_model.specs.Members.{HasNoneTwice}
use Rattle.alloc_spec.specs.ClusterMembers.{AreMembers}
use Rattle.cmd_soak.specs.Rounds.{members}

in_take : (n count : ℕ) (ids : List ℕ) → In n (take count ids) → In n ids
in_take n zero ids here = absurd here
in_take n (suc count) [] here = absurd here
in_take n (suc count) (id ∷ ids) (inl e) = inl e
in_take n (suc count) (id ∷ ids) (inr here) = inr (in_take n count ids here)

once_take : (count : ℕ) (ids : List ℕ) → HasNoneTwice ids → HasNoneTwice (take count ids)
once_take zero ids once = tt
once_take (suc count) [] once = tt
once_take (suc count) (id ∷ ids) once = (λ here. once.0 (in_take id count ids here), once_take count ids once.1)

length_take : (count : ℕ) (ids : List ℕ) → count ≤ length ids → length (take count ids) ≡ count
length_take zero ids h = omega arith
length_take (suc count) [] h = absurd (omega (arith, h))
length_take (suc count) (id ∷ ids) h = let rest = length_take count ids (omega (arith, h)) in omega (arith, rest)

-- all are above it
abbrev AreAbove : ℕ → List ℕ → Type 0
AreAbove n [] = Unit {0}
AreAbove n (id ∷ ids) = (n < id) × AreAbove n ids

not_among : (n : ℕ) (ids : List ℕ) → AreAbove n ids → In n ids → ⊥
not_among n [] above here = here
not_among n (id ∷ ids) above (inl e) = let low = above.0 in absurd (omega (arith, low, e))
not_among n (id ∷ ids) above (inr here) = not_among n ids above.1 here

abbrev five : List ℕ
five = 1 ∷ 2 ∷ 3 ∷ 4 ∷ 5 ∷ []

five_once : HasNoneTwice five
five_once = (
  not_among 1 (2 ∷ 3 ∷ 4 ∷ 5 ∷ []) (lit< tt, (lit< tt, (lit< tt, (lit< tt, tt)))),
  (
    not_among 2 (3 ∷ 4 ∷ 5 ∷ []) (lit< tt, (lit< tt, (lit< tt, tt))),
    (not_among 3 (4 ∷ 5 ∷ []) (lit< tt, (lit< tt, tt)), (not_among 4 (5 ∷ []) (lit< tt, tt), (not_among 5 [] tt, tt))),
  ),
)

five_nodes : (n : ℕ) → In n five → (1 ≤ n) × (n ≤ 125)
five_nodes n (inl e) = (omega (arith, e), omega (arith, e))
five_nodes n (inr (inl e)) = (omega (arith, e), omega (arith, e))
five_nodes n (inr (inr (inl e))) = (omega (arith, e), omega (arith, e))
five_nodes n (inr (inr (inr (inl e)))) = (omega (arith, e), omega (arith, e))
five_nodes n (inr (inr (inr (inr (inl e))))) = (omega (arith, e), omega (arith, e))
five_nodes n (inr (inr (inr (inr (inr here))))) = absurd here

pub are_members : (size : ℕ) → 1 ≤ size → size ≤ 5 → AreMembers (members size)
are_members size least most =
    let count = length_take size five most in
    record {
      some = omega (arith, count, least);
      few = omega (arith, count, most);
      nodes = λ n here. five_nodes n (in_take n size five here);
      once = once_take size five five_once;
    }
