-- Splits of rows: where a row of one split stands in another one.
use Rattle.std.proofs.Common.{◌≡◌, List, [], ◌∷◌, ◌++◌, drop, inl, inr, refl, sym, ◌∙◌, ap}
use Rattle.std.specs.Prelude.{slice_index_or}
use Rattle.std.proofs.lemmas.List.{append_assoc, append-nil}
use Rattle.bus_rows.specs.Timed.{Timed}
use Rattle.service_candidate.proofs.WinsFronts.{part_of}

-- the first of these rows, or this one where there is none
abbrev pub first_or : Timed → List Timed → Timed
first_or other rows = slice_index_or rows 0 other

-- what stands behind equal fronts is equal
pub behind_is : (a b c : List Timed) → a ++ b ≡ a ++ c → b ≡ c
behind_is [] b c e = e
behind_is (x ∷ a) b c e = behind_is a b c (ap (λ (l : List Timed). drop 1 l) e)

pub none_is : (e d : List Timed) (x : Timed) → [] ≡ e ++ x ∷ d → ⊥
none_is [] d x same = cc (same)
none_is (z ∷ e) d x same = cc (same)

-- a row that stands in one row is that one
pub one_is : (e d : List Timed) (x y : Timed) → y ∷ [] ≡ e ++ x ∷ d → (e ≡ []) × (y ≡ x)
one_is [] d x y same = (refl, ap (λ (l : List Timed). first_or y l) same)
one_is (z ∷ e) d x y same = absurd (none_is e d x (ap (λ (l : List Timed). drop 1 l) same))

pub one_more : (front rest : List Timed) (timed : Timed) → front ++ timed ∷ rest ≡ (front ++ timed ∷ []) ++ rest
one_more front rest timed = sym (append_assoc front (timed ∷ []) rest)

-- a row stands before another one, or it is that one, or it stands behind it
pub data Place (first early x y : List Timed) (one z : Timed) : Type 0 where
  Before : (tail : List Timed) → first ≡ x ++ z ∷ tail → Place first early x y one z
  Same : x ≡ first → z ≡ one → Place first early x y one z
  Behind : (tail : List Timed) → early ≡ tail ++ z ∷ y → x ≡ (first ++ one ∷ []) ++ tail → Place first early x y one z

pub place_of : (first early x y : List Timed) (one z : Timed) → (first ++ one ∷ []) ++ early ≡ x ++ z ∷ y → Place first early x y one z
place_of first early x y one z same = elim (part_of (first ++ one ∷ []) early x y z same) [
  | inr p ↦ Place.Behind p.0 p.1 p.2
  | inl p ↦ elim (part_of first (one ∷ []) x p.0 z p.1) [
    | inl q ↦ Place.Before q.0 q.1
    | inr q ↦ let is = one_is q.0 p.0 z one q.1 in Place.Same (q.2 ∙ (ap (λ (l : List Timed). first ++ l) is.0 ∙ append-nil first)) (sym is.1)
  ]
]
