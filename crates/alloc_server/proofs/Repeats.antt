-- Which entries may stand in one log.
use Rattle.std.proofs.Common.{◌≡◌, Bool, true, false, List, [], ◌∷◌, refl, ap, Decides, ◌&&◌, ◌||◌, not}
use Rattle.std.specs.List.{list_all}
use Rattle.std.proofs.lemmas.Bool.Decides.{Decides-and, Decides-eqb, not_from_Decides}
use Rattle.std.proofs.lemmas.Slice.Eq.{bytes_eq-Decides}
use Rattle.can_frame.specs.declared.entry.Entry.{Entry}
use Rattle.can_frame.specs.Log.{AreDistinct, IsBlank}
use Rattle.can_frame.specs.Zeros.{zeros}
use Rattle.raft_model.specs.Decisions.{are_distinct, is_blank, is_distinct_from_all}

cross : {A : Type 0} → false ≡ true → A
cross e = absurd (cc)

blank_decided : (entry : Entry) → Decides (is_blank entry) (IsBlank entry)
blank_decided entry = Decides-and _ _ (Decides-eqb entry.node 0) (bytes_eq-Decides entry.uid zeros)

-- one of two is a blank, or else they differ in node ID, and in unique ID unless that is zeros
module _ {A B Node Zeros Uid : Type 0} where
  decided : (a b node all_zeros uid : Bool) → Decides a A → Decides b B → Decides node Node → Decides all_zeros Zeros → Decides uid Uid
      → Decides ((a || b) || (not node && (all_zeros || not uid)))
      (((A → ⊥) → (B → ⊥) → Node → ⊥) × ((A → ⊥) → (B → ⊥) → Uid → Zeros))
  decided true b node all_zeros uid x y n z u = (λ e. (λ na nb h. na (x.0 refl), λ na nb h. absurd (na (x.0 refl))), λ h. refl)
  decided false true node all_zeros uid x y n z u = (λ e. (λ na nb h. nb (y.0 refl), λ na nb h. absurd (nb (y.0 refl))), λ h. refl)
  decided false false true all_zeros uid x y n z u =
      (λ e. cross e, λ h. absurd (h.0 (not_from_Decides false x refl) (not_from_Decides false y refl) (n.0 refl)))
  decided false false false true uid x y n z u = (λ e. (λ na nb h. not_from_Decides false n refl h, λ na nb h. z.0 refl), λ h. refl)
  decided false false false false true x y n z u =
      (λ e. cross e, λ h. z.1 (h.1 (not_from_Decides false x refl) (not_from_Decides false y refl) (u.0 refl)))
  decided false false false false false x y n z u =
      (λ e. (λ na nb h. not_from_Decides false n refl h, λ na nb h. absurd (not_from_Decides false u refl h)), λ h. refl)

pub distinct_decided : (a b : Entry) → Decides (are_distinct a b) (AreDistinct a b)
distinct_decided a b =
    let d = decided (is_blank a) (is_blank b) _ _ _ (blank_decided a) (blank_decided b) (Decides-eqb a.node b.node)
    (bytes_eq-Decides a.uid zeros) (bytes_eq-Decides a.uid b.uid) in
    (λ e. record { nodes = (d.0 e).0; uids = (d.0 e).1 }, λ h. d.1 (h.nodes, h.uids))

pub all_distinct : (entry : Entry) (log : List Entry) → list_all (are_distinct entry) log ≡ is_distinct_from_all entry log
all_distinct entry [] = refl
all_distinct entry (first ∷ rest) = ap (λ (b : Bool). are_distinct entry first && b) (all_distinct entry rest)
