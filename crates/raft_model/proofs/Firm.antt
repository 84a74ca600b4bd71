-- Two firm places agree, and what is settled is one list.
use Rattle.std.proofs.Common.{◌≡◌, ℕ, ◌≤◌, true, List, length, arith, sym, ◌∙◌, ap, inl, inr, take}
use Rattle.std.proofs.lemmas.Bool.Decides.{eqb_tells}
use Rattle.can_frame.specs.declared.entry.Entry.{Entry}
use Rattle.raft_model.specs.Log.{Same}
use Rattle.raft_model.proofs.Micro.{State}
use Rattle.raft_model.proofs.Facts.{Facts, Firm, IsSettled}
use Rattle.raft_model.proofs.Lists.{same_less}
use Rattle.raft_model.proofs.Complete.{completeness, less_or}

-- the lists of two firm places agree up to the lower place
pub comparable : (s : State) → Facts s → (t k u i n : ℕ) → Firm s.members s.led s.leader s.list s.bag t k
    → Firm s.members s.led s.leader s.list s.bag u i → n ≤ k → n ≤ i → Same n (s.list t) (s.list u)
comparable s f t k u i n a b nk ni =
    elim (eqb_tells t u) [
      | inl e ↦ ap (λ (w : ℕ). take n (s.list w)) e.1
      | inr e ↦ elim (less_or t u) [
        | inl le ↦ sym (same_less n k (s.list u) (s.list t) nk (completeness s f t k a u (omega (arith, le, e.1)) b.there))
        | inr lt ↦ same_less n i (s.list t) (s.list u) ni (completeness s f u i b t lt a.there)
      ]
    ]

-- of two settled lists the shorter begins the longer
pub settled_same : (s : State) → Facts s → (l m : List Entry) (t u : ℕ) → IsSettled s.members s.led s.leader s.list s.bag l t
    → IsSettled s.members s.led s.leader s.list s.bag m u → length l ≤ length m → Same (length l) l m
settled_same s f l m t u a b h =
    a.3 ∙
    (comparable s f t a.0 u b.0 (length l) a.2 b.2 a.1 (omega (arith, h, b.1))
    ∙ sym (same_less (length l) (length m) m (s.list u) h b.3))

-- what is settled begins every list of a term at least as high
pub settled_later : (s : State) → Facts s → (l : List Entry) (t u : ℕ) → IsSettled s.members s.led s.leader s.list s.bag l t → t ≤ u
    → s.led u ≡ true → Same (length l) (s.list u) l
settled_later s f l t u a h led =
    elim (eqb_tells t u) [
      | inl e ↦ ap (λ (w : ℕ). take (length l) (s.list w)) (sym e.1) ∙ sym a.3
      | inr e ↦ same_less (length l) a.0 (s.list u) (s.list t) a.1 (completeness s f t a.0 a.2 u (omega (arith, h, e.1)) led) ∙ sym a.3
    ]
