-- Candidacies last through every micro move.
use Rattle.std.proofs.Common.{◌≡◌, ◌<◌, ◌≤◌, length, arith, sym, ◌∙◌, ap, subst, inl, inr, get_or}
use Rattle.can_frame.specs.Log.{blank}
use Rattle.raft_model.specs.Log.{IsRising}
use Rattle.raft_model.specs.Lists.{In}
use Rattle.raft_model.specs.History.{Candidacy}
use Rattle.raft_model.proofs.Micro.{State, Micro, did, May}
use Rattle.raft_model.proofs.Micro.Micro.{Stand}
use Rattle.raft_model.proofs.Facts.{Facts, Stood}

pub stood_keeps : (s : State) (e : Micro) → May s e → Facts s → Stood (did s e).candidacies
stood_keeps s (Stand m) may f = record {
  one = λ x y i j v t. elim i [
    | inl a ↦ elim j [
      | inl b ↦ ap (λ (z : Candidacy). z.log) (a ∙ sym b)
      | inr j2 ↦ absurd (old y j2 (sym v ∙ ap (λ (z : Candidacy). z.candidate) a) (sym t ∙ ap (λ (z : Candidacy). z.term) a))
    ]
    | inr i2 ↦ elim j [
      | inl b ↦ absurd (old x i2 (v ∙ ap (λ (z : Candidacy). z.candidate) b) (t ∙ ap (λ (z : Candidacy). z.term) b))
      | inr j2 ↦ f.stood.one x y i2 j2 v t
    ]
  ];
  terms = λ c i. elim i [ inl e ↦ subst (λ (z : Candidacy). 1 ≤ z.term) (sym e) (f.fresh.terms m may.0) | inr j ↦ f.stood.terms c j ];
  rising = λ c i. elim i
      [ inl e ↦ subst (λ (z : Candidacy). IsRising z.log z.term) (sym e) (f.stored.rising m) | inr j ↦ f.stood.rising c j ];
  below = λ c k i b. elim i [
    | inl e ↦
        subst (λ (z : Candidacy). k < length z.log → (get_or z.log k (blank 0)).term < z.term) (sym e) (λ l. f.fresh.entries m k may.0 l)
        b
    | inr j ↦
        f.stood.below c k j b
  ];
}
  where
    old : (y : Candidacy) → In y s.candidacies → y.candidate ≡ m → y.term ≡ s.term m → ⊥
    old y i v t = let x = f.fresh.stood m y may.0 i v in omega (arith, x, t)
stood_keeps s _ may f = f.stood
