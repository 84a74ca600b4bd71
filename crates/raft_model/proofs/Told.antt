-- Told pairs last through every micro move.
use Rattle.std.proofs.Common.{◌≡◌, ◌≢◌, ℕ, ◌<◌, List, [], ◌∷◌, ◌++◌, refl, arith, sym, ◌∙◌, ap, subst, inl, inr, take, get_or, get_or-take, min}
use Rattle.std.proofs.lemmas.List.{get_or_append_left}
use Rattle.can_frame.specs.declared.entry.Entry.{Entry}
use Rattle.can_frame.specs.Log.{blank}
use Rattle.can_frame.specs.Zeros.{zeros}
use Rattle.raft_model.specs.Messages.{Pair, reach}
use Rattle.raft_model.specs.Lists.{at}
use Rattle.raft_model.proofs.Micro.{State, Micro, did, May, pair_of}
use Rattle.raft_model.proofs.Micro.Micro.{Cut, Grow, Advance, Propose, Commit, Tell, Again}
use Rattle.raft_model.proofs.Facts.{Facts, Told}
use Rattle.raft_model.proofs.At.{at_each}

-- a pair of a committed list
abbrev pub Holding : Pair → ℕ → List Entry → Type 0
Holding p c l = (i : ℕ) × (i < c) × ((get_or l i (blank 0)).uid ≡ p.uid) × ((get_or l i (blank 0)).node ≡ p.node) × (p.uid ≢ zeros)

pub told_log : (s : State) → Facts s → (m : ℕ) (l : List Entry)
    → ((i : ℕ) → i < s.commit m → get_or l i (blank 0) ≡ get_or (s.log m) i (blank 0)) → Told s.pairs s.commit (at s.log m l)
told_log s f m l h = record {
  pair = λ p i. at_each (λ k x. Holding p (s.commit k) (s.log k) → Holding p (s.commit k) x) s.log m l
      (λ g. (g.0, g.1, ap (λ (z : Entry). z.uid) (h g.0 g.1) ∙ g.2, ap (λ (z : Entry). z.node) (h g.0 g.1) ∙ g.3, g.4)) (λ k n g. g) p.from
      (f.told.pair p i);
}

pub told_commit : (s : State) → Facts s → (m c : ℕ) → s.commit m < c → Told s.pairs (at s.commit m c) s.log
told_commit s f m c h = record {
  pair = λ p i. at_each (λ k x. Holding p (s.commit k) (s.log k) → Holding p x (s.log k)) s.commit m c
      (λ g. (g.0, omega (arith, g.1, h), g.2, g.3, g.4)) (λ k n g. g) p.from (f.told.pair p i);
}

pub told_snoc : (s : State) → Facts s → (m : ℕ) (e : Entry) → Told s.pairs s.commit (at s.log m (s.log m ++ (e ∷ [])))
told_snoc s f m e = told_log s f m (s.log m ++ (e ∷ []))
    (λ i b. get_or_append_left (s.log m) (e ∷ []) (blank 0) i (let w = f.stored.within m in omega (arith, b, w)))

pub told_new : (s : State) → Facts s → (m n k : ℕ) → k < s.commit m → (get_or (s.log m) k (blank 0)).uid ≢ zeros
    → Told (pair_of s m n k ∷ s.pairs) s.commit s.log
told_new s f m n k b z = record {
  pair = λ p i. elim i
      [ inl e ↦ subst (λ (x : Pair). Holding x (s.commit x.from) (s.log x.from)) (sym e) (k, b, refl, refl, z) | inr j ↦ f.told.pair p j ];
}

pub told_keeps : (s : State) (e : Micro) → May s e → Facts s → Told (did s e).pairs (did s e).commit (did s e).log
told_keeps s (Cut m r e) may f = told_log s f m (take r.previous (s.log m))
    (λ i b. get_or-take r.previous (s.log m) i (blank 0) (omega (arith, b, may.after_commit)))
told_keeps s (Grow m r e) may f = told_snoc s f m e
told_keeps s (Propose m e) may f = told_snoc s f m e
told_keeps s (Advance m r) may f = told_commit s f m (min r.commit (reach r)) may.above
told_keeps s (Commit m k) may f = told_commit s f m k may.above
told_keeps s (Tell m n) may f = told_new s f m n (s.told m) may.1 may.2
told_keeps s (Again m n i) may f = told_new s f m n i may.1 may.2
told_keeps s _ may f = f.told
