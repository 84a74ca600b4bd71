-- Safety, from the facts of a moment.
use Rattle.std.proofs.Common.{◌≡◌, ℕ, zero, suc, ◌+◌, ◌-◌, ◌<◌, ◌≤◌, List, length, refl, arith, sym, ◌∙◌, subst, inl, inr, ◌⊎◌, take, get_or, length-take}
use Rattle.std.proofs.lemmas.List.{take-take, take_all}
use Rattle.can_frame.specs.declared.entry.Entry.{Entry}
use Rattle.can_frame.specs.Log.{IsInjective}
use Rattle.raft_model.specs.Log.{Same}
use Rattle.raft_model.proofs.Complete.{less_or}
use Rattle.raft_model.proofs.Stored.{inj_by}
use Rattle.raft_model.proofs.Micro.{State}
use Rattle.raft_model.proofs.Facts.{Facts, IsSettled, Safe}
use Rattle.raft_model.proofs.Lists.{same_get}
use Rattle.raft_model.proofs.Firm.{settled_same, settled_later}

pub taken_length : (k : ℕ) (l : List Entry) → k ≤ length l → length (take k l) ≡ k
taken_length k l h = omega (arith, length-take k l, h)

-- a settled beginning, by its number of places
pub begins_ledger : (s : State) → Facts s → (l : List Entry) (k t : ℕ) → k ≤ length l → 1 ≤ k → k ≤ length s.ledger
    → IsSettled s.members s.led s.leader s.list s.bag (take k l) t → Same k l s.ledger
begins_ledger s f l k t inside low short settled =
    let i : length s.ledger - 1 < length s.ledger = omega (arith, low, short) in
    let whole = f.committed.place (length s.ledger - 1) i in
    let n : (length s.ledger - 1) + 1 ≡ length s.ledger = omega (arith, low, short) in
    let whole2 : IsSettled s.members s.led s.leader s.list s.bag (take (length s.ledger) s.ledger) (get_or s.stamps (length s.ledger - 1) 0)
    =
    subst (λ (j : ℕ). IsSettled s.members s.led s.leader s.list s.bag (take j s.ledger) (get_or s.stamps (length s.ledger - 1) 0)) n whole
    in
    let a : length (take k l) ≡ k = taken_length k l inside in
    let b : length (take (length s.ledger) s.ledger) ≡ length s.ledger = taken_length (length s.ledger) s.ledger (omega arith) in
    let same : Same (length (take k l)) (take k l) (take (length s.ledger) s.ledger)
    = settled_same s f (take k l) (take (length s.ledger) s.ledger) t (get_or s.stamps (length s.ledger - 1) 0) settled whole2
    (omega (arith, a, b, short)) in
    let same2 : Same k (take k l) (take (length s.ledger) s.ledger)
    = subst (λ (j : ℕ). Same j (take k l) (take (length s.ledger) s.ledger)) a same in
    sym (take-take k k l (omega arith)) ∙ (same2 ∙ take-take k (length s.ledger) s.ledger short)

pub ledger_injective : (s : State) → Facts s → IsInjective s.ledger
ledger_injective s f = elim (less_or 1 (length s.ledger)) [
  | inr none ↦ λ i j b c. absurd (omega (arith, b, c, none))
  | inl some ↦
      let nn : (length s.ledger - 1) + 1 ≡ length s.ledger = omega (arith, some) in
      let w0 = f.committed.place (length s.ledger - 1) (omega (arith, some)) in
      let w1 : IsSettled s.members s.led s.leader s.list s.bag (take (length s.ledger) s.ledger) (get_or s.stamps (length s.ledger - 1) 0)
      = subst (λ (j : ℕ). IsSettled s.members s.led s.leader s.list s.bag (take j s.ledger) (get_or s.stamps (length s.ledger - 1) 0))
      nn w0 in
      let w : IsSettled s.members s.led s.leader s.list s.bag s.ledger (get_or s.stamps (length s.ledger - 1) 0)
      = subst (λ (x : List Entry). IsSettled s.members s.led s.leader s.list s.bag x (get_or s.stamps (length s.ledger - 1) 0))
      (take_all (length s.ledger) s.ledger (omega arith)) w1 in
      inj_by (s.list (get_or s.stamps (length s.ledger - 1) 0)) s.ledger
      (λ i b. same_get (length s.ledger) i s.ledger (s.list (get_or s.stamps (length s.ledger - 1) 0)) b w.3)
      (omega (arith, w.1, w.2.inside)) (f.led.injective (get_or s.stamps (length s.ledger - 1) 0))
]

pub safe : (s : State) → Facts s → Safe s
safe s f = record {
  injective = ledger_injective s f;
  committed = λ m. (
    f.committed.below m,
    elim (f.committed.server m) [
      | inl z ↦ subst (λ (k : ℕ). Same k (s.log m) s.ledger) (sym z) refl
      | inr r ↦ elim (zero_or (s.commit m)) [
        | inl z ↦ subst (λ (k : ℕ). Same k (s.log m) s.ledger) (sym z) refl
        | inr low ↦ begins_ledger s f (s.log m) (s.commit m) r.0 (f.stored.within m) low (f.committed.below m) r.2
      ]
    ],
  );
  pairs = λ p i. let q = f.told.pair p (f.posted.pair p i) in (q.0, q.1, q.2, q.3);
  later = λ i u b h led.
      let settled = f.committed.place i b in
      let a : length (take (i + 1) s.ledger) ≡ i + 1 = taken_length (i + 1) s.ledger (omega (arith, b)) in
      let same : Same (length (take (i + 1) s.ledger)) (s.list u) (take (i + 1) s.ledger)
      = settled_later s f (take (i + 1) s.ledger) (get_or s.stamps i 0) u settled h led in
      subst (λ (j : ℕ). Same j (s.list u) (take (i + 1) s.ledger)) a same ∙ take-take (i + 1) (i + 1) s.ledger (omega arith);
}
  where
    zero_or : (n : ℕ) → (n ≡ 0) ⊎ (1 ≤ n)
    zero_or zero = inl refl
    zero_or (suc n) = inr (omega arith)
