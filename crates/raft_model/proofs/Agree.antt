-- What a server accepts agrees with the list of the request's term.
use Rattle.std.proofs.Common.{◌≡◌, ℕ, zero, suc, ◌+◌, ◌-◌, ◌<◌, ◌≤◌, Bool, true, List, length, refl, arith, sym, ◌∙◌, ap, subst, inl, inr, get_or, Option}
use Rattle.std.proofs.Common.{add-zero}
use Rattle.can_frame.specs.declared.entry.Entry.{Entry}
use Rattle.can_frame.specs.Log.{blank}
use Rattle.raft_model.specs.Log.{Same, term_at}
use Rattle.raft_model.specs.Messages.{Request, reach, items}
use Rattle.raft_model.proofs.Micro.{State, HasPrevious, Holds}
use Rattle.raft_model.proofs.Facts.{Facts, IsMatching}
use Rattle.raft_model.proofs.Lists.{term_at_less}

-- a matching log, up to a place, is a prefix of the list of the term there
pub at_place : (led : ℕ → Bool) (list : ℕ → List Entry) (l : List Entry) (p : ℕ) → IsMatching led list l → 1 ≤ p → p ≤ length l
    → (led (term_at l p) ≡ true) × (p ≤ length (list (term_at l p))) × Same p l (list (term_at l p))
at_place led list l p h low inside =
    let e : (get_or l (p - 1) (blank 0)).term ≡ term_at l p = sym (term_at_less l p low) in
    let n : (p - 1) + 1 ≡ p = omega arith in
    let m : (led (get_or l (p - 1) (blank 0)).term ≡ true) × (p - 1 < length (list (get_or l (p - 1) (blank 0)).term))
    × Same ((p - 1) + 1) l (list (get_or l (p - 1) (blank 0)).term)
    = h (p - 1) (omega (arith, low, inside)) in
    let m2 : (led (term_at l p) ≡ true) × (p - 1 < length (list (term_at l p))) × Same ((p - 1) + 1) l (list (term_at l p))
    = subst (λ (t : ℕ). (led t ≡ true) × (p - 1 < length (list t)) × Same ((p - 1) + 1) l (list t)) e m in
    (m2.0, omega (arith, m2.1, low), subst (λ (j : ℕ). Same j l (list (term_at l p))) n m2.2)

pub same_prev : (led : ℕ → Bool) (list : ℕ → List Entry) (l c : List Entry) (p : ℕ) → IsMatching led list l → IsMatching led list c
    → p ≤ length l → p ≤ length c → term_at l p ≡ term_at c p → Same p l c
same_prev led list l c zero hl hc pl pc e = refl
same_prev led list l c (suc q) hl hc pl pc e =
    let a = at_place led list l (suc q) hl (omega arith) pl in
    let b = at_place led list c (suc q) hc (omega arith) pc in
    let a2 : Same (suc q) l (list (term_at c (suc q))) = subst (λ (t : ℕ). Same (suc q) l (list t)) e a.2 in
    a2 ∙ sym b.2

-- the log and the list of the request's term agree up to its previous index
pub fits_same : (s : State) → Facts s → (m : ℕ) (r : Request) → HasPrevious s m r → Same r.previous (s.log m) (s.list r.term)
fits_same s f m r h =
    let q = f.asked.append r (f.posted.request r h.in_bag) h.kind in
    same_prev s.led s.list (s.log m) (s.list r.term) r.previous (f.matching.logs m) (f.matching.lists r.term) h.previous q.2
    (h.previous_term ∙ sym q.3)

pub agree : (s : State) → Facts s → (m : ℕ) (r : Request) → Holds s m r
    → (reach r ≤ length (s.log m)) × (reach r ≤ length (s.list r.term)) × Same (reach r) (s.log m) (s.list r.term)
agree s f m r h =
    let q = f.asked.append r (f.posted.request r h.fits.in_bag) h.fits.kind in
    elim h.has [
      | inl none ↦
          let e : reach r ≡ r.previous = ap (λ (o : Option Entry). r.previous + items o) none ∙ add-zero r.previous in (
            omega (arith, e, h.fits.previous),
            omega (arith, e, q.2),
            subst (λ (j : ℕ). Same j (s.log m) (s.list r.term)) (sym e) (fits_same s f m r h.fits),
          )
      | inr some ↦
          let e : reach r ≡ r.previous + 1 = ap (λ (o : Option Entry). r.previous + items o) some.1 in
          let en = f.asked.entry r some.0 (f.posted.request r h.fits.in_bag) h.fits.kind some.1 in
          let t1 : term_at (s.list r.term) (r.previous + 1) ≡ some.0.term
          = term_at_less (s.list r.term) (r.previous + 1) (omega arith)
          ∙ (ap (λ (j : ℕ). (get_or (s.list r.term) j (blank 0)).term) (omega arith) ∙ ap (λ (z : Entry). z.term) en.1) in
          let same : Same (r.previous + 1) (s.log m) (s.list r.term)
          = same_prev s.led s.list (s.log m) (s.list r.term) (r.previous + 1) (f.matching.logs m) (f.matching.lists r.term)
          (omega (arith, some.2)) (omega (arith, en.0)) (some.3 ∙ sym t1) in
          (omega (arith, e, some.2), omega (arith, e, en.0), subst (λ (j : ℕ). Same j (s.log m) (s.list r.term)) (sym e) same)
    ]
