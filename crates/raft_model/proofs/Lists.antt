-- Prefixes: `Same k l m` is `take k l ≡ take k m`.
use Rattle.std.proofs.Common.{◌≡◌, ℕ, zero, suc, ◌+◌, ◌-◌, ◌<◌, ◌≤◌, Bool, true, List, [], ◌∷◌, ◌++◌, length, refl, arith, sym, ◌∙◌, ap, subst, take, get_or, length-append, length-take, get_or-take}
use Rattle.std.proofs.lemmas.List.{take-append-le, take-take}
use Rattle.can_frame.specs.declared.entry.Entry.{Entry}
use Rattle.can_frame.specs.Log.{blank, last_term}
use Rattle.raft_model.specs.Log.{Same, term_at}
use Rattle.raft_model.specs.Lists.{at}
use Rattle.raft_model.proofs.At.{at_each}
use Rattle.raft_model.proofs.Facts.{IsMatching}

pub same_less : (i k : ℕ) (l m : List Entry) → i ≤ k → Same k l m → Same i l m
same_less i k l m h s = sym (take-take i k l h) ∙ (ap (take i) s ∙ take-take i k m h)

pub same_get : (k i : ℕ) (l m : List Entry) → i < k → Same k l m → get_or l i (blank 0) ≡ get_or m i (blank 0)
same_get k i l m h s = sym (get_or-take k l i (blank 0) h)
    ∙ (ap (λ (z : List Entry). get_or z i (blank 0)) s ∙ get_or-take k m i (blank 0) h)

-- where m has k places, so has l
pub same_length : (k : ℕ) (l m : List Entry) → k ≤ length m → Same k l m → k ≤ length l
same_length k l m h s = let e : length (take k l) ≡ length (take k m) = ap length s in omega (arith, length-take k l, length-take k m, e)

pub same_append : (k : ℕ) (l rest : List Entry) → k ≤ length l → Same k (l ++ rest) l
same_append k l rest h = take-append-le k l rest h

-- of lists of which one gained an entry, each begins with what it was, and is as long or longer
pub list_more : (list : ℕ → List Entry) (place : ℕ) (e : Entry) (t j : ℕ) → j ≤ length (list t)
    → Same j (at list place (list place ++ (e ∷ [])) t) (list t)
list_more list place e t j b = at_each (λ i l. j ≤ length (list i) → Same j l (list i)) list place (list place ++ (e ∷ []))
    (λ c. same_append j (list place) (e ∷ []) c) (λ i n c. refl) t b

pub longer : (list : ℕ → List Entry) (place : ℕ) (e : Entry) (t : ℕ) → length (list t) ≤ length (at list place (list place ++ (e ∷ [])) t)
longer list place e t = at_each (λ i l. length (list i) ≤ length l) list place (list place ++ (e ∷ []))
    (omega (arith, length-append (list place) (e ∷ []))) (λ i n. omega arith) t

pub term_at_less : (l : List Entry) (i : ℕ) → 1 ≤ i → term_at l i ≡ (get_or l (i - 1) (blank 0)).term
term_at_less l zero h = absurd (omega arith)
term_at_less l (suc i) h = let e : suc i - 1 ≡ i = omega arith in sym (ap (λ (j : ℕ). (get_or l j (blank 0)).term) e)

-- a matching log that is not empty is a prefix of the list of its last term
pub ending : (led : ℕ → Bool) (list : ℕ → List Entry) (l : List Entry) → IsMatching led list l → 1 ≤ length l
    → (led (last_term l) ≡ true) × (length l ≤ length (list (last_term l))) × Same (length l) l (list (last_term l))
ending led list l h some =
    let e : (get_or l (length l - 1) (blank 0)).term ≡ last_term l = sym (term_at_less l (length l) some) in
    let n : (length l - 1) + 1 ≡ length l = omega arith in
    let m : (led (get_or l (length l - 1) (blank 0)).term ≡ true) × (length l - 1 < length (list (get_or l (length l - 1) (blank 0)).term))
    × Same ((length l - 1) + 1) l (list (get_or l (length l - 1) (blank 0)).term)
    = h (length l - 1) (omega (arith, some)) in
    let m2 : (led (last_term l) ≡ true) × (length l - 1 < length (list (last_term l))) × Same ((length l - 1) + 1) l (list (last_term l))
    = subst (λ (t : ℕ). (led t ≡ true) × (length l - 1 < length (list t)) × Same ((length l - 1) + 1) l (list t)) e m in
    (m2.0, omega (arith, m2.1, some), subst (λ (j : ℕ). Same j l (list (last_term l))) n m2.2)

-- two matching logs with one last term: the shorter is a prefix of the longer
pub same_last : (led : ℕ → Bool) (list : ℕ → List Entry) (l c : List Entry) → IsMatching led list l → IsMatching led list c → 1 ≤ length l
    → length l ≤ length c → last_term l ≡ last_term c → Same (length l) l c
same_last led list l c hl hc some short e =
    let a = ending led list l hl some in
    let b = ending led list c hc (omega (arith, some, short)) in
    let a2 : Same (length l) l (list (last_term c)) = subst (λ (t : ℕ). Same (length l) l (list t)) e a.2 in
    a2 ∙ sym (same_less (length l) (length c) c (list (last_term c)) short b.2)
