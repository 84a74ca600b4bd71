-- Calls to one peer after another.
use Rattle.std.proofs.Common.{◌≡◌, ℕ, suc, ◌+◌, ◌-◌, take, ◌<◌, List, [], ◌∷◌, length, drop, get_or, sym, ap, ◌∙◌, arith, take_all, drop-cons}
use Rattle.alloc_handlers.proofs.Words.{StepState, calls_all, calls_peer}

pub next_peer : (step : ℕ) (peers : List ℕ) (i : ℕ) (h begun : StepState) → i < length peers → calls_all step (drop i peers) h ≡ calls_all step peers begun
    → calls_all step (drop (i + 1) peers) (calls_peer step (get_or peers i 0) h) ≡ calls_all step peers begun
next_peer step peers i h begun below all =
    let e : i + 1 ≡ suc i = omega arith in
    ap (λ (n : ℕ). calls_all step (drop n peers) (calls_peer step (get_or peers i 0) h)) e
    ∙ sym (ap (λ (list : List ℕ). calls_all step list h) (drop-cons peers i 0 below)) ∙ all

-- the others of a list, behind its first
pub others_at : (xs peers : List ℕ) → peers ≡ take (length xs - 1) (drop 1 xs) → (i : ℕ) → i < length peers → (get_or peers i 0 ≡ get_or xs (i + 1) 0) × (i + 1 < length xs)
others_at [] peers is i below = absurd (omega (arith, below, ap (λ (list : List ℕ). length list) is))
others_at (x ∷ xs) peers is i below =
    let e : length (x ∷ xs) - 1 ≡ length xs = omega arith in
    let next : suc i ≡ i + 1 = omega arith in
    let whole : peers ≡ xs = is ∙ ap (λ (n : ℕ). take n xs) e ∙ take_all (length xs) xs (omega arith) in
    (ap (λ (list : List ℕ). get_or list i 0) whole ∙ ap (λ (n : ℕ). get_or (x ∷ xs) n 0) next, omega (arith, below, ap (λ (list : List ℕ). length list) whole))
