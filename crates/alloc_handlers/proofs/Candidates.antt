-- The first of the node IDs of devices.
use Rattle.std.proofs.Common.{◌≡◌, ℕ, suc, ◌+◌, ◌-◌, ◌<◌, Bool, true, false, cond, ◌≤◌, ◌⊎◌, inl, inr, List, Option, Some, None, find, get_or, refl, ap, ◌∙◌, arith, IfSome, IsNone}
use Rattle.alloc_handlers.proofs.Words.{AllocatorState, get_or-map-range_with_len, is_known, known, range_with_len}

pub find_next : (p : ℕ → Bool) (k : ℕ) → k < 126 → p k ≡ false → find p (range_with_len k (126 - k)) ≡ find p (range_with_len (k + 1) (126 - (k + 1)))
find_next p k below not =
    let e : 126 - k ≡ suc (126 - (k + 1)) = omega arith in
    ap (λ (n : ℕ). find p (range_with_len k n)) e ∙ ap (λ (b : Bool). cond b (Some k) (find p (range_with_len (k + 1) (126 - (k + 1))))) not

pub find_here : (p : ℕ → Bool) (k : ℕ) → k < 126 → p k ≡ true → find p (range_with_len k (126 - k)) ≡ Some k
find_here p k below is =
    let e : 126 - k ≡ suc (126 - (k + 1)) = omega arith in
    ap (λ (n : ℕ). find p (range_with_len k n)) e ∙ ap (λ (b : Bool). cond b (Some k) (find p (range_with_len (k + 1) (126 - (k + 1))))) is

-- a number that is a node ID
pub is_id : (r : Option ℕ) (n : ℕ) → IfSome r (λ m. m ≡ n) → (IsNone r → (n ≡ 0) ⊎ (127 < n)) → 1 ≤ n → n ≤ 127 → r ≡ Some n
is_id (Some m) n some none least most = ap (λ (k : ℕ). Some k) some
is_id None n some none least most = absurd (elim (none refl) [ inl zero ↦ omega (arith, zero, least) | inr over ↦ omega (arith, over, most) ])

-- what the table of all known nodes tells of a device
pub known_at : (t : AllocatorState) (table : List Bool) (node : ℕ) → node < 126 → table ≡ known t → get_or table node true ≡ is_known t node
known_at t table node below is =
    ap (λ (list : List Bool). get_or list node true) is ∙ get_or-map-range_with_len (is_known t) 0 128 node node true (omega (arith, below)) (omega arith)
