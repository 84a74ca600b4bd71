-- What a shift of the register does to its bits.
use Rattle.std.proofs.Common.{◌≡◌, ℕ, zero, suc, ◌+◌, ◌*◌, ◌/◌, ◌%◌, ◌^◌, ◌<◌, ◌≤◌, Bool, true, false, cond, nat_eq, List, [], ◌∷◌, ◌++◌, length, refl, sym, ◌∙◌, ap, arith}
use Rattle.std.specs.Int.{bit_at}
use Rattle.std.specs.Int.Bits.{bit_xor}
use Rattle.std.proofs.lemmas.Nat.Bits.{bit_at_xor, bit_at-lt, bit_at_lowest, bit_at-suc, bit_at_cat_low}
use Rattle.can_frame.specs.TransferCrc.{xor, add_front, divisor, bits_of}
use Rattle.can_frame.specs.Register.{shift}

odd_sum : (m n : ℕ) → m < 2 → n < 2 → nat_eq ((m + n) % 2) 1 ≡ xor (nat_eq m 1) (nat_eq n 1)
odd_sum zero zero p q = refl
odd_sum zero (suc zero) p q = refl
odd_sum (suc zero) zero p q = refl
odd_sum (suc zero) (suc zero) p q = refl
odd_sum (suc (suc m)) n p q = absurd (omega arith)
odd_sum zero (suc (suc n)) p q = absurd (omega arith)
odd_sum (suc zero) (suc (suc n)) p q = absurd (omega arith)

-- the bits of an exclusive or are the sum of the bits
pub bits_of-xor : (k a b : ℕ) → bits_of k (bit_xor a b) ≡ add_front (bits_of k a) (bits_of k b)
unfolding bits_of
bits_of-xor zero a b = refl
bits_of-xor (suc k) a b =
    let head = ap (λ n. nat_eq n 1) (bit_at_xor a b k) ∙ odd_sum (bit_at a k) (bit_at b k) (bit_at-lt a k) (bit_at-lt b k) in
    rw (head, bits_of-xor k a b) refl

-- a double has one more bit, which is 0
pub bits_of-double : (k x : ℕ) → bits_of (suc k) (x * 2) ≡ bits_of k x ++ false ∷ []
unfolding bits_of
bits_of-double zero x =
    let e : x * 2 % 2 ≡ 0 = omega arith in
    ap (λ n. nat_eq n 1 ∷ []) (bit_at_lowest (x * 2) ∙ e)
bits_of-double (suc k) x =
    let e : x * 2 / 2 ≡ x = omega arith in
    let head = ap (λ n. nat_eq n 1) (bit_at-suc (x * 2) k ∙ ap (λ n. bit_at n k) e) in
    ap (λ b. b ∷ bits_of (suc k) (x * 2)) head ∙ ap (λ bs. nat_eq (bit_at x k) 1 ∷ bs) (bits_of-double k x)

-- the low bits of a number do not depend on what stands above them
pub bits_of-low : (j k hi lo : ℕ) → j ≤ k → bits_of j (hi * 2 ^ k + lo) ≡ bits_of j lo
unfolding bits_of
bits_of-low zero k hi lo h = refl
bits_of-low (suc j) k hi lo h =
    ap (λ n. nat_eq n 1 ∷ bits_of j (hi * 2 ^ k + lo)) (bit_at_cat_low hi k lo j (omega arith))
    ∙ ap (λ bs. nat_eq (bit_at lo j) 1 ∷ bs) (bits_of-low j k hi lo (omega arith))

-- the register without its highest bit, moved up
moved : (x : ℕ) → x < 2 ^ 16 → bits_of 16 (x % 32768 * 2) ≡ bits_of 15 x ++ false ∷ []
moved x h =
    let e : x ≡ x / 32768 * 2 ^ 15 + x % 32768 = omega arith in
    bits_of-double 15 (x % 32768) ∙ ap (λ bs. bs ++ false ∷ []) (sym (ap (bits_of 15) e ∙ bits_of-low 15 15 (x / 32768) (x % 32768) (omega arith)))

-- where the top bit and the new one are equal, a step of the register shifts in a 0
pub next_same : (x : ℕ) (b : Bool) → x < 2 ^ 16 → xor (nat_eq (x / 32768) 1) b ≡ false → bits_of 16 (x % 32768 * 2) ≡ shift (bits_of 16 x) b
unfolding bits_of shift
next_same x b h e =
    let top : bit_at x 15 ≡ x / 32768 = omega arith in
    moved x h ∙ sym (ap (λ t. cond (xor (nat_eq t 1) b) (add_front divisor (bits_of 15 x ++ false ∷ [])) (bits_of 15 x ++ false ∷ [])) top
    ∙ ap (λ t. cond t (add_front divisor (bits_of 15 x ++ false ∷ [])) (bits_of 15 x ++ false ∷ [])) e)

xor_comm : (a b : Bool) → xor a b ≡ xor b a
xor_comm false false = refl
xor_comm false true = refl
xor_comm true false = refl
xor_comm true true = refl

add_comm : (xs ys : List Bool) → length xs ≡ length ys → add_front xs ys ≡ add_front ys xs
add_comm [] [] e = refl
add_comm [] (y ∷ ys) e = absurd (omega arith)
add_comm (x ∷ xs) [] e = absurd (omega arith)
add_comm (x ∷ xs) (y ∷ ys) e = rw (xor_comm x y, add_comm xs ys (omega arith)) refl

-- where they differ, a step of the register shifts, and adds the divisor
pub next_other : (x : ℕ) (b : Bool) → x < 2 ^ 16 → xor (nat_eq (x / 32768) 1) b ≡ true → bits_of 16 (bit_xor (x % 32768 * 2) 4129) ≡ shift (bits_of 16 x) b
unfolding bits_of shift
next_other x b h e =
    let top : bit_at x 15 ≡ x / 32768 = omega arith in
    let up = bits_of 15 x ++ false ∷ [] in
    bits_of-xor 16 (x % 32768 * 2) 4129 ∙ ap (λ bs. add_front bs divisor) (moved x h) ∙ add_comm up divisor refl
    ∙ sym (ap (λ t. cond (xor (nat_eq t 1) b) (add_front divisor up) up) top ∙ ap (λ t. cond t (add_front divisor up) up) e)
