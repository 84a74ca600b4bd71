-- The number of the bits of a number.
use Rattle.std.proofs.Common.{◌≡◌, ℕ, zero, suc, ◌+◌, ◌-◌, ◌*◌, ◌/◌, ◌%◌, ◌^◌, ◌<◌, cond, nat_eq, List, [], ◌∷◌, ◌++◌, Bool, true, false, length, refl, sym, ◌∙◌, ap, arith}
use Rattle.std.specs.Int.{bit_at}
use Rattle.std.proofs.lemmas.Nat.{mod-pow-add}
use Rattle.std.proofs.lemmas.Nat.Bits.{bit_at-lt, bit_at_above, bit_at_cat_high}
use Rattle.std.proofs.Math.Nat.{mod-eq_of_lt, pow-suc}
use Rattle.can_frame.specs.TransferCrc.{bits_of, crc_of, divide, message_bits, number_of, ones, remainder}
use Rattle.can_frame.specs.Register.{run}
use Rattle.can_frame.proofs.Long.{length_run, message-append, run-append, run-remainder}
use Rattle.can_frame.proofs.Shifts.{bits_of-low}

length-bits : (k x : ℕ) → length (bits_of k x) ≡ k
unfolding bits_of
length-bits zero x = refl
length-bits (suc k) x = ap suc (length-bits k x)

one_bit : (b p : ℕ) → b < 2 → cond (nat_eq b 1) p 0 ≡ b * p
one_bit zero p h = omega arith
one_bit (suc zero) p h = omega arith
one_bit (suc (suc b)) p h = absurd (omega arith)

pub number_of-bits : (k x : ℕ) → number_of (bits_of k x) ≡ x % 2 ^ k
unfolding bits_of number_of
number_of-bits zero x = omega arith
number_of-bits (suc k) x =
    let first : cond (nat_eq (bit_at x k) 1) (2 ^ length (bits_of k x)) 0 ≡ bit_at x k * 2 ^ k =
    ap (λ n. cond (nat_eq (bit_at x k) 1) (2 ^ n) 0) (length-bits k x) ∙ one_bit (bit_at x k) (2 ^ k) (bit_at-lt x k) in
    let split : x % 2 ^ (1 + k) ≡ (x / 2 ^ k % 2 ^ 1) * 2 ^ k + x % 2 ^ k = mod-pow-add x 1 k in
    let step : suc k ≡ 1 + k = omega arith in
    ap (λ n. n + number_of (bits_of k x)) first ∙ ap (λ n. bit_at x k * 2 ^ k + n) (number_of-bits k x) ∙ sym split ∙ ap (λ n. x % 2 ^ n) (sym step)

number_of-lt : (bits : List Bool) → number_of bits < 2 ^ length bits
unfolding number_of
number_of-lt [] = omega arith
number_of-lt (true ∷ bits) = omega (arith, number_of-lt bits, pow-suc 2 (length bits))
number_of-lt (false ∷ bits) = omega (arith, number_of-lt bits, pow-suc 2 (length bits))

bits_of-number : (bits : List Bool) → bits_of (length bits) (number_of bits) ≡ bits
unfolding bits_of number_of
bits_of-number [] = refl
bits_of-number (true ∷ bits) =
    let k = length bits in
    let n = number_of bits in
    let one : 2 ^ k + n ≡ 1 * 2 ^ k + n = omega arith in
    let none : k - k ≡ 0 = omega arith in
    let top : bit_at (1 * 2 ^ k + n) k ≡ 1 = bit_at_cat_high 1 k n k (number_of-lt bits) (omega arith) ∙ ap (bit_at 1) none in
    let low : bits_of k (1 * 2 ^ k + n) ≡ bits = bits_of-low k k 1 n (omega arith) ∙ bits_of-number bits in
    ap (bits_of (suc k)) one ∙ (λ i. nat_eq (top i) 1 ∷ low i)
bits_of-number (false ∷ bits) =
    let k = length bits in
    let n = number_of bits in
    let none : 0 + n ≡ n = omega arith in
    let top : bit_at n k ≡ 0 = bit_at_above n k k (number_of-lt bits) (omega arith) in
    let low : bits_of k n ≡ bits = bits_of-number bits in
    ap (bits_of (suc k)) none ∙ (λ i. nat_eq (top i) 1 ∷ low i)

-- the register that a CRC stands for
register_of : (bits : List Bool) → bits_of 16 (number_of (remainder bits)) ≡ run ones bits
register_of bits =
    let long : length (run ones bits) ≡ 16 = length_run bits ones in
    ap (λ r. bits_of 16 (number_of r)) (sym (run-remainder bits)) ∙ ap (λ n. bits_of n (number_of (run ones bits))) (sym long) ∙ bits_of-number (run ones bits)

-- more bytes behind those whose CRC is known
pub continued : (bytes more : List ℕ) (crc last : ℕ) → last < 2 ^ 16 → crc ≡ crc_of bytes →
    bits_of 16 last ≡ run (bits_of 16 crc) (message_bits more) → last ≡ crc_of (bytes ++ more)
unfolding crc_of
continued bytes more crc last low e f =
    let bits : bits_of 16 last ≡ remainder (message_bits (bytes ++ more)) =
    f ∙ ap (λ r. run r (message_bits more)) (ap (bits_of 16) e ∙ register_of (message_bits bytes))
    ∙ sym (run-append (message_bits bytes) (message_bits more) ones)
    ∙ ap (run ones) (sym (message-append bytes more)) ∙ run-remainder (message_bits (bytes ++ more)) in
    sym (mod-eq_of_lt low) ∙ sym (number_of-bits 16 last) ∙ ap number_of bits

pub of_nothing : 65535 ≡ crc_of []
unfolding crc_of number_of divide
of_nothing = refl
