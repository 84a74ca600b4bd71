-- The numbers that the bits of bytes are.
use Rattle.std.proofs.Common.{◌≡◌, ◌<◌, ◌≤◌, ◌+◌, ◌*◌, ◌%◌, ◌^◌, ℕ, zero, suc, List, [], ◌∷◌, ◌++◌, length, Bool, cond, nat_eq, Some, None, take, drop, refl, ap, arith, length-append, length-take, length-drop, ◌-◌}
use Rattle.std.proofs.lemmas.Bool.{le-leb, le-ltb}
use Rattle.std.proofs.Common.{pow-add}
use Rattle.std.proofs.Math.Nat.{pow-le-pow_right}
use Rattle.dsdl_text.specs.Numbers.{◌>>=◌, byte_bits, number_of, number_onto, read_number, read_part, whole}
use Rattle.dsdl_text.specs.Layout.{Layout, number}
use Rattle.std.proofs.Math.Seq.{take-append_seam, drop-append_seam}

-- a bit is a number of 0 or 1
pub bit : (n : ℕ) → cond (nat_eq (n % 2) 1) 1 0 ≡ n % 2
bit n = go (n % 2) (omega arith) where
  go : (r : ℕ) → r < 2 → cond (nat_eq r 1) 1 0 ≡ r
  go zero h = refl
  go (suc zero) h = refl
  go (suc (suc r)) h = absurd (omega arith)

-- the eight bits of a byte are its number
pub byte-value : (a : ℕ) → a < 256 → number_onto 0 (byte_bits a) ≡ a
byte-value a small = simp bit (omega arith)

pub number-split : (bits : List Bool) → 8 ≤ length bits → number_of bits ≡ number_onto 0 (take 8 bits) + 256 * number_of (drop 8 bits)
number-split (a ∷ b ∷ c ∷ d ∷ e ∷ f ∷ g ∷ h ∷ bits) long = refl
number-split [] long = absurd (omega arith)
number-split (a ∷ []) long = absurd (omega arith)
number-split (a ∷ b ∷ []) long = absurd (omega arith)
number-split (a ∷ b ∷ c ∷ []) long = absurd (omega arith)
number-split (a ∷ b ∷ c ∷ d ∷ []) long = absurd (omega arith)
number-split (a ∷ b ∷ c ∷ d ∷ e ∷ []) long = absurd (omega arith)
number-split (a ∷ b ∷ c ∷ d ∷ e ∷ f ∷ []) long = absurd (omega arith)
number-split (a ∷ b ∷ c ∷ d ∷ e ∷ f ∷ g ∷ []) long = absurd (omega arith)

pub number-short : (bits : List Bool) → length bits < 8 → number_of bits ≡ number_onto 0 bits
number-short (a ∷ b ∷ c ∷ d ∷ e ∷ f ∷ g ∷ h ∷ bits) short = absurd (omega arith)
number-short [] short = refl
number-short (a ∷ []) short = refl
number-short (a ∷ b ∷ []) short = refl
number-short (a ∷ b ∷ c ∷ []) short = refl
number-short (a ∷ b ∷ c ∷ d ∷ []) short = refl
number-short (a ∷ b ∷ c ∷ d ∷ e ∷ []) short = refl
number-short (a ∷ b ∷ c ∷ d ∷ e ∷ f ∷ []) short = refl
number-short (a ∷ b ∷ c ∷ d ∷ e ∷ f ∷ g ∷ []) short = refl

-- the bounds of a number of so many bits
bound : (byte rest n k : ℕ) → n ≡ 8 + k → byte < 2 ^ 8 → rest < 2 ^ k → byte + 256 * rest < 2 ^ n
bound byte rest n k is low high = rw (is, pow-add 2 8 k) (omega arith)

pub sum_fits : (bits : List Bool) (byte rest : ℕ) → 8 ≤ length bits → byte < 2 ^ length (take 8 bits) → rest < 2 ^ length (take (length bits - 8) (drop 8 bits))
    → byte + 256 * rest < 2 ^ length bits
sum_fits bits byte rest long low high =
    let front : length (take 8 bits) ≡ 8 = omega (arith, length-take 8 bits) in
    let back : length (take (length bits - 8) (drop 8 bits)) ≡ length bits - 8 = omega (arith, length-take (length bits - 8) (drop 8 bits), length-drop 8 bits) in
    bound byte rest (length bits) (length bits - 8) (omega arith) (rw front at low) (rw back at high)

pub below_64 : (n size : ℕ) → size ≤ 64 → n < 2 ^ size → n < 2 ^ 64
below_64 n size within fits = let more = pow-le-pow_right {n = 2} (omega arith) within in omega arith

-- ---- reading what stands in front

pub read-front : (front rest : List Bool) (width : ℕ) → length front ≡ width → read_number width (front ++ rest) ≡ Some (number_of front ∷ [], rest)
read-front front rest width is =
    let enough : width ≤ length (front ++ rest) = omega (arith, length-append front rest) in
    rw (le-leb width (length (front ++ rest)) enough, ← is, take-append_seam front rest, drop-append_seam front rest) refl

-- one number, and the fields behind it
pub step : (width : ℕ) (next : Layout) (fields : List Layout) (front rest : List Bool) → length front ≡ width
    → read_part (number width ∷ next ∷ fields) (front ++ rest) ≡ (read_part (next ∷ fields) rest >>= λ y. Some (number_of front ∷ y.0, y.1))
step width next fields front rest is =
    ap (λ read. read >>= λ x. read_part (next ∷ fields) x.1 >>= λ y. Some (x.0 ++ y.0, y.1)) (read-front front rest width is)

pub last : (width : ℕ) (front rest : List Bool) → length front ≡ width
    → read_part (number width ∷ []) (front ++ rest) ≡ Some (number_of front ∷ [], rest)
last width front rest is = read-front front rest width is

-- a byte or more behind the last field is no padding
pub no_padding : (read : List ℕ) (rest : List Bool) → 8 ≤ length rest → whole (read, rest) ≡ None
no_padding read rest long = rw (le-ltb (length rest) 8 long) refl

-- a number's bytes, the low one first
pub number-byte : (a : ℕ) (more : List Bool) → a < 256 → number_of (byte_bits a ++ more) ≡ a + 256 * number_of more
number-byte a more fits = ap (λ n. n + 256 * number_of more) (byte-value a fits)
