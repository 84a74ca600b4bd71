-- What the digits at the front of a text say of its words.
use Rattle.std.proofs.Common.{suc, ◌≡◌, ◌<◌, ◌≤◌, ◌+◌, ◌-◌, ◌*◌, ◌^◌, ℕ, List, [], ◌∷◌, ◌++◌, length, take, drop, get_or, drop-cons, Option, None, Some, refl, sym, ap, ◌∙◌, arith, length-append, take-append-drop, append-nil, ◌==◌}
use Rattle.std.specs.List.{join_with_byte}
use Rattle.std.specs.Char.{digit_value}
use Rattle.std.specs.Fmt.{decimal}
use Rattle.std.specs.Str.Parse.{AllDigits, digits_value, digits_value_after}
use Rattle.std.proofs.lemmas.Bool.Decides.{nat_tests}
use Rattle.std.proofs.lemmas.Fmt.{decimal_nonempty}
use Rattle.std.proofs.lemmas.List.Splits.{slice_split_at}
use Rattle.std.proofs.lemmas.Str.{digit_value_digit}
use Rattle.std.proofs.lemmas.Str.Parse.{digit_at}
use Rattle.std.proofs.Math.Seq.{get_or-append_seam, take-append_seam}
use Rattle.replay_text.specs.Words.{words}
use Rattle.replay_text.specs.Digits.{digits_in_front}
use Rattle.replay_text.proofs.Numbers.{decimal-digits, digits-decimal, leading-decimal, rises}
use Rattle.replay_text.proofs.Visible.{join-words, no_space, visible-decimal}

-- the byte that comes next, and what stands behind it
pub next-drop : (text : List ℕ) (at : ℕ) → at < length text → drop at text ≡ get_or text at 0 ∷ drop (at + 1) text
next-drop text at inside =
    let next : suc at ≡ at + 1 = omega arith in
    drop-cons text at 0 inside ∙ ap (λ (k : ℕ). get_or text at 0 ∷ drop k text) next

pub a-digit : (most n size byte : ℕ) (bytes : List ℕ) → 48 ≤ byte → byte ≤ 57 → 10 * n + (byte - 48) ≤ most
    → digits_in_front most n size (byte ∷ bytes) ≡ digits_in_front most (10 * n + (byte - 48)) (size + 1) bytes
a-digit most n size byte bytes low high within = grind (arith, nat_tests)

-- digits, and then what is none, are read to their end
all-digits : (digits rest : List ℕ) (most n size : ℕ) → AllDigits 10 digits → digits_value_after 10 n digits ≤ most
    → ((m k : ℕ) → digits_in_front most m k rest ≡ Some (m, k))
    → digits_in_front most n size (digits ++ rest) ≡ Some (digits_value_after 10 n digits, size + length digits)
all-digits [] rest most n size all within stops = stops n size ∙ ap (λ (k : ℕ). Some (n, k)) (omega arith)
all-digits (digit ∷ digits) rest most n size all within stops =
    let range = digit_at (digit ∷ digits) 0 all (omega arith) in
    let value = digit_value_digit digit range in
    let next : 10 * n + (digit - 48) ≡ n * 10 + digit_value digit = omega (arith, value) in
    let more = rises (n * 10 + digit_value digit) digits in
    a-digit most n size digit (digits ++ rest) (omega (arith, range)) (omega (arith, range)) (omega (arith, next, more))
    ∙ ap (λ m. digits_in_front most m (size + 1) (digits ++ rest)) next
    ∙ all-digits digits rest most (n * 10 + digit_value digit) (size + 1) all.1 within stops
    ∙ ap (λ (k : ℕ). Some (digits_value_after 10 (n * 10 + digit_value digit) digits, k)) (omega arith)

-- the text of a number, and then what is no digit
read-decimal : (n most : ℕ) (rest : List ℕ) → n < 2 ^ 64 → n ≤ most → ((m k : ℕ) → digits_in_front most m k rest ≡ Some (m, k))
    → digits_in_front most 0 0 (decimal n ++ rest) ≡ Some (n, length (decimal n))
read-decimal n most rest small within stops =
    let digits = digits-decimal n (decimal n) small refl in
    let whole : 0 + length (decimal n) ≡ length (decimal n) = omega arith in
    all-digits (decimal n) rest most 0 0 digits.0.1 (omega (arith, digits.1)) stops
    ∙ ap (λ (k : ℕ). Some (digits_value 10 (decimal n), k)) whole
    ∙ ap (λ (m : ℕ). Some (m, length (decimal n))) digits.1

-- what the front of a text is whose first word is a number
pub record HasFront (text : List ℕ) (most n : ℕ) (rest : List ℕ) : Type 0 where
  pub is : text ≡ decimal n ++ rest
  pub exact : digits_in_front most 0 0 text ≡ Some (n, length (decimal n))

pub first-front : (text next : List ℕ) (more : List (List ℕ)) (most n : ℕ) → n < 2 ^ 64 → n ≤ most
    → words text ≡ decimal n ∷ next ∷ more → HasFront text most n (32 ∷ join_with_byte 32 (next ∷ more))
first-front text next more most n small within spelt =
    let is = sym (join-words text) ∙ ap (join_with_byte 32) spelt in
    record { is = is; exact = ap (digits_in_front most 0 0) is ∙ read-decimal n most _ small within (λ m k. refl) }

pub last-front : (text : List ℕ) (most n : ℕ) → n < 2 ^ 64 → n ≤ most → words text ≡ decimal n ∷ [] → HasFront text most n []
last-front text most n small within spelt =
    let is = sym (join-words text) ∙ ap (join_with_byte 32) spelt ∙ sym (append-nil (decimal n)) in
    record { is = is; exact = ap (digits_in_front most 0 0) is ∙ read-decimal n most [] small within (λ m k. refl) }

abbrev number_of : Option (ℕ × ℕ) → ℕ
number_of None = 0
number_of (Some front) = front.0

abbrev size_of : Option (ℕ × ℕ) → ℕ
size_of None = 0
size_of (Some front) = front.1

-- what was read of such a front
pub read-number : (text rest : List ℕ) (most n m size : ℕ) → HasFront text most n rest → Some (m, size) ≡ digits_in_front most 0 0 text
    → (m ≡ n) × (size ≡ length (decimal n))
read-number text rest most n m size front read = (ap number_of (read ∙ front.exact), ap size_of (read ∙ front.exact))

pub not-unread : (text rest : List ℕ) (most n : ℕ) → HasFront text most n rest → None ≡ digits_in_front most 0 0 text → ⊥
not-unread text rest most n front read = let e : ◌≡◌ {A = Option (ℕ × ℕ)} None (Some (n, length (decimal n))) = read ∙ front.exact in absurd (cc)

-- the space behind it
pub space-behind : (text rest : List ℕ) (most n size : ℕ) → HasFront text most n (32 ∷ rest) → size ≡ length (decimal n)
    → (size < length text) × (get_or text size 0 ≡ 32)
space-behind text rest most n size front e = (
  omega (arith, ap length front.is, length-append (decimal n) (32 ∷ rest)),
  ap (λ k. get_or text k 0) e ∙ ap (λ t. get_or t (length (decimal n)) 0) front.is ∙ get_or-append_seam (decimal n) 32 rest 0,
)

-- its digits
pub digits-before : (text rest : List ℕ) (most n size : ℕ) → HasFront text most n rest → size ≡ length (decimal n) → take size text ≡ decimal n
digits-before text rest most n size front e =
    ap (λ k. take k text) e ∙ ap (take (length (decimal n))) front.is ∙ take-append_seam (decimal n) rest

-- digits with a space behind them are the first word
pub first-word : (text : List ℕ) (n size : ℕ) → size < length text → get_or text size 0 ≡ 32 → n < 2 ^ 64
    → take size text ≡ decimal n → words text ≡ decimal n ∷ words (drop (size + 1) text)
first-word text n size inside space small word =
    let cut : text ≡ decimal n ++ 32 ∷ drop (size + 1) text =
    sym (take-append-drop size text) ∙ ap (λ front. front ++ drop size text) word
    ∙ ap (λ rest. decimal n ++ rest) (next-drop text size inside ∙ ap (λ byte. byte ∷ drop (size + 1) text) space) in
    ap words cut
    ∙ slice_split_at (λ byte. byte == 32) (decimal n) 32 (drop (size + 1) text) (no_space (decimal n) (visible-decimal n small)) refl

-- a text is that of one number
pub same-number : (m n : ℕ) → m < 2 ^ 64 → n < 2 ^ 64 → decimal m ≡ decimal n → m ≡ n
same-number m n m_small n_small same =
    sym (digits-decimal m (decimal m) m_small refl).1 ∙ ap (digits_value 10) same ∙ (digits-decimal n (decimal n) n_small refl).1

-- digits of a number without leading zeros are its text
pub numeral-text : (word : List ℕ) (n : ℕ) → n < 2 ^ 64 → AllDigits 10 word → n ≡ digits_value 10 word → 0 < length word
    → (get_or word 0 0 ≡ 48 → length word ≡ 1) → word ≡ decimal n
numeral-text word n small digits value filled lead =
    decimal-digits word (filled, digits) lead (omega (arith, value)) ∙ ap decimal (sym value)

-- and its text has no leading zeros
pub text-numeral : (word : List ℕ) (n : ℕ) → n < 2 ^ 64 → word ≡ decimal n → (0 < length word) × (get_or word 0 0 ≡ 48 → length word ≡ 1)
text-numeral word n small spelt =
    (omega (arith, ap length spelt, decimal_nonempty n small), leading-decimal n word small spelt)
