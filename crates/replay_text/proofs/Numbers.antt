-- What the reading of numbers and bytes rests on.
use Rattle.std.proofs.Common.{◌≡◌, ◌<◌, ◌≤◌, ◌+◌, ◌-◌, ◌*◌, ◌%◌, ◌^◌, ℕ, zero, suc, List, [], ◌∷◌, length, drop, get_or, drop-cons, Ok, arith, inl, inr, sym, ap, ◌∙◌}
use Rattle.std.specs.List.{AllPass}
use Rattle.std.specs.Fmt.{decimal}
use Rattle.std.specs.Char.{digit_value}
use Rattle.std.specs.Int.{IsInRange}
use Rattle.std.specs.Str.Parse.{AllDigits, IsNumeral, digits_value, digits_value_after}
use Rattle.std.proofs.lemmas.Bool.{cases_eq}
use Rattle.std.proofs.lemmas.Fmt.{decimal-digits_value, decimal_digit, decimal_is_IsNumeral, first_decimal}
use Rattle.std.proofs.lemmas.Str.{digit_value_digit}
use Rattle.std.proofs.lemmas.Str.Parse.{numerals_by_value, tells_digits}
use Rattle.hex.specs.Hex.{IsBytes, decode_of, decode_pairs, is_hex_digit}
use Rattle.hex.proofs.HexLemmas.{decode_of-even, decode_of-odd, decode_pairs-ok}

-- a decimal text is digits, and they write its number
pub digits-decimal : (n : ℕ) (word : List ℕ) → n < 2 ^ 64 → word ≡ decimal n → IsNumeral 10 word × (digits_value 10 word ≡ n)
digits-decimal n word small spelt = rw spelt (decimal_is_IsNumeral n small)

-- and it has no leading zero
pub leading-decimal : (n : ℕ) (word : List ℕ) → n < 2 ^ 64 → word ≡ decimal n → get_or word 0 0 ≡ 48 → length word ≡ 1
leading-decimal zero word small spelt lead = ap length (spelt ∙ decimal_digit 0 (omega arith))
leading-decimal (suc n) word small spelt lead =
    let first = first_decimal (suc n) (omega arith) small in
    let same : get_or word 0 0 ≡ get_or (decimal (suc n)) 0 0 = ap (λ text. get_or text 0 0) spelt in
    absurd (omega arith)

-- digits without a leading zero are the decimal text of the number that they write
pub decimal-digits : (word : List ℕ) → IsNumeral 10 word → (get_or word 0 0 ≡ 48 → length word ≡ 1) → digits_value 10 word < 2 ^ 64 → word ≡ decimal (digits_value 10 word)
decimal-digits word is lead small = sym (decimal-digits_value (numerals_by_value (AllDigits 10) tells_digits) word is.1 is.0 lead small)

-- of the digits `all`, those before `rest` write n
pub record WritesSoFar (all rest : List ℕ) (n : ℕ) : Type 0 where
  pub same : digits_value_after 10 n rest ≡ digits_value 10 all
  pub back : AllDigits 10 rest → AllDigits 10 all
  pub on : AllDigits 10 all → AllDigits 10 rest

-- more digits write no smaller number
pub rises : (n : ℕ) (digits : List ℕ) → n ≤ digits_value_after 10 n digits
rises n [] = omega arith
rises n (digit ∷ digits) = omega (arith, rises (n * 10 + digit_value digit) digits)

-- with the digit that comes next they write a number that is too large
pub writes_too_much : (all word : List ℕ) (at n : ℕ) → WritesSoFar all (drop at word) n → at < length word → IsInRange 48 57 (get_or word at 0) → (n * 10 + (get_or word at 0 - 48) < 2 ^ 64 → ⊥) → digits_value 10 all < 2 ^ 64 → ⊥
writes_too_much all word at n so_far inside digit large small =
    let value = digit_value_digit (get_or word at 0) digit in
    let more = rises (n * 10 + digit_value (get_or word at 0)) (drop (suc at) word) in
    let next = ap (digits_value_after 10 n) (drop-cons word at 0 inside) in
    omega (arith, so_far.same)

-- a word that is decoded has an even number of digits
decoded_by_pairs : (word bytes : List ℕ) → decode_of word ≡ Ok bytes → decode_pairs 0 word ≡ Ok bytes
decoded_by_pairs word bytes read =
    elim (cases_eq (length word % 2) 0) [
      | inl even ↦ sym (decode_of-even word even) ∙ read
      | inr odd ↦ let none = decode_of-odd word (omega arith) in absurd (cc)
    ]

-- it has two for each byte
pub length-decoded : (word bytes : List ℕ) → decode_of word ≡ Ok bytes → (length word ≡ 2 * length bytes) × IsBytes bytes
length-decoded word bytes read = let pairs = decode_pairs-ok 0 word bytes (decoded_by_pairs word bytes read) in (pairs.1, pairs.2)

-- and hexadecimal digits alone
pub digits-decoded : (word bytes : List ℕ) → decode_of word ≡ Ok bytes → AllPass is_hex_digit word
digits-decoded word bytes read = (decode_pairs-ok 0 word bytes (decoded_by_pairs word bytes read)).0
