-- What the reading of numbers and bytes rests on.
use Rattle.std.proofs.Common.{◌≡◌, ◌≢◌, ◌<◌, ◌≤◌, ◌+◌, ◌-◌, ◌*◌, ◌%◌, ◌/◌, ◌^◌, ℕ, zero, suc, List, [], ◌∷◌, ◌++◌, length, get_or, replicate, Result, Ok, arith, inl, inr, sym, ap, ◌∙◌, refl, true, length-append, append_assoc, take}
use Rattle.std.specs.List.{All, AllPass}
use Rattle.std.specs.Fmt.{decimal}
use Rattle.std.specs.Str.{IsAscii}
use Rattle.std.specs.Str.Parse.{AllDigits, ParsesUnsigned, digits_value}
use Rattle.std.specs.Char.{is_ascii_hexdigit}
use Rattle.std.specs.Result.{OkIff}
use Rattle.std.proofs.lemmas.Bool.{cases_eq}
use Rattle.std.proofs.lemmas.List.Elements.{All-from_get_or, All-weaker}
use Rattle.std.proofs.lemmas.Fmt.{IsAscii-from_digits, decimal_is_IsNumeral, length-decimal-le}
use Rattle.std.proofs.lemmas.List.{length-replicate, take_more}
use Rattle.std.proofs.lemmas.Str.Parse.{IsNumeralModel, digit_at, digits_value_short, numerals_by_value, parse_gives, parse_plain, tells_digits}
use Rattle.hex.specs.Hex.{decode_of, encode_with, is_hex_digit}
use Rattle.replay_text.proofs.Numbers.{digits-decoded}
use Rattle.can_logs.specs.Words.{IsDecimal, zero_padded}

digits : IsNumeralModel (AllDigits 10) (digits_value 10)
digits = numerals_by_value (AllDigits 10) tells_digits

-- digits below a power of ten
pub decimal_short : (n : ℕ) (word : List ℕ) → IsDecimal n word → n < 10 ^ length word
decimal_short n word is = rw (← is.value) (digits_value_short digits word (length word) is.digits.1 (omega arith))

pub decimal_below : (n k : ℕ) (word : List ℕ) → IsDecimal n word → length word ≤ k → n < 10 ^ k
decimal_below n k word is few = rw (← is.value) (digits_value_short digits word k is.digits.1 few)

pub decimal_ascii : (n : ℕ) (word : List ℕ) → IsDecimal n word → IsAscii word
decimal_ascii n word is = IsAscii-from_digits word is.digits.1

-- a word of at most ten digits is parsed
pub decimal_parsed : {E : Type 0} (n : ℕ) (word : List ℕ) (r : Result ℕ E) → length word ≤ 10 → ParsesUnsigned 64 10 word r → IsDecimal n word → r ≡ Ok n
decimal_parsed n word r few parses is =
    let below = digits_value_short digits word 10 is.digits.1 few in
    parse_gives digits 64 word r parses is.digits.1 is.digits.0 (omega arith) ∙ ap Ok is.value

ok_parts : {E : Type 0} (r : Result ℕ E) (n v : ℕ) (P : Type 0) → r ≡ Ok n → OkIff r P v → P × (n ≡ v)
ok_parts r n v P is h = rw is at h

-- a word that is parsed is digits, where no plus leads
pub parsed_decimal : {E : Type 0} (n : ℕ) (word : List ℕ) (r : Result ℕ E) → get_or word 0 0 ≢ 43 → ParsesUnsigned 64 10 word r → r ≡ Ok n → IsDecimal n word
parsed_decimal n word r plain parses is =
    let found = ok_parts r n (digits_value 10 word) (AllDigits 10 word × (0 < length word) × (digits_value 10 word < 2 ^ 64)) is (parse_plain digits 64 word r parses plain) in
    record { digits = (found.0.1, found.0.0); value = sym found.1 }

-- ---- bytes that are not among digits

pub decimal_without : (byte n : ℕ) (word : List ℕ) → byte < 48 → IsDecimal n word → All (λ other. other ≢ byte) word
decimal_without byte n word low is =
    All-from_get_or (λ other. other ≢ byte) word 0 (λ i within e. let digit = digit_at word i is.digits.1 within in absurd (omega (arith, digit)))

least_digit : (byte : ℕ) → is_hex_digit byte ≡ true → 48 ≤ byte
least_digit byte digit = grind (arith)

least_ascii_digit : (byte : ℕ) → is_ascii_hexdigit byte ≡ true → 48 ≤ byte
least_ascii_digit byte digit = grind (arith)

pub hex_without : (byte : ℕ) (word bytes : List ℕ) → byte < 48 → decode_of word ≡ Ok bytes → All (λ other. other ≢ byte) word
hex_without byte word bytes low read =
    All-weaker (λ other. is_hex_digit other ≡ true) (λ other. other ≢ byte)
    (λ other digit e. let least = least_digit other digit in absurd (omega arith)) word (digits-decoded word bytes read)

pub ascii_hex_without : (byte : ℕ) (word : List ℕ) → byte < 48 → AllPass is_ascii_hexdigit word → All (λ other. other ≢ byte) word
ascii_hex_without byte word low all =
    All-weaker (λ other. is_ascii_hexdigit other ≡ true) (λ other. other ≢ byte)
    (λ other digit e. let least = least_ascii_digit other digit in absurd (omega arith)) word all

-- ---- zeros in front

zeros_first : (count : ℕ) (word : List ℕ) → digits_value 10 (replicate count 48 ++ word) ≡ digits_value 10 word
zeros_first zero word = refl
zeros_first (suc count) word = zeros_first count word

zeros_digits : (count : ℕ) (word : List ℕ) → AllDigits 10 word → AllDigits 10 (replicate count 48 ++ word)
zeros_digits zero word all = all
zeros_digits (suc count) word all = (omega arith, zeros_digits count word all)

pub length-zero_padded : (width n : ℕ) → 0 < width → width ≤ 10 → n < 10 ^ width → n < 2 ^ 64 → length (zero_padded width n) ≡ width
length-zero_padded width n some few fits small =
    omega (
      arith,
      length-append (replicate (width - length (decimal n)) 48) (decimal n),
      length-replicate {A = ℕ} (width - length (decimal n)) 48,
      length-decimal-le width n some fits small,
    )

-- a number with zeros in front is spelled so
pub zero_padded_decimal : (width n : ℕ) → n < 2 ^ 64 → IsDecimal n (zero_padded width n)
zero_padded_decimal width n small =
    let own = decimal_is_IsNumeral n small in
    let count : ℕ = width - length (decimal n) in
    record {
      digits = (omega (arith, length-append (replicate count 48) (decimal n), own.0.0), zeros_digits count (decimal n) own.0.1);
      value = zeros_first count (decimal n) ∙ own.1;
    }

-- ---- bytes that are written

-- the digits of one more byte
pub encode_push : (table bytes : List ℕ) (byte : ℕ) → encode_with table (bytes ++ byte ∷ []) ≡ encode_with table bytes ++ get_or table (byte / 16) 0 ∷ get_or table (byte % 16) 0 ∷ []
unfolding encode_with
encode_push table [] byte = refl
encode_push table (first ∷ bytes) byte =
    ap (λ digits. get_or table (first / 16) 0 ∷ get_or table (first % 16) 0 ∷ digits) (encode_push table bytes byte)

-- a loop that writes the digits of the next byte
pub hex_more : (table old bytes text one two : List ℕ) (i high low : ℕ) → i < length bytes → text ≡ old ++ encode_with table (take i bytes)
    → high ≡ get_or bytes i 0 / 16 → low ≡ get_or bytes i 0 % 16
    → one ≡ text ++ get_or table high 0 ∷ [] → two ≡ one ++ get_or table low 0 ∷ []
    → two ≡ old ++ encode_with table (take (i + 1) bytes)
hex_more table old bytes text one two i high low within so_far is_high is_low first second =
    second ∙ ap (λ l. l ++ get_or table low 0 ∷ []) first
    ∙ append_assoc text (get_or table high 0 ∷ []) (get_or table low 0 ∷ [])
    ∙ ap (λ l. l ++ get_or table high 0 ∷ get_or table low 0 ∷ []) so_far
    ∙ append_assoc old (encode_with table (take i bytes)) (get_or table high 0 ∷ get_or table low 0 ∷ [])
    ∙ ap (λ l. old ++ l)
    (ap (λ h. encode_with table (take i bytes) ++ get_or table h 0 ∷ get_or table low 0 ∷ []) is_high
    ∙ ap (λ l. encode_with table (take i bytes) ++ get_or table (get_or bytes i 0 / 16) 0 ∷ get_or table l 0 ∷ []) is_low
    ∙ sym (encode_push table (take i bytes) (get_or bytes i 0))
    ∙ ap (encode_with table) (sym (take_more bytes i 0 within)))
