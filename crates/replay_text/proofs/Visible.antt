-- The bytes of words are above 32, so no space and no line feed is among them.
use Rattle.std.proofs.Common.{◌≡◌, ◌<◌, ◌≤◌, ◌+◌, ◌^◌, ◌==◌, ℕ, List, [], ◌∷◌, true, false, Ok, leb, refl, ap, ◌∙◌, arith}
use Rattle.std.specs.List.{All, join_with_byte, list_all}
use Rattle.std.specs.Fmt.{decimal}
use Rattle.std.proofs.lemmas.Bool.{leb-true, ne_eqb}
use Rattle.std.proofs.lemmas.Fmt.{decimal_by_steps}
use Rattle.std.proofs.lemmas.List.Elements.{All-append, All-cons, All-head, All-nil, All-push, All-tail, All-weaker}
use Rattle.std.proofs.lemmas.List.Splits.{join_with_byte-slice_split, slice_split_at, slice_split_none}
use Rattle.std.proofs.lemmas.List.Sums.{AllPass-from_list_all}
use Rattle.hex.specs.Hex.{decode_of, is_hex_digit}
use Rattle.replay_text.specs.Words.{words}
use Rattle.replay_text.proofs.Numbers.{digits-decoded}

-- no byte of the word is a space, a line feed or below
abbrev pub IsVisible : List ℕ → Type 0
IsVisible word = All (λ byte. 33 ≤ byte) word

-- a word that is written out
pub visible-literal : (word : List ℕ) → list_all (λ byte. leb 33 byte) word ≡ true → IsVisible word
visible-literal word test =
    All-weaker (λ byte. leb 33 byte ≡ true) (λ byte. 33 ≤ byte) (λ byte passes. leb-true 33 byte passes) word
    (AllPass-from_list_all (λ byte. leb 33 byte) word test)

pub visible-decimal : (n : ℕ) → n < 2 ^ 64 → IsVisible (decimal n)
visible-decimal n small =
    let P : ℕ → List ℕ → Type 0 = λ _ digits. IsVisible digits in
    decimal_by_steps P (λ d h. All-cons (λ byte. 33 ≤ byte) (48 + d) [] (omega arith) (All-nil (λ byte. 33 ≤ byte)))
    (λ m digits h front. All-push (λ byte. 33 ≤ byte) digits _ front (omega arith)) n small

visible-digit : (byte : ℕ) → is_hex_digit byte ≡ true → 33 ≤ byte
visible-digit byte digit = grind (arith)

pub visible-hex : (bytes word : List ℕ) → decode_of word ≡ Ok bytes → IsVisible word
visible-hex bytes word read =
    All-weaker (λ byte. is_hex_digit byte ≡ true) (λ byte. 33 ≤ byte) visible-digit word (digits-decoded word bytes read)

abbrev pub AreVisible : List (List ℕ) → Type 0
AreVisible line = All IsVisible line

pub no_space : (word : List ℕ) → IsVisible word → All (λ byte. (byte == 32) ≡ false) word
no_space word visible =
    All-weaker (λ byte. 33 ≤ byte) (λ byte. (byte == 32) ≡ false) (λ byte h. ne_eqb byte 32 (λ e. absurd (omega arith))) word visible

-- words that are joined with spaces are those words again
pub words-joined : (word : List ℕ) (more : List (List ℕ)) → AreVisible (word ∷ more)
    → words (join_with_byte 32 (word ∷ more)) ≡ word ∷ more
words-joined word [] visible = slice_split_none (λ byte. byte == 32) word (no_space word (All-head IsVisible word [] visible))
words-joined word (next ∷ more) visible =
    slice_split_at (λ byte. byte == 32) word 32 (join_with_byte 32 (next ∷ more)) (no_space word (All-head IsVisible word (next ∷ more) visible)) refl
    ∙ ap (λ line. word ∷ line) (words-joined next more (All-tail IsVisible word (next ∷ more) visible))

-- no byte of such a line is below 32
pub bytes-joined : (line : List (List ℕ)) → AreVisible line → All (λ byte. 32 ≤ byte) (join_with_byte 32 line)
bytes-joined [] visible = All-nil (λ byte. 32 ≤ byte)
bytes-joined (word ∷ []) visible =
    All-weaker (λ byte. 33 ≤ byte) (λ byte. 32 ≤ byte) (λ byte h. omega arith) word (All-head IsVisible word [] visible)
bytes-joined (word ∷ next ∷ more) visible =
    let front = All-weaker (λ byte. 33 ≤ byte) (λ byte. 32 ≤ byte) (λ byte h. omega arith) word (All-head IsVisible word (next ∷ more) visible) in
    All-append (λ byte. 32 ≤ byte) word _ front
    (All-cons (λ byte. 32 ≤ byte) 32 _ (omega arith) (bytes-joined (next ∷ more) (All-tail IsVisible word (next ∷ more) visible)))

-- a line is its words joined with spaces
pub join-words : (line : List ℕ) → join_with_byte 32 (words line) ≡ line
join-words line = join_with_byte-slice_split 32 line

-- the text of a number is one word
pub number-alone : (n : ℕ) (text : List ℕ) → n < 2 ^ 64 → text ≡ decimal n → words text ≡ decimal n ∷ []
number-alone n text small spelt = rw spelt
    (words-joined (decimal n) [] (All-cons IsVisible (decimal n) [] (visible-decimal n small) (All-nil IsVisible)))
