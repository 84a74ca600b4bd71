-- Which bytes stand in names and numbers.
use Rattle.std.proofs.Common.{◌≡◌, ◌<◌, ◌≤◌, ◌+◌, ◌^◌, ◌==◌, ℕ, List, [], ◌∷◌, ◌++◌, length, refl, true, false, Bool, ◌&&◌, nat_lt, take, drop, ap, sym, ◌∙◌, arith}
use Rattle.std.specs.List.{All, list_all, position_or_len}
use Rattle.std.specs.Char.{is_ascii_alphabetic}
use Rattle.std.proofs.lemmas.Grind.{common_steps}
use Rattle.std.proofs.Math.Seq.{take-append_seam, drop-append_seam}
use Rattle.dsdl_text.specs.Words.{is_name, is_name_byte}
use Rattle.std.proofs.lemmas.List.{append_cancel_right}
use Rattle.dsdl_text.specs.declared.line.Shape.{Shape}
use Rattle.dsdl_text.specs.declared.line.Shape.TheVariants.{One, Exactly, UpTo}
use Rattle.dsdl_text.specs.Lines.{IsShape, shape_text}
use Rattle.std.specs.Fmt.{decimal}
use Rattle.std.proofs.lemmas.Fmt.{decimal_by_steps}
use Rattle.std.proofs.lemmas.List.Elements.{All-cons, All-head, All-nil, All-push}

digits-decimal : (n : ℕ) → n < 2 ^ 64 → All (λ byte. byte < 58) (decimal n)
digits-decimal n small =
    let P : ℕ → List ℕ → Type 0 = λ _ digits. All (λ byte. byte < 58) digits in
    decimal_by_steps P (λ d h. All-cons (λ byte. byte < 58) (48 + d) [] (omega arith) (All-nil (λ byte. byte < 58)))
    (λ m digits h front. All-push (λ byte. byte < 58) digits _ front (omega arith)) n small

-- so `<` is none of them
pub no_angle : (n : ℕ) (rest : List ℕ) → n < 2 ^ 64 → decimal n ≡ 60 ∷ rest → ⊥
no_angle n rest small is = absurd (let h = All-head (λ byte. byte < 58) 60 rest (rw is at (digits-decimal n small)) in omega arith)

-- text that stands in no brackets is of no shape but that of one value
pub no_brackets : (text : List ℕ) → (text ≡ [] → ⊥) → ((inner : List ℕ) → text ≡ 91 ∷ (inner ++ 93 ∷ []) → ⊥)
    → (shape : Shape) → text ≡ shape_text shape → ⊥
no_brackets text filled none One is = filled is
no_brackets text filled none (Exactly count) is = none (decimal count) is
no_brackets text filled none (UpTo most) is = none (60 ∷ 61 ∷ decimal most) is

in_brackets : (a b : List ℕ) → 91 ∷ (a ++ 93 ∷ []) ≡ 91 ∷ (b ++ 93 ∷ []) → a ≡ b
in_brackets a b is = append_cancel_right a b (93 ∷ []) (cc)

-- text in brackets, behind `<=`
pub is_up_to : (text inner digits : List ℕ) → text ≡ 91 ∷ (inner ++ 93 ∷ []) → inner ≡ 60 ∷ 61 ∷ digits
    → (shape : Shape) → text ≡ shape_text shape → IsShape shape
    → (most : ℕ) × (1 ≤ most) × (most < 256) × (digits ≡ decimal most) × (shape ≡ UpTo most)
is_up_to text inner digits brackets front One is fits = absurd (cc)
is_up_to text inner digits brackets front (Exactly count) is fits =
    absurd (no_angle count (61 ∷ digits) (omega arith) (sym (in_brackets inner (decimal count) (sym brackets ∙ is)) ∙ front))
is_up_to text inner digits brackets front (UpTo most) is fits =
    let same = in_brackets inner (60 ∷ 61 ∷ decimal most) (sym brackets ∙ is) in
    (most, fits.0, fits.1, cc, refl)

-- text in brackets with no `<=`
pub is_exactly : (text inner : List ℕ) → text ≡ 91 ∷ (inner ++ 93 ∷ []) → ((digits : List ℕ) → inner ≡ 60 ∷ 61 ∷ digits → ⊥)
    → (shape : Shape) → text ≡ shape_text shape → IsShape shape
    → (count : ℕ) × (1 ≤ count) × (count < 256) × (inner ≡ decimal count) × (shape ≡ Exactly count)
is_exactly text inner brackets front One is fits = absurd (cc)
is_exactly text inner brackets front (Exactly count) is fits =
    (count, fits.0, fits.1, in_brackets inner (decimal count) (sym brackets ∙ is), refl)
is_exactly text inner brackets front (UpTo most) is fits =
    absurd (front (decimal most) (in_brackets inner (60 ∷ 61 ∷ decimal most) (sym brackets ∙ is)))

name-byte : (byte : ℕ) → is_name_byte byte ≡ true → (byte == 91) ≡ false
name-byte byte name = grind (arith, common_steps)

letter : (byte : ℕ) → is_ascii_alphabetic byte ≡ true → (byte == 91) ≡ false
letter byte name = grind (arith, common_steps)

both : (a b : Bool) → (a && b) ≡ true → (a ≡ true) × (b ≡ true)
both true b e = (refl, e)
both false b e = absurd (cc)

place-none : (shape : Shape) → position_or_len (λ byte. byte == 91) (shape_text shape) ≡ 0
place-none One = refl
place-none (Exactly count) = refl
place-none (UpTo most) = refl

place-rest : (rest : List ℕ) → list_all is_name_byte rest ≡ true → (shape : Shape)
    → position_or_len (λ byte. byte == 91) (rest ++ shape_text shape) ≡ length rest
place-rest [] names shape = place-none shape
place-rest (byte ∷ rest) names shape =
    let parts = both (is_name_byte byte) (list_all is_name_byte rest) names in
    rw (name-byte byte parts.0, place-rest rest parts.1 shape) (omega arith)

-- a bracket stands first behind the name of a type
pub place-name : (name : List ℕ) → is_name name ≡ true → (shape : Shape)
    → position_or_len (λ byte. byte == 91) (name ++ shape_text shape) ≡ length name
place-name [] named shape = place-none shape
place-name (first ∷ rest) named shape =
    let parts = both (is_ascii_alphabetic first) (nat_lt (length rest) 40 && list_all is_name_byte rest) named in
    let more = both (nat_lt (length rest) 40) (list_all is_name_byte rest) parts.1 in
    rw (letter first parts.0, place-rest rest more.1 shape) (omega arith)

-- so the name and the shape of a word are what stands in front of it and from it on
pub name_and_shape : (word name : List ℕ) (shape : Shape) (place : ℕ) → place ≡ position_or_len (λ byte. byte == 91) word
    → is_name name ≡ true → word ≡ name ++ shape_text shape
    → (name ≡ take place word) × (drop place word ≡ shape_text shape)
name_and_shape word name shape place is named spelt =
    let at : place ≡ length name = is ∙ ap (position_or_len (λ byte. byte == 91)) spelt ∙ place-name name named shape in
    (rw (at, spelt, take-append_seam) refl, rw (at, spelt, drop-append_seam) refl)
