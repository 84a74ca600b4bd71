-- Words are those of one line at most.
use Rattle.std.proofs.Common.{◌≡◌, ◌<◌, ◌^◌, ℕ, ◌==◌, List, [], ◌∷◌, ◌++◌, Option, Some, None, true, get_or, refl, sym, ap, ◌∙◌, arith}
use Rattle.std.specs.Prelude.{codes, decimal}
use Rattle.std.proofs.lemmas.Fmt.{decimal_injective}
use Rattle.std.proofs.lemmas.List.{append_cancel_right}
use Rattle.arrayvec.specs.ArrayVec.{ArrayVec as Items}
use Rattle.dsdl_text.specs.declared.line.Line.{Line}
use Rattle.dsdl_text.specs.declared.line.Line.TheVariants.{Empty, Section, Divider, Void, Field, Constant}
use Rattle.dsdl_text.specs.declared.line.Shape.{Shape}
use Rattle.dsdl_text.specs.declared.line.Shape.TheVariants.{One, Exactly, UpTo}
use Rattle.dsdl_text.specs.Lines.{IsShape, Spells, SpellsValue, shape_text}
use Rattle.dsdl_text.specs.Words.{is_name}
use Rattle.std.specs.List.{position_or_len}
use Rattle.dsdl_text.proofs.Spelling.{name_and_shape, no_angle}

one_number : (m n : ℕ) → m < 2 ^ 64 → n < 2 ^ 64 → decimal m ≡ decimal n → m ≡ n
one_number = decimal_injective

one_list : (a b : Items ℕ) → a.items ≡ b.items → a ≡ b
one_list a b same = let listed : List ℕ → Items ℕ = λ xs. record { items = xs } in ap listed same

one_value : (a b : Option ℕ) (word : List ℕ) → SpellsValue a word → SpellsValue b word → a ≡ b
one_value None None word x y = refl
one_value None (Some n) word x y = absurd (x.1 n y.0 y.1)
one_value (Some m) None word x y = absurd (y.1 m x.0 x.1)
one_value (Some m) (Some n) word x y = ap Some (one_number m n x.0 y.0 (sym x.1 ∙ y.1))

one_shape : (a b : Shape) → IsShape a → IsShape b → shape_text a ≡ shape_text b → a ≡ b
one_shape One One x y same = refl
one_shape One (Exactly n) x y same = absurd (cc)
one_shape One (UpTo n) x y same = absurd (cc)
one_shape (Exactly m) One x y same = absurd (cc)
one_shape (Exactly m) (Exactly n) x y same =
    ap Exactly (one_number m n (omega arith) (omega arith) (append_cancel_right (decimal m) (decimal n) (codes "]") (cc)))
one_shape (Exactly m) (UpTo n) x y same =
    let inner : decimal m ≡ 60 ∷ 61 ∷ decimal n = append_cancel_right (decimal m) (60 ∷ 61 ∷ decimal n) (codes "]") (cc) in
    absurd (no_angle m (61 ∷ decimal n) (omega arith) inner)
one_shape (UpTo m) One x y same = absurd (cc)
one_shape (UpTo m) (Exactly n) x y same =
    let inner : decimal n ≡ 60 ∷ 61 ∷ decimal m = append_cancel_right (decimal n) (60 ∷ 61 ∷ decimal m) (codes "]") (cc) in
    absurd (no_angle n (61 ∷ decimal m) (omega arith) inner)
one_shape (UpTo m) (UpTo n) x y same =
    ap UpTo (one_number m n (omega arith) (omega arith) (append_cancel_right (decimal m) (decimal n) (codes "]") (cc)))

-- `@` is no type's name
no_type : (name : List ℕ) (shape : Shape) → is_name name ≡ true → codes "@" ≡ name ++ shape_text shape → ⊥
no_type [] shape named same = absurd (cc)
no_type (first ∷ rest) shape named same =
    let at : 64 ≡ first = ap (λ word. get_or word 0 0) same in
    absurd (let h = rw (← at) at named in cc)

one_field : (s t : Items ℕ) (a b : Shape) (word : List ℕ) → word ≡ s.items ++ shape_text a → word ≡ t.items ++ shape_text b
    → is_name s.items ≡ true → is_name t.items ≡ true → IsShape a → IsShape b → (s ≡ t) × (a ≡ b)
one_field s t a b word x y named also fits fit =
    let place = position_or_len (λ byte. byte == 91) word in
    let first = name_and_shape word s.items a place refl named x in
    let second = name_and_shape word t.items b place refl also y in
    (one_list s t (first.0 ∙ sym second.0), one_shape a b fits fit (sym first.1 ∙ second.1))

abbrev first_byte : List (List ℕ) → ℕ
first_byte words = get_or (get_or words 0 []) 0 0

pub one_line : (a b : Line) (words : List (List ℕ)) → Spells a words → Spells b words → a ≡ b
one_line Empty Empty words x y = refl
one_line (Section m) (Section n) words x y = ap Section (one_list m n (cc))
one_line Divider Divider words x y = refl
one_line (Void m) (Void n) words x y =
    let same = sym x.0 ∙ y.0 in
    ap Void (one_number m n (omega (arith, x.2)) (omega (arith, y.2)) (cc same))
one_line (Field s a m) (Field t b n) words x y =
    let same = sym x.0 ∙ y.0 in
    let parts = one_field s t a b (s.items ++ shape_text a) refl (cc same) x.1 y.1 x.2 y.2 in
    let type = parts.0 in
    let shape = parts.1 in
    let name = one_list m n (cc same) in
    cc
one_line (Constant s m v) (Constant t n w) words x y =
    let same = sym x.1 ∙ y.1 in
    let type = one_list s t (cc same) in
    let name = one_list m n (cc same) in
    let word : x.0 ≡ y.0 = cc same in
    let value = one_value v w y.0 (rw word at x.4) y.4 in
    cc
one_line Divider (Void n) words x y = absurd (let letter = ap first_byte (sym x ∙ y.0) in omega arith)
one_line (Void m) Divider words x y = absurd (let letter = ap first_byte (sym y ∙ x.0) in omega arith)
one_line (Section m) (Field t b n) words x y = absurd (no_type t.items b y.1 (ap (λ ws. get_or ws 0 []) (sym x.0 ∙ y.0)))
one_line (Field s a m) (Section n) words x y = absurd (no_type s.items a x.1 (ap (λ ws. get_or ws 0 []) (sym y.0 ∙ x.0)))
one_line a b words x y = absurd (cc)
