-- Texts by their lines, and the bits of counts.
use Rattle.std.proofs.Common.{◌≡◌, ◌<◌, ◌≤◌, ◌+◌, ◌^◌, ◌⊎◌, ℕ, zero, suc, List, [], ◌∷◌, ◌++◌, cond, ltb, inl, inr, refl, sym, ◌∙◌, arith, lit<}
use Rattle.std.proofs.Math.Pow.{pow_mono}
use Rattle.std.proofs.lemmas.Bool.{cases_lt, le-ltb, lt-ltb}
use Rattle.dsdl_text.specs.declared.line.Line.{Line}
use Rattle.dsdl_text.specs.Numbers.{count_width}
use Rattle.std.specs.Prelude.{Err, MatchOption, None, Ok, OnErr, Option, Result, Some}
use Rattle.dsdl_text.specs.declared.fault.LineFault.{LineFault}
use Rattle.dsdl_text.specs.Text.{Answers, TakesLines, Text, fault_of, text_after}

pub one_text : (before a b : Text) (lines : List Line) → TakesLines before lines a → TakesLines before lines b → a ≡ b
one_text before a b [] x y = sym x ∙ y
one_text before a b (line ∷ lines) x y = one_text (text_after before line) a b lines x.1 y.1

pub lines_joined : (before between after : Text) (first second : List Line) → TakesLines before first between
    → TakesLines between second after → TakesLines before (first ++ second) after
lines_joined before between after [] second x y = rw x y
lines_joined before between after (line ∷ first) second x y =
    (x.0, lines_joined (text_after before line) between after first second x.1 y)

pub lines_split : (before after : Text) (first second : List Line) → TakesLines before (first ++ second) after
    → (between : Text) × TakesLines before first between × TakesLines between second after
lines_split before after [] second x = (before, refl, x)
lines_split before after (line ∷ first) second x =
    let rest = lines_split (text_after before line) after first second x.1 in
    (rest.0, (x.0, rest.1), rest.2)

-- a fault leaves the text unchanged
abbrev refused : LineFault → Result (Unit {0}) LineFault
refused fault = Err fault

pub unchanged : (text after : Text) (line : Line) (result : Result (Unit {0}) LineFault) → Answers text line result after → OnErr result (after ≡ text)
unchanged text after line (Ok done) answers = tt
unchanged text after line (Err fault) answers = go (fault_of text line) answers where
  go : (o : Option LineFault) → MatchOption o ((refused fault ≡ Ok tt) × (after ≡ text_after text line)) (λ f. (refused fault ≡ Err f) × (after ≡ text)) → after ≡ text
  go None h = absurd (let e : refused fault ≡ Ok tt = h.0 in cc)
  go (Some f) h = h.1

-- ---- the bits of a count

abbrev IsLeast : ℕ → ℕ → Type 0
IsLeast most width = (most < 2 ^ width) × ((other : ℕ) → most < 2 ^ other → width ≤ other)

is_least : (most below width : ℕ) → width ≡ below + 1 → 2 ^ below ≤ most → most < 2 ^ (below + 1) → IsLeast most width
is_least most below width is high low = (
  rw is low,
  λ other fits. elim (cases_lt below other) [
    | inl more ↦ omega arith
    | inr fewer ↦ absurd (let h = pow_mono {i = other} {j = below} fewer in omega arith)
  ],
)

least_width : (most : ℕ) → 1 ≤ most → most < 256 → IsLeast most (count_width most)
least_width most some few = elim (cases_lt most 2) [
  | inl a ↦ is_least most 0 (count_width most) (rw (lt-ltb most 2 a) refl) (omega arith) (omega arith)
  | inr a ↦ elim (cases_lt most 4) [
    | inl b ↦ is_least most 1 (count_width most) (rw (le-ltb most 2 a, lt-ltb most 4 b) refl) (omega arith) (omega arith)
    | inr b ↦ elim (cases_lt most 8) [
      | inl c ↦ is_least most 2 (count_width most) (rw (le-ltb most 2 a, le-ltb most 4 b, lt-ltb most 8 c) refl) (omega arith) (omega arith)
      | inr c ↦ elim (cases_lt most 16) [
        | inl d ↦
            is_least most 3 (count_width most) (rw (le-ltb most 2 a, le-ltb most 4 b, le-ltb most 8 c, lt-ltb most 16 d) refl) (omega arith) (omega arith)
        | inr d ↦ upper d (cases_lt most 32)
      ]
    ]
  ]
] where
  front : 16 ≤ most → count_width most ≡ cond (ltb most 32) 5 (cond (ltb most 64) 6 (cond (ltb most 128) 7 8))
  front d = rw (le-ltb most 2 (omega arith), le-ltb most 4 (omega arith), le-ltb most 8 (omega arith), le-ltb most 16 d) refl

  upper : 16 ≤ most → (most < 32) ⊎ (32 ≤ most) → IsLeast most (count_width most)
  upper d (inl e) = is_least most 4 (count_width most) (front d ∙ rw (lt-ltb most 32 e) refl) (omega arith) (omega arith)
  upper d (inr e) = elim (cases_lt most 64) [
    | inl f ↦ is_least most 5 (count_width most) (front d ∙ rw (le-ltb most 32 e, lt-ltb most 64 f) refl) (omega arith) (omega arith)
    | inr f ↦ elim (cases_lt most 128) [
      | inl g ↦
          is_least most 6 (count_width most) (front d ∙ rw (le-ltb most 32 e, le-ltb most 64 f, lt-ltb most 128 g) refl) (omega arith) (omega arith)
      | inr g ↦
          is_least most 7 (count_width most) (front d ∙ rw (le-ltb most 32 e, le-ltb most 64 f, le-ltb most 128 g) refl) (omega arith) (omega arith)
    ]
  ]

pub width_holds : (most : ℕ) → most < 256 → most < 2 ^ count_width most
width_holds zero few = lit< tt
width_holds (suc most) few = (least_width (suc most) (omega arith) few).0

pub width_least : (most width : ℕ) → 1 ≤ most → most < 256 → most < 2 ^ width → count_width most ≤ width
width_least most width some few fits = (least_width most some few).1 width fits
