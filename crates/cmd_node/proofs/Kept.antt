-- The last lines, while more are made and while they are written.
use Rattle.std.proofs.Common.{◌≡◌, ℕ, ◌+◌, ◌-◌, ◌<◌, suc, List, [], ◌∷◌, ◌++◌, length, map, drop, refl, sym, ap, ◌∙◌, append_assoc, length-append, length-drop, arith}
use Rattle.std.proofs.lemmas.List.{drop-append-le, drop-drop, drop-map, length-map, map-append}
use Rattle.std.specs.Prelude.{Some, None, slice_get}
use Rattle.bus_rows.specs.declared.told.Told.{Told}
use Rattle.bus_rows.specs.ReportLine.{report_line_of}
use Rattle.replay_text.specs.ReportText.{text_of_line}
use Rattle.cmd_node.specs.Report.{joined, last_lines}
use Rattle.cmd_node.specs.Kept.{kept_line}
use Rattle.cmd_node.specs.declared.step.NumberedStep.{NumberedStep}

-- the last n of some items that were themselves the last n
module _ {A B : Type 0} (f : A → B) (n : ℕ) (items : List A) (all : List B) (x : A) (kept : map f items ≡ drop (length all - n) all) where
  before : ℕ
  before = length all - n

  count : length items ≡ length all - (length all - n)
  count = sym (length-map items f) ∙ ap length kept ∙ length-drop (length all - n) all

  together : (length all - n) + (length (items ++ x ∷ []) - n) ≡ length (all ++ f x ∷ []) - n
  together = let c = count in let a = length-append items (x ∷ []) in let b = length-append all (f x ∷ []) in omega (arith, a, b, c)

  pub kept_on : map f (drop (length (items ++ x ∷ []) - n) (items ++ x ∷ [])) ≡ drop (length (all ++ f x ∷ []) - n) (all ++ f x ∷ [])
  kept_on = sym (drop-map f (length (items ++ x ∷ []) - n) (items ++ x ∷ []))
      ∙ ap (drop (length (items ++ x ∷ []) - n)) (map-append f items (x ∷ []) ∙ ap (λ l. l ++ f x ∷ []) kept
      ∙ sym (drop-append-le (length all - n) all (f x ∷ []) (omega arith)))
      ∙ drop-drop (length (items ++ x ∷ []) - n) (length all - n) (all ++ f x ∷ [])
      ∙ ap (λ k. drop k (all ++ f x ∷ [])) together

-- one more step was made
pub kept_pushed : (capacity : ℕ) → capacity ≡ 256 → (items : List NumberedStep) (lines : List (List ℕ)) (made : ℕ) (told : Told) → made ≡ length lines →
    map kept_line items ≡ last_lines lines →
    map kept_line (drop (length (items ++ record { number = made + 1; told = told } ∷ []) - capacity) (items ++ record { number = made + 1; told = told } ∷ []))
    ≡ last_lines (lines ++ text_of_line (suc (length lines)) (report_line_of told) ∷ [])
kept_pushed capacity fixed items lines made told count is =
    let step : NumberedStep = record { number = made + 1; told = told } in
    let number : made + 1 ≡ suc (length lines) = omega (arith, count) in
    ap (λ n. map kept_line (drop (length (items ++ step ∷ []) - n) (items ++ step ∷ []))) fixed
    ∙ kept_on kept_line 256 items lines step is
    ∙ ap (λ n. last_lines (lines ++ text_of_line n (report_line_of told) ∷ [])) number

-- the next line
next_line : (items : List NumberedStep) (step : NumberedStep) → slice_get items 0 ≡ Some step →
    joined (map kept_line items) ≡ kept_line step ++ joined (map kept_line (drop 1 items))
next_line [] step is = absurd (cc (is))
next_line (first ∷ items) step is = let same : first ≡ step = cc (is) in ap (λ s. kept_line s ++ joined (map kept_line items)) same

pub fewer : (items : List NumberedStep) (step : NumberedStep) → slice_get items 0 ≡ Some step → length (drop 1 items) < length items
fewer [] step is = absurd (cc (is))
fewer (first ∷ items) step is = omega arith

pub none_left : (items : List NumberedStep) → slice_get items 0 ≡ None → items ≡ []
none_left [] is = refl
none_left (first ∷ items) is = absurd (cc (is))

-- the lines so far and the next one
pub next_front : (all items : List NumberedStep) (step : NumberedStep) (front line : List ℕ) → joined (map kept_line all) ≡ front ++ joined (map kept_line items) →
    slice_get items 0 ≡ Some step → line ≡ kept_line step →
    joined (map kept_line all) ≡ (front ++ line) ++ joined (map kept_line (drop 1 items))
next_front all items step front line split is same =
    split ∙ ap (λ l. front ++ l) (next_line items step is) ∙ ap (λ l. front ++ (l ++ joined (map kept_line (drop 1 items)))) (sym same)
    ∙ sym (append_assoc front line (joined (map kept_line (drop 1 items))))
