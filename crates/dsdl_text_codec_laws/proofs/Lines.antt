-- The first line of a text, and the lines behind it.
use Rattle.std.proofs.Common.{◌≡◌, ◌<◌, ◌≤◌, ◌+◌, ◌-◌, ◌==◌, ℕ, List, [], ◌∷◌, None, length, take, drop, ap, sym, ◌∙◌, subst, arith, length-drop, inl, inr}
use Rattle.std.specs.List.{position_or_len}
use Rattle.std.proofs.lemmas.Bool.{cases_lt}
use Rattle.std.proofs.lemmas.List.Splits.{slice_split_first, slice_split_none}
use Rattle.std.proofs.lemmas.List.Sums.{fails_before_first}
use Rattle.std.proofs.lemmas.List.{take_all}
use Rattle.dsdl_text.specs.declared.line.Line.{Line}
use Rattle.dsdl_text.specs.Lines.{Reads}
use Rattle.dsdl_text.specs.Text.{TakesLines, Text, fault_of, text_after}
use Rattle.dsdl_text_codec_laws.specs.Profile.{EndsAs, ReadAs, lines_of}

-- a part reads as a line without a fault, and the other parts follow it
pub record Begins (before after : Text) (part : List ℕ) (parts : List (List ℕ)) : Type 0 where
  pub value : Line
  pub reads : Reads value part
  pub no_fault : fault_of before value ≡ None
  pub lines : List Line
  pub read : ReadAs lines parts
  pub taken : TakesLines (text_after before value) lines after

begins : (before after : Text) (lines : List Line) (part : List ℕ) (parts : List (List ℕ)) → ReadAs lines (part ∷ parts) → TakesLines before lines after
    → Begins before after part parts
begins before after [] part parts r t = absurd r
begins before after (line ∷ lines) part parts r t = record { value = line; reads = r.0; no_fault = t.0; lines = lines; read = r.1; taken = t.1 }

more_lines : (text : List ℕ) (end : ℕ) → end ≡ position_or_len (λ byte. byte == 10) text → end < length text
    → lines_of text ≡ take end text ∷ lines_of (drop (end + 1) text)
more_lines text end is more = rw is (slice_split_first (λ byte. byte == 10) text 0 (rw (← is) more))

one_line : (text : List ℕ) (end : ℕ) → end ≡ position_or_len (λ byte. byte == 10) text → length text ≤ end → lines_of text ≡ take end text ∷ []
one_line text end is last =
    slice_split_none (λ byte. byte == 10) text (λ k d below. fails_before_first (λ byte. byte == 10) text k d (omega arith))
    ∙ ap (λ line. line ∷ []) (sym (take_all end text last))

pub with_more : (before after : Text) (text : List ℕ) (end : ℕ) → end ≡ position_or_len (λ byte. byte == 10) text → end < length text
    → EndsAs before text after → Begins before after (take end text) (lines_of (drop (end + 1) text))
with_more before after text end is more ends =
    begins before after ends.lines (take end text) (lines_of (drop (end + 1) text)) (subst (λ parts. ReadAs ends.lines parts) (more_lines text end is more) ends.read) ends.taken

pub with_last : (before after : Text) (text : List ℕ) (end : ℕ) → end ≡ position_or_len (λ byte. byte == 10) text → length text ≤ end
    → EndsAs before text after → Begins before after (take end text) []
with_last before after text end is last ends =
    begins before after ends.lines (take end text) [] (subst (λ parts. ReadAs ends.lines parts) (one_line text end is last) ends.read) ends.taken

-- the first line has no fault
pub first_line : (before after : Text) (text : List ℕ) (end : ℕ) → end ≡ position_or_len (λ byte. byte == 10) text
    → EndsAs before text after → (value : Line) × Reads value (take end text) × (fault_of before value ≡ None)
first_line before after text end is ends = elim (cases_lt end (length text)) [
  | inl more ↦ let it = with_more before after text end is more ends in (it.value, it.reads, it.no_fault)
  | inr last ↦ let it = with_last before after text end is last ends in (it.value, it.reads, it.no_fault)
]

-- behind the last line nothing is left
pub ended : (before after now : Text) (text : List ℕ) (end : ℕ) → end ≡ position_or_len (λ byte. byte == 10) text → length text ≤ end
    → EndsAs before text after
    → ((value : Line) → Reads value (take end text) → fault_of before value ≡ None → now ≡ text_after before value)
    → now ≡ after
ended before after now text end is last ends took =
    let it = with_last before after text end is last ends in
    took it.value it.reads it.no_fault ∙ nothing (text_after before it.value) it.lines it.read it.taken where
      nothing : (t : Text) (lines : List Line) → ReadAs lines [] → TakesLines t lines after → t ≡ after
      nothing t [] r k = k
      nothing t (line ∷ lines) r k = absurd r

-- behind another line its text goes on to the same
pub goes_on : (before after now : Text) (text : List ℕ) (end : ℕ) → end ≡ position_or_len (λ byte. byte == 10) text → end < length text
    → EndsAs before text after
    → ((value : Line) → Reads value (take end text) → fault_of before value ≡ None → now ≡ text_after before value)
    → EndsAs now (take (length text - (end + 1)) (drop (end + 1) text)) after
goes_on before after now text end is more ends took =
    let it = with_more before after text end is more ends in
    let same = took it.value it.reads it.no_fault in
    let rest = drop (end + 1) text in
    let all = take_all (length text - (end + 1)) rest (omega (arith, length-drop (end + 1) text)) in
    record { lines = it.lines; read = subst (λ bytes. ReadAs it.lines (lines_of bytes)) (sym all) it.read; taken = subst (λ t. TakesLines t it.lines after) (sym same) it.taken }
