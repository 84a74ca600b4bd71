-- The line at the front of some bytes, whatever comes behind.
use Rattle.std.proofs.Common.{◌≡◌, ◌≢◌, ◌<◌, ◌≤◌, ◌+◌, ◌==◌, ℕ, suc, List, [], ◌∷◌, ◌++◌, length, take, drop, get_or, ap, ◌∙◌, sym, arith, refl, inl, inr, not, eq-eqb, length-append, length-drop, append_assoc}
use Rattle.std.specs.List.{All, position_or_len, prefix_len}
use Rattle.std.proofs.lemmas.Bool.{cases_lt, cases_eq, ne_eqb, eqb-true, true≢false}
use Rattle.std.proofs.lemmas.List.{get_or_append_left, get_or_at, length-take-le}
use Rattle.std.proofs.lemmas.List.Sums.{position_or_len_is, prefix_len-le-length, prefix_len_passes, prefix_len_stops}
use Rattle.can_logs.proofs.Splits.{none_before, one_cut, parts_at}
use Rattle.cmd_io.specs.Input.{HasNoLineEnd, HasTooLongLine, IsLineEnd}
use Rattle.can_logs.specs.declared.form.Form.{Form}
use Rattle.can_logs.specs.declared.form.Form.TheVariants.{Candump, Slcan}
use Rattle.can_logs.specs.declared.form.Line.{Line}
use Rattle.can_logs.specs.Forms.{Says, bells, end_of}
use Rattle.cmd_logs.specs.Lines.{BeginsWithLine, BeginsWithNoLine, FindsLine, LineBegins}

-- ---- where a line begins

begins_long : (form : Form) (bytes : List ℕ) → 120 < length bytes → LineBegins form bytes
begins_long Candump bytes long = λ none. let size = ap length none in absurd (omega (arith, long, size))
begins_long Slcan bytes long =
    elim (cases_lt (prefix_len (λ byte. byte == 7) bytes) (length bytes)) [ inl within ↦ inl within | inr all ↦ inr (omega (arith, long, all)) ]

begins_at : (form : Form) (bytes : List ℕ) (i : ℕ) → i < length bytes → get_or bytes i 0 ≢ 7 → LineBegins form bytes
begins_at Candump bytes i within other = λ none. let size = ap length none in absurd (omega (arith, within, size))
begins_at Slcan bytes i within other =
    elim (cases_lt i (prefix_len (λ byte. byte == 7) bytes)) [
      | inl rung ↦ absurd (other (eqb-true (get_or bytes i 0) 7 (prefix_len_passes (λ byte. byte == 7) bytes i 0 rung)))
      | inr behind ↦ inl (omega (arith, within, behind))
    ]

no_bell : (form : Form) → end_of form ≢ 7
no_bell Candump e = absurd (omega (arith, e))
no_bell Slcan e = absurd (omega (arith, e))

-- a line that begins does so whatever comes behind
pub begins_more : (form : Form) (bytes more : List ℕ) → LineBegins form bytes → LineBegins form (bytes ++ more)
begins_more Candump [] more some = absurd (some refl)
begins_more Candump (byte ∷ bytes) more some = λ e. absurd (cc e)
begins_more Slcan bytes more (inl within) =
    let place = prefix_len (λ byte. byte == 7) bytes in
    let stops = prefix_len_stops (λ byte. byte == 7) bytes 0 within in
    begins_at Slcan (bytes ++ more) place (omega (arith, within, length-append bytes more))
    (λ bell. let rings = eq-eqb (get_or bytes place 0) 7 (sym (get_or_append_left bytes more 0 place within) ∙ bell) in true≢false (sym rings ∙ stops))
begins_more Slcan bytes more (inr long) =
    let most = prefix_len-le-length (λ byte. byte == 7) bytes in
    begins_long Slcan (bytes ++ more) (omega (arith, long, most, length-append bytes more))

-- ---- a line that ends in the bytes

-- where the first byte stands that ends a line
is_place : (end : ℕ) (bytes : List ℕ) (size : ℕ) → IsLineEnd end bytes size → size ≡ position_or_len (λ byte. byte == end) bytes
is_place end bytes size is =
    sym (position_or_len_is (λ byte. byte == end) bytes size 0 (let low = is.within in omega arith)
    (λ k below. ne_eqb (get_or bytes k 0) end (is.first k below))
    (λ _. eq-eqb (get_or bytes size 0) end is.here))

module _ (form : Form) (bytes : List ℕ) (size : ℕ) (ended : IsLineEnd (end_of form) bytes size) where
  is : size ≡ position_or_len (λ byte. byte == end_of form) bytes
  is = is_place (end_of form) bytes size ended

  within : size < length bytes
  within = ended.within

  split : (more : List ℕ) → bytes ++ more ≡ take size bytes ++ end_of form ∷ (drop (size + 1) bytes ++ more)
  split more =
      ap (λ b. b ++ more) (parts_at (end_of form) bytes size is within)
      ∙ append_assoc (take size bytes) (end_of form ∷ drop (size + 1) bytes) more

  one_line : All (λ byte. byte ≢ end_of form) (take size bytes)
  one_line = let low = within in none_before (end_of form) bytes size is (omega arith)

  ends : (more : List ℕ) → LineBegins form (bytes ++ more)
  ends more =
      let low = within in
      let here : get_or (bytes ++ more) size 0 ≡ end_of form =
      ap (λ b. get_or b size 0) (split more) ∙ get_or_at (take size bytes) (end_of form) (drop (size + 1) bytes ++ more) 0 size (length-take-le size bytes (omega arith)) in
      begins_at form (bytes ++ more) size (omega (arith, low, length-append bytes more)) (λ bell. no_bell form (sym here ∙ bell))

  -- no other line is there
  only_line : (said : Line) (more rest : List ℕ) → (begins : BeginsWithLine form said (bytes ++ more) rest) → begins.line ≡ take size bytes
  only_line said more rest begins =
      (one_cut (end_of form) (bytes ++ more) begins.line rest (take size bytes) (drop (size + 1) bytes ++ more) begins.one_line begins.spelled one_line (split more)).0

  -- where it says something, it is the line at the front
  pub line_found : (said : Line) → size ≤ 120 → Says form said (drop (bells form (take size bytes)) (take size bytes)) → FindsLine form said bytes (drop (size + 1) bytes)
  line_found said short says = let low = within in record {
    shorter = omega (arith, low, length-drop (size + 1) bytes);
    begins = λ more. record {
      line = take size bytes;
      spelled = split more;
      one_line = one_line;
      short = omega (arith, short, length-take-le size bytes (omega arith));
      says = says;
    };
  }

  -- where it says nothing, no line is there
  pub no_line : ((said : Line) → Says form said (drop (bells form (take size bytes)) (take size bytes)) → ⊥) → (more : List ℕ) → BeginsWithNoLine form (bytes ++ more)
  no_line bad more = record {
    begins = ends more;
    bad = λ said rest begins. bad said (rw (only_line said more rest begins) at begins.says);
  }

-- ---- bytes without the end of a line

-- a line that is read ends in the bytes
end_here : (form : Form) (said : Line) (bytes more rest : List ℕ) → (begins : BeginsWithLine form said (bytes ++ more) rest) → length begins.line < length bytes →
    get_or bytes (length begins.line) 0 ≡ end_of form
end_here form said bytes more rest begins early =
    sym (get_or_append_left bytes more 0 (length begins.line) early) ∙ ap (λ b. get_or b (length begins.line) 0) begins.spelled
    ∙ get_or_at begins.line (end_of form) rest 0 (length begins.line) refl

-- so many bytes without an end are no line, whatever comes behind
pub too_long : (form : Form) (bytes : List ℕ) → HasTooLongLine (end_of form) 120 bytes → (more : List ℕ) → BeginsWithNoLine form (bytes ++ more)
too_long form bytes long more = let size = long.long in record {
  begins = begins_long form (bytes ++ more) (omega (arith, size, length-append bytes more));
  bad = λ said rest begins.
      let short = begins.short in
      long.none (length begins.line) short (end_here form said bytes more rest begins (omega (arith, short, size)));
}

-- where no line begins, few bytes wait, and none of them ends a line
pub few_wait : (form : Form) (bytes : List ℕ) → (LineBegins form bytes → ⊥) → length bytes ≤ 120
few_wait Candump [] none = omega arith
few_wait Candump (byte ∷ bytes) none = absurd (none (λ e. absurd (cc e)))
few_wait Slcan bytes none =
    elim (cases_lt 120 (length bytes)) [ inl long ↦ absurd (none (begins_long Slcan bytes long)) | inr short ↦ short ]

-- where no line begins, none ends
pub none_ends : (form : Form) (bytes : List ℕ) → (LineBegins form bytes → ⊥) → HasNoLineEnd (end_of form) bytes
none_ends form bytes none i low here = none (begins_at form bytes i low (λ bell. no_bell form (sym here ∙ bell)))

-- a line begins in the bytes, and they end before it does
pub unended_line : (form : Form) (bytes : List ℕ) → LineBegins form bytes → HasNoLineEnd (end_of form) bytes → BeginsWithNoLine form bytes
unended_line form bytes begins none = record {
  begins = begins;
  bad = λ said rest there.
      let size : length bytes ≡ length there.line + suc (length rest) = ap length there.spelled ∙ length-append there.line (end_of form ∷ rest) in
      let here : get_or bytes (length there.line) 0 ≡ end_of form =
      ap (λ b. get_or b (length there.line) 0) there.spelled ∙ get_or_at there.line (end_of form) rest 0 (length there.line) refl in
      none (length there.line) (omega (arith, size)) here;
}

-- a line that is read begins
pub read_begins : (form : Form) (said : Line) (bytes rest : List ℕ) → BeginsWithLine form said bytes rest → LineBegins form bytes
read_begins form said bytes rest there =
    let size : length bytes ≡ length there.line + suc (length rest) = ap length there.spelled ∙ length-append there.line (end_of form ∷ rest) in
    let here : get_or bytes (length there.line) 0 ≡ end_of form =
    ap (λ b. get_or b (length there.line) 0) there.spelled ∙ get_or_at there.line (end_of form) rest 0 (length there.line) refl in
    begins_at form bytes (length there.line) (omega (arith, size)) (λ bell. no_bell form (sym here ∙ bell))
