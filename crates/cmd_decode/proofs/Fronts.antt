-- The line at the front of some bytes.
use Rattle.std.proofs.Common.{◌≡◌, ◌≢◌, ℕ, zero, suc, ◌+◌, ◌≤◌, ◌<◌, cond, List, [], ◌∷◌, ◌++◌, length, take, drop, length-take, Some, None, refl, sym, ap, ◌∙◌, subst, arith}
use Rattle.std.proofs.lemmas.Bool.{eq-eqb, ne_eqb}
use Rattle.std.specs.Prelude.{slice_index}
use Rattle.replay_text.specs.Lines.{after_line, first_line}
use Rattle.cmd_io.specs.Input.{HasNoLineEnd, HasTooLongLine, IsLineEnd}
use Rattle.dsdl_text.specs.declared.line.Line.{Line}
use Rattle.dsdl_text.specs.Lines.{Reads}
use Rattle.dsdl_text.specs.Text.{Text, fault_of}
use Rattle.cmd_decode.specs.Lines.{BeginsWith, IsBadLine, IsBeyond}

shifted : (b : ℕ) (bytes : List ℕ) (i : ℕ) → IsLineEnd 10 (b ∷ bytes) (suc i) → IsLineEnd 10 bytes i
shifted b bytes i h = record { within = omega (arith, h.within); here = h.here; first = λ k low. h.first (suc k) (omega arith) }

first_line-at : (bytes more : List ℕ) (i : ℕ) → IsLineEnd 10 bytes i → first_line (bytes ++ more) ≡ take i bytes
first_line-at [] more i h = absurd (omega (arith, h.within))
first_line-at (b ∷ bytes) more zero h = ap (λ t. cond t [] (b ∷ first_line (bytes ++ more))) (eq-eqb b 10 h.here)
first_line-at (b ∷ bytes) more (suc i) h =
    ap (λ t. cond t [] (b ∷ first_line (bytes ++ more))) (ne_eqb b 10 (h.first 0 (omega arith)))
    ∙ ap (λ l. b ∷ l) (first_line-at bytes more i (shifted b bytes i h))

after_line-at : (bytes more : List ℕ) (i : ℕ) → IsLineEnd 10 bytes i → after_line (bytes ++ more) ≡ Some (drop (suc i) bytes ++ more)
after_line-at [] more i h = absurd (omega (arith, h.within))
after_line-at (b ∷ bytes) more zero h = ap (λ t. cond t (Some (bytes ++ more)) (after_line (bytes ++ more))) (eq-eqb b 10 h.here)
after_line-at (b ∷ bytes) more (suc i) h =
    ap (λ t. cond t (Some (bytes ++ more)) (after_line (bytes ++ more))) (ne_eqb b 10 (h.first 0 (omega arith)))
    ∙ after_line-at bytes more i (shifted b bytes i h)

pub after_line-none : (bytes : List ℕ) → HasNoLineEnd 10 bytes → after_line bytes ≡ None
after_line-none [] h = refl
after_line-none (b ∷ bytes) h =
    ap (λ t. cond t (Some bytes) (after_line bytes)) (ne_eqb b 10 (h 0 (omega arith)))
    ∙ after_line-none bytes (λ i low. h (suc i) (omega arith))

-- so many bytes without a line feed are in the first line
first_line-long : (bytes more : List ℕ) (size : ℕ) → size < length bytes → ((i : ℕ) → i ≤ size → slice_index bytes i ≢ 10)
    → size < length (first_line (bytes ++ more))
first_line-long [] more size long none = absurd (omega arith)
first_line-long (b ∷ bytes) more zero long none =
    let e : first_line ((b ∷ bytes) ++ more) ≡ b ∷ first_line (bytes ++ more) =
    ap (λ t. cond t [] (b ∷ first_line (bytes ++ more))) (ne_eqb b 10 (none 0 (omega arith))) in
    let n : length (first_line ((b ∷ bytes) ++ more)) ≡ suc (length (first_line (bytes ++ more))) = ap length e in
    omega (arith, n)
first_line-long (b ∷ bytes) more (suc size) long none =
    let e : first_line ((b ∷ bytes) ++ more) ≡ b ∷ first_line (bytes ++ more) =
    ap (λ t. cond t [] (b ∷ first_line (bytes ++ more))) (ne_eqb b 10 (none 0 (omega arith))) in
    let n : length (first_line ((b ∷ bytes) ++ more)) ≡ suc (length (first_line (bytes ++ more))) = ap length e in
    let rest = first_line-long bytes more size (omega arith) (λ i low. none (suc i) (omega arith)) in
    omega (arith, n, rest)

some_left : (bytes more : List ℕ) → (bytes ≡ [] → ⊥) → bytes ++ more ≡ [] → ⊥
some_left [] more some e = some refl
some_left (b ∷ bytes) more some e = cc

-- ---- what stands at the front, whatever comes behind

pub begins_at : (line : Line) (bytes : List ℕ) (size : ℕ) → IsLineEnd 10 bytes size → size ≤ 120 → Reads line (take size bytes)
    → (more : List ℕ) → BeginsWith line (bytes ++ more) (drop (size + 1) bytes ++ more)
begins_at line bytes size ends short reads more =
    let step : size + 1 ≡ suc size = omega arith in
    let same = first_line-at bytes more size ends in
    record {
      ended = after_line-at bytes more size ends ∙ ap (λ n. Some (drop n bytes ++ more)) (sym step);
      short = let n : length (first_line (bytes ++ more)) ≡ length (take size bytes) = ap length same in omega (arith, n, length-take size bytes);
      reads = subst (Reads line) (sym same) reads;
    }

pub bad_at : (now : Text) (count : ℕ) (bytes : List ℕ) (size : ℕ) → IsLineEnd 10 bytes size → count < 1000 → (bytes ≡ [] → ⊥)
    → ((line : Line) → Reads line (take size bytes) → fault_of now line ≡ None → ⊥) → (more : List ℕ) → IsBadLine now count (bytes ++ more)
bad_at now count bytes size ends within some none more = record {
  within = within;
  more = some_left bytes more some;
  bad = λ line next begins. none line (subst (Reads line) (first_line-at bytes more size ends) begins.reads);
}

pub bad_so_long : (now : Text) (count : ℕ) (bytes : List ℕ) → HasTooLongLine 10 120 bytes → count < 1000 → (bytes ≡ [] → ⊥)
    → (more : List ℕ) → IsBadLine now count (bytes ++ more)
bad_so_long now count bytes long within some more = record {
  within = within;
  more = some_left bytes more some;
  bad = λ line next begins faultless.
      let n = first_line-long bytes more 120 long.long long.none in
      let m = begins.short in
      omega (arith, n, m);
}

pub beyond : (count : ℕ) (bytes : List ℕ) → count ≡ 1000 → (bytes ≡ [] → ⊥) → (more : List ℕ) → IsBeyond count (bytes ++ more)
beyond count bytes full some more = record { full = full; more = some_left bytes more some }
