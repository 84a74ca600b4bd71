-- The line at the front of some bytes.
use Rattle.std.proofs.Common.{◌≡◌, ℕ, zero, suc, ◌+◌, ◌≤◌, ◌<◌, cond, List, [], ◌∷◌, ◌++◌, length, take, drop, length-drop, append_assoc, take-append-drop, Some, None, refl, sym, ap, ◌∙◌, subst, arith}
use Rattle.std.proofs.lemmas.Bool.{eq-eqb, ne_eqb}
use Rattle.std.proofs.lemmas.List.{get_or-take, length-take-le}
use Rattle.bus_rows.specs.declared.row.Row.{Row}
use Rattle.replay_text.specs.Schedule.{Reads}
use Rattle.replay_text.specs.Lines.{BeginsWithNoRow, after_line, first_line}
use Rattle.cmd_io.specs.Input.{HasNoLineEnd, HasTooLongLine, IsLineEnd}
use Rattle.allocator_app.specs.Input.{FindsRow}

shifted : (b : ℕ) (bytes : List ℕ) (i : ℕ) → IsLineEnd 10 (b ∷ bytes) (suc i) → IsLineEnd 10 bytes i
shifted b bytes i h = record { within = omega (arith, h.within); here = h.here; first = λ k low. h.first (suc k) (omega arith) }

pub first_line-at : (bytes more : List ℕ) (i : ℕ) → IsLineEnd 10 bytes i → first_line (bytes ++ more) ≡ take i bytes
first_line-at [] more i h = absurd (omega (arith, h.within))
first_line-at (b ∷ bytes) more zero h = ap (λ t. cond t [] (b ∷ first_line (bytes ++ more))) (eq-eqb b 10 h.here)
first_line-at (b ∷ bytes) more (suc i) h =
    ap (λ t. cond t [] (b ∷ first_line (bytes ++ more))) (ne_eqb b 10 (h.first 0 (omega arith)))
    ∙ ap (λ l. b ∷ l) (first_line-at bytes more i (shifted b bytes i h))

pub after_line-at : (bytes more : List ℕ) (i : ℕ) → IsLineEnd 10 bytes i → after_line (bytes ++ more) ≡ Some (drop (suc i) bytes ++ more)
after_line-at [] more i h = absurd (omega (arith, h.within))
after_line-at (b ∷ bytes) more zero h = ap (λ t. cond t (Some (bytes ++ more)) (after_line (bytes ++ more))) (eq-eqb b 10 h.here)
after_line-at (b ∷ bytes) more (suc i) h =
    ap (λ t. cond t (Some (bytes ++ more)) (after_line (bytes ++ more))) (ne_eqb b 10 (h.first 0 (omega arith)))
    ∙ after_line-at bytes more i (shifted b bytes i h)

pub after_line-none : (bytes : List ℕ) → HasNoLineEnd 10 bytes → after_line bytes ≡ None
after_line-none [] h = refl
after_line-none (b ∷ bytes) h =
    ap (λ t. cond t (Some bytes) (after_line bytes)) (ne_eqb b 10 (h 0 (omega arith)))
    ∙ after_line-none bytes (λ i low. h (suc i) (omega arith))

first_line-long : (bytes more : List ℕ) → HasNoLineEnd 10 bytes → length bytes ≤ length (first_line (bytes ++ more))
first_line-long [] more h = omega arith
first_line-long (b ∷ bytes) more h =
    let e : first_line ((b ∷ bytes) ++ more) ≡ b ∷ first_line (bytes ++ more) =
    ap (λ t. cond t [] (b ∷ first_line (bytes ++ more))) (ne_eqb b 10 (h 0 (omega arith))) in
    let n : length (first_line ((b ∷ bytes) ++ more)) ≡ suc (length (first_line (bytes ++ more))) = ap length e in
    let rest = first_line-long bytes more (λ i low. h (suc i) (omega arith)) in
    omega (arith, n, rest)

pub some_left : (bytes more : List ℕ) → 0 < length bytes → bytes ++ more ≡ [] → ⊥
some_left [] more h e = absurd (omega arith)
some_left (b ∷ bytes) more h e = cc

-- ---- what stands at the front

pub row_found : (row : Row) (bytes : List ℕ) (i : ℕ) → IsLineEnd 10 bytes i → Reads row (take i bytes) →
    ((other : Row) → Reads other (take i bytes) → row ≡ other) → FindsRow row bytes (drop (i + 1) bytes)
row_found row bytes i h reads only =
    let step : i + 1 ≡ suc i = omega arith in
    record {
      shorter = let low = h.within in simp length-drop (omega arith);
      begins = λ more. record {
        ended = after_line-at bytes more i h ∙ ap (λ n. Some (drop n bytes ++ more)) (sym step);
        reads = subst (Reads row) (sym (first_line-at bytes more i h)) reads;
      };
      only = λ more rest other begins. only other (subst (Reads other) (first_line-at bytes more i h) begins.reads);
    }

pub no_row_found : (bytes : List ℕ) (i : ℕ) → IsLineEnd 10 bytes i → ((row : Row) → Reads row (take i bytes) → ⊥) →
    (more : List ℕ) → BeginsWithNoRow (bytes ++ more)
no_row_found bytes i h none more = record {
  left = let low = h.within in some_left bytes more (omega arith);
  bad = λ row rest begins. none row (subst (Reads row) (first_line-at bytes more i h) begins.reads);
}

-- the first bytes of a line that is too long
no_end_so_far : (longest : ℕ) (bytes : List ℕ) → HasTooLongLine 10 longest bytes → HasNoLineEnd 10 (take (suc longest) bytes)
no_end_so_far longest bytes long i low =
    let n : length (take (suc longest) bytes) ≡ suc longest = let more = long.long in length-take-le (suc longest) bytes (omega arith) in
    λ e. long.none i (omega arith) (sym (get_or-take (suc longest) bytes i 0 (omega arith)) ∙ e)

pub no_row_so_long : ((row : Row) (line : List ℕ) → Reads row line → length line ≤ 74) → (bytes : List ℕ) → HasTooLongLine 10 120 bytes →
    (more : List ℕ) → BeginsWithNoRow (bytes ++ more)
no_row_so_long short bytes long more =
    let size = long.long in record {
      left = some_left bytes more (omega arith);
      bad = λ row rest begins. let n = short row (first_line (bytes ++ more)) begins.reads in
          let whole : take 121 bytes ++ (drop 121 bytes ++ more) ≡ bytes ++ more =
          sym (append_assoc (take 121 bytes) (drop 121 bytes) more) ∙ ap (λ l. l ++ more) (take-append-drop 121 bytes) in
          let m = subst (λ l. length (take 121 bytes) ≤ length (first_line l)) whole
          (first_line-long (take 121 bytes) (drop 121 bytes ++ more) (no_end_so_far 120 bytes long)) in
          let k : length (take 121 bytes) ≡ 121 = length-take-le 121 bytes (omega arith) in
          omega (arith, n, m, k);
    }
