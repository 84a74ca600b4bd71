-- Bytes that are read and written in pieces.
use Rattle.std.proofs.Common.{◌≡◌, ℕ, zero, suc, ◌+◌, ◌-◌, ◌≤◌, ◌<◌, true, false, nat_lt, List, [], ◌++◌, length, take, drop, sym, ◌∙◌, ap, arith, length-drop}
use Rattle.std.specs.Prelude.{slice_range}
use Rattle.std.proofs.Math.Seq.{take-add}
use Rattle.std.proofs.lemmas.List.{drop-drop, drop-take, length-take, length-take-le}
use Rattle.std.proofs.lemmas.Bool.Decides.{nat_tests}
use Rattle.std.specs.declared.option.Option.{Option}
use Rattle.std.specs.Io.KnownBytes.{Consumes, IsAtEnd}
use Rattle.cmd_io.specs.Input.{ReadsMore}

-- what waits is followed by what was read behind it
filled : (bytes waiting : List ℕ) (size count : ℕ) → take size bytes ≡ waiting →
    slice_range bytes 0 (size + count) ≡ waiting ++ take count (drop size bytes)
filled bytes waiting size count e =
    let n : size + count - 0 ≡ size + count = omega arith in
    ap (λ k. take k bytes) n ∙ take-add size count bytes ∙ ap (λ w. w ++ take count (drop size bytes)) e

some_came : (count : ℕ) (bytes : List ℕ) → count ≤ length bytes → nat_lt 0 count ≡ true → take count bytes ≡ [] → ⊥
some_came zero bytes h t e = grind (arith, nat_tests)
some_came (suc count) bytes h t e =
    let n : length (take (suc count) bytes) ≡ suc count = length-take-le (suc count) bytes h in
    let none : length (take (suc count) bytes) ≡ 0 = ap length e in
    omega arith

none_came : (count : ℕ) → nat_lt 0 count ≡ false → count ≡ 0
none_came count t = grind (arith, nat_tests)

-- a read behind what waits, at the front of a buffer
pub read_more : (left_before left_now : Option (List ℕ)) (bytes waiting : List ℕ) (size count : ℕ) →
    take size bytes ≡ waiting → length bytes ≡ 4096 → length waiting < 4096 → size + count ≤ 4096 →
    Consumes left_before left_now (take count (drop size bytes)) × (count ≡ 0 → 0 < length (drop size bytes) → IsAtEnd left_now) →
    ReadsMore left_before left_now waiting (slice_range bytes 0 (size + count)) (nat_lt 0 count)
read_more left_before left_now bytes waiting size count front long room fits consumed =
    let n : length (take size bytes) ≡ size = length-take-le size bytes (omega arith) in
    let w : length waiting ≡ size = sym (ap length front) ∙ n in
    let d : length (drop size bytes) ≡ 4096 - size = length-drop size bytes ∙ ap (λ k. k - size) long in
    record {
      came = take count (drop size bytes);
      behind = filled bytes waiting size count front;
      taken = consumed.0;
      some = some_came count (drop size bytes) (omega arith);
      none = λ t. ap (λ k. take k (drop size bytes)) (none_came count t);
      ended = λ t. consumed.1 (none_came count t) (omega arith);
      fits = let low = length-take (size + count - 0) bytes in omega (arith, low, fits);
    }

-- what waits behind the first bytes of what waited
pub slice_range-drop : (bytes : List ℕ) (start size end : ℕ) → size ≤ length (slice_range bytes start end) →
    slice_range bytes (start + size) end ≡ drop size (slice_range bytes start end)
slice_range-drop bytes start size end h =
    let m = end - (start + size) in
    let low : length (slice_range bytes start end) ≤ end - start = omega (arith, length-take (end - start) (drop start bytes)) in
    let n : end - start ≡ size + m = omega arith in
    ap (take m) (sym (drop-drop size start bytes)) ∙ sym (ap (λ k. drop size (take k (drop start bytes))) n ∙ drop-take size m (drop start bytes))
