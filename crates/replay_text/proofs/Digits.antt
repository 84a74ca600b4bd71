-- What a number that is written into the bytes of a line leaves there.
use Rattle.std.proofs.Common.{◌≡◌, ◌≤◌, ◌+◌, ℕ, List, ◌++◌, length, take, drop, arith, sym, ap, ◌∙◌, append_assoc, length-append}
use Rattle.std.proofs.lemmas.List.{length-take-le, take-append-drop}
use Rattle.std.proofs.Math.Seq.{take-append_seam}

-- behind the bytes up to `start` stand the digits, up to `end`
pub behind_front : (old new digits : List ℕ) (start end : ℕ) → start + length digits ≡ end → start ≤ length old
    → take start new ≡ take start old → drop start new ≡ digits ++ drop end old → take end new ≡ take start old ++ digits
behind_front old new digits start end size within front back =
    let written : List ℕ = take start old ++ digits in
    let all : new ≡ written ++ drop end old =
    sym (take-append-drop start new) ∙ rw (front, back) (sym (append_assoc (take start old) digits (drop end old))) in
    let both : length written ≡ end = omega (arith, length-take-le start old within, length-append (take start old) digits) in
    ap (take end) all ∙ ap (λ k. take k (written ++ drop end old)) (sym both) ∙ take-append_seam written (drop end old)
