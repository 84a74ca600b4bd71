use Rattle.std.proofs.Common.{arith, ap, length, length-append, ◌∷◌}
use Rattle.can_logs.proofs.Splits.{parts_at, none_before, parts_only}
use Rattle.std.proofs.lemmas.List.{take_rest}
use Rattle.can_logs.proofs.word.split_at_byte.Goals as goal

pub returns-then-place-text-clause-only : goal.returns-then-place-text-clause-only
returns-then-place-text-clause-only c = λ front rest none spelt.
    let at = (parts_only c.args.byte c.args.text.now front rest c.place_or_end-place.result c.place_or_end-place.ensures.place none spelt).0 in
    let size = ap length spelt in
    absurd (omega (arith, at, size, length-append front (c.args.byte ∷ rest)))

pub returns-clause-found : goal.returns-clause-found
returns-clause-found c = rw take_rest (parts_at c.args.byte c.args.text.now c.place_or_end-place.result c.place_or_end-place.ensures.place (omega arith))

pub returns-clause-first : goal.returns-clause-first
returns-clause-first c = none_before c.args.byte c.args.text.now c.place_or_end-place.result c.place_or_end-place.ensures.place (omega arith)

pub returns-clause-only : goal.returns-clause-only
returns-clause-only c = λ front rest none spelt.
    let h = parts_only c.args.byte c.args.text.now front rest c.place_or_end-place.result c.place_or_end-place.ensures.place none spelt in
    (h.1, rw take_rest h.2)
