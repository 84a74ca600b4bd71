use Rattle.std.proofs.Common.{◌≡◌, [], ap, arith, length, refl}
use Rattle.std.proofs.lemmas.Grind.{common_steps}
use Rattle.dsdl_text.proofs.Spelling.{is_exactly, is_up_to, no_brackets}
use Rattle.dsdl_text.proofs.parse.read_shape.Goals as goal

pub returns-in_err-inner-clause-only : goal.returns-in_err-inner-clause-only
returns-in_err-inner-clause-only c = λ shape is fits.
    let filled : c.args.text.now ≡ [] → ⊥ = λ none. absurd (let size = ap length none in grind (arith, common_steps)) in
    absurd (no_brackets c.args.text.now filled c.in_err-inner.ensures.only shape is)

pub returns-in_err-read_count-in-Some-clause-only : goal.returns-in_err-read_count-in-Some-clause-only
returns-in_err-read_count-in-Some-clause-only c = λ shape is fits.
    let found = is_up_to c.args.text.now c.in_ok-inner.inner.now c.in-Some.digits.now c.in_ok-inner.ensures.found c.in-Some.ensures.found shape is fits in
    let read = c.in_err-read_count-in-Some.ensures.only found.0 found.1 found.2 found.3 in
    absurd (cc)

pub returns-in_err-read_count-in-None-clause-only : goal.returns-in_err-read_count-in-None-clause-only
returns-in_err-read_count-in-None-clause-only c = λ shape is fits.
    let found = is_exactly c.args.text.now c.in_ok-inner.inner.now c.in_ok-inner.ensures.found (c.in-None.ensures.none refl) shape is fits in
    let read = c.in_err-read_count-in-None.ensures.only found.0 found.1 found.2 found.3 in
    absurd (cc)

pub returns-in_ok-read_count-in-Some-clause-only : goal.returns-in_ok-read_count-in-Some-clause-only
returns-in_ok-read_count-in-Some-clause-only c = λ shape is fits.
    let found = is_up_to c.args.text.now c.in_ok-inner.inner.now c.in-Some.digits.now c.in_ok-inner.ensures.found c.in-Some.ensures.found shape is fits in
    let read = c.in_ok-read_count-in-Some.ensures.only found.0 found.1 found.2 found.3 in
    let same = found.4 in cc

pub returns-in_ok-read_count-in-None-clause-only : goal.returns-in_ok-read_count-in-None-clause-only
returns-in_ok-read_count-in-None-clause-only c = λ shape is fits.
    let found = is_exactly c.args.text.now c.in_ok-inner.inner.now c.in_ok-inner.ensures.found (c.in-None.ensures.none refl) shape is fits in
    let read = c.in_ok-read_count-in-None.ensures.only found.0 found.1 found.2 found.3 in
    let same = found.4 in cc
