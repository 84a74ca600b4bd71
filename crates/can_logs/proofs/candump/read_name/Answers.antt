use Rattle.std.proofs.Common.{arith, ◌∙◌, ◌≡◌, ◌∷◌, ◌++◌}
use Rattle.can_logs.proofs.Names.{name_first, name_without}
use Rattle.can_logs.proofs.Splits.{one_rest}
use Rattle.can_logs.proofs.candump.read_name.Goals as goal

pub returns-in_err-word-clause-only : goal.returns-in_err-word-clause-only
returns-in_err-word-clause-only c = λ name rest begins.
    let first = c.in_ok-padded.ensures.only _ begins.spelled in
    let front = c.without_spaces.ensures.front in
    let left : c.without_spaces.result.now ≡ name ++ 32 ∷ rest = one_rest c.in_ok-padded.padded.now c.without_spaces.result.now (name ++ 32 ∷ rest) front.0 begins.more front.1 first c.without_spaces.ensures.none_left (name_first name rest begins.is_name) in
    absurd (c.in_err-word.ensures.only name rest (name_without 32 name (omega arith) begins.is_name) left)

pub returns-in_err-name-clause-only : goal.returns-in_err-name-clause-only
returns-in_err-name-clause-only c = λ name rest begins.
    let first = c.in_ok-padded.ensures.only _ begins.spelled in
    let front = c.without_spaces.ensures.front in
    let left : c.without_spaces.result.now ≡ name ++ 32 ∷ rest = one_rest c.in_ok-padded.padded.now c.without_spaces.result.now (name ++ 32 ∷ rest) front.0 begins.more front.1 first c.without_spaces.ensures.none_left (name_first name rest begins.is_name) in
    let parts = c.in_ok-word.ensures.only name rest (name_without 32 name (omega arith) begins.is_name) left in
    absurd (c.in_err-name.ensures.only (rw parts.0 begins.is_name))

pub returns-clause-only : goal.returns-clause-only
returns-clause-only c = λ name rest begins.
    let first = c.in_ok-padded.ensures.only _ begins.spelled in
    let front = c.without_spaces.ensures.front in
    let left : c.without_spaces.result.now ≡ name ++ 32 ∷ rest = one_rest c.in_ok-padded.padded.now c.without_spaces.result.now (name ++ 32 ∷ rest) front.0 begins.more front.1 first c.without_spaces.ensures.none_left (name_first name rest begins.is_name) in
    let parts = c.in_ok-word.ensures.only name rest (name_without 32 name (omega arith) begins.is_name) left in
    (c.in_ok-name.ensures.only (rw parts.0 begins.is_name) ∙ parts.0, parts.1)
