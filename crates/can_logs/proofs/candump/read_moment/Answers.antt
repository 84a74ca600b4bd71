use Rattle.std.proofs.Common.{arith, ◌∷◌, ◌++◌}
use Rattle.can_logs.proofs.Numbers.{decimal_without}
use Rattle.can_logs.proofs.candump.read_moment.Goals as goal

pub returns-in_err-whole-clause-only : goal.returns-in_err-whole-clause-only
returns-in_err-whole-clause-only c = λ sec micros rest begins.
    let first = c.in_ok-moment.ensures.only _ begins.spelled in
    absurd (c.in_err-whole.ensures.only begins.whole (begins.part ++ 41 ∷ rest) (decimal_without 46 sec begins.whole (omega arith) begins.is_moment.seconds) first)

pub returns-in_err-part-clause-only : goal.returns-in_err-part-clause-only
returns-in_err-part-clause-only c = λ sec micros rest begins.
    let first = c.in_ok-moment.ensures.only _ begins.spelled in
    let one = c.in_ok-whole.ensures.only begins.whole (begins.part ++ 41 ∷ rest) (decimal_without 46 sec begins.whole (omega arith) begins.is_moment.seconds) first in
    absurd (c.in_err-part.ensures.only begins.part rest (decimal_without 41 micros begins.part (omega arith) begins.is_moment.parts) one.1)

pub returns-in_err-sec-clause-only : goal.returns-in_err-sec-clause-only
returns-in_err-sec-clause-only c = λ sec micros rest begins.
    let first = c.in_ok-moment.ensures.only _ begins.spelled in
    let one = c.in_ok-whole.ensures.only begins.whole (begins.part ++ 41 ∷ rest) (decimal_without 46 sec begins.whole (omega arith) begins.is_moment.seconds) first in
    let two = c.in_ok-part.ensures.only begins.part rest (decimal_without 41 micros begins.part (omega arith) begins.is_moment.parts) one.1 in
    let read = c.in_err-sec.ensures.only sec micros (rw one.0 (rw two.0 begins.is_moment)) in
    absurd read

pub returns-clause-only : goal.returns-clause-only
returns-clause-only c = λ sec micros rest begins.
    let first = c.in_ok-moment.ensures.only _ begins.spelled in
    let one = c.in_ok-whole.ensures.only begins.whole (begins.part ++ 41 ∷ rest) (decimal_without 46 sec begins.whole (omega arith) begins.is_moment.seconds) first in
    let two = c.in_ok-part.ensures.only begins.part rest (decimal_without 41 micros begins.part (omega arith) begins.is_moment.parts) one.1 in
    let read = c.in_ok-sec.ensures.only sec micros (rw one.0 (rw two.0 begins.is_moment)) in
    (read.0, read.1, two.1)
