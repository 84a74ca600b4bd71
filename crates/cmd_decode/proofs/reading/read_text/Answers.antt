use Rattle.std.proofs.Common.{refl, sym, ◌∙◌, arith}
use Rattle.std.proofs.lemmas.Bool.{true≢false}
use Rattle.cmd_decode.proofs.Progress.{ended_unended, ended_whole, read_in_part, read_on, stopped_bad, stopped_full}
use Rattle.cmd_decode.proofs.reading.read_text.Goals as goal

pub returns-in-Err-clause-cut : goal.returns-in-Err-clause-cut
returns-in-Err-clause-cut g c = λ bytes known.
    let so_far = c.reading.invariant in
    read_in_part bytes c.reading.input _ _ c.reading.lines (so_far.told bytes known) c.in-Err.ensures.err so_far.unended so_far.short so_far.another so_far.within

pub reading-preserved : goal.reading-preserved
reading-preserved g c =
    let so_far = c.reading.invariant in
    let more = rw c.in-Ok-true.field-0-test at c.in-Ok-true.ensures.more in
    let waits = c.in-Incomplete.ensures.stops in
    record {
      within = c.take.ensures.within;
      short = waits.short;
      unended = waits.unended;
      another = waits.another;
      kept = c.in-Ok-true.ensures.faults.kept ∙ so_far.kept;
      told = λ bytes known. read_on bytes c.reading.input c.fill.new.self c.take.new.input _ _ c.reading.lines c.take.new.self (so_far.told bytes known) more c.take.ensures.taken;
    }

pub returns-in-Bad-clause-text : goal.returns-in-Bad-clause-text
returns-in-Bad-clause-text g c = λ bytes known.
    let more = rw c.in-Ok-true.field-0-test at c.in-Ok-true.ensures.more in
    let far = read_on bytes c.reading.input c.fill.new.self c.take.new.input _ _ c.reading.lines c.take.new.self (c.reading.invariant.told bytes known) more c.take.ensures.taken in
    stopped_bad bytes c.take.new.input _ c.take.new.self _ far c.take.ensures.within
    (let shorter = c.take.ensures.taken.shorter in let fits = more.fits in omega (arith, shorter, fits)) c.in-Bad.ensures.stops refl

pub returns-in-Full-clause-text : goal.returns-in-Full-clause-text
returns-in-Full-clause-text g c = λ bytes known.
    let more = rw c.in-Ok-true.field-0-test at c.in-Ok-true.ensures.more in
    let far = read_on bytes c.reading.input c.fill.new.self c.take.new.input _ _ c.reading.lines c.take.new.self (c.reading.invariant.told bytes known) more c.take.ensures.taken in
    stopped_full bytes c.take.new.input _ c.take.new.self far c.take.ensures.within
    (let shorter = c.take.ensures.taken.shorter in let fits = more.fits in omega (arith, shorter, fits)) c.in-Full.ensures.stops

pub returns-then-is_empty-clause-text : goal.returns-then-is_empty-clause-text
returns-then-is_empty-clause-text g c = λ bytes known.
    let so_far = c.reading.invariant in
    let more = rw c.in-Ok-false.field-0-test at c.in-Ok-false.ensures.more in
    ended_whole bytes c.reading.input c.fill.new.self _ _ c.reading.lines c.finish.result (so_far.told bytes known) more so_far.within
    (c.is_empty.ensures.0 c.if-is_empty.true) c.finish.ensures

pub returns-else-is_empty-clause-text : goal.returns-else-is_empty-clause-text
returns-else-is_empty-clause-text g c = λ bytes known.
    let so_far = c.reading.invariant in
    let more = rw c.in-Ok-false.field-0-test at c.in-Ok-false.ensures.more in
    ended_unended bytes c.reading.input c.fill.new.self _ _ c.reading.lines _ (so_far.told bytes known) more so_far.within
    (λ empty. true≢false (sym (c.is_empty.ensures.1 empty) ∙ c.if-is_empty.false)) so_far.unended so_far.short so_far.another refl
