use Rattle.cmd_logs.proofs.Walking.{reads_next}
use Rattle.cmd_logs.proofs.log.read_next.Goals as goal

pub returns-in-Some-clause-next : goal.returns-in-Some-clause-next
returns-in-Some-clause-next g c =
    let so_far = c.reading.invariant in
    let more = rw c.in-Ok-true.field-0-test at c.in-Ok-true.ensures.more in
    reads_next c.args.form c.args.limit _ _ _ _ _ _ _ _ _ _ c.in-Some.next so_far.counted so_far.same more c.in-Some.ensures.takes
