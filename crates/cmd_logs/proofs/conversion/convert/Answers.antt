use Rattle.std.proofs.Common.{◌≤◌, ◌∙◌, arith, subst}
use Rattle.outside.specs.Faults.{Rose}
use Rattle.cmd_logs.specs.declared.log.Fault.TheVariants.{Source, Sink}
use Rattle.cmd_logs.specs.Converted.{converted, no_end}
use Rattle.cmd_logs.proofs.Running.{fails_as, run_told, run_unread, run_unwritten, walks_as}
use Rattle.cmd_logs.proofs.Walking.{walks_broken, walks_told}
use Rattle.cmd_logs.proofs.conversion.convert.Goals as goal

pub returns-in-Ok-finish-clause-converts : goal.returns-in-Ok-finish-clause-converts
returns-in-Ok-finish-clause-converts g c =
    let to = c.args.to in
    let form = c.args.from in
    let limit = c.new-log.ensures.limit in
    let most = c.write_frames.ensures.taken in
    let within : c.write_frames.new.log.taken ≤ c.args.limit = omega arith in
    run_told c.a_line_says_one_thing.ensures (converted to) no_end form c.args.limit _ _ _ _ _ _ _ _ c.in-Ok-finish.status c.in-Ok.end c.write_frames.new.log.taken c.in-Ok-finish.ensures.status
    (λ bytes known.
    walks_told (converted to) no_end form c.args.limit bytes _ c.write_frames.new.log.taken _ _ _ c.in-Ok.end within
    (walks_as (converted to) no_end form _ c.args.limit _ c.new-log.ensures.form limit bytes _ _ _ _ _ _ (c.in-Ok.ensures.ends bytes known))
    _ c.in-Ok-finish.ensures.told.ok)

pub returns-in-Err-clause-converts : goal.returns-in-Err-clause-converts
returns-in-Err-clause-converts g c =
    let to = c.args.to in
    let form = c.args.from in
    let limit = c.new-log.ensures.limit in
    let most = c.write_frames.ensures.taken in
    let within : c.write_frames.new.log.taken ≤ c.args.limit = omega arith in
    run_unwritten c.a_line_says_one_thing.ensures (converted to) no_end form c.args.limit _ _ _ _ _ _ _ _
    (λ bytes known.
    walks_broken (converted to) no_end form c.args.limit bytes _ c.write_frames.new.log.taken _ _ _ c.in-Ok.end within
    (walks_as (converted to) no_end form _ c.args.limit _ c.new-log.ensures.form limit bytes _ _ _ _ _ _ (c.in-Ok.ensures.ends bytes known))
    _ c.in-Err.ensures.told.err)
    (subst (λ n. Rose n (g.K.Sink.faults c.finish.new.sink)) c.in-Ok.ensures.kept.1 c.in-Err.ensures.faults.cause.failed)

pub returns-in-Err-Sink-clause-converts : goal.returns-in-Err-Sink-clause-converts
returns-in-Err-Sink-clause-converts g c =
    let to = c.args.to in
    let form = c.args.from in
    let cause = rw c.in-Err-Sink.field-0-is at c.in-Err-Sink.ensures.cause in
    run_unwritten c.a_line_says_one_thing.ensures (converted to) no_end form c.args.limit _ _ _ _ _ _ _ _
    (λ bytes known.
    let left = rw c.in-Err-Sink.field-0-is at (c.in-Err-Sink.ensures.fails bytes known) in
    fails_as (converted to) no_end form _ c.args.limit _ c.new-log.ensures.form c.new-log.ensures.limit Sink bytes _ _ _ left)
    cause.0
