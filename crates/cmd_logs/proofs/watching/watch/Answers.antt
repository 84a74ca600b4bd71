use Rattle.std.proofs.Common.{◌≤◌, ◌++◌, ◌∙◌, arith, subst}
use Rattle.outside.specs.Faults.{Rose}
use Rattle.std.specs.Io.KnownBytes.{Appends, append_known}
use Rattle.cmd_io.specs.Output.{WritesFront}
use Rattle.cmd_logs.specs.declared.log.Fault.TheVariants.{Source, Sink}
use Rattle.cmd_logs.specs.Report.{last_line}
use Rattle.cmd_logs.specs.Walking.{status_of}
use Rattle.cmd_logs.specs.Watched.{end_line, watched}
use Rattle.cmd_logs.proofs.Running.{fails_as, run_told, run_unread, run_unwritten, walks_as}
use Rattle.cmd_logs.proofs.Walking.{walks_broken, walks_told}
use Rattle.cmd_logs.proofs.watching.watch.Goals as goal

pub returns-in-Ok-finish-clause-watches : goal.returns-in-Ok-finish-clause-watches
returns-in-Ok-finish-clause-watches g c =
    let ids = c.args.ids.now in
    let form = c.args.form in
    let taken = c.list_transfers.new.log.taken in
    let limit = c.new-log.ensures.limit in
    let most = c.list_transfers.ensures.taken in
    let within : taken ≤ c.args.limit = omega arith in
    let done = c.as_bytes.ensures.bytes ∙ c.number_line-done.ensures.text in
    run_told c.a_line_says_one_thing.ensures (watched ids) end_line form c.args.limit _ _ _ _ _ _ _ _ c.in-Ok-finish.status c.in-Ok.end taken c.in-Ok-finish.ensures.status
    (λ bytes known.
    walks_told (watched ids) end_line form c.args.limit bytes _ taken _ _ _ c.in-Ok.end within
    (walks_as (watched ids) end_line form _ c.args.limit _ c.new-log.ensures.form limit bytes _ _ _ _ _ _ (c.in-Ok.ensures.ends ids bytes c.new-receivers.ensures.watch known))
    _ (subst (λ l. Appends (append_known (g.K.Sink.written c.list_transfers.new.sink) c.list_transfers.new.output) (g.K.Sink.written c.finish.new.sink) (last_line l (status_of c.in-Ok.end taken))) done c.in-Ok-finish.ensures.told.ok))

pub returns-in-Err-clause-watches : goal.returns-in-Err-clause-watches
returns-in-Err-clause-watches g c =
    let ids = c.args.ids.now in
    let form = c.args.form in
    let taken = c.list_transfers.new.log.taken in
    let limit = c.new-log.ensures.limit in
    let most = c.list_transfers.ensures.taken in
    let within : taken ≤ c.args.limit = omega arith in
    let done = c.as_bytes.ensures.bytes ∙ c.number_line-done.ensures.text in
    run_unwritten c.a_line_says_one_thing.ensures (watched ids) end_line form c.args.limit _ _ _ _ _ _ _ _
    (λ bytes known.
    walks_broken (watched ids) end_line form c.args.limit bytes _ taken _ _ _ c.in-Ok.end within
    (walks_as (watched ids) end_line form _ c.args.limit _ c.new-log.ensures.form limit bytes _ _ _ _ _ _ (c.in-Ok.ensures.ends ids bytes c.new-receivers.ensures.watch known))
    _ (subst (λ l. WritesFront (g.K.Sink.written c.list_transfers.new.sink) (g.K.Sink.written c.finish.new.sink) (c.list_transfers.new.output ++ last_line l (status_of c.in-Ok.end taken))) done c.in-Err.ensures.told.err))
    (subst (λ n. Rose n (g.K.Sink.faults c.finish.new.sink)) c.in-Ok.ensures.kept.1 c.in-Err.ensures.faults.cause.failed)

pub returns-in-Err-Sink-clause-watches : goal.returns-in-Err-Sink-clause-watches
returns-in-Err-Sink-clause-watches g c =
    let ids = c.args.ids.now in
    let form = c.args.form in
    let cause = rw c.in-Err-Sink.field-0-is at c.in-Err-Sink.ensures.cause in
    run_unwritten c.a_line_says_one_thing.ensures (watched ids) end_line form c.args.limit _ _ _ _ _ _ _ _
    (λ bytes known.
    let left = rw c.in-Err-Sink.field-0-is at (c.in-Err-Sink.ensures.fails ids bytes c.new-receivers.ensures.watch known) in
    fails_as (watched ids) end_line form _ c.args.limit _ c.new-log.ensures.form c.new-log.ensures.limit Sink bytes _ _ _ left)
    cause.0

pub returns-in-Err-Source-clause-watches : goal.returns-in-Err-Source-clause-watches
returns-in-Err-Source-clause-watches g c =
    let ids = c.args.ids.now in
    let form = c.args.form in
    let cause = rw c.in-Err-Source.field-0-is at c.in-Err-Source.ensures.cause in
    run_unread c.a_line_says_one_thing.ensures (watched ids) end_line form c.args.limit _ _ _ _ _ _ _ _
    (λ bytes known.
    let left = rw c.in-Err-Source.field-0-is at (c.in-Err-Source.ensures.fails ids bytes c.new-receivers.ensures.watch known) in
    fails_as (watched ids) end_line form _ c.args.limit _ c.new-log.ensures.form c.new-log.ensures.limit Source bytes _ _ _ left)
    cause.0
