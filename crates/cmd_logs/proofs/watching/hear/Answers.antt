use Rattle.std.proofs.Common.{◌+◌, ◌*◌, ◌∙◌, Ok, ap, sym, subst, refl}
use Rattle.outside.specs.declared.failed.Failed.{Failed}
use Rattle.cmd_io.specs.Output.{Writes}
use Rattle.cmd_io.proofs.Written.{writes-nothing}
use Rattle.transfer_rx.specs.Reassembly.{arrival_of}
use Rattle.cmd_logs.specs.Watched.{heard, line_heard, listed, no_mark}
use Rattle.cmd_logs.specs.Watching.{HasWatch}
use Rattle.cmd_logs.proofs.watching.hear.Goals as goal

pub returns-in-Some-clause-told : goal.returns-in-Some-clause-told
returns-in-Some-clause-told g c = λ ids watch has.
    let written = g.K.Sink.written in
    let logged = c.in-Frame.logged in
    let moment = ap (λ n. logged.sec * 1000 + n) c.from.ensures in
    let gives = c.in-Some.ensures.gives ids watch has ∙ ap (λ n. (heard ids watch (arrival_of logged.frame no_mark n)).gives) moment in
    subst (λ line. Writes (written c.args.sink.now) c.args.output.now (written c.write_transfer.new.sink) c.write_transfer.new.output (listed c.args.number (line_heard ids watch line).gives) c.write_transfer.result)
    (sym c.in-Frame.is)
    (subst (λ o. Writes (written c.args.sink.now) c.args.output.now (written c.write_transfer.new.sink) c.write_transfer.new.output (listed c.args.number o) c.write_transfer.result)
    gives c.write_transfer.ensures.told)

pub returns-in-Some-clause-watch : goal.returns-in-Some-clause-watch
returns-in-Some-clause-watch g c = λ ids watch has.
    let logged = c.in-Frame.logged in
    let moment = ap (λ n. logged.sec * 1000 + n) c.from.ensures in
    subst (λ line. HasWatch c.take.new.self ids (line_heard ids watch line).after) (sym c.in-Frame.is)
    (subst (λ n. HasWatch c.take.new.self ids (heard ids watch (arrival_of logged.frame no_mark n)).after) moment (c.take.ensures.watch ids watch has))

pub returns-in-None-clause-told : goal.returns-in-None-clause-told
returns-in-None-clause-told g c = λ ids watch has.
    let written = g.K.Sink.written in
    let logged = c.in-Frame.logged in
    let moment = ap (λ n. logged.sec * 1000 + n) c.from.ensures in
    let gives = c.in-None.ensures.gives ids watch has ∙ ap (λ n. (heard ids watch (arrival_of logged.frame no_mark n)).gives) moment in
    subst (λ line. Writes {E = Failed} (written c.args.sink.now) c.args.output.now (written c.args.sink.now) c.args.output.now (listed c.args.number (line_heard ids watch line).gives) (Ok (tt {0})))
    (sym c.in-Frame.is)
    (subst (λ o. Writes {E = Failed} (written c.args.sink.now) c.args.output.now (written c.args.sink.now) c.args.output.now (listed c.args.number o) (Ok (tt {0})))
    gives (writes-nothing (written c.args.sink.now) c.args.output.now (Ok (tt {0})) refl))
