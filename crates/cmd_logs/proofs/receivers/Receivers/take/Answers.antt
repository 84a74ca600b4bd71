use Rattle.std.proofs.Common.{◌∙◌, ap, sym, subst}
use Rattle.transfer_rx.specs.Reassembly.{arrival_of}
use Rattle.cmd_logs.specs.Watched.{no_mark}
use Rattle.cmd_logs.specs.Watching.{HasWatch}
use Rattle.cmd_logs.proofs.Seats.{heard_message, heard_none, heard_service}
use Rattle.cmd_logs.proofs.receivers.Receivers.take.Goals as goal

pub returns-then-is_service-clause-gives : goal.returns-then-is_service-clause-gives
returns-then-is_service-clause-gives g c = λ ids watch has.
    let came = arrival_of c.args.frame.now no_mark c.args.now in
    let same = heard_service ids watch came c.in-Some.ident (sym c.in-Some.ensures.fields) (sym c.if-is_service.ensures) in
    c.take_service.ensures.gives ids watch has ∙ sym (ap (λ h. h.gives) same)

pub returns-then-is_service-clause-watch : goal.returns-then-is_service-clause-watch
returns-then-is_service-clause-watch g c = λ ids watch has.
    let came = arrival_of c.args.frame.now no_mark c.args.now in
    let same = heard_service ids watch came c.in-Some.ident (sym c.in-Some.ensures.fields) (sym c.if-is_service.ensures) in
    subst (λ h. HasWatch c.take_service.new.self ids h.after) (sym same) (c.take_service.ensures.watch ids watch has)

pub returns-else-is_service-clause-gives : goal.returns-else-is_service-clause-gives
returns-else-is_service-clause-gives g c = λ ids watch has.
    let came = arrival_of c.args.frame.now no_mark c.args.now in
    let same = heard_message ids watch came c.in-Some.ident (sym c.in-Some.ensures.fields) (sym c.if-is_service.ensures) in
    c.take_message.ensures.gives ids watch has ∙ sym (ap (λ h. h.gives) same)

pub returns-else-is_service-clause-watch : goal.returns-else-is_service-clause-watch
returns-else-is_service-clause-watch g c = λ ids watch has.
    let came = arrival_of c.args.frame.now no_mark c.args.now in
    let same = heard_message ids watch came c.in-Some.ident (sym c.in-Some.ensures.fields) (sym c.if-is_service.ensures) in
    subst (λ h. HasWatch c.take_message.new.self ids h.after) (sym same) (c.take_message.ensures.watch ids watch has)

pub returns-in-None-clause-gives : goal.returns-in-None-clause-gives
returns-in-None-clause-gives g c = λ ids watch has.
    let came = arrival_of c.args.frame.now no_mark c.args.now in
    sym (ap (λ h. h.gives) (heard_none ids watch came (sym c.in-None.ensures.fields)))

pub returns-in-None-clause-watch : goal.returns-in-None-clause-watch
returns-in-None-clause-watch g c = λ ids watch has.
    let came = arrival_of c.args.frame.now no_mark c.args.now in
    subst (λ h. HasWatch c.args.self.now ids h.after) (sym (heard_none ids watch came (sym c.in-None.ensures.fields))) has
