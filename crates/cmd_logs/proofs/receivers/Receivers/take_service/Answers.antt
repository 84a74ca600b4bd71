use Rattle.std.proofs.Common.{◌∙◌, ap, refl, cond}
use Rattle.std.specs.Prelude.{None}
use Rattle.transfer_rx.specs.Reassembly.{arrival_of}
use Rattle.cmd_logs.specs.Watched.{by_services, no_mark}
use Rattle.cmd_logs.specs.Watching.{is_at}
use Rattle.cmd_logs.proofs.Seats.{all_moved, gives_by_service}
use Rattle.cmd_logs.proofs.receivers.Receivers.take_service.Goals as goal

pub returns-clause-gives : goal.returns-clause-gives
returns-clause-gives g c = λ ids watch has.
    let self = c.args.self.now in
    let id = c.args.id in
    let came = arrival_of c.args.frame.now no_mark c.args.now in
    let delivery = (by_services id watch came).gives in
    let fifth = c.take-fifth.ensures.gives watch.services has.fifth in
    let fourth = c.either.ensures (is_at self.fourth.id id) (is_at self.fifth.id id) delivery (c.take-fourth.ensures.gives watch.services has.fourth) fifth in
    let third = c.either-2.ensures (is_at self.third.id id) _ delivery (c.take-third.ensures.gives watch.services has.third) fourth in
    let second = c.either-3.ensures (is_at self.second.id id) _ delivery (c.take-second.ensures.gives watch.services has.second) third in
    let first = c.either-4.ensures (is_at self.first.id id) _ delivery (c.take-first.ensures.gives watch.services has.first) second in
    first ∙ ap (λ b. cond b delivery None) (has.seated id) ∙ gives_by_service ids watch came id

pub returns-clause-watch : goal.returns-clause-watch
returns-clause-watch g c = λ ids watch has.
    all_moved c.args.self.now _ ids watch c.args.id (arrival_of c.args.frame.now no_mark c.args.now) has refl
    c.take-first.ensures.moves c.take-second.ensures.moves c.take-third.ensures.moves c.take-fourth.ensures.moves c.take-fifth.ensures.moves
