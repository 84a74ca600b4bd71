use Rattle.std.proofs.Common.{ap, sym, ◌∙◌}
use Rattle.std.specs.Prelude.{max}
use Rattle.std.proofs.lemmas.Bool.{not-true}
use Rattle.can_frame.specs.declared.tail.Tail.{Tail}
use Rattle.alloc_spec.specs.Accepted.{setting_for}
use Rattle.transfer_rx.specs.Reassembly.{Arrival, arrival_of}
use Rattle.transfer_rx.proofs.OpenEnds.{gives_none}
use Rattle.alloc_server.proofs.Verdicts.{judges_none}
use Rattle.alloc_server.proofs.server.Server.judge.Goals as goal

pub returns-then-not-tail-clause-judged : goal.returns-then-not-tail-clause-judged
returns-then-not-tail-clause-judged g c t h =
    let arrival : Arrival = arrival_of c.args.frame.now c.args.mark c.args.now in
    let open_end = not-true c.tail.result.end c.if-not-tail.true in
    sym (judges_none t arrival (gives_none (setting_for t.me) t.sessions (record arrival { moment = max t.now arrival.moment })
    (sym (ap (λ (tail : Tail). tail.end) c.tail.ensures.tail) ∙ open_end)))
