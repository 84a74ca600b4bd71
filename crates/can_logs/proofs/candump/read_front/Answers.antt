use Rattle.can_logs.proofs.candump.read_front.Goals as goal

pub returns-in_err-sec-clause-only : goal.returns-in_err-sec-clause-only
returns-in_err-sec-clause-only c = λ sec micros name rest front. absurd (c.in_err-sec.ensures.only sec micros front.named front.moment)

pub returns-in_err-iface-clause-only : goal.returns-in_err-iface-clause-only
returns-in_err-iface-clause-only c = λ sec micros name rest front.
    let moment = c.in_ok-sec.ensures.only sec micros front.named front.moment in
    absurd (c.in_err-iface.ensures.only name rest (rw moment.2 front.name_behind))

pub returns-clause-only : goal.returns-clause-only
returns-clause-only c = λ sec micros name rest front.
    let moment = c.in_ok-sec.ensures.only sec micros front.named front.moment in
    let name_rest = c.in_ok-iface.ensures.only name rest (rw moment.2 front.name_behind) in
    (moment.0, moment.1, name_rest.0, name_rest.1)
