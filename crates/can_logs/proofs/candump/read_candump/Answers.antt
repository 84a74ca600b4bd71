use Rattle.can_logs.proofs.Lines.{front_of, only_data, skipped_found, skipped_only}
use Rattle.can_logs.proofs.candump.read_candump.Goals as goal

pub returns-in_err-sec-clause-none : goal.returns-in_err-sec-clause-none
returns-in_err-sec-clause-none c = λ _ read reads.
    let front = front_of read c.args.line.now reads in
    absurd (c.in_err-sec.ensures.only front.0 front.1 front.2 front.3 front.4)

pub returns-in_err-sec-clause-only : goal.returns-in_err-sec-clause-only
returns-in_err-sec-clause-only c = λ read reads.
    let front = front_of read c.args.line.now reads in
    absurd (c.in_err-sec.ensures.only front.0 front.1 front.2 front.3 front.4)

pub returns-in-Some-clause-only : goal.returns-in-Some-clause-only
returns-in-Some-clause-only c =
    only_data c.args.line.now c.in_ok-sec.rest.now c.in_ok-sec.sec c.in_ok-sec.micros c.in_ok-sec.iface c.in-Some.frame
    c.in_ok-sec.ensures.found c.in-Some.ensures.found c.in_ok-sec.ensures.only c.in-Some.ensures.only

pub returns-in-None-clause-found : goal.returns-in-None-clause-found
returns-in-None-clause-found c =
    skipped_found c.skipped.result c.args.line.now c.in_ok-sec.rest.now c.in_ok-sec.sec c.in_ok-sec.micros c.in_ok-sec.iface.items
    c.in_ok-sec.ensures.found c.in_ok-sec.ensures.only c.in-None.ensures.only c.skipped.ensures.found

pub returns-in-None-clause-none : goal.returns-in-None-clause-none
returns-in-None-clause-none c = λ none read reads.
    let some =
    skipped_only c.skipped.result c.args.line.now c.in_ok-sec.rest.now c.in_ok-sec.sec c.in_ok-sec.micros c.in_ok-sec.iface.items
    c.in_ok-sec.ensures.only c.in-None.ensures.only c.skipped.ensures.only read reads
    in
    absurd (cc (rw some at none))

pub returns-in-None-clause-only : goal.returns-in-None-clause-only
returns-in-None-clause-only c =
    skipped_only c.skipped.result c.args.line.now c.in_ok-sec.rest.now c.in_ok-sec.sec c.in_ok-sec.micros c.in_ok-sec.iface.items
    c.in_ok-sec.ensures.only c.in-None.ensures.only c.skipped.ensures.only
