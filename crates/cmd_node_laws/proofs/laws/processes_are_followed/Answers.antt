use Rattle.cmd_node_laws.proofs.Final.{none_twice}
use Rattle.cmd_node_laws.proofs.Running.{goes_on}
use Rattle.cmd_node_laws.proofs.Turning.{MarkLaws}
use Rattle.cmd_node_laws.proofs.laws.processes_are_followed.Goals as goal

pub returns : goal.returns
returns c = λ mine given rules w trace from to once by_rules calm within may goes stand i low.
    let marks : MarkLaws = record { step = c.marks_change_marks_alone.ensures.step; popped = c.marks_change_marks_alone.ensures.popped; next = c.marks_change_marks_alone.ensures.next } in
    goes_on marks c.deliveries_are_whole_transfers.ensures c.an_opening_keeps_the_store.ensures mine given (none_twice mine once) rules trace w from to calm by_rules within may goes stand i low
