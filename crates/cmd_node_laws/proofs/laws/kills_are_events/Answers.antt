use Rattle.cmd_node_laws.proofs.Final.{kill_found}
use Rattle.cmd_node_laws.proofs.Turning.{MarkLaws}
use Rattle.cmd_node_laws.proofs.laws.kills_are_events.Goals as goal

pub returns : goal.returns
returns c =
    let marks : MarkLaws = record { step = c.marks_change_marks_alone.ensures.step; popped = c.marks_change_marks_alone.ensures.popped; next = c.marks_change_marks_alone.ensures.next } in
    kill_found marks c.deliveries_are_whole_transfers.ensures
