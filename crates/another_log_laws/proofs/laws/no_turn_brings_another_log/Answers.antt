use Rattle.cmd_node_laws.proofs.Turning.{MarkLaws}
use Rattle.another_log_laws.proofs.InTurn.{Laws, in_turn}
use Rattle.another_log_laws.proofs.laws.no_turn_brings_another_log.Goals as goal

pub returns : goal.returns
returns c = λ ids mine rules given taken place within is.
    let marks : MarkLaws = record {
      step = c.marks_change_marks_alone.ensures.step;
      popped = c.marks_change_marks_alone.ensures.popped;
      next = c.marks_change_marks_alone.ensures.next;
    } in
    let laws : Laws = record {
      heard = c.no_frame_is_of_another_log.ensures.uncalled;
      answers = c.marks_change_marks_alone-2.ensures.answer;
      deliveries = c.deliveries_are_whole_transfers.ensures;
      marks = marks;
      harmless = c.traces_do_no_harm.ensures.rows;
      calm = c.traces_do_no_harm.ensures.calm;
      followed = c.processes_are_followed.ensures;
    } in
    in_turn laws ids mine rules given taken place within is
