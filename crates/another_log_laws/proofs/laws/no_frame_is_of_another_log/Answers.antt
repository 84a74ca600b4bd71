use Rattle.another_log_laws.proofs.Received.{Laws, calls_agree, none_heard}
use Rattle.another_log_laws.proofs.laws.no_frame_is_of_another_log.Goals as goal

pub returns-clause-agree : goal.returns-clause-agree
returns-clause-agree c =
    let laws : Laws = record {
      choices = c.a_choice_fits.ensures;
      shown = c.rows_are_shown.ensures;
      takes = c.what_a_member_takes_was_said.ensures;
      quiet = c.no_call_contradicts.ensures.contradicts;
    } in
    calls_agree laws

pub returns-clause-uncalled : goal.returns-clause-uncalled
returns-clause-uncalled c =
    let laws : Laws = record {
      choices = c.a_choice_fits.ensures;
      shown = c.rows_are_shown.ensures;
      takes = c.what_a_member_takes_was_said.ensures;
      quiet = c.no_call_contradicts.ensures.contradicts;
    } in
    none_heard laws
