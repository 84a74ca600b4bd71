use Rattle.bus_agreement.proofs.StopsAndOpenings.{DiskLaws, OpeningLaws, may_open, not_opened_shown, open_shown}
use Rattle.bus_agreement.proofs.StillWritable.{opened_written}
use Rattle.bus_agreement.proofs.rows.openings_are_shown.Goals as goal

pub returns : goal.returns
returns c =
    let disk : DiskLaws = record {
      done = λ key_disk puts e. (c.the_disk_by_states.ensures.done key_disk puts e).0;
      found_again = c.the_disk_by_states.ensures.found_again;
      keeps_store = c.an_opening_keeps_the_store.ensures;
    } in
    let opening : OpeningLaws = record {
      order = c.moves_of_a_step.ensures.opening;
      sound = c.steps_stay_in_range.ensures.opening;
      members = c.members_of_a_step.ensures.opening;
    } in record {
      opened = λ choice made w run members shows written n told ms word listed stopped opens. (
        may_open disk opening choice made w members.few run shows n told ms word listed stopped opens,
        opened_written w.ids run n written,
        open_shown disk opening choice made w members.few run shows n told ms word listed stopped opens,
      );
      failed = λ choice made w run members shows n told ms word listed stopped fails.
          not_opened_shown disk opening choice made w members.few run shows n told ms word listed stopped fails;
    }
