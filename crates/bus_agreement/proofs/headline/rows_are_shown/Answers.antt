use Rattle.bus_agreement.proofs.AllRows.{from_beginning}
use Rattle.bus_agreement.proofs.headline.rows_are_shown.Goals as goal

pub returns : goal.returns
returns c = from_beginning c.a_row_is_shown.ensures c.law_every_run.ensures.invariants c.the_beginning_is_shown.ensures
