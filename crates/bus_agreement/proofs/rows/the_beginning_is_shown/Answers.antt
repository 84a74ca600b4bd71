use Rattle.bus_agreement.proofs.StopsAndOpenings.{beginning_shown}
use Rattle.bus_agreement.proofs.rows.the_beginning_is_shown.Goals as goal

pub returns : goal.returns
returns c = beginning_shown
