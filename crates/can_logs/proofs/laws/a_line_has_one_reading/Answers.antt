use Rattle.can_logs.proofs.OneReading.{one_candump, one_slcan}
use Rattle.can_logs.proofs.laws.a_line_has_one_reading.Goals as goal

pub returns-clause-candump : goal.returns-clause-candump
returns-clause-candump c = one_candump c.frames_are_their_parts.ensures

pub returns-clause-slcan : goal.returns-clause-slcan
returns-clause-slcan c = one_slcan c.frames_are_their_parts.ensures
