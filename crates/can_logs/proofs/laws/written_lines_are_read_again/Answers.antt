use Rattle.can_logs.proofs.Written.{candump_again, slcan_again}
use Rattle.can_logs.proofs.laws.written_lines_are_read_again.Goals as goal

pub returns-clause-candump : goal.returns-clause-candump
returns-clause-candump c = candump_again

pub returns-clause-slcan : goal.returns-clause-slcan
returns-clause-slcan c = slcan_again
