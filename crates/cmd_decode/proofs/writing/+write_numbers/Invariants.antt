use Rattle.std.proofs.Common.{length}
use Rattle.cmd_decode.proofs.writing.+write_numbers.Given as goal

abbrev pub decreases-write_numbers : goal.decreases-write_numbers
decreases-write_numbers g l = length l.numbers.now
