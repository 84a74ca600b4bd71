use Rattle.std.proofs.Common.{length}
use Rattle.dsdl_text.proofs.size.+size_of_fields.Given as goal

abbrev pub decreases-size_of_fields : goal.decreases-size_of_fields
decreases-size_of_fields l = length l.fields.now
