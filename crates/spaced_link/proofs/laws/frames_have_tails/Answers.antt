use Rattle.spaced_link.proofs.Tails.{has_tail, of_allocation_alone}
use Rattle.spaced_link.proofs.laws.frames_have_tails.Goals as goal

pub returns-clause-own : goal.returns-clause-own
returns-clause-own c = has_tail c.frames_read_as_their_pieces.ensures

pub returns-clause-alone : goal.returns-clause-alone
returns-clause-alone c = of_allocation_alone
