use Rattle.allocatee.proofs.Waits.{after_allocations, after_opening, after_requests}
use Rattle.allocatee.proofs.times.first_stages_are_600_ms_apart.Goals as goal

pub returns-clause-opening : goal.returns-clause-opening
returns-clause-opening c = λ o happenings number event part asks. after_opening o happenings number event part asks

pub returns-clause-allocation : goal.returns-clause-allocation
returns-clause-allocation c = λ d since number later event again part taken asks. after_allocations d since number later event again part taken asks

pub returns-clause-request : goal.returns-clause-request
returns-clause-request c = λ d since number later event again part part_again first asks. after_requests d since number later event again part part_again first asks
