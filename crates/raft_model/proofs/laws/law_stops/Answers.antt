use Rattle.raft_model.proofs.Prefixes.{stop_comes, stop_between, cut, breaks, stop_stored}
use Rattle.raft_model.proofs.laws.law_stops.Goals as goal

pub returns : goal.returns
returns c = record { stop = stop_comes; between = stop_between; cut = cut; failed = breaks; stored = stop_stored }
