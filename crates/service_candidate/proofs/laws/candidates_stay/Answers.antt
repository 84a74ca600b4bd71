use Rattle.service_candidate.proofs.CandidateRows.{candidate_stays}
use Rattle.service_candidate.proofs.laws.candidates_stay.Goals as goal
use Rattle.bus_spec.specs.Cluster.{world_of}

pub returns : goal.returns
returns c = λ ids rows n row before after in_n harm up up_then stood. candidate_stays (world_of ids rows) n row before after harm up up_then stood
