use Rattle.service_candidate.proofs.ElectionGrounds.{is_said}
use Rattle.service_candidate.proofs.VotesRead.{requests_as_said}
use Rattle.service_candidate.proofs.laws.vote_requests_read_as_said.Goals as goal
use Rattle.service_calm.specs.Comes.{sent_by}
use Rattle.bus_spec.specs.Cluster.{world_of}

pub returns : goal.returns
returns c = λ ids rows members harmless n row offer harm running sends.
    let below = c.what_elections_stand_on.ensures in
    let x = is_said below ids members rows harmless n row offer harm running sends in
    requests_as_said below.calm.codec x.ids x.made x.bag x.said x.written (sent_by n (world_of ids rows) offer) x.among
