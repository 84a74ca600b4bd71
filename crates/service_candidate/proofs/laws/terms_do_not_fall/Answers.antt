use Rattle.service_calm.specs.Calm.{no_traffic}
use Rattle.service_candidate.proofs.TermsRise.{terms_rise}
use Rattle.service_candidate.proofs.laws.terms_do_not_fall.Goals as goal
use Rattle.bus_spec.specs.Cluster.{world_of}

pub returns : goal.returns
returns c ids rows group clocks pace start m first front rest before then_ running calm in_m runs runs_then =
    terms_rise group clocks pace m first front rest (world_of ids rows) (no_traffic start) (running m in_m) calm before then_ runs runs_then
