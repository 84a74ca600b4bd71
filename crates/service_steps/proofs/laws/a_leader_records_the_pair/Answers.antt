use Rattle.service_steps.proofs.Records.{records}
use Rattle.service_steps.proofs.laws.a_leader_records_the_pair.Goals as goal

pub returns : goal.returns
returns c = records
