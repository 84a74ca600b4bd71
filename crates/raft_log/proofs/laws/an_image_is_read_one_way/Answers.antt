use Rattle.raft_log.proofs.Reading.{read_once, read_or_damaged}
use Rattle.raft_log.proofs.laws.an_image_is_read_one_way.Goals as goal

pub returns-clause-same : goal.returns-clause-same
returns-clause-same c = read_once

pub returns-clause-either : goal.returns-clause-either
returns-clause-either c = read_or_damaged
