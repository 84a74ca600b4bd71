use Rattle.newcomer_link.specs.Logs.{entries_in}
use Rattle.newcomer_link.proofs.link.NewcomerLink.read.Goals as goal

pub returns-clause-refreshed : goal.returns-clause-refreshed
returns-clause-refreshed g c =
    (entries_in c.log_of-log.result, c.log_of-log.ensures.read, c.log_of-log.ensures.only_read, c.read.ensures)
