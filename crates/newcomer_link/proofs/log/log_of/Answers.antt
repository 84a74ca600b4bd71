use Rattle.newcomer_link.proofs.Unread.{not_read}
use Rattle.newcomer_link.proofs.log.log_of.Goals as goal

pub returns-in-Err-clause-read : goal.returns-in-Err-clause-read
returns-in-Err-clause-read g c = not_read g.D.Disk c.read_place.new.place c.in-Err.field-0 c.args.place.now
    c.read_place.ensures.stays c.in-Err.ensures.damaged c.in-Err.ensures.failed
