use Rattle.cmd_new.proofs.Marking.{other_is_kept}
use Rattle.cmd_new.proofs.mark.mark_if_new.Goals as goal

pub returns-clause-marks : goal.returns-clause-marks
returns-clause-marks g c = λ told.
    let found = c.in_ok-found.ensures.found in
    let contents = g.D.Disk.contents in
    other_is_kept (contents c.args.disk.now) (contents c.find_store.new.disk) found.image c.in_ok-found.found (found.seen told) found.is (c.is_new.ensures.no c.if-is_new.false) (c.find_store.ensures.contents told)
