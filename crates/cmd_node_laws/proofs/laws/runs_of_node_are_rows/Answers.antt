use Rattle.cmd_node_laws.proofs.Capstone.{FollowLaws, cut_as_told, left_as_told, opened_as_told}
use Rattle.cmd_node_laws.proofs.laws.runs_of_node_are_rows.Goals as goal

pub returns-clause-done : goal.returns-clause-done
returns-clause-done g c = λ ids mine before during rules turns given links disks readings is left.
    let laws : FollowLaws = record {
      killed = c.kills_are_events.ensures;
      calm = c.traces_do_no_harm.ensures.calm;
      followed = c.processes_are_followed.ensures;
      stored = c.stores_are_followed.ensures;
    } in
    left_as_told laws g.L.Link.coming g.L.Link.sent g.D.Disk ids mine before during rules turns given links disks readings is left

pub returns-clause-cut : goal.returns-clause-cut
returns-clause-cut g c = λ ids mine before during rules taken place given links disks readings within is left.
    let laws : FollowLaws = record {
      killed = c.kills_are_events.ensures;
      calm = c.traces_do_no_harm.ensures.calm;
      followed = c.processes_are_followed.ensures;
      stored = c.stores_are_followed.ensures;
    } in
    cut_as_told laws g.L.Link.coming g.L.Link.sent g.D.Disk ids mine before during rules taken place given links disks readings within is left

pub returns-clause-opening : goal.returns-clause-opening
returns-clause-opening g c = λ ids mine before during rules given links_old links disks_old disks readings_old readings id tell cut is.
    let laws : FollowLaws = record {
      killed = c.kills_are_events.ensures;
      calm = c.traces_do_no_harm.ensures.calm;
      followed = c.processes_are_followed.ensures;
      stored = c.stores_are_followed.ensures;
    } in
    opened_as_told laws g.L.Link.coming g.L.Link.sent g.D.Disk c.an_image_stands_for_one_state.ensures.state c.an_opening_keeps_the_store.ensures ids mine before during rules given
    links_old links disks_old disks readings_old readings id tell cut is
