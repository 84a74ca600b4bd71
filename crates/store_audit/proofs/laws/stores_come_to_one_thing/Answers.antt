use Rattle.store_audit.proofs.Once.{ReadingLaws, complete, one_end}
use Rattle.store_audit.proofs.laws.stores_come_to_one_thing.Goals as goal

pub returns-clause-one : goal.returns-clause-one
returns-clause-one g c = λ ids disks a b x y tell.
    let laws : ReadingLaws = record {
      once = c.an_image_is_read_one_way.ensures.same;
      either = c.an_image_is_read_one_way.ensures.either;
      key = c.an_image_stands_for_one_state.ensures.damaged;
    } in
    one_end g.D.Disk laws ids disks tell a b x y

pub returns-clause-complete : goal.returns-clause-complete
returns-clause-complete g c = λ ids disks new before now status found report tell.
    let laws : ReadingLaws = record {
      once = c.an_image_is_read_one_way.ensures.same;
      either = c.an_image_is_read_one_way.ensures.either;
      key = c.an_image_stands_for_one_state.ensures.damaged;
    } in
    complete g.D.Disk ids disks new before now laws tell status found report
