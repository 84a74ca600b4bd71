use Rattle.std.proofs.Common.{◌<◌, length, refl, ap, subst, ◌∙◌, arith}
use Rattle.std.specs.Prelude.{None, slice_index, slice_index_or}
use Rattle.std.proofs.lemmas.List.{get_or-set_same, get_or_default}
use Rattle.store_audit.proofs.Disks.{there_is}
use Rattle.cmd_replace.specs.Guard.{MayReplace, StandsInWay}
use Rattle.cmd_replace.specs.Replaced.{made_line}
use Rattle.cmd_replace.specs.declared.guard.Obstacle.TheVariants as obstacle
use Rattle.cmd_replace.proofs.Making.{all_committed, all_left_stay, counts_imaged, counts_lost, counts_none, left_stay}
use Rattle.cmd_replace.proofs.make.make_lost.Goals as goal

pub returns-in-Ok-write_place-clause-made : goal.returns-in-Ok-write_place-clause-made
returns-in-Ok-write_place-clause-made g c =
    let ids = c.args.ids.now in
    let lost = c.args.lost in
    let mid = c.read_left.new.disks in
    let stores = c.read_left.new.stores.items in
    let leader = c.in-Ok.leader in
    let p = c.place_of-place.result in
    let within : p < length mid = omega (arith, c.read_left.ensures.stay.count, c.requires.disks, c.place_of-place.ensures.within) in
    let there = get_or_default mid p c.index-disks-place.result None within ∙ c.read_left.ensures.lost p c.place_of-place.ensures.is in
    let may = subst (λ l. MayReplace ids lost l leader) c.deref.ensures.0 c.in-Ok.ensures.may in
    let low : leader < length stores = omega (arith, may.elected.within, c.in_ok-read_left.ensures.left.all) in
    record {
      allowed = record {
        images = c.read_left.new.images;
        stores = stores;
        left = c.in_ok-read_left.ensures.left;
        leader = leader;
        may = may;
      };
      lost_is = record { place = p; within = c.place_of-place.ensures.within; is = c.place_of-place.ensures.is };
      imaged = λ before was. rw (get_or-set_same mid p c.write_place.new.place None within) (c.in-Ok-write_place.ensures.imaged before (there ∙ was));
      lines = ap (made_line lost (slice_index ids leader)) (all_committed stores c.deref-in-Ok-write_place.result.now leader c.index-deref-leader.result c.deref-in-Ok-write_place.ensures.0 low may.committed);
    }

pub returns-in-Ok-write_place-clause-stay : goal.returns-in-Ok-write_place-clause-stay
returns-in-Ok-write_place-clause-stay g c =
    let mid = c.read_left.new.disks in
    let p = c.place_of-place.result in
    let within : p < length mid = omega (arith, c.read_left.ensures.stay.count, c.requires.disks, c.place_of-place.ensures.within) in
    left_stay g.D.Disk c.args.ids.now c.args.lost c.args.disks.now mid p c.write_place.new.place within c.place_of-place.ensures.is c.read_left.ensures.stay

pub returns-in-Ok-write_place-clause-quiet : goal.returns-in-Ok-write_place-clause-quiet
returns-in-Ok-write_place-clause-quiet g c =
    let mid = c.read_left.new.disks in
    let p = c.place_of-place.result in
    let within : p < length mid = omega (arith, c.read_left.ensures.stay.count, c.requires.disks, c.place_of-place.ensures.within) in
    let there = get_or_default mid p c.index-disks-place.result None within ∙ c.read_left.ensures.lost p c.place_of-place.ensures.is in
    counts_imaged g.D.Disk c.args.ids.now c.args.lost c.args.disks.now mid p c.write_place.new.place within c.place_of-place.ensures.is _ c.in_ok-read_left.ensures.quiet
    (λ before was. c.in-Ok-write_place.ensures.imaged before (there ∙ was))

pub returns-in-Err-clause-stay : goal.returns-in-Err-clause-stay
returns-in-Err-clause-stay g c =
    let mid = c.read_left.new.disks in
    let p = c.place_of-place.result in
    let within : p < length mid = omega (arith, c.read_left.ensures.stay.count, c.requires.disks, c.place_of-place.ensures.within) in
    left_stay g.D.Disk c.args.ids.now c.args.lost c.args.disks.now mid p c.write_place.new.place within c.place_of-place.ensures.is c.read_left.ensures.stay

pub returns-in-Err-clause-counts : goal.returns-in-Err-clause-counts
returns-in-Err-clause-counts g c =
    let old = c.args.disks.now in
    let mid = c.read_left.new.disks in
    let p = c.place_of-place.result in
    let below = c.place_of-place.ensures.within in
    let within : p < length mid = omega (arith, c.read_left.ensures.stay.count, c.requires.disks, below) in
    let there = get_or_default mid p c.index-disks-place.result None within ∙ c.read_left.ensures.lost p c.place_of-place.ensures.is in
    let before = there_is g.D.Disk (slice_index_or old p None) (c.requires.present p below) in
    let after = there_is g.D.Disk c.write_place.new.place c.write_place.ensures.there in
    counts_lost g.D.Disk c.args.ids.now c.args.lost old mid p c.write_place.new.place within c.place_of-place.ensures.is c.in_ok-read_left.ensures.quiet below before.0 after.0 before.1 after.1
    (c.in-Err.ensures.failed before.0 after.0 (there ∙ before.1) after.1)

pub returns-in-Err-NoLeader-clause-ended : goal.returns-in-Err-NoLeader-clause-ended
returns-in-Err-NoLeader-clause-ended g c = (
  record {
    images = c.read_left.new.images;
    stores = c.read_left.new.stores.items;
    left = c.in_ok-read_left.ensures.left;
    stands = subst (λ l. StandsInWay c.args.ids.now c.args.lost l obstacle.NoLeader) c.deref.ensures.0 (subst (StandsInWay c.args.ids.now c.args.lost c.deref.result.now) c.in-Err-NoLeader.field-0-is c.in-Err-NoLeader.ensures.may_not);
  },
  c.read_left.ensures.lost,
  refl,
)

pub returns-in-Err-Uncommitted-clause-ended : goal.returns-in-Err-Uncommitted-clause-ended
returns-in-Err-Uncommitted-clause-ended g c =
    let place = c.in-Err-Uncommitted.leader in (
      place,
      record {
        images = c.read_left.new.images;
        stores = c.read_left.new.stores.items;
        left = c.in_ok-read_left.ensures.left;
        stands = subst (λ l. StandsInWay c.args.ids.now c.args.lost l (obstacle.Uncommitted place)) c.deref.ensures.0
            (subst (StandsInWay c.args.ids.now c.args.lost c.deref.result.now) c.in-Err-Uncommitted.field-0-is c.in-Err-Uncommitted.ensures.may_not);
      },
      c.read_left.ensures.lost,
      ap (slice_index c.args.ids.now) c.in-Err-Uncommitted.leader-is,
      refl,
    )

pub returns-in-Err-Uncommitted-clause-stay : goal.returns-in-Err-Uncommitted-clause-stay
returns-in-Err-Uncommitted-clause-stay g c = all_left_stay g.D.Disk c.args.ids.now c.args.lost c.args.disks.now c.read_left.new.disks c.read_left.ensures.stay

pub returns-in-Err-Uncommitted-clause-counts : goal.returns-in-Err-Uncommitted-clause-counts
returns-in-Err-Uncommitted-clause-counts g c = counts_none g.D.Disk c.args.ids.now c.args.lost c.args.disks.now c.read_left.new.disks _ (λ id e. cc e) c.in_ok-read_left.ensures.quiet
