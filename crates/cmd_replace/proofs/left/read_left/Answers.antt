use Rattle.std.proofs.Common.{◌≡◌, ◌<◌, ◌+◌, [], ◌∷◌, length, sym, ap, subst, ◌∙◌, arith}
use Rattle.std.specs.Prelude.{None, slice_index, slice_index_or}
use Rattle.std.proofs.lemmas.List.{get_or-set_other, get_or_default, length-append, length-set}
use Rattle.store_audit.proofs.Disks.{counts_one, stay_more, there_is}
use Rattle.cmd_replace.specs.Replaced.{AreRead, EndsAtDamage}
use Rattle.cmd_replace.proofs.Reading.{ends_at_damage, lost_more, quiet_still, read_more}
use Rattle.cmd_replace.proofs.left.read_left.Goals as goal

pub loop-place-preserved : goal.loop-place-preserved
loop-place-preserved g c =
    let so_far = c.loop-place.invariant in
    let p = c.loop-place.place in
    let ids = c.args.ids.now in
    let lost = c.args.lost in
    let old = c.args.disks.now in
    let disks = c.loop-place.disks in
    let images = c.loop-place.images in
    let stores = c.loop-place.stores.items in
    let new = c.read_unless.new.place in
    let image = c.read_unless.new.image in
    let within : p < length disks = omega (arith, so_far.stay.count, c.requires.disks) in
    let room : p < length images = omega (arith, so_far.images, c.told-images, c.requires.five) in
    let there = get_or_default disks p c.index-disks-place.result None within ∙ so_far.behind p (omega arith) in
    record {
      count = omega (arith, ap length c.push.ensures.items, so_far.count, length-append stores (c.in-Ok.store ∷ []));
      images = length-set images p image ∙ so_far.images;
      read = subst (AreRead g.D.Disk ids lost old (p + 1) _) (sym c.push.ensures.items)
          (read_more g.D.Disk ids lost old images stores p image c.in-Ok.store so_far.read so_far.count room (λ left disk was. c.in-Ok.ensures.read left disk (there ∙ was)));
      stay = stay_more g.D.Disk old disks p new so_far.stay (omega (arith, within, so_far.stay.count)) (λ before was. c.read_unless.ensures.stays before (there ∙ was));
      lost = lost_more g.D.Disk ids lost old disks p new so_far.lost within (λ is. c.read_unless.ensures.lost is ∙ there);
      quiet = quiet_still g.D.Disk ids lost old disks p new so_far.quiet within (λ before after was now. c.read_unless.ensures.kept before after (λ e. cc (c.in-Ok.is, e)) (there ∙ was) now);
      behind = λ k le. get_or-set_other disks p k new None (λ e. omega (arith, e, le)) ∙ so_far.behind k (omega (arith, le));
    }

pub returns-in-Err-Failed-clause-counts : goal.returns-in-Err-Failed-clause-counts
returns-in-Err-Failed-clause-counts g c =
    let so_far = c.loop-place.invariant in
    let p = c.loop-place.place in
    let old = c.args.disks.now in
    let disks = c.loop-place.disks in
    let below : p < length c.args.ids.now = omega arith in
    let within : p < length disks = omega (arith, so_far.stay.count, c.requires.disks) in
    let there = get_or_default disks p c.index-disks-place.result None within ∙ so_far.behind p (omega arith) in
    let found = there_is g.D.Disk (slice_index_or old p None) (c.requires.present p below) in
    counts_one g.D.Disk c.args.ids.now old disks p c.read_unless.new.place found.0 (record { each = so_far.quiet }) below within found.1 (c.read_unless.ensures.stays found.0 (there ∙ found.1))
    (λ after now. c.in-Err-Failed.ensures.failed found.0 after c.in-Err-Failed.field-0-is (there ∙ found.1) now)

pub returns-in-Err-Damaged-clause-ended : goal.returns-in-Err-Damaged-clause-ended
returns-in-Err-Damaged-clause-ended g c =
    let so_far = c.loop-place.invariant in
    let p = c.loop-place.place in
    let ids = c.args.ids.now in
    let old = c.args.disks.now in
    let disks = c.loop-place.disks in
    let below : p < length ids = omega arith in
    let within : p < length disks = omega (arith, so_far.stay.count, c.requires.disks) in
    let there = get_or_default disks p c.index-disks-place.result None within ∙ so_far.behind p (omega arith) in
    let found = there_is g.D.Disk (slice_index_or old p None) (c.requires.present p below) in
    subst (EndsAtDamage g.D.Disk ids c.args.lost old (slice_index ids p)) (sym c.in-Err-Damaged.key-is)
    (ends_at_damage g.D.Disk ids c.args.lost old c.loop-place.images c.loop-place.stores.items p found.0 c.in-Err-Damaged.key so_far.read below c.in-Err-Damaged.ensures.left found.1
    (c.in-Err-Damaged.ensures.damaged c.in-Err-Damaged.key found.0 c.in-Err-Damaged.field-0-is (there ∙ found.1)))

pub returns-in-Err-Damaged-clause-stay : goal.returns-in-Err-Damaged-clause-stay
returns-in-Err-Damaged-clause-stay g c =
    let so_far = c.loop-place.invariant in
    let p = c.loop-place.place in
    let disks = c.loop-place.disks in
    let within : p < length disks = omega (arith, so_far.stay.count, c.requires.disks) in
    let there = get_or_default disks p c.index-disks-place.result None within ∙ so_far.behind p (omega arith) in
    stay_more g.D.Disk c.args.disks.now disks p c.read_unless.new.place so_far.stay (omega (arith, within, so_far.stay.count)) (λ before was. c.read_unless.ensures.stays before (there ∙ was))

pub returns-clause-left : goal.returns-clause-left
returns-clause-left g c =
    let so_far = c.loop-place.invariant in
    let all : c.loop-place.place ≡ length c.args.ids.now = omega arith in
    record {
      read = subst (λ n. AreRead g.D.Disk c.args.ids.now c.args.lost c.args.disks.now n c.loop-place.images c.loop-place.stores.items) all so_far.read;
      all = so_far.count ∙ all;
    }
