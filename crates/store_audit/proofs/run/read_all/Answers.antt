use Rattle.std.proofs.Common.{◌≡◌, ◌<◌, suc, ◌+◌, [], ◌∷◌, length, refl, sym, ap, subst, ◌∙◌, arith}
use Rattle.std.specs.Prelude.{None, Some, slice_index, slice_index_or}
use Rattle.std.proofs.lemmas.List.{get_or_default, length-append}
use Rattle.store_audit.specs.Audits.{AuditEndsAtDamage}
use Rattle.store_audit.specs.Reads.{AreStoresOf}
use Rattle.store_audit.specs.Stores.{AreReadable}
use Rattle.store_audit.proofs.Disks.{all_stay, counts_one, ends_at_damage, names_last, none_read, quiet_all, quiet_more, read_more, readable_more, stay_more, stores_more, there_is}
use Rattle.store_audit.proofs.run.read_all.Goals as goal

pub loop-place-init : goal.loop-place-init
loop-place-init g c = record {
  count = rw c.requires.none refl;
  read = rw c.requires.none (λ k disk below there. absurd (omega (arith, below)));
  readable = rw c.requires.none (λ k below. absurd (omega (arith, below)));
  stay = all_stay g.D.Disk c.args.disks.now;
  quiet = quiet_all g.D.Disk c.args.disks.now;
  order = none_read g.D.Disk c.args.disks.now;
}

pub loop-place-preserved : goal.loop-place-preserved
loop-place-preserved g c =
    let so_far = c.loop-place.invariant in
    let p = c.loop-place.place in
    let old = c.args.disks.now in
    let disks = c.loop-place.disks in
    let stores = c.loop-place.stores.items in
    let new = c.read_place.new.place in
    let within : p < length disks = omega (arith, so_far.stay.count, c.requires.disks) in
    let there = get_or_default disks p c.index-disks-place.result None within ∙ so_far.order.others p (omega arith) in
    record {
      count = omega (arith, ap length c.push.ensures.items, so_far.count, length-append stores (c.in-Ok.store ∷ []));
      read = subst (AreStoresOf g.D.Disk old) (sym c.push.ensures.items)
          (stores_more g.D.Disk old stores c.in-Ok.store so_far.read (λ disk is. c.in-Ok.ensures.read disk (there ∙ subst (λ n. slice_index_or old n None ≡ Some disk) so_far.count is)));
      readable = subst AreReadable (sym c.push.ensures.items) (readable_more stores c.in-Ok.store so_far.readable c.in-Ok.ensures.readable);
      stay = stay_more g.D.Disk old disks p new so_far.stay (omega (arith, within, so_far.stay.count)) (λ before was. c.read_place.ensures.stays before (there ∙ was));
      quiet = quiet_more g.D.Disk old disks p new so_far.quiet within (λ before after was now. c.read_place.ensures.kept before after (λ e. cc (c.in-Ok.is, e)) (there ∙ was) now);
      order = read_more g.D.Disk old disks p (p + 1) new (omega arith) so_far.order within (λ before after was now. c.read_place.ensures.once before after (there ∙ was) now);
    }

pub returns-in-Err-Failed-clause-counts : goal.returns-in-Err-Failed-clause-counts
returns-in-Err-Failed-clause-counts g c =
    let so_far = c.loop-place.invariant in
    let p = c.loop-place.place in
    let old = c.args.disks.now in
    let disks = c.loop-place.disks in
    let below : p < length c.args.ids.now = omega arith in
    let within : p < length disks = omega (arith, so_far.stay.count, c.requires.disks) in
    let there = get_or_default disks p c.index-disks-place.result None within ∙ so_far.order.others p (omega arith) in
    let found = there_is g.D.Disk (slice_index_or old p None) (c.requires.present p below) in
    counts_one g.D.Disk c.args.ids.now old disks p c.read_place.new.place found.0 so_far.quiet below within found.1 (c.read_place.ensures.stays found.0 (there ∙ found.1))
    (λ after now. c.in-Err-Failed.ensures.failed found.0 after c.in-Err-Failed.field-0-is (there ∙ found.1) now)

pub returns-in-Err-Damaged-clause-ended : goal.returns-in-Err-Damaged-clause-ended
returns-in-Err-Damaged-clause-ended g c =
    let so_far = c.loop-place.invariant in
    let p = c.loop-place.place in
    let old = c.args.disks.now in
    let disks = c.loop-place.disks in
    let below : p < length c.args.ids.now = omega arith in
    let within : p < length disks = omega (arith, so_far.stay.count, c.requires.disks) in
    let there = get_or_default disks p c.index-disks-place.result None within ∙ so_far.order.others p (omega arith) in
    let found = there_is g.D.Disk (slice_index_or old p None) (c.requires.present p below) in (
      subst (AuditEndsAtDamage g.D.Disk c.args.ids.now old (slice_index c.args.ids.now p)) (sym c.in-Err-Damaged.key-is)
          (ends_at_damage g.D.Disk c.args.ids.now old c.loop-place.stores.items p found.0 c.in-Err-Damaged.key so_far.read so_far.count below found.1
          (c.in-Err-Damaged.ensures.damaged c.in-Err-Damaged.key found.0 c.in-Err-Damaged.field-0-is (there ∙ found.1))),
      refl,
    )

pub returns-in-Err-Failed-clause-order : goal.returns-in-Err-Failed-clause-order
returns-in-Err-Failed-clause-order g c =
    let so_far = c.loop-place.invariant in
    let p = c.loop-place.place in
    let old = c.args.disks.now in
    let disks = c.loop-place.disks in
    let within : p < length disks = omega (arith, so_far.stay.count, c.requires.disks) in
    let there = get_or_default disks p c.index-disks-place.result None within ∙ so_far.order.others p (omega arith) in (
      suc p,
      names_last g.D.Disk c.args.ids.now old p (omega arith),
      read_more g.D.Disk old disks p (suc p) c.read_place.new.place refl so_far.order within (λ before after was now. c.read_place.ensures.once before after (there ∙ was) now),
    )

pub returns-in-Err-Damaged-clause-order : goal.returns-in-Err-Damaged-clause-order
returns-in-Err-Damaged-clause-order g c =
    let so_far = c.loop-place.invariant in
    let p = c.loop-place.place in
    let old = c.args.disks.now in
    let disks = c.loop-place.disks in
    let within : p < length disks = omega (arith, so_far.stay.count, c.requires.disks) in
    let there = get_or_default disks p c.index-disks-place.result None within ∙ so_far.order.others p (omega arith) in (
      suc p,
      names_last g.D.Disk c.args.ids.now old p (omega arith),
      read_more g.D.Disk old disks p (suc p) c.read_place.new.place refl so_far.order within (λ before after was now. c.read_place.ensures.once before after (there ∙ was) now),
    )
