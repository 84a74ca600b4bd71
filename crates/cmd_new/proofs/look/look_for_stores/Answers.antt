use Rattle.std.proofs.Common.{◌<◌, length, refl, subst, ◌∙◌, arith}
use Rattle.std.specs.Prelude.{None}
use Rattle.std.proofs.lemmas.List.{get_or-set_other, get_or_default}
use Rattle.cmd_new.specs.Found.{IsFoundOn}
use Rattle.cmd_new.proofs.Looking.{all_kept, kept_more, new_more, past, refused_disk, stores_more, used_more}
use Rattle.cmd_new.proofs.look.look_for_stores.Goals as goal

pub loop-place-init : goal.loop-place-init
loop-place-init g c = record {
  stores = λ k below. absurd (omega (arith, below));
  all_new = λ e k below. absurd (omega (arith, below));
  one_used = λ e. absurd (cc e);
  kept = all_kept g.D.Disk c.args.disks.now;
  behind = λ k le. refl;
}

pub loop-place-preserved : goal.loop-place-preserved
loop-place-preserved g c =
    let so_far = c.loop-place.invariant in
    let p = c.loop-place.place in
    let old = c.args.disks.now in
    let disks = c.loop-place.disks in
    let new = c.look_at.new.place in
    let found = c.in-Ok.found in
    let within : p < length disks = omega arith in
    let there = get_or_default disks p c.index-disks-place.result None within ∙ so_far.behind p (omega arith) in
    record {
      stores = stores_more g.D.Disk old p found (λ before was. c.in-Ok.ensures.found before (there ∙ was)) c.in-Some.ensures.some so_far.stores;
      all_new = λ e. new_more g.D.Disk old p found (λ before was. c.in-Ok.ensures.found before (there ∙ was)) c.in-Some.ensures.some (c.in-Some.ensures.no e).1 (so_far.all_new (c.in-Some.ensures.no e).0);
      one_used = λ e. used_more g.D.Disk old p found (λ before was. c.in-Ok.ensures.found before (there ∙ was)) c.in-Some.ensures.some c.loop-place.used (c.in-Some.ensures.yes e) so_far.one_used;
      kept = kept_more g.D.Disk old disks p new so_far.kept (omega (arith, within, so_far.kept.count)) (λ before was. c.look_at.ensures.kept before (there ∙ was));
      behind = λ k le. get_or-set_other disks p k new None (λ e. omega (arith, e, le)) ∙ so_far.behind k (omega (arith, le));
    }

pub returns-in-None-clause-refused : goal.returns-in-None-clause-refused
returns-in-None-clause-refused g c =
    let so_far = c.loop-place.invariant in
    let p = c.loop-place.place in
    let disks = c.loop-place.disks in
    let within : p < length disks = omega arith in
    let there = get_or_default disks p c.index-disks-place.result None within ∙ so_far.behind p (omega arith) in (
      record { place = p; within = omega arith; is = refl; before = so_far.stores },
      refl,
      λ before was. subst (λ found. IsFoundOn g.D.Disk before found) (c.used_with.ensures.none (cc c.in-None.is)) (c.in-Ok.ensures.found before (there ∙ was)),
    )

pub returns-in-Err-clause-refused : goal.returns-in-Err-clause-refused
returns-in-Err-clause-refused g c =
    let so_far = c.loop-place.invariant in
    let p = c.loop-place.place in
    let disks = c.loop-place.disks in
    let within : p < length disks = omega arith in
    let there = get_or_default disks p c.index-disks-place.result None within ∙ so_far.behind p (omega arith) in (
      record { place = p; within = omega arith; is = refl; before = so_far.stores },
      refused_disk g.D.Disk c.args.disks.now disks p c.look_at.new.place within (λ before after was now. c.in-Err.ensures.failed before after (there ∙ was) now),
    )

pub returns-clause-stores : goal.returns-clause-stores
returns-clause-stores g c =
    let so_far = c.loop-place.invariant in
    past g.D.Disk c.args.ids.now c.args.disks.now c.loop-place.used c.loop-place.place (λ k low le. omega (arith, low, le, so_far.kept.count)) so_far.stores so_far.all_new so_far.one_used (omega arith)
