use Rattle.std.proofs.Common.{◌<◌, length, refl, ◌∙◌, arith}
use Rattle.std.specs.Prelude.{None}
use Rattle.std.proofs.lemmas.List.{get_or-set_other, get_or_default, length-set}
use Rattle.cmd_new.proofs.Disks.{fails_at, made_more}
use Rattle.cmd_new.proofs.make.make_all.Goals as goal

pub loop-place-init : goal.loop-place-init
loop-place-init g c = record {
  count = refl;
  made = λ k below. absurd (omega (arith, below));
  behind = λ k le. refl;
}

pub loop-place-preserved : goal.loop-place-preserved
loop-place-preserved g c =
    let so_far = c.loop-place.invariant in
    let p = c.loop-place.place in
    let old = c.args.disks.now in
    let disks = c.loop-place.disks in
    let new = c.make_place.new.place in
    let within : p < length disks = omega (arith, so_far.count) in
    let there = get_or_default disks p c.index-disks-place.result None within ∙ so_far.behind p (omega arith) in
    record {
      count = length-set disks p new ∙ so_far.count;
      made = made_more g.D.Disk c.args.term c.args.ids.now old disks p new so_far.count (omega (arith, within, so_far.count)) so_far.made (λ before was. c.in-Ok.ensures.made before (there ∙ was));
      behind = λ k le. get_or-set_other disks p k new None (λ e. omega (arith, e, le)) ∙ so_far.behind k (omega (arith, le));
    }

pub returns-in-Err-clause-failed : goal.returns-in-Err-clause-failed
returns-in-Err-clause-failed g c =
    let so_far = c.loop-place.invariant in
    let p = c.loop-place.place in
    let old = c.args.disks.now in
    let disks = c.loop-place.disks in
    let within : p < length disks = omega (arith, so_far.count) in
    let there = get_or_default disks p c.index-disks-place.result None within ∙ so_far.behind p (omega arith) in
    fails_at g.D.Disk c.args.term c.args.ids.now old disks p c.make_place.new.place so_far.count (omega (arith, within, so_far.count)) so_far.made c.make_place.ensures.there
    (λ before after was now. c.in-Err.ensures.failed before after (there ∙ was) now) (λ k above. so_far.behind k (omega (arith, above)))
