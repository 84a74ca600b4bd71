use Rattle.std.proofs.Common.{◌<◌, length, refl, sym, ◌∙◌, arith, rules}
use Rattle.std.specs.Prelude.{None}
use Rattle.std.proofs.lemmas.List.{get_or-set_other, get_or_default}
use Rattle.store_audit.proofs.Disks.{all_stay, stay_more}
use Rattle.listed_entry.proofs.Passing.{least, passed_more, past}
use Rattle.listed_entry.proofs.find.find_listed.Goals as goal

pub loop-place-init : goal.loop-place-init
loop-place-init g c = record {
  passed = λ k before after below. absurd (omega (arith, below));
  behind = λ k le. refl;
  stay = all_stay g.D.Disk c.args.stores.now;
}

pub loop-place-preserved : goal.loop-place-preserved
loop-place-preserved g c =
    let so_far = c.loop-place.invariant in
    let p = c.loop-place.place in
    let old = c.args.stores.now in
    let stores = c.loop-place.stores in
    let new = c.listed_on.new.place in
    let within : p < length stores = omega arith in
    let there = get_or_default stores p c.index-stores-place.result None within ∙ so_far.behind p (omega arith) in
    record {
      passed = passed_more g.D.Disk c.args.list.now old stores p new so_far.passed within (λ before after was now. c.listed_on.ensures.none (search rules) before after (there ∙ was) now);
      behind = λ k le. get_or-set_other stores p k new None (λ e. omega (arith, e, le)) ∙ so_far.behind k (omega (arith, le));
      stay = stay_more g.D.Disk old stores p new so_far.stay (omega (arith, within, so_far.stay.count)) (λ before was. c.listed_on.ensures.stays before (there ∙ was));
    }

pub returns-in-Some-clause-found : goal.returns-in-Some-clause-found
returns-in-Some-clause-found g c =
    let so_far = c.loop-place.invariant in
    let p = c.loop-place.place in
    let stores = c.loop-place.stores in
    let within : p < length stores = omega arith in
    let there = get_or_default stores p c.index-stores-place.result None within ∙ so_far.behind p (omega arith) in
    let new = c.listed_on.new.place in
    let found = c.in-Some.ensures.found in
    record {
      place = p;
      within = omega arith;
      is = refl;
      disk = found.0;
      there = sym there ∙ found.1;
      listed = found.2;
      earlier = λ k before after below was now. so_far.passed k before after below was
          (sym (get_or-set_other stores p k new None (λ e. omega (arith, e, below))) ∙ now);
    }

pub returns-in-Some-clause-stay : goal.returns-in-Some-clause-stay
returns-in-Some-clause-stay g c =
    let so_far = c.loop-place.invariant in
    let p = c.loop-place.place in
    let stores = c.loop-place.stores in
    let within : p < length stores = omega arith in
    let there = get_or_default stores p c.index-stores-place.result None within ∙ so_far.behind p (omega arith) in
    stay_more g.D.Disk c.args.stores.now stores p c.listed_on.new.place so_far.stay (omega (arith, within, so_far.stay.count)) (λ before was. c.listed_on.ensures.stays before (there ∙ was))

pub returns-clause-none : goal.returns-clause-none
returns-clause-none g c none =
    let so_far = c.loop-place.invariant in
    past g.D.Disk c.args.list.now c.args.stores.now c.loop-place.stores c.loop-place.place (length c.args.ids.now) so_far.passed
    (least (length c.args.ids.now) (length c.args.stores.now) c.loop-place.place (omega arith))
