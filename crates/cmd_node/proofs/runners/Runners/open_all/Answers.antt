use Rattle.std.proofs.Common.{◌≡◌, suc, ◌+◌, ◌<◌, ◌∷◌, [], length, length-append, length-set, ap, sym, ◌∙◌, subst, arith}
use Rattle.std.proofs.lemmas.List.{get_or-set_other, get_or-set_same, get_or_read}
use Rattle.std.specs.Prelude.{Option, Some, None, IsSome, slice_index, slice_index_or, slice_set}
use Rattle.outside.specs.Readings.{next_reading}
use Rattle.alloc_spec.specs.Rules.{rules_by}
use Rattle.cmd_node.specs.Opening.{readings_after}
use Rattle.cmd_node.specs.Runners.{runners_of}
use Rattle.cmd_node.specs.Stands.{AreOpened, AreOpenedAt, IsOpened, IsOpenedAt}
use Rattle.cmd_node.specs.Taking.{IsRefused, WasRefused}
use Rattle.cmd_node.proofs.Lists.{all_pushed, in_at}
use Rattle.cmd_node.proofs.Turning.{reads}
use Rattle.cmd_node.proofs.runners.Runners.open_all.Goals as goal

pub open_next-requires-clause-least : goal.open_next-requires-clause-least
open_next-requires-clause-least g c = (c.requires.members.nodes _ (in_at c.args.ids.now c.loop-place.place c.loop-place-test.true)).0

pub open_next-requires-clause-most : goal.open_next-requires-clause-most
open_next-requires-clause-most g c = (c.requires.members.nodes _ (in_at c.args.ids.now c.loop-place.place c.loop-place-test.true)).1

pub returns-in-Err-clause-refused : goal.returns-in-Err-clause-refused
returns-in-Err-clause-refused g c = λ fault is.
    let so_far = c.loop-place.invariant in
    let place = c.loop-place.place in
    let disks = c.loop-place.disks in
    let low = c.loop-place-test.true in
    let size = so_far.places in
    let each = c.requires.each in
    let here : place < length disks = omega (arith, low, size, each) in
    let count : length (runners_of c.open_next.new.self) ≡ place = ap length c.in-Err.ensures.stays ∙ so_far.count in
    let some = c.index-disks-place.result in
    let old : slice_index_or disks place some ≡ slice_index_or c.args.disks.now place None =
    sym c.index-disks-place.is ∙ get_or_read disks place some here c.index-disks-place.is None ∙ so_far.behind place (omega arith) in
    let new : c.open_next.new.place ≡ slice_index_or (slice_set disks place c.open_next.new.place) place None =
    sym (get_or-set_same disks place c.open_next.new.place None here) in
    let why = c.in-Err.ensures.refused fault is in
    subst (λ n. WasRefused g.D.Disk c.args.ids.now c.args.disks.now (slice_set disks place c.open_next.new.place) n fault) (sym count)
    (record {
      within = low;
      refused = subst (λ b. IsRefused g.D.Disk b (slice_index_or (slice_set disks place c.open_next.new.place) place None) (slice_index c.args.ids.now place) fault) old
          (subst (λ a. IsRefused g.D.Disk (slice_index_or disks place some) a (slice_index c.args.ids.now place) fault) new why);
      there = subst (λ (o : Option g.row.D.Denot). IsSome o) new c.in-Err.ensures.put_back;
    })

pub loop-place-preserved : goal.loop-place-preserved
loop-place-preserved g c =
    let so_far = c.loop-place.invariant in
    let place = c.loop-place.place in
    let disks = c.loop-place.disks in
    let low = c.loop-place-test.true in
    let size = so_far.places in
    let each = c.requires.each in
    let before = runners_of c.loop-place.self in
    let done = c.in-Ok.ensures.opened in
    let here : place < length disks = omega (arith, low, size, each) in
    let some = c.index-disks-place.result in
    let old : slice_index_or disks place some ≡ slice_index_or c.args.disks.now place None =
    sym c.index-disks-place.is ∙ get_or_read disks place some here c.index-disks-place.is None ∙ so_far.behind place (omega arith) in
    record {
      count = let more = length-append before (done.0 ∷ []) in let all = ap length done.1 in let count = so_far.count in omega (arith, more, all, count);
      accepts = c.open_next.ensures.accepts ∙ so_far.accepts;
      opened = subst (λ l. AreOpened l c.args.disks.now c.args.ids.now) (sym done.1)
          (all_pushed (λ j r. IsOpened r (slice_index_or c.args.disks.now j None) (slice_index c.args.ids.now j)) before done.0 so_far.opened
          (subst (λ n. IsOpened done.0 (slice_index_or c.args.disks.now n None) (slice_index c.args.ids.now n)) (sym so_far.count)
          (subst (λ b. IsOpened done.0 b (slice_index c.args.ids.now place)) old done.2)));
      places = length-set disks place c.open_next.new.place ∙ so_far.places;
      behind = λ i high. get_or-set_other disks place i c.open_next.new.place None (omega (arith, high)) ∙ so_far.behind i (omega (arith, high));
      moments = λ readings told.
          let rules = rules_by c.args.size c.args.told.now in
          let far = so_far.moments readings told in
          let read = reads c.now-now.result (g.C.Clock.readings c.loop-place.clock) (g.C.Clock.readings c.now-now.new.self) (readings_after place readings) c.now-now.ensures far.0 in
          let next : suc place ≡ place + 1 = omega arith in (
            read.1 ∙ ap (λ n. Some (readings_after n readings)) next,
            subst (λ l. AreOpenedAt rules l readings) (sym done.1)
                (all_pushed (λ j r. IsOpenedAt rules r (next_reading (readings_after j readings))) before done.0 far.1
                (subst (λ n. IsOpenedAt rules done.0 (next_reading (readings_after n readings))) (sym so_far.count)
                (subst (λ m. IsOpenedAt rules done.0 m) read.0 done.3))),
          );
    }

pub returns-clause-moments : goal.returns-clause-moments
returns-clause-moments g c = λ readings told.
    let far = c.loop-place.invariant.moments readings told in
    let high = c.loop-place-test.false in
    let end = c.loop-place.auto.place-end in
    let all : c.loop-place.place ≡ length c.args.ids.now = omega (arith, high, end) in (
      far.0 ∙ ap (λ n. Some (readings_after n readings)) all,
      far.1,
    )

pub returns-in-Err-clause-clock : goal.returns-in-Err-clause-clock
returns-in-Err-clause-clock g c = λ readings told.
    let so_far = c.loop-place.invariant in
    let place = c.loop-place.place in
    let count : length (runners_of c.open_next.new.self) ≡ place = ap length c.in-Err.ensures.stays ∙ so_far.count in
    let read = reads c.now-now.result (g.C.Clock.readings c.loop-place.clock) (g.C.Clock.readings c.now-now.new.self) (readings_after place readings) c.now-now.ensures
    (so_far.moments readings told).0 in
    subst (λ n. g.C.Clock.readings c.now-now.new.self ≡ Some (readings_after (suc n) readings)) (sym count) read.1
