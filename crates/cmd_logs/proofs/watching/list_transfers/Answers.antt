use Rattle.std.proofs.Common.{◌++◌, ◌∷◌, [], refl, sym, ◌∙◌, subst, ◌+◌, arith}
use Rattle.cmd_logs.specs.Watched.{end_line, line_heard, listed, unwatched, watched}
use Rattle.cmd_logs.specs.Watching.{HasWatch, watch_behind}
use Rattle.cmd_logs.proofs.Listing.{watch_behind-last, watched-more}
use Rattle.cmd_logs.proofs.Walking.{fails, fails_behind_of, has_next_of, so_far-broken, so_far-ends, so_far-first, so_far-more}
use Rattle.cmd_logs.proofs.watching.list_transfers.Goals as goal

pub lines-init : goal.lines-init
lines-init g c = record {
  form = refl;
  limit = refl;
  within = let first = c.requires.first in omega arith;
  accept = refl;
  source_kept = refl;
  sink_kept = refl;
  came = λ ids bytes has known. (
    [],
    has,
    so_far-first (watched ids) end_line c.args.log.now.form c.args.log.now.limit bytes _ _ _ _ _ refl known c.requires.empty c.requires.flushed c.requires.first,
  );
}

pub lines-smaller : goal.lines-smaller
lines-smaller g c =
    let same = c.lines.invariant.limit in
    let has = rw c.in-Ok-Line.field-0-is at c.in-Ok-Line.ensures.next in
    let may = has.counted.0 in
    let counted = has.counted.1 in
    omega arith

pub lines-preserved : goal.lines-preserved
lines-preserved g c =
    let so_far = c.lines.invariant in
    let has = has_next_of _ _ _ _ _ _ _ _ _ _ _ _ _ _ _ so_far.form so_far.limit (rw c.in-Ok-Line.field-0-is at c.in-Ok-Line.ensures.next) in
    record {
      form = c.next.ensures.form ∙ so_far.form;
      limit = c.next.ensures.limit ∙ so_far.limit;
      within = let most = c.next.ensures.taken in let same = c.next.ensures.limit in let first = so_far.limit in omega arith;
      accept = c.in-Ok.ensures.accept ∙ so_far.accept;
      source_kept = c.in-Ok-Line.ensures.source_kept ∙ so_far.source_kept;
      sink_kept = c.in-Ok.ensures.faults.kept ∙ (c.in-Ok-Line.ensures.sink_kept ∙ so_far.sink_kept);
      came = λ ids bytes first known.
          let far = so_far.came ids bytes first known in
          let said = c.in-Ok-Line.line in
          let watch = watch_behind ids unwatched far.0 in
          let counted = has.counted.1 in
          let lines = far.2.counted in
          let told = c.in-Ok.ensures.told ids watch far.1 in (
            far.0 ++ said ∷ [],
            subst (HasWatch _ ids) (sym (watch_behind-last ids unwatched far.0 said)) (c.in-Ok.ensures.watch ids watch far.1),
            so_far-more (watched ids) end_line c.args.log.now.form c.args.log.now.limit bytes _ far.0 _ _ _ _ _ far.2 _ _ _ _ _ said has
                (listed c.next.new.self.taken (line_heard ids watch said).gives)
                (watched-more ids far.0 said c.next.new.self.taken (omega (arith, counted, lines))) _ _ told.ok told.grew,
          );
    }

-- the lines end

pub returns-in-Ok-End-clause-ends : goal.returns-in-Ok-End-clause-ends
returns-in-Ok-End-clause-ends g c = λ ids bytes first known.
    let so_far = c.lines.invariant in
    let has = has_next_of _ _ _ _ _ _ _ _ _ _ _ _ _ _ _ so_far.form so_far.limit (rw c.in-Ok-End.field-0-is at c.in-Ok-End.ensures.next) in
    let far = so_far.came ids bytes first known in
    so_far-ends (watched ids) end_line c.args.log.now.form c.args.log.now.limit bytes _ far.0 _ _ _ _ _ far.2 _ _ _ _ _ c.in-Ok-End.end has

-- an object of the outside fails

pub returns-in-Err-clause-fails : goal.returns-in-Err-clause-fails
returns-in-Err-clause-fails g c = λ ids bytes first known.
    let so_far = c.lines.invariant in
    let far = so_far.came ids bytes first known in
    fails (watched ids) end_line c.args.log.now.form c.args.log.now.limit bytes _ far.0 _ _ _ _ _ far.2 _ _ _ c.in-Err.fault c.in-Err.is
    (λ e. fails_behind_of _ _ _ _ _ _ _ _ so_far.form so_far.limit (c.next.ensures.read e)) c.next.ensures.flushed c.next.ensures.left c.next.ensures.write

pub returns-in-Err-hear-clause-fails : goal.returns-in-Err-hear-clause-fails
returns-in-Err-hear-clause-fails g c = λ ids bytes first known.
    let so_far = c.lines.invariant in
    let has = has_next_of _ _ _ _ _ _ _ _ _ _ _ _ _ _ _ so_far.form so_far.limit (rw c.in-Ok-Line.field-0-is at c.in-Ok-Line.ensures.next) in
    let far = so_far.came ids bytes first known in
    let said = c.in-Ok-Line.line in
    let watch = watch_behind ids unwatched far.0 in
    let counted = has.counted.1 in
    let lines = far.2.counted in
    so_far-broken (watched ids) end_line c.args.log.now.form c.args.log.now.limit bytes _ far.0 _ _ _ _ _ far.2 _ _ _ _ _ said has
    (listed c.next.new.self.taken (line_heard ids watch said).gives)
    (watched-more ids far.0 said c.next.new.self.taken (omega (arith, counted, lines))) _ (c.in-Err-hear.ensures.told ids watch far.1).err
