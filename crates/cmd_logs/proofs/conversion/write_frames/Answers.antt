use Rattle.std.proofs.Common.{◌++◌, ◌∷◌, [], refl, sym, ◌∙◌, arith}
use Rattle.cmd_logs.specs.declared.log.Fault.TheVariants.{Source, Sink}
use Rattle.cmd_logs.specs.Converted.{converted, converted_line, no_end}
use Rattle.cmd_logs.specs.Walking.{Fails}
use Rattle.cmd_logs.proofs.Converted.{converted-more}
use Rattle.cmd_logs.proofs.Walking.{fails, fails_behind_of, has_next_of, so_far-broken, so_far-ends, so_far-first, so_far-more}
use Rattle.cmd_logs.proofs.conversion.write_frames.Goals as goal

pub lines-init : goal.lines-init
lines-init g c = record {
  form = refl;
  limit = refl;
  within = let first = c.requires.first in omega arith;
  source_kept = refl;
  sink_kept = refl;
  came = λ bytes known. (
    [],
    so_far-first (converted c.args.to) no_end c.args.log.now.form c.args.log.now.limit bytes _ _ _ _ _ refl known c.requires.empty c.requires.flushed c.requires.first,
  );
}

pub write_line-requires : goal.write_line-requires
write_line-requires g c = rw c.in-Ok-Line.field-0-is at c.in-Ok-Line.ensures.writable

pub lines-smaller : goal.lines-smaller
lines-smaller g c =
    let same = c.lines.invariant.limit in
    let has = rw c.in-Ok-Line.field-0-is at c.in-Ok-Line.ensures.next in
    let may = has.counted.0 in
    let counted = has.counted.1 in
    omega arith

pub lines-preserved : goal.lines-preserved
lines-preserved g c =
    let so_far = c.lines.invariant in
    let has = has_next_of _ _ _ _ _ _ _ _ _ _ _ _ _ _ _ so_far.form so_far.limit (rw c.in-Ok-Line.field-0-is at c.in-Ok-Line.ensures.next) in
    record {
      form = c.next.ensures.form ∙ so_far.form;
      limit = c.next.ensures.limit ∙ so_far.limit;
      within = let most = c.next.ensures.taken in let same = c.next.ensures.limit in let first = so_far.limit in omega arith;
      source_kept = c.in-Ok-Line.ensures.source_kept ∙ so_far.source_kept;
      sink_kept = c.in-Ok.ensures.faults.kept ∙ (c.in-Ok-Line.ensures.sink_kept ∙ so_far.sink_kept);
      came = λ bytes known.
          let far = so_far.came bytes known in (
            far.0 ++ c.in-Ok-Line.line ∷ [],
            so_far-more (converted c.args.to) no_end c.args.log.now.form c.args.log.now.limit bytes _ far.0 _ _ _ _ _ far.1 _ _ _ _ _ c.in-Ok-Line.line has
                (converted_line c.args.to c.in-Ok-Line.line) (converted-more c.args.to far.0 c.in-Ok-Line.line) _ _ c.in-Ok.ensures.told.ok c.in-Ok.ensures.told.grew,
          );
    }

-- the lines end

pub returns-in-Ok-End-clause-ends : goal.returns-in-Ok-End-clause-ends
returns-in-Ok-End-clause-ends g c = λ bytes known.
    let so_far = c.lines.invariant in
    let has = has_next_of _ _ _ _ _ _ _ _ _ _ _ _ _ _ _ so_far.form so_far.limit (rw c.in-Ok-End.field-0-is at c.in-Ok-End.ensures.next) in
    let far = so_far.came bytes known in
    so_far-ends (converted c.args.to) no_end c.args.log.now.form c.args.log.now.limit bytes _ far.0 _ _ _ _ _ far.1 _ _ _ _ _ c.in-Ok-End.end has

-- an object of the outside fails

pub returns-in-Err-clause-fails : goal.returns-in-Err-clause-fails
returns-in-Err-clause-fails g c = λ bytes known.
    let so_far = c.lines.invariant in
    let far = so_far.came bytes known in
    fails (converted c.args.to) no_end c.args.log.now.form c.args.log.now.limit bytes _ far.0 _ _ _ _ _ far.1 _ _ _ c.in-Err.fault c.in-Err.is
    (λ e. fails_behind_of _ _ _ _ _ _ _ _ so_far.form so_far.limit (c.next.ensures.read e)) c.next.ensures.flushed c.next.ensures.left c.next.ensures.write

pub returns-in-Err-write_line-clause-fails : goal.returns-in-Err-write_line-clause-fails
returns-in-Err-write_line-clause-fails g c = λ bytes known.
    let so_far = c.lines.invariant in
    let has = has_next_of _ _ _ _ _ _ _ _ _ _ _ _ _ _ _ so_far.form so_far.limit (rw c.in-Ok-Line.field-0-is at c.in-Ok-Line.ensures.next) in
    let far = so_far.came bytes known in
    so_far-broken (converted c.args.to) no_end c.args.log.now.form c.args.log.now.limit bytes _ far.0 _ _ _ _ _ far.1 _ _ _ _ _ c.in-Ok-Line.line has
    (converted_line c.args.to c.in-Ok-Line.line) (converted-more c.args.to far.0 c.in-Ok-Line.line) _ c.in-Err-write_line.ensures.told.err
