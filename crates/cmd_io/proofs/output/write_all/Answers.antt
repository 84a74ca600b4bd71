use Rattle.std.proofs.Common.{◌++◌, arith, sym, ap, ◌∙◌}
use Rattle.cmd_io.proofs.Written.{more_written}
use Rattle.cmd_io.proofs.output.write_all.Goals as goal

pub loop-rest-preserved : goal.loop-rest-preserved
loop-rest-preserved g c =
    let before = c.loop-rest.invariant in
    let more = more_written _ _ _ _ before.front.0 c.loop-rest.rest.now c.in-Ok.count before.front.1 before.front.2 c.in-Ok.ensures.bytes in
    record {
      kept = c.in-Ok.ensures.kept (omega arith) ∙ before.kept;
      front = (more.0, more.1 ∙ ap (λ rest. more.0 ++ rest) (sym c.split_at.ensures.back), more.2);
    }
