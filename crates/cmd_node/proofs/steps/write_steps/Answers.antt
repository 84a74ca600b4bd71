use Rattle.std.proofs.Common.{◌++◌, ◌∙◌, sym, ap, subst, append_assoc, map, drop}
use Rattle.std.proofs.KnownBytes.{Appends-trans}
use Rattle.cmd_io.specs.Output.{WritesFront}
use Rattle.cmd_io.proofs.Written.{front-on, front-of_more, grows-trans, writes-failed}
use Rattle.cmd_node.specs.Kept.{kept_line}
use Rattle.cmd_node.specs.Report.{joined}
use Rattle.cmd_node.proofs.Kept.{next_front}
use Rattle.cmd_node.proofs.steps.write_steps.Goals as goal

pub steps-preserved : goal.steps-preserved
steps-preserved g c =
    let so_far = c.steps.invariant in
    let far = so_far.told in
    let line = c.deref.result.now in
    let text = c.deref.ensures.0 ∙ c.write_told.ensures.line in
    let first = sym c.in-Some.ensures.value in
    record {
      kept = c.in_ok-line.ensures.faults.kept ∙ so_far.kept;
      grew = grows-trans _ _ _ so_far.grew c.in_ok-line.ensures.told.grew;
      told = (
        far.0 ++ line,
        next_front c.args.ring.items c.steps.ring.items c.in-Some.step far.0 line far.1 first text
            ∙ ap (λ ring. (far.0 ++ line) ++ joined (map kept_line ring.items)) (sym c.in-Some.ensures.items),
        Appends-trans _ _ _ far.0 line far.2 c.in_ok-line.ensures.told.ok,
      );
    }

pub returns-in_err-line-clause-told : goal.returns-in_err-line-clause-told
returns-in_err-line-clause-told g c =
    let so_far = c.steps.invariant in
    let far = so_far.told in
    let line = c.deref.result.now in
    let text = c.deref.ensures.0 ∙ c.write_told.ensures.line in
    let first = sym c.in-Some.ensures.value in
    let written = g.K.Sink.written in
    let waited = c.args.output.now in
    let rest = joined (map kept_line (drop 1 c.steps.ring.items)) in
    let all = next_front c.args.ring.items c.steps.ring.items c.in-Some.step far.0 line far.1 first text in
    writes-failed (written c.args.sink.now) (written c.line.new.sink) waited c.line.new.self (joined (map kept_line c.args.ring.items)) c.from_residual.result c.from_residual.ensures.0
    (subst (WritesFront (written c.args.sink.now) (written c.line.new.sink)) (append_assoc waited (far.0 ++ line) rest ∙ ap (λ l. waited ++ l) (sym all))
    (front-of_more (written c.args.sink.now) (written c.line.new.sink) (waited ++ (far.0 ++ line)) rest
    (front-on (written c.args.sink.now) (written c.steps.sink) (written c.line.new.sink) waited c.steps.output far.0 line so_far.grew far.2 c.in_err-line.ensures.told.err)))

pub returns-in_err-line-clause-grew : goal.returns-in_err-line-clause-grew
returns-in_err-line-clause-grew g c = grows-trans _ _ _ c.steps.invariant.grew c.in_err-line.ensures.told.grew
