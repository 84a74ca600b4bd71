use Rattle.std.proofs.Common.{◌-◌, ◌++◌, ◌∙◌, subst, arith}
use Rattle.std.specs.Io.KnownBytes.{Appends, append_known}
use Rattle.std.proofs.KnownBytes.{Appends-trans}
use Rattle.std.proofs.lemmas.Bool.Decides.{nat_tests}
use Rattle.allocator_app.specs.WorldReport.{all_logs, log_lines, member_lines}
use Rattle.cmd_io.specs.Output.{WritesFront}
use Rattle.allocator_app.proofs.Entries.{all_logs-are, all_logs-front, log_lines-more}
use Rattle.cmd_io.proofs.Written.{front-on, front-of_more, grows-trans, writes-failed, writes-so_far}
use Rattle.allocator_app.proofs.report.write_logs.Goals as goal

pub ids-preserved : goal.ids-preserved
ids-preserved g c =
    let so_far = c.ids.invariant in
    let id = c.ids.id in
    let low = c.ids-test.true in
    let least = so_far.least in
    record {
      least = omega arith;
      most = grind (arith, nat_tests, low);
      kept = c.in_ok-write_log.ensures.faults.kept ∙ so_far.kept;
      grew = grows-trans _ _ _ so_far.grew c.in_ok-write_log.ensures.grew;
      told = λ w is.
          subst (λ lines. Appends (append_known (g.K.Sink.written c.args.sink.now) c.args.output.now) (append_known (g.K.Sink.written c.write_log.new.sink) c.write_log.new.output) lines)
          (log_lines-more w id least)
          (Appends-trans _ _ _ (log_lines w 1 (id - 1)) (member_lines w id) (so_far.told w is) (c.in_ok-write_log.ensures.told w is).ok);
    }

pub returns-in_err-write_log-clause-told : goal.returns-in_err-write_log-clause-told
returns-in_err-write_log-clause-told g c = λ w is.
    let so_far = c.ids.invariant in
    let id = c.ids.id in
    let low = c.ids-test.true in
    let least = so_far.least in
    let written = g.K.Sink.written in
    let waited = c.args.output.now in
    let lines = log_lines w 1 (id - 1) in
    let more = all_logs-front w id waited least (grind (arith, nat_tests, low)) in
    writes-failed (written c.args.sink.now) (written c.write_log.new.sink) waited c.write_log.new.output (all_logs w) c.from_residual.result c.from_residual.ensures.0
    (subst (WritesFront (written c.args.sink.now) (written c.write_log.new.sink)) more.1
    (front-of_more (written c.args.sink.now) (written c.write_log.new.sink) (waited ++ (lines ++ member_lines w id)) more.0
    (front-on (written c.args.sink.now) (written c.ids.sink) (written c.write_log.new.sink) waited c.ids.output lines (member_lines w id) so_far.grew (so_far.told w is)
    (c.in_err-write_log.ensures.told w is).err)))

pub returns-clause-told : goal.returns-clause-told
returns-clause-told g c = λ w is.
    let so_far = c.ids.invariant in
    let high = c.ids-test.false in
    let most = so_far.most in
    writes-so_far _ _ _ _ _ _ (all_logs-are w c.ids.id (grind (arith, nat_tests, high, most))) so_far.grew (so_far.told w is)

pub returns-in_err-write_log-clause-grew : goal.returns-in_err-write_log-clause-grew
returns-in_err-write_log-clause-grew g c = grows-trans _ _ _ c.ids.invariant.grew c.in_err-write_log.ensures.grew

pub returns-clause-grew : goal.returns-clause-grew
returns-clause-grew g c = c.ids.invariant.grew
