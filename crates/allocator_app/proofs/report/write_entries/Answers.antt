use Rattle.std.proofs.Common.{◌+◌, ◌++◌, ◌∙◌, sym, ap, subst, arith, take}
use Rattle.std.specs.Io.KnownBytes.{Appends, append_known}
use Rattle.std.proofs.KnownBytes.{Appends-trans}
use Rattle.std.proofs.lemmas.Bool.Decides.{nat_tests}
use Rattle.allocator_app.specs.WorldReport.{entry_line, entry_lines}
use Rattle.cmd_io.specs.Output.{WritesFront}
use Rattle.allocator_app.proofs.Entries.{all_taken, entry_lines-front, entry_lines-next, is_last, is_there}
use Rattle.cmd_io.proofs.Written.{front-on, front-of_more, grows-trans, writes-failed, writes-so_far}
use Rattle.allocator_app.proofs.report.write_entries.Goals as goal

pub entries-preserved : goal.entries-preserved
entries-preserved g c =
    let so_far = c.entries.invariant in
    let place = c.entries.written in
    let low = c.entries-test.true in
    record {
      within = grind (arith, nat_tests, low);
      kept = c.in_ok-line.ensures.faults.kept ∙ so_far.kept;
      grew = grows-trans _ _ _ so_far.grew c.in_ok-line.ensures.told.grew;
      told = λ w is log has.
          let far = so_far.told w is log has in
          let there = is_there log place c.in-Some.entry (c.in-Some.ensures w is ∙ has (place + 1)) in
          let line = c.as_bytes.ensures.bytes ∙ c.entry_line-line.ensures.text ∙ ap (entry_line (place + 1)) there.1 in (
            let low = there.0 in omega (arith, low),
            subst (λ lines. Appends (append_known (g.K.Sink.written c.args.sink.now) c.args.output.now) (append_known (g.K.Sink.written c.line.new.sink) c.line.new.self) lines)
                (entry_lines-next place log c.as_bytes.result.now there.0 line)
                (Appends-trans _ _ _ (entry_lines 1 (take place log)) c.as_bytes.result.now far.1 c.in_ok-line.ensures.told.ok),
          );
    }

pub returns-in_err-line-clause-told : goal.returns-in_err-line-clause-told
returns-in_err-line-clause-told g c = λ w is log has.
    let so_far = c.entries.invariant in
    let place = c.entries.written in
    let low = c.entries-test.true in
    let far = so_far.told w is log has in
    let there = is_there log place c.in-Some.entry (c.in-Some.ensures w is ∙ has (place + 1)) in
    let line = c.as_bytes.ensures.bytes ∙ c.entry_line-line.ensures.text ∙ ap (entry_line (place + 1)) there.1 in
    let written = g.K.Sink.written in
    let waited = c.args.output.now in
    let lines = entry_lines 1 (take place log) in
    let more = entry_lines-front place c.args.commit log c.as_bytes.result.now waited there.0 (grind (arith, nat_tests, low)) line in
    writes-failed (written c.args.sink.now) (written c.line.new.sink) waited c.line.new.self (entry_lines 1 (take c.args.commit log)) c.from_residual.result c.from_residual.ensures.0
    (subst (WritesFront (written c.args.sink.now) (written c.line.new.sink)) more.1
    (front-of_more (written c.args.sink.now) (written c.line.new.sink) (waited ++ (lines ++ c.as_bytes.result.now)) more.0
    (front-on (written c.args.sink.now) (written c.entries.sink) (written c.line.new.sink) waited c.entries.output lines c.as_bytes.result.now so_far.grew far.1
    c.in_err-line.ensures.told.err)))

pub returns-after-entries-clause-told : goal.returns-after-entries-clause-told
returns-after-entries-clause-told g c = λ w is log has.
    let so_far = c.entries.invariant in
    let high = c.entries-test.false in
    let within = so_far.within in
    let far = so_far.told w is log has in
    writes-so_far _ _ _ _ _ _ (ap (λ n. entry_lines 1 (take n log)) (grind (arith, nat_tests, high, within))) so_far.grew far.1

pub returns-in_default-clause-told : goal.returns-in_default-clause-told
returns-in_default-clause-told g c = λ w is log has.
    let so_far = c.entries.invariant in
    let place = c.entries.written in
    let far = so_far.told w is log has in
    let last = is_last log place (sym c.in_default.is ∙ c.entry.ensures w is ∙ has (place + 1)) in
    writes-so_far _ _ _ _ _ _ (ap (entry_lines 1) (all_taken place c.args.commit log last so_far.within)) so_far.grew far.1

pub returns-in_err-line-clause-grew : goal.returns-in_err-line-clause-grew
returns-in_err-line-clause-grew g c = grows-trans _ _ _ c.entries.invariant.grew c.in_err-line.ensures.told.grew
