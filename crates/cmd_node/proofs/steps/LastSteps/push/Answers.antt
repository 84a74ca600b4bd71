use Rattle.std.proofs.Common.{◌∷◌, [], suc, length, map, ap, ◌∙◌, arith, length-append}
use Rattle.bus_rows.specs.ReportLine.{report_line_of}
use Rattle.replay_text.specs.ReportText.{text_of_line}
use Rattle.cmd_node.specs.Kept.{kept_line}
use Rattle.cmd_node.proofs.Kept.{kept_pushed}
use Rattle.cmd_node.proofs.steps.LastSteps.push.Goals as goal

pub returns-clause-keeps : goal.returns-clause-keeps
returns-clause-keeps c = λ lines is.
    let old = c.args.self.now in
    record {
      made = let size = length-append lines (text_of_line (suc (length lines)) (report_line_of c.args.told) ∷ []) in omega (arith, is.made, size);
      last = ap (λ b. map kept_line b.items) c.push_back.ensures.items
          ∙ kept_pushed old.ring.capacity old.kept old.ring.items lines old.made c.args.told is.made is.last;
    }
