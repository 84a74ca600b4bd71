-- The line of a step that is kept.
use Rattle.std.specs.Prelude.{ℕ, List}
use Rattle.bus_rows.specs.ReportLine.{report_line_of}
use Rattle.replay_text.specs.ReportText.{text_of_line}
use Rattle.cmd_node.specs.declared.step.NumberedStep.{NumberedStep}

abbrev pub kept_line : NumberedStep → List ℕ
kept_line step = text_of_line step.number (report_line_of step.told)
