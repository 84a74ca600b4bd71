-- What the steps that are kept stand for.
use Rattle.std.specs.Prelude.{◌≡◌, ℕ, List, length, map}
use Rattle.cmd_node.specs.Kept.{kept_line}
use Rattle.cmd_node.specs.Report.{last_lines}
use Rattle.cmd_node.specs.declared.steps.LastSteps.{LastSteps}

-- how many steps were made
abbrev pub steps_made : LastSteps → ℕ
steps_made steps = steps.made

-- the lines of all steps that were made are these, and the last of them are kept
pub record Keeps (steps : LastSteps) (lines : List (List ℕ)) : Type 0 where
  pub made : steps_made steps ≡ length lines
  pub last : map kept_line steps.ring.items ≡ last_lines lines
