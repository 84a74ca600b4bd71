-- What a run writes.
use Rattle.std.specs.Prelude.{ℕ, ◌-◌, List, [], ◌++◌, length, drop, flat_map, codes, decimal}
use Rattle.cmd_io.specs.declared.status.Status.{Status}
use Rattle.cmd_io.specs.declared.status.Status.TheVariants.{LinkFault, DiskFault, Damaged, AnotherLog}
use Rattle.replay_text.specs.Report.{end_line}

-- a run reports so many steps at most, the last ones
abbrev pub steps_told : ℕ
steps_told = 256

abbrev pub last_lines : List (List ℕ) → List (List ℕ)
last_lines lines = drop (length lines - steps_told) lines

-- some lines, one after the other
abbrev pub joined : List (List ℕ) → List ℕ
joined lines = flat_map (λ line. line) lines

-- the lines of the last steps, each under its number, and the number of turns
abbrev pub report : ℕ → List (List ℕ) → List ℕ
report turns lines = joined (last_lines lines) ++ end_line turns

-- the one line of a run that did not come to its end, by its status
abbrev pub line_of : Status → List ℕ
line_of (LinkFault id) = codes "link fault " ++ decimal id ++ codes "\n"
line_of (DiskFault id) = codes "disk fault " ++ decimal id ++ codes "\n"
line_of (Damaged id key) = codes "damaged " ++ decimal id ++ codes " " ++ decimal key ++ codes "\n"
line_of (AnotherLog id node) = codes "another log " ++ decimal id ++ codes " " ++ decimal node ++ codes "\n"
line_of _ = []
