-- The report of a schedule.
use Rattle.std.specs.Prelude.{◌≡◌, ◌≢◌, ◌≤◌, ◌<◌, ℕ, ◌+◌, List, [], ◌++◌, codes, decimal, Some}
use Rattle.bus_rows.specs.declared.row.Row.{Row}
use Rattle.replay_text.specs.Lines.{BeginsWith, BeginsWithNoRow, ReadsRows}
use Rattle.bus_spec.specs.Cluster.{Cluster, after_rows}
use Rattle.bus_spec.specs.Lawful.{AreLawful, cause, number_of}
use Rattle.bus_spec.specs.OwnLogs.{KeepsItsWord}
use Rattle.allocator_app.specs.WorldReport.{end_lines, row_lines}
use Rattle.bus_spec.specs.declared.unlawful.Unlawful.{Unlawful}
use Rattle.cmd_io.specs.declared.status.Status.{Status}
use Rattle.cmd_io.specs.declared.status.Status.TheVariants.{Done, Usage, BadRow, Unlawful as IsUnlawful, Limit, LinkFault, DiskFault, Damaged, NoLeader, Uncommitted, Differ, AnotherLog, NoPart, NoValue}

-- lawful rows were taken from the front of the bytes, up to a world and the rest of the bytes, and these lines tell
-- of them
pub record ReadsUpTo (first : Cluster) (bytes lines : List ℕ) (now : Cluster) (rest : List ℕ) : Type 0 where
  pub rows : List Row
  pub reads : ReadsRows rows bytes rest
  pub lawful : AreLawful first rows
  pub lines_are : lines ≡ row_lines first rows
  pub leaves : now ≡ after_rows first rows

-- such rows were taken, and along them each allocator keeps its word
pub record ReadsKeepingWord (first : Cluster) (bytes lines : List ℕ) (now : Cluster) (rest : List ℕ)
    : Type 0 where
  pub comes : ReadsUpTo first bytes lines now rest
  pub kept : KeepsItsWord first comes.rows

-- ---- how a schedule ends behind the rows that were taken

-- the next row may still come, and the bytes are none: no line feed ends them, their line is too long, or no row
-- has this line
pub record IsBadRow (limit : ℕ) (w : Cluster) (rest : List ℕ) : Type 0 where
  pub within : w.rows < limit
  pub bad : BeginsWithNoRow rest

-- the next row may still come, and the world refuses it for this cause
pub record IsRefused (limit : ℕ) (w : Cluster) (rest : List ℕ) (why : Unlawful) : Type 0 where
  pub within : w.rows < limit
  pub row : Row
  pub behind : List ℕ
  pub begins : BeginsWith row rest behind
  pub refused : cause w row ≡ Some why

-- all rows that may come were taken, and more bytes come
pub record IsBeyond (limit : ℕ) (w : Cluster) (rest : List ℕ) : Type 0 where
  pub full : w.rows ≡ limit
  pub more : rest ≢ []

-- ---- the last line

abbrev pub bad_row_line : ℕ → List ℕ
bad_row_line row = codes "bad row " ++ decimal row ++ codes "\n"

abbrev pub unlawful_line : ℕ → ℕ → List ℕ
unlawful_line row number = codes "unlawful " ++ decimal row ++ codes " " ++ decimal number ++ codes "\n"

abbrev pub limit_line : ℕ → List ℕ
limit_line row = codes "limit " ++ decimal row ++ codes "\n"

-- ---- what a run says of a schedule

-- all bytes of the schedule are rows that were taken; or the rows before the next one were taken, and the last line
-- tells the number of that next row, and why it was not
abbrev pub Says : ℕ → Cluster → List ℕ → List ℕ → Status → Type 0
Says limit w rest last Done = (rest ≡ []) × (last ≡ end_lines w)
Says limit w rest last (BadRow row) = IsBadRow limit w rest × (row ≡ w.rows + 1) × (last ≡ bad_row_line row)
Says limit w rest last (IsUnlawful row number) = (why : Unlawful) × IsRefused limit w rest why
    × (row ≡ w.rows + 1) × (number ≡ number_of why)
    × (last ≡ unlawful_line row number)
Says limit w rest last (Limit row) = IsBeyond limit w rest × (row ≡ w.rows + 1) × (last ≡ limit_line row)
Says limit w rest last _ = ⊥

-- the status of a run whose words were read
abbrev pub IsBegun : Status → Type 0
IsBegun Usage = ⊥
IsBegun _ = Unit {0}

-- the status of a run over a schedule
abbrev pub IsOfSchedule : Status → Type 0
IsOfSchedule Usage = ⊥
IsOfSchedule (LinkFault id) = ⊥
IsOfSchedule (DiskFault id) = ⊥
IsOfSchedule (Damaged id key) = ⊥
IsOfSchedule (Differ index a b) = ⊥
IsOfSchedule NoPart = ⊥
IsOfSchedule NoLeader = ⊥
IsOfSchedule (Uncommitted id) = ⊥
IsOfSchedule (AnotherLog id node) = ⊥
IsOfSchedule NoValue = ⊥
IsOfSchedule _ = Unit {0}

-- the status of a run that no fault ended, and that had words to begin with
abbrev pub IsToTheEnd : Status → Type 0
IsToTheEnd Done = Unit {0}
IsToTheEnd (BadRow row) = Unit {0}
IsToTheEnd (IsUnlawful row number) = Unit {0}
IsToTheEnd (Limit row) = Unit {0}
IsToTheEnd _ = ⊥

-- the report of a schedule of at most so many rows, from a world on, and the status that it comes with
pub record IsReport (limit : ℕ) (first : Cluster) (bytes report : List ℕ) (status : Status) : Type 0 where
  pub end : Cluster
  pub rest : List ℕ
  pub lines : List ℕ
  pub last : List ℕ
  pub comes : ReadsUpTo first bytes lines end rest
  pub within : end.rows ≤ limit
  pub says : Says limit end rest last status
  pub written : report ≡ lines ++ last
