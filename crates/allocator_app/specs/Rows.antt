-- What the loops of a run come to, and how a run ends.
use Rattle.std.specs.Prelude.{⊤, ◌≡◌, ◌≤◌, ◌<◌, ◌⊎◌, ℕ, ◌+◌, List, [], ◌++◌, length, Option, None, Some}
use Rattle.std.specs.Io.KnownBytes.{Appends, append_known}
use Rattle.outside.specs.Faults.{Rose}
use Rattle.replay_text.specs.Lines.{after_line}
use Rattle.bus_spec.specs.Cluster.{Cluster, cluster}
use Rattle.bus_spec.specs.Lawful.{number_of}
use Rattle.bus_spec.specs.OwnLogs.{KeepsItsWord}
use Rattle.replay_text.specs.Report.{end_line}
use Rattle.allocator_app.specs.WorldReport.{all_logs}
use Rattle.allocator_app.specs.InPart.{IsReadInPart, IsWrittenInPart, ReadsAhead}
use Rattle.cmd_io.specs.NoFurther.{ReadsNoFurther}
use Rattle.cmd_io.specs.Output.{WritesFront}
use Rattle.allocator_app.specs.Report.{ReadsKeepingWord, IsBadRow, IsBeyond, IsOfSchedule, IsRefused, IsReport, bad_row_line, limit_line, unlawful_line}
use Rattle.allocator_app.specs.declared.rows.Rows.{Rows}
use Rattle.allocator_app.specs.declared.rows.Rows.TheVariants.{Taken, NoRow, Refused, Full}
use Rattle.allocator_app.specs.declared.rows.Fault.{Fault}
use Rattle.allocator_app.specs.declared.rows.Fault.TheVariants.{Source, Sink}
use Rattle.cmd_io.specs.declared.status.Status.{Status}
use Rattle.cmd_io.specs.declared.status.Status.TheVariants.{Done, BadRow, Unlawful, ReadFault, WriteFault, Memory, Limit}

-- where a schedule ends
abbrev pub ScheduleEndsAt : ℕ → Cluster → List ℕ → Rows → Type 0
ScheduleEndsAt limit w rest Taken = rest ≡ []
ScheduleEndsAt limit w rest NoRow = IsBadRow limit w rest
ScheduleEndsAt limit w rest (Refused why) = IsRefused limit w rest why
ScheduleEndsAt limit w rest Full = IsBeyond limit w rest

-- where the rows that wait end: all were taken but the beginning of a line; or the next one is not taken, whatever
-- comes behind
abbrev pub StopsAt : ℕ → Cluster → List ℕ → List ℕ → Rows → Type 0
StopsAt limit w rest waiting Taken = rest ≡ waiting
StopsAt limit w rest waiting rows = (more : List ℕ) → ScheduleEndsAt limit w (rest ++ more) rows

-- rows were taken of those that wait, and what they tell was written or waits to be
pub record TakesRows (limit : ℕ) (before now : Cluster) (waiting left : List ℕ)
    (sink_before : Option (List ℕ)) (output_before : List ℕ)
    (sink_now : Option (List ℕ)) (output_now : List ℕ) (rows : Rows) : Type 0 where
  pub lines : List ℕ
  pub rest : List ℕ
  pub goes : (more : List ℕ) → ReadsKeepingWord before (waiting ++ more) lines now (rest ++ more)
  pub shorter : length rest ≤ length waiting
  pub stops : StopsAt limit now rest left rows
  pub written : Appends (append_known sink_before output_before) (append_known sink_now output_now) lines

-- rows were taken of those that wait, and the sink failed: it has a front of what waited and of what they tell
pub record BreaksOff (before now : Cluster) (waiting : List ℕ) (sink_before : Option (List ℕ)) (output_before : List ℕ)
    (sink_now : Option (List ℕ)) : Type 0 where
  pub lines : List ℕ
  pub rest : List ℕ
  pub goes : (more : List ℕ) → ReadsKeepingWord before (waiting ++ more) lines now (rest ++ more)
  pub shorter : length rest ≤ length waiting
  pub written : WritesFront sink_before sink_now (output_before ++ lines)

-- where all rows were taken, less than a line waits, and only where another row may come; there was a row, or the
-- same waits as before
pub record WaitsOn (limit rows_before rows_now : ℕ) (before now : List ℕ) : Type 0 where
  pub short : length now ≤ 120
  pub unended : after_line now ≡ None
  pub another : (now ≡ []) ⊎ (rows_now < limit)
  pub nearer : (rows_before < rows_now) ⊎ (now ≡ before)

abbrev pub Waits : ℕ → ℕ → ℕ → List ℕ → List ℕ → Rows → Type 0
Waits limit rows_before rows_now before now Taken = WaitsOn limit rows_before rows_now before now
Waits limit rows_before rows_now before now _ = ⊤

-- the last line of the report, after so many rows, and the status of the run
abbrev pub last_line_of : Rows → ℕ → List ℕ
last_line_of Taken rows = end_line rows
last_line_of NoRow rows = bad_row_line (rows + 1)
last_line_of (Refused why) rows = unlawful_line (rows + 1) (number_of why)
last_line_of Full rows = limit_line (rows + 1)

abbrev pub status_of : Rows → ℕ → Status
status_of Taken rows = Done
status_of NoRow rows = BadRow (rows + 1)
status_of (Refused why) rows = Unlawful (rows + 1) (number_of why)
status_of Full rows = Limit (rows + 1)

-- where all rows were taken the logs stand before it
abbrev pub logs_before : Rows → Cluster → List ℕ
logs_before Taken w = all_logs w
logs_before _ w = []

abbrev pub last_of : Rows → Cluster → List ℕ
last_of rows w = logs_before rows w ++ last_line_of rows w.rows

-- the rows of a schedule were taken, and what they tell was written or waits to be; the source was read no further
pub record ReadsRows (limit : ℕ) (before now : Cluster) (bytes : List ℕ)
    (left sink_before sink_now : Option (List ℕ)) (output : List ℕ) (rows : Rows) : Type 0 where
  pub lines : List ℕ
  pub rest : List ℕ
  pub goes : ReadsKeepingWord before bytes lines now rest
  pub ends : ScheduleEndsAt limit now rest rows
  pub no_further : ReadsNoFurther rest left
  pub written : Appends sink_before (append_known sink_now output) lines
  pub ahead : ReadsAhead before bytes left sink_before sink_now

-- a fault is that of the object whose count rose; the count of the other stays
abbrev pub IsCausedBy : ℕ → ℕ → ℕ → ℕ → Fault → Type 0
IsCausedBy source_before source_now sink_before sink_now Source =
    Rose source_before source_now × (sink_now ≡ sink_before)
IsCausedBy source_before source_now sink_before sink_now Sink =
    Rose sink_before sink_now × (source_now ≡ source_before)

-- what it leaves
abbrev pub IsInPart : Fault → ℕ → Cluster → List ℕ → Option (List ℕ) → Option (List ℕ)
    → Option (List ℕ) → Type 0
IsInPart Source limit first bytes left sink_before sink_now = IsReadInPart limit first bytes left sink_before sink_now
IsInPart Sink limit first bytes left sink_before sink_now = IsWrittenInPart limit first bytes left sink_before sink_now

-- the whole report was written, along its rows each allocator kept its word, and the source was read no further
pub record IsTold (status : Status) (limit : ℕ) (first : Cluster) (bytes : List ℕ)
    (left sink_before sink_now : Option (List ℕ)) : Type 0 where
  pub report : List ℕ
  pub is : IsReport limit first bytes report status
  pub kept : KeepsItsWord first is.comes.rows
  pub no_further : ReadsNoFurther is.rest left
  pub written : Appends sink_before sink_now report

-- how a run over a schedule of at most so many rows ends, from a world on. No report comes with a status of which no
-- schedule tells
abbrev pub Ends : Status → ℕ → Cluster → List ℕ → Option (List ℕ) → Option (List ℕ)
    → Option (List ℕ) → Type 0
Ends ReadFault limit first bytes left sink_before sink_now = IsReadInPart limit first bytes left sink_before sink_now
Ends WriteFault limit first bytes left sink_before sink_now =
    IsWrittenInPart limit first bytes left sink_before sink_now
Ends Memory limit first bytes left sink_before sink_now = ⊤
Ends status limit first bytes left sink_before sink_now = IsTold status limit first bytes left sink_before sink_now

-- a run over a schedule of these members
pub record Replays (limit : ℕ) (nodes : List ℕ) (left_old left sink_before sink_now : Option (List ℕ)) (status : Status)
    : Type 0 where
  pub kinds : IsOfSchedule status
  pub ends : (bytes : List ℕ) → left_old ≡ Some bytes →
      Ends status limit (cluster nodes) bytes left sink_before sink_now
