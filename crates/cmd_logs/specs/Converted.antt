-- What a conversion writes of a log.
use Rattle.std.specs.Prelude.{ℕ, List, [], flat_map, Option}
use Rattle.can_logs.specs.declared.form.Form.{Form}
use Rattle.can_logs.specs.declared.form.Line.{Line}
use Rattle.can_logs.specs.declared.form.Line.TheVariants.{Frame, Skipped}
use Rattle.can_logs.specs.Forms.{frame_line}
use Rattle.cmd_io.specs.declared.status.Status.{Status}
use Rattle.cmd_logs.specs.Report.{Reports}

-- what is written of a line
abbrev pub converted_line : Form → Line → List ℕ
converted_line to (Frame logged) = frame_line to logged
converted_line to Skipped = []

-- the frames of these lines, in order
abbrev pub converted : Form → List Line → List ℕ
converted to lines = flat_map (converted_line to) lines

-- no line stands behind them
abbrev pub no_end : ℕ → List ℕ
no_end lines = []

-- a conversion of the source, whose faults, and those of the sink, are counted before and now
abbrev pub Converts : Form → Form → ℕ → Option (List ℕ) → Option (List ℕ) → ℕ → ℕ → ℕ → ℕ
    → Option (List ℕ)
    → Option (List ℕ) → Status → Type 0
Converts from to limit left_old left read_old read wrote_old wrote sink_before sink_now status =
    Reports (converted to) no_end from limit left_old left read_old read
    wrote_old wrote sink_before sink_now status
