-- The forms of logs: how the lines of each are written, and what they say.
use Rattle.std.specs.Prelude.{⊤, ◌≡◌, ◌==◌, ℕ, List, ◌++◌, codes, None}
use Rattle.std.specs.List.{prefix_len}
use Rattle.can_logs.specs.Candump as candump
use Rattle.can_logs.specs.Slcan as slcan
use Rattle.can_logs.specs.declared.candump.LogLine.{LogLine}
use Rattle.can_logs.specs.declared.candump.LogLine.TheVariants as log_line
use Rattle.can_logs.specs.declared.slcan.SlLine.{SlLine}
use Rattle.can_logs.specs.declared.slcan.SlLine.TheVariants as slcan_line
use Rattle.can_logs.specs.declared.form.Form.{Form}
use Rattle.can_logs.specs.declared.form.Form.TheVariants.{Candump, Slcan}
use Rattle.can_logs.specs.declared.form.Line.{Line}
use Rattle.can_logs.specs.declared.form.Line.TheVariants.{Frame, Skipped}
use Rattle.can_logs.specs.declared.form.Logged.{Logged}

-- the word that names a form
abbrev pub form_word : Form → List ℕ
form_word Candump = codes "candump"
form_word Slcan = codes "slcan"

-- the byte that ends a line
abbrev pub end_of : Form → ℕ
end_of Candump = 10
end_of Slcan = 13

-- how many bells stand at the front of the bytes; only an adapter rings
abbrev pub bells : Form → List ℕ → ℕ
bells Candump bytes = 0
bells Slcan bytes = prefix_len (λ byte. byte == 7) bytes

-- what a line of candump says
abbrev pub of_candump : LogLine → Line
of_candump (log_line.Data sec micros iface frame) =
    Frame (record { sec = sec; micros = micros; iface = iface; frame = frame; stamp = None })
of_candump log_line.Skipped = Skipped

-- what a line of an adapter says: its moment is 0, and its name `slcan0`
abbrev pub of_slcan : SlLine → Line
of_slcan (slcan_line.Data frame stamp) = Frame (record {
  sec = 0;
  micros = 0;
  iface = record { items = codes "slcan0" };
  frame = frame;
  stamp = stamp;
})
of_slcan slcan_line.Skipped = Skipped

-- the text of a line says this
abbrev pub Says : Form → Line → List ℕ → Type 0
Says Candump said text = (read : LogLine) × candump.Reads read text × (said ≡ of_candump read)
Says Slcan said text = (read : SlLine) × slcan.Reads read text × (said ≡ of_slcan read)

-- the frame of a line may be written
abbrev pub IsLineWritable : Line → Type 0
IsLineWritable (Frame logged) =
    candump.IsWritable (log_line.Data logged.sec logged.micros logged.iface logged.frame)
IsLineWritable Skipped = ⊤

-- the line of a frame, with its end
abbrev pub frame_line : Form → Logged → List ℕ
frame_line Candump logged =
    candump.candump_text (log_line.Data logged.sec logged.micros logged.iface logged.frame) ++ codes "\n"
frame_line Slcan logged = slcan.slcan_text (slcan_line.Data logged.frame logged.stamp) ++ codes "\r"
