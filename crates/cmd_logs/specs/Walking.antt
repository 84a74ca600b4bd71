-- How the lines of a log come, one after the other.
use Rattle.std.specs.Prelude.{⊤, ◌≡◌, ◌≤◌, ◌<◌, ◌⊎◌, ◌+◌, ℕ, List, [], ◌++◌, length, Option, Some, None}
use Rattle.std.specs.Io.KnownBytes.{Appends, append_known}
use Rattle.outside.specs.Faults.{Rose}
use Rattle.cmd_io.specs.Input.{HasNoLineEnd}
use Rattle.cmd_io.specs.NoFurther.{ReadsNoFurther}
use Rattle.cmd_io.specs.Output.{Grows}
use Rattle.cmd_io.specs.declared.status.Status.{Status}
use Rattle.cmd_io.specs.declared.status.Status.TheVariants.{Done, BadRow, Limit}
use Rattle.can_logs.specs.declared.form.Form.{Form}
use Rattle.can_logs.specs.declared.form.Line.{Line}
use Rattle.cmd_logs.specs.declared.log.End.{End}
use Rattle.cmd_logs.specs.declared.log.End.TheVariants as end
use Rattle.cmd_logs.specs.declared.log.Fault.{Fault}
use Rattle.cmd_logs.specs.declared.log.Fault.TheVariants.{Source, Sink}
use Rattle.cmd_logs.specs.declared.log.Next.{Next}
use Rattle.cmd_logs.specs.declared.log.Next.TheVariants as next
use Rattle.can_logs.specs.Forms.{IsLineWritable, end_of}
use Rattle.cmd_logs.specs.Lines.{BeginsWithLine, BeginsWithNoLine, FindsLine, LineBegins, ReadsLines}
use Rattle.cmd_logs.specs.Report.{IsReadInPart, IsWrittenInPart, ReadsAhead}

-- what waits is no whole line, and at most 120 bytes; where no other line may come, none begins in it
pub record WaitsOn (form : Form) (limit taken : ℕ) (waiting : List ℕ) : Type 0 where
  pub unended : HasNoLineEnd (end_of form) waiting
  pub short : length waiting ≤ 120
  pub another : (LineBegins form waiting → ⊥) ⊎ (taken < limit)

-- how the lines end behind those that were taken
abbrev pub EndsSo : Form → ℕ → ℕ → List ℕ → End → Type 0
EndsSo form limit taken rest end.Ended = LineBegins form rest → ⊥
EndsSo form limit taken rest end.NoLine = (taken < limit) × BeginsWithNoLine form rest
EndsSo form limit taken rest end.Full = (taken ≡ limit) × LineBegins form rest

-- the status of the run then
abbrev pub status_of : End → ℕ → Status
status_of end.Ended taken = Done
status_of end.NoLine taken = BadRow (taken + 1)
status_of end.Full taken = Limit (taken + 1)

-- what is taken from the front of what waits, whatever comes behind
pub record TakesLine (form : Form) (limit taken taken_now : ℕ) (said : Line) (before now : List ℕ) : Type 0 where
  pub may : taken < limit
  pub counted : taken_now ≡ taken + 1
  pub found : FindsLine form said before now

pub record StopsAt (form : Form) (limit taken taken_now : ℕ) (end : End) (before now : List ℕ) : Type 0 where
  pub same : now ≡ before
  pub counted : taken_now ≡ taken
  pub stops : (more : List ℕ) → EndsSo form limit taken (before ++ more) end

pub record TakesNone (form : Form) (limit taken taken_now : ℕ) (before now : List ℕ) : Type 0 where
  pub same : now ≡ before
  pub counted : taken_now ≡ taken
  pub waits : WaitsOn form limit taken before

abbrev pub Takes : Form → ℕ → ℕ → ℕ → List ℕ → List ℕ → Option Next → Type 0
Takes form limit taken taken_now before now (Some (next.Line said)) =
    TakesLine form limit taken taken_now said before now
Takes form limit taken taken_now before now (Some (next.End end)) = StopsAt form limit taken taken_now end before now
Takes form limit taken taken_now before now None = TakesNone form limit taken taken_now before now

-- how many lines were taken then
abbrev pub Counts : ℕ → ℕ → ℕ → Next → Type 0
Counts limit taken taken_now (next.Line said) = (taken < limit) × (taken_now ≡ taken + 1)
Counts limit taken taken_now (next.End end) = taken_now ≡ taken

-- the frame of a line that comes may be written
abbrev pub MayBeWritten : Next → Type 0
MayBeWritten (next.Line said) = IsLineWritable said
MayBeWritten (next.End end) = ⊤

-- what comes next of the bytes that are still to come: those that wait, and those that are left in the source
abbrev pub Gives : Form → ℕ → ℕ → List ℕ → List ℕ → Next → Type 0
Gives form limit taken rest rest_now (next.Line said) = BeginsWithLine form said rest rest_now
Gives form limit taken rest rest_now (next.End end) = (rest_now ≡ rest) × EndsSo form limit taken rest end

-- the bytes still to come are the same: some of those that were left in the source wait now
abbrev pub SameBytes : List ℕ → List ℕ → Option (List ℕ) → Option (List ℕ) → Type 0
SameBytes waiting waits left left_now = (ahead : List ℕ) → left ≡ Some ahead →
    (ahead_now : List ℕ) × (left_now ≡ Some ahead_now) × (waiting ++ ahead ≡ waits ++ ahead_now)

-- of what waits and what is left in the source some comes next
abbrev pub Comes : Form → ℕ → ℕ → List ℕ → List ℕ → Option (List ℕ) → Option (List ℕ) → Next
    → Type 0
Comes form limit taken waiting waits left left_now next = (ahead : List ℕ) → left ≡ Some ahead →
    (ahead_now : List ℕ) × (left_now ≡ Some ahead_now)
    × Gives form limit taken (waiting ++ ahead) (waits ++ ahead_now) next

-- the source was read behind what waited, as far as there is room
abbrev pub ReadsBehind : List ℕ → Option (List ℕ) → Option (List ℕ) → Type 0
ReadsBehind waiting left left_now =
    (ahead : List ℕ) → left ≡ Some ahead → ReadsNoFurther (waiting ++ ahead) left_now

-- the source failed: no line is there in what waits by then
pub record ComesToNone (form : Form) (limit taken : ℕ) (waiting : List ℕ) (ahead : List ℕ) (left_now : Option (List ℕ))
    : Type 0 where
  pub waits : List ℕ
  pub ahead_now : List ℕ
  pub left_is : left_now ≡ Some ahead_now
  pub same : waiting ++ ahead ≡ waits ++ ahead_now
  pub waits_on : WaitsOn form limit taken waits

abbrev pub FailsBehind : Form → ℕ → ℕ → List ℕ → Option (List ℕ) → Option (List ℕ) → Type 0
FailsBehind form limit taken waiting left left_now =
    (ahead : List ℕ) → left ≡ Some ahead → ComesToNone form limit taken waiting ahead left_now

-- what comes next, the source having been read behind what waited
pub record ReadsNext (form : Form) (limit taken taken_now : ℕ) (waiting waits : List ℕ)
    (left left_now : Option (List ℕ)) (next : Next) : Type 0 where
  pub counted : Counts limit taken taken_now next
  pub few : length waits ≤ 4096
  pub comes : Comes form limit taken waiting waits left left_now next
  pub behind : ReadsBehind waiting left left_now

-- what comes next, all that waited to be written having been handed to the sink before the source was read
pub record HasNext (form : Form) (limit taken taken_now : ℕ) (waiting waits : List ℕ) (left left_now : Option (List ℕ))
    (sink : Option (List ℕ)) (output : List ℕ) (sink_now : Option (List ℕ)) (output_now : List ℕ) (next : Next)
    : Type 0 where
  pub counted : Counts limit taken taken_now next
  pub few : length waits ≤ 4096
  pub comes : Comes form limit taken waiting waits left left_now next
  pub written : Appends (append_known sink output) (append_known sink_now output_now) []
  pub grew : Grows sink sink_now
  pub reads : (left_now ≡ left) ⊎ (Appends sink sink_now output × ReadsBehind waiting left left_now)

-- a fault is that of the object whose count rose; the count of the other stays
abbrev pub IsCausedBy : ℕ → ℕ → ℕ → ℕ → Fault → Type 0
IsCausedBy source source_now sink sink_now Source = Rose source source_now × (sink_now ≡ sink)
IsCausedBy source source_now sink sink_now Sink = Rose sink sink_now × (source_now ≡ source)

-- so far: some lines were taken, and what they tell was written or waits to be
pub record SoFar (listing : List Line
    → List ℕ) (form : Form) (limit : ℕ) (bytes : List ℕ) (sink_before : Option (List ℕ))
    (lines : List Line) (taken : ℕ) (waiting : List ℕ) (left sink_now : Option (List ℕ)) (output : List ℕ)
    : Type 0 where
  pub ahead : List ℕ
  pub left_is : left ≡ Some ahead
  pub reads : ReadsLines form lines bytes (waiting ++ ahead)
  pub counted : length lines ≡ taken
  pub within : taken ≤ limit
  pub few : length waiting ≤ 4096
  pub written : Appends sink_before (append_known sink_now output) (listing lines)
  pub grew : Grows sink_before sink_now
  pub reads_ahead : ReadsAhead listing form bytes left sink_before sink_now

-- all lines were taken, and what they tell was written or waits to be; the source was read no further
pub record Walks (listing : List Line
    → List ℕ) (form : Form) (limit : ℕ) (bytes : List ℕ) (sink_before : Option (List ℕ))
    (taken : ℕ) (left sink_now : Option (List ℕ)) (output : List ℕ) (end : End) : Type 0 where
  pub lines : List Line
  pub counted : length lines ≡ taken
  pub rest : List ℕ
  pub reads : ReadsLines form lines bytes rest
  pub ends : EndsSo form limit taken rest end
  pub no_further : ReadsNoFurther rest left
  pub written : Appends sink_before (append_known sink_now output) (listing lines)
  pub grew : Grows sink_before sink_now
  pub reads_ahead : ReadsAhead listing form bytes left sink_before sink_now

-- what a fault leaves
abbrev pub Fails : Fault → (List Line → List ℕ) → (ℕ → List ℕ) → Form → ℕ → List ℕ
    → Option (List ℕ) → Option (List ℕ)
    → Option (List ℕ) → Type 0
Fails Source listing end form limit bytes left sink_before sink_now =
    IsReadInPart listing form limit bytes left sink_before sink_now
Fails Sink listing end form limit bytes left sink_before sink_now =
    IsWrittenInPart listing end form limit bytes left sink_before sink_now
