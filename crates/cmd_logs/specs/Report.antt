-- The report of a log, by what its lines tell. A conversion and a watch differ in that alone.
use Rattle.std.specs.Prelude.{⊤, ◌≡◌, ◌<◌, ◌≤◌, ◌+◌, ◌⊎◌, ℕ, List, [], ◌++◌, length, codes, decimal, Option, Some}
use Rattle.std.specs.Io.KnownBytes.{Appends}
use Rattle.outside.specs.Faults.{Rose}
use Rattle.cmd_io.specs.Input.{HasNoLineEnd}
use Rattle.cmd_io.specs.NoFurther.{ReadsNoFurther}
use Rattle.cmd_io.specs.Output.{WritesFront}
use Rattle.cmd_io.specs.declared.status.Status.{Status}
use Rattle.cmd_io.specs.declared.status.Status.TheVariants.{Done, BadRow, Limit, ReadFault, WriteFault}
use Rattle.can_logs.specs.declared.form.Form.{Form}
use Rattle.can_logs.specs.declared.form.Line.{Line}
use Rattle.can_logs.specs.Forms.{end_of}
use Rattle.cmd_logs.specs.Lines.{BeginsWithNoLine, LineBegins, ReadsLines}

-- ---- how a log ends behind the lines that were taken

-- no further line begins; or the next one may come and is none; or all lines that may come were taken, and one more
-- begins
abbrev pub EndsAs : Form → ℕ → ℕ → List ℕ → Status → Type 0
EndsAs form limit taken rest Done = LineBegins form rest → ⊥
EndsAs form limit taken rest (BadRow line) = (taken < limit) × BeginsWithNoLine form rest × (line ≡ taken + 1)
EndsAs form limit taken rest (Limit line) = (taken ≡ limit) × LineBegins form rest × (line ≡ taken + 1)
EndsAs form limit taken rest _ = ⊥

-- all the bytes of a log, its lines up to its end or to one that is not taken, and the status
pub record ReadsLog (form : Form) (limit : ℕ) (bytes : List ℕ) (lines : List Line) (status : Status) : Type 0 where
  pub rest : List ℕ
  pub reads : ReadsLines form lines bytes rest
  pub within : length lines ≤ limit
  pub ends : EndsAs form limit (length lines) rest status

-- the last line; with `Done` it is that of the mode
abbrev pub last_line : List ℕ → Status → List ℕ
last_line done Done = done
last_line done (BadRow line) = codes "bad row " ++ decimal line ++ codes "\n"
last_line done (Limit line) = codes "limit " ++ decimal line ++ codes "\n"
last_line done _ = []

-- the report of a log of at most so many lines, and the status that it comes with: what its lines tell, and the last
-- line
pub record IsReport (listing : List Line → List ℕ) (end : ℕ
    → List ℕ) (form : Form) (limit : ℕ) (bytes report : List ℕ)
    (status : Status) : Type 0 where
  pub lines : List Line
  pub log : ReadsLog form limit bytes lines status
  pub written : report ≡ listing lines ++ last_line (end (length lines)) status

-- what further lines tell stands behind what some lines tell
abbrev pub TellsMore : (List Line → List ℕ) → Type 0
TellsMore listing = (lines more : List Line) → (rest : List ℕ) × (listing (lines ++ more) ≡ listing lines ++ rest)

-- ---- what a run leaves

-- the whole report was written, and the source was read no further
pub record IsTold (listing : List Line → List ℕ) (end : ℕ
    → List ℕ) (form : Form) (limit : ℕ) (bytes : List ℕ)
    (left sink_before sink_now : Option (List ℕ)) (status : Status) : Type 0 where
  pub report : List ℕ
  pub is : IsReport listing end form limit bytes report status
  pub no_further : ReadsNoFurther is.log.rest left
  pub written : Appends sink_before sink_now report

-- the source failed: what exactly the lines tell whose ends were read is written. The read was needed: what waits is no
-- whole line, and at most 120 bytes; where no other line may come, none begins in it
pub record IsReadInPart (listing : List Line → List ℕ) (form : Form) (limit : ℕ) (bytes : List ℕ)
    (left sink_before sink_now : Option (List ℕ)) : Type 0 where
  pub lines : List Line
  pub waiting : List ℕ
  pub ahead : List ℕ
  pub left_is : left ≡ Some ahead
  pub reads : ReadsLines form lines bytes (waiting ++ ahead)
  pub written : Appends sink_before sink_now (listing lines)
  pub unended : HasNoLineEnd (end_of form) waiting
  pub short : length waiting ≤ 120
  pub another : (LineBegins form waiting → ⊥) ⊎ (length lines < limit)
  pub within : length lines ≤ limit

-- the sink has all that some lines tell, and of the bytes behind these lines no more were read than the run keeps at a
-- time: it reads no more once a write has failed
pub record ReadsAhead (listing : List Line → List ℕ) (form : Form) (bytes : List ℕ)
    (left sink_before sink_now : Option (List ℕ)) : Type 0 where
  pub lines : List Line
  pub rest : List ℕ
  pub reads : ReadsLines form lines bytes rest
  pub more : List ℕ
  pub written : Appends sink_before sink_now (listing lines ++ more)
  pub no_further : ReadsNoFurther rest left

-- the sink failed: it has a front of what some lines tell that were taken, or of the whole report. The source was read
-- no further than these lines, nor than those of which all is written
pub data IsWrittenInPart (listing : List Line → List ℕ) (end : ℕ
    → List ℕ) (form : Form) (limit : ℕ) (bytes : List ℕ)
    (left sink_before sink_now : Option (List ℕ)) : Type 0 where
  InLines : (lines : List Line) (rest : List ℕ) → ReadsLines form lines bytes rest → length lines ≤ limit →
      WritesFront sink_before sink_now (listing lines) → ReadsNoFurther rest left →
      ReadsAhead listing form bytes left sink_before sink_now →
      IsWrittenInPart listing end form limit bytes left sink_before sink_now
  AtTheEnd : (report : List ℕ) (status : Status) → (is : IsReport listing end form limit bytes report status) →
      WritesFront sink_before sink_now report → ReadsNoFurther is.log.rest left →
      ReadsAhead listing form bytes left sink_before sink_now →
      IsWrittenInPart listing end form limit bytes left sink_before sink_now

-- how a run over a log ends
abbrev pub Ends : (List Line → List ℕ) → (ℕ → List ℕ) → Form → ℕ → List ℕ → Option (List ℕ)
    → Option (List ℕ)
    → Option (List ℕ) → Status → Type 0
Ends listing end form limit bytes left sink_before sink_now Done =
    IsTold listing end form limit bytes left sink_before sink_now Done
Ends listing end form limit bytes left sink_before sink_now (BadRow line) =
    IsTold listing end form limit bytes left sink_before sink_now (BadRow line)
Ends listing end form limit bytes left sink_before sink_now (Limit line) =
    IsTold listing end form limit bytes left sink_before sink_now (Limit line)
Ends listing end form limit bytes left sink_before sink_now ReadFault =
    IsReadInPart listing form limit bytes left sink_before sink_now
Ends listing end form limit bytes left sink_before sink_now WriteFault =
    IsWrittenInPart listing end form limit bytes left sink_before sink_now
Ends listing end form limit bytes left sink_before sink_now _ = ⊥

-- the status of a run over a log
abbrev pub IsOfLog : Status → Type 0
IsOfLog Done = ⊤
IsOfLog (BadRow line) = ⊤
IsOfLog (Limit line) = ⊤
IsOfLog ReadFault = ⊤
IsOfLog WriteFault = ⊤
IsOfLog _ = ⊥

-- a run over the source, whose faults, and those of the sink, are counted before and now. A log has one report; unless
-- something fails the run comes to it. So a log of lines that all read, as many as may come at most, is read to its end
pub record Reports (listing : List Line → List ℕ) (end : ℕ → List ℕ) (form : Form) (limit : ℕ)
    (left_old left : Option (List ℕ)) (read_old read wrote_old wrote : ℕ) (sink_before sink_now : Option (List ℕ))
    (status : Status) : Type 0 where
  pub kinds : IsOfLog status
  pub ends : (bytes : List ℕ) → left_old ≡ Some bytes →
      Ends listing end form limit bytes left sink_before sink_now status
  pub complete : (bytes report : List ℕ) (ending : Status) → left_old ≡ Some bytes →
      IsReport listing end form limit bytes report ending → (Rose read_old read → ⊥) → (Rose wrote_old wrote →
      ⊥) →
      status ≡ ending
  pub finishes : (bytes rest : List ℕ) (lines : List Line) → left_old ≡ Some bytes →
      ReadsLines form lines bytes rest →
      (LineBegins form rest → ⊥) → length lines ≤ limit → (Rose read_old read → ⊥)
      → (Rose wrote_old wrote → ⊥) →
      status ≡ Done
