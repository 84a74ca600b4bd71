-- Lines of a text that are taken piece by piece.
use Rattle.std.specs.Prelude.{◌≡◌, ◌≤◌, ◌<◌, ◌⊎◌, ℕ, ◌+◌, List, [], ◌++◌, length, Option, None, Some}
use Rattle.replay_text.specs.Lines.{after_line}
use Rattle.dsdl_text.specs.declared.line.Line.{Line}
use Rattle.dsdl_text.specs.Lines.{Reads}
use Rattle.dsdl_text.specs.Reader.{data_types, text_of}
use Rattle.dsdl_text.specs.Text.{TakesLines, Text, fault_of, text_after, types_in}
use Rattle.cmd_decode.specs.declared.lines.Lines.{Lines}
use Rattle.cmd_decode.specs.declared.lines.Stop.{Stop}
use Rattle.cmd_decode.specs.declared.lines.Stop.TheVariants.{Incomplete, Bad, Full}
use Rattle.cmd_decode.specs.declared.ending.Ending.{Ending}
use Rattle.cmd_decode.specs.declared.ending.Ending.TheVariants as ending
use Rattle.cmd_decode.specs.Lines.{Comes, IsBadLine, IsBeyond, ReadsLines}
use Rattle.cmd_decode.specs.Ends.{ReadsNoFurther}

-- the text of the lines that were taken
abbrev pub text_in : Lines → Text
text_in lines = text_of lines.reader

-- the line has no fault behind the text, and makes the other of it
pub record TakesLine (before now : Text) (bytes : List ℕ) : Type 0 where
  pub line : Line
  pub reads : Reads line bytes
  pub faultless : fault_of before line ≡ None
  pub makes : now ≡ text_after before line

-- lines were taken of what waits
pub record TakesSome (before now : Lines) (waiting left : List ℕ) : Type 0 where
  pub lines : List Line
  pub reads : (more : List ℕ) → ReadsLines lines (waiting ++ more) (left ++ more)
  pub takes : TakesLines (text_in before) lines (text_in now)
  pub counted : now.count ≡ before.count + length lines
  pub shorter : length left ≤ length waiting
  pub nearer : (before.count < now.count) ⊎ (left ≡ waiting)

-- less than a line waits, and only where another line may come
pub record WaitsOn (now : Lines) (left : List ℕ) : Type 0 where
  pub short : length left ≤ 120
  pub unended : after_line left ≡ None
  pub another : (left ≡ []) ⊎ (now.count < 1000)

-- why no more lines are taken, whatever comes behind what is left
abbrev pub StopsAt : Stop → Lines → List ℕ → Type 0
StopsAt Incomplete now left = WaitsOn now left
StopsAt Bad now left = (more : List ℕ) → IsBadLine (text_in now) now.count (left ++ more)
StopsAt Full now left = (more : List ℕ) → IsBeyond now.count (left ++ more)

-- so far: lines were taken of the bytes that were read, and some wait; the others are left in the source
pub record HasTaken (bytes waiting : List ℕ) (left : Option (List ℕ)) (now : Lines) : Type 0 where
  pub ahead : List ℕ
  pub left_is : left ≡ Some ahead
  pub comes : Comes bytes (text_in now) now.count (waiting ++ ahead)

-- what a text came to, behind so many lines that make this text
abbrev pub TextEndsAs : Ending → Text → ℕ → List ℕ → Type 0
TextEndsAs (ending.Whole texts) now count rest = (rest ≡ []) × (data_types texts ≡ types_in now)
TextEndsAs (ending.Bad row) now count rest = IsBadLine now count rest × (row ≡ count + 1)
TextEndsAs ending.Beyond now count rest = IsBeyond count rest

-- the lines of a text were taken as far as they go
pub record ReadsText (bytes : List ℕ) (left : Option (List ℕ)) (end : Ending) : Type 0 where
  pub now : Text
  pub count : ℕ
  pub rest : List ℕ
  pub comes : Comes bytes now count rest
  pub within : count ≤ 1000
  pub ends : TextEndsAs end now count rest
  pub no_further : ReadsNoFurther rest left
