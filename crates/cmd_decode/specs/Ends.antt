-- How a run ends that decodes a payload.
use Rattle.std.specs.Prelude.{⊤, ◌≡◌, ◌≤◌, ◌<◌, ◌⊎◌, ℕ, List, [], ◌++◌, length, Option, None, Some}
use Rattle.std.specs.Io.KnownBytes.{Appends}
use Rattle.outside.specs.Faults.{Rose}
use Rattle.cmd_io.specs.Output.{WritesFront}
use Rattle.cmd_io.specs.declared.status.Status.{Status}
use Rattle.cmd_io.specs.declared.status.Status.TheVariants.{Done, Usage, BadRow, Unlawful, ReadFault, WriteFault, Memory, Limit, LinkFault, DiskFault, Damaged, NoLeader, Uncommitted, Differ, AnotherLog, NoPart, NoValue}
use Rattle.replay_text.specs.Lines.{after_line}
use Rattle.dsdl_text.specs.Text.{Text}
use Rattle.cmd_decode.specs.Lines.{Comes}
use Rattle.cmd_decode.specs.Report.{IsReport}

-- of the bytes behind the lines that were taken at most 4096 were read, as many as the run keeps at a time; the others
-- are still in the source
pub record ReadsNoFurther (rest : List ℕ) (left : Option (List ℕ)) : Type 0 where
  pub read : List ℕ
  pub unread : List ℕ
  pub parts : rest ≡ read ++ unread
  pub few : length read ≤ 4096
  pub left_is : left ≡ Some unread

-- the whole report was written, and the source was read no further
pub record IsTold (name : List ℕ) (part : ℕ) (payload bytes : List ℕ) (left before now : Option (List ℕ))
    (status : Status) : Type 0 where
  pub report : List ℕ
  pub is : IsReport name part payload bytes report status
  pub no_further : ReadsNoFurther is.rest left
  pub written : Appends before now report

-- the source failed. Some lines were taken, and the read was needed: what waits is no whole line, and at most 120
-- bytes; where no other line may come, nothing waits
pub record IsReadInPart (bytes : List ℕ) (left : Option (List ℕ)) : Type 0 where
  pub text : Text
  pub count : ℕ
  pub waiting : List ℕ
  pub ahead : List ℕ
  pub comes : Comes bytes text count (waiting ++ ahead)
  pub left_is : left ≡ Some ahead
  pub unended : after_line waiting ≡ None
  pub short : length waiting ≤ 120
  pub another : (waiting ≡ []) ⊎ (count < 1000)
  pub within : count ≤ 1000

-- the sink failed: it has a front of the report
pub record IsWrittenInPart (name : List ℕ) (part : ℕ) (payload bytes : List ℕ)
    (left before now : Option (List ℕ)) : Type 0 where
  pub report : List ℕ
  pub status : Status
  pub is : IsReport name part payload bytes report status
  pub no_further : ReadsNoFurther is.rest left
  pub front : WritesFront before now report

-- where the source failed nothing was written
abbrev pub Ends : Status → List ℕ → ℕ → List ℕ → List ℕ → Option (List ℕ) → Option (List ℕ)
    → Option (List ℕ) → Type 0
Ends Done name part payload bytes left before now = IsTold name part payload bytes left before now Done
Ends (BadRow row) name part payload bytes left before now = IsTold name part payload bytes left before now (BadRow row)
Ends (Limit row) name part payload bytes left before now = IsTold name part payload bytes left before now (Limit row)
Ends NoPart name part payload bytes left before now = IsTold name part payload bytes left before now NoPart
Ends NoValue name part payload bytes left before now = IsTold name part payload bytes left before now NoValue
Ends ReadFault name part payload bytes left before now = IsReadInPart bytes left × Appends before now []
Ends WriteFault name part payload bytes left before now = IsWrittenInPart name part payload bytes left before now
Ends Usage name part payload bytes left before now = ⊥
Ends (Unlawful row cause) name part payload bytes left before now = ⊥
Ends Memory name part payload bytes left before now = ⊥
Ends (LinkFault id) name part payload bytes left before now = ⊥
Ends (DiskFault id) name part payload bytes left before now = ⊥
Ends (Damaged id key) name part payload bytes left before now = ⊥
Ends NoLeader name part payload bytes left before now = ⊥
Ends (Uncommitted id) name part payload bytes left before now = ⊥
Ends (Differ first second index) name part payload bytes left before now = ⊥
Ends (AnotherLog first second) name part payload bytes left before now = ⊥

-- the status of a run that decodes
abbrev pub IsOfDecode : Status → Type 0
IsOfDecode Usage = ⊥
IsOfDecode (Unlawful row cause) = ⊥
IsOfDecode Memory = ⊥
IsOfDecode (LinkFault id) = ⊥
IsOfDecode (DiskFault id) = ⊥
IsOfDecode (Damaged id key) = ⊥
IsOfDecode NoLeader = ⊥
IsOfDecode (Uncommitted id) = ⊥
IsOfDecode (Differ first second index) = ⊥
IsOfDecode (AnotherLog first second) = ⊥
IsOfDecode _ = ⊤

-- a run that decodes the payload under that part of a text. The numbers are the faults that the source and the sink
-- have counted; the lists are what the source has left and what the sink has been written: each before and now
pub record Decodes (name : List ℕ) (part : ℕ) (payload : List ℕ) (left_old left : Option (List ℕ))
    (read_old read wrote_old wrote : ℕ) (before now : Option (List ℕ)) (status : Status) : Type 0 where
  pub kinds : IsOfDecode status
  pub ends : (bytes : List ℕ) → left_old ≡ Some bytes → Ends status name part payload bytes left before now
  -- a text has one report, and unless something fails the run comes to it
  pub finishes : (bytes report : List ℕ) (ending : Status) → left_old ≡ Some bytes
      → IsReport name part payload bytes report ending → (Rose read_old read → ⊥)
      → (Rose wrote_old wrote → ⊥) → status ≡ ending
