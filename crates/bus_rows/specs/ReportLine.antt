-- What a row told, as a plain value.
use Rattle.std.specs.Prelude.{ℕ, Bool, true, false, List, Option}
use Rattle.can_frame.specs.declared.step.Role.{Role}
use Rattle.can_frame.specs.declared.step.Seen.{Seen}
use Rattle.can_frame.specs.declared.step.Sent.{Sent}
use Rattle.bus_rows.specs.declared.told.Told.{Told}
use Rattle.bus_rows.specs.declared.told.Told.TheVariants.{Opened, Stepped, Failed, Stopped, Armed, Popped, Outside, AOpened, AStepped, APopped, AEnded}

-- What a row did: `Told` of the code, with a frame seen as its identifier and its bytes. The first seven are of a
-- member or of the bus, the last four of an allocatee.
pub data ReportLine : Type 0 where
  HasOpened : (n term vote last commit : ℕ) → ReportLine
  HasStepped : (n : ℕ) (role : Role) (term last commit queued : ℕ) (seen : Seen) (sent : List Sent) → ReportLine
  HasFailed : (n : ℕ) → ReportLine
  HasStopped : (n : ℕ) → ReportLine
  WasArmed : (n : ℕ) → ReportLine
  HasSent : (n k id : ℕ) (bytes : List ℕ) → ReportLine
  CameFromOutside : (k : ℕ) → ReportLine
  HasCome : (a : ℕ) → ReportLine
  HasAsked : (a : ℕ) (holds : Option ℕ) (queued : ℕ) (seen : Seen) (sent : List Sent) → ReportLine
  HasPut : (a k id : ℕ) (bytes : List ℕ) → ReportLine
  HasLeft : (a : ℕ) → ReportLine

-- what a value of the code stands for
abbrev pub report_line_of : Told → ReportLine
report_line_of (Opened n term vote last commit) = HasOpened n term vote last commit
report_line_of (Stepped n role term last commit queued seen sent) =
    HasStepped n role term last commit queued seen sent.items
report_line_of (Failed n) = HasFailed n
report_line_of (Stopped n) = HasStopped n
report_line_of (Armed n) = WasArmed n
report_line_of (Popped n k frame) = HasSent n k frame.id frame.bytes.items
report_line_of (Outside k) = CameFromOutside k
report_line_of (AOpened a) = HasCome a
report_line_of (AStepped a holds queued seen sent) = HasAsked a holds queued seen sent.items
report_line_of (APopped a k frame) = HasPut a k frame.id frame.bytes.items
report_line_of (AEnded a) = HasLeft a

-- whether it tells of a stop
abbrev pub is_stop : ReportLine → Bool
is_stop (HasStopped n) = true
is_stop telling = false
