-- What is answered to a text, and the report of it.
use Rattle.std.specs.Prelude.{◌≡◌, ◌≤◌, ℕ, ◌+◌, List, [], ◌∷◌, ◌++◌, length, codes, decimal, Option, None, Some}
use Rattle.cmd_io.specs.declared.status.Status.{Status}
use Rattle.cmd_io.specs.declared.status.Status.TheVariants as status
use Rattle.dsdl_text.specs.Layout.{Layout}
use Rattle.dsdl_text.specs.Numbers.{numbers_of}
use Rattle.dsdl_text.specs.Sections.{part_named}
use Rattle.dsdl_text.specs.Text.{Text, types_in}
use Rattle.cmd_decode.specs.declared.answer.Answer.{Answer}
use Rattle.cmd_decode.specs.declared.answer.Answer.TheVariants.{Value, NoPart, NoValue, BadLine, Beyond}
use Rattle.cmd_decode.specs.Lines.{Comes, IsBadLine, IsBeyond}

-- the text is read to its end, has that part, and the payload has these numbers under it, or no reading
pub record IsRead (name : List ℕ) (part : ℕ) (payload : List ℕ) (now : Text) (rest : List ℕ)
    (numbers : Option (List ℕ)) : Type 0 where
  pub ended : rest ≡ []
  pub fields : List Layout
  pub found : part_named (types_in now) name part ≡ Some fields
  pub gives : numbers_of fields payload ≡ numbers

-- what is answered, behind so many lines that make this text, where the rest is left
abbrev pub Says : List ℕ → ℕ → List ℕ → Text → ℕ → List ℕ → Answer → Type 0
Says name part payload now count rest (Value numbers) = IsRead name part payload now rest (Some numbers.items)
Says name part payload now count rest NoPart = (rest ≡ []) × (part_named (types_in now) name part ≡ None)
Says name part payload now count rest NoValue = IsRead name part payload now rest None
Says name part payload now count rest (BadLine row) = IsBadLine now count rest × (row ≡ count + 1)
Says name part payload now count rest Beyond = IsBeyond count rest

-- ---- what is written, and the status

-- each number on a line
abbrev pub number_lines : List ℕ → List ℕ
number_lines [] = []
number_lines (number ∷ numbers) = decimal number ++ codes "\n" ++ number_lines numbers

abbrev pub end_line : ℕ → List ℕ
end_line count = codes "end " ++ decimal count ++ codes "\n"

abbrev pub report_of : Answer → List ℕ
report_of (Value numbers) = number_lines numbers.items ++ end_line (length numbers.items)
report_of NoPart = []
report_of NoValue = []
report_of (BadLine row) = codes "bad row " ++ decimal row ++ codes "\n"
report_of Beyond = codes "limit " ++ decimal 1001 ++ codes "\n"

abbrev pub status_of : Answer → Status
status_of (Value numbers) = status.Done
status_of NoPart = status.NoPart
status_of NoValue = status.NoValue
status_of (BadLine row) = status.BadRow row
status_of Beyond = status.Limit 1001

-- the report of a text and a payload, and the status that it comes with
pub record IsReport (name : List ℕ) (part : ℕ) (payload bytes report : List ℕ) (status : Status) : Type 0 where
  pub now : Text
  pub count : ℕ
  pub rest : List ℕ
  pub comes : Comes bytes now count rest
  pub within : count ≤ 1000
  pub answer : Answer
  pub says : Says name part payload now count rest answer
  pub written : report ≡ report_of answer
  pub ends : status ≡ status_of answer
