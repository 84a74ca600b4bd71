-- How a run ends, by what the text came to and what is answered.
use Rattle.std.proofs.Common.{◌≡◌, ℕ, List, [], Some, None, refl}
use Rattle.std.specs.declared.option.Option.{Option}
use Rattle.std.specs.Prelude.{IsSome}
use Rattle.std.specs.Io.KnownBytes.{Appends}
use Rattle.outside.specs.Faults.{Rose}
use Rattle.cmd_io.specs.Output.{WritesFront}
use Rattle.cmd_io.specs.declared.status.Status.TheVariants.{ReadFault, WriteFault}
use Rattle.dsdl_text.specs.Text.{Text}
use Rattle.cmd_decode.specs.declared.answer.Answer.{Answer}
use Rattle.cmd_decode.specs.declared.answer.Answer.TheVariants.{Value, NoPart, NoValue, BadLine, Beyond}
use Rattle.cmd_decode.specs.declared.ending.Ending.{Ending}
use Rattle.cmd_decode.specs.Ends.{Decodes, Ends, IsOfDecode, IsReadInPart, IsTold, IsWrittenInPart}
use Rattle.cmd_decode.specs.Report.{IsReport, Says, report_of, status_of}
use Rattle.cmd_decode.specs.Taking.{TextEndsAs, ReadsText}
use Rattle.cmd_decode.proofs.OneReport.{ALineHasOneValue, one_report}

pub some_of : {A : Type 0} (o : Option A) → IsSome o → (x : A) × (o ≡ Some x)
some_of None some = absurd (cc)
some_of (Some x) some = (x, refl)

-- the answer to a text that was read
abbrev pub AnswersAll : List ℕ → ℕ → List ℕ → Ending → Answer → Type 0
AnswersAll name part payload end answer = (now : Text) (count : ℕ) (rest : List ℕ) → TextEndsAs end now count rest
    → Says name part payload now count rest answer

is_of_decode : (answer : Answer) → IsOfDecode (status_of answer)
is_of_decode (Value numbers) = tt
is_of_decode NoPart = tt
is_of_decode NoValue = tt
is_of_decode (BadLine row) = tt
is_of_decode Beyond = tt

ends_told : (name : List ℕ) (part : ℕ) (payload bytes : List ℕ) (left before now : Option (List ℕ))
    → (answer : Answer) → IsTold name part payload bytes left before now (status_of answer)
    → Ends (status_of answer) name part payload bytes left before now
ends_told name part payload bytes left before now (Value numbers) told = told
ends_told name part payload bytes left before now NoPart told = told
ends_told name part payload bytes left before now NoValue told = told
ends_told name part payload bytes left before now (BadLine row) told = told
ends_told name part payload bytes left before now Beyond told = told

is_report : (name : List ℕ) (part : ℕ) (payload bytes : List ℕ) (left : Option (List ℕ))
    → (end : Ending) (answer : Answer) → ReadsText bytes left end → AnswersAll name part payload end answer
    → IsReport name part payload bytes (report_of answer) (status_of answer)
is_report name part payload bytes left end answer read answers = record {
  now = read.now;
  count = read.count;
  rest = read.rest;
  comes = read.comes;
  within = read.within;
  answer = answer;
  says = answers read.now read.count read.rest read.ends;
  written = refl;
  ends = refl;
}

is_told : (name : List ℕ) (part : ℕ) (payload bytes : List ℕ) (left before now : Option (List ℕ))
    → (end : Ending) (answer : Answer) → ReadsText bytes left end → AnswersAll name part payload end answer
    → Appends before now (report_of answer)
    → IsTold name part payload bytes left before now (status_of answer)
unfolding is_report
is_told name part payload bytes left before now end answer read answers wrote = record {
  report = report_of answer;
  is = is_report name part payload bytes left end answer read answers;
  no_further = read.no_further;
  written = wrote;
}

is_in_part : (name : List ℕ) (part : ℕ) (payload bytes : List ℕ) (left before now : Option (List ℕ))
    → (end : Ending) (answer : Answer) → ReadsText bytes left end → AnswersAll name part payload end answer
    → WritesFront before now (report_of answer)
    → IsWrittenInPart name part payload bytes left before now
unfolding is_report
is_in_part name part payload bytes left before now end answer read answers front = record {
  report = report_of answer;
  status = status_of answer;
  is = is_report name part payload bytes left end answer read answers;
  no_further = read.no_further;
  front = front;
}

module _ (one : ALineHasOneValue) (name : List ℕ) (part : ℕ) (payload : List ℕ)
    (left_old left : Option (List ℕ)) (read_old read wrote_old wrote : ℕ) (before now : Option (List ℕ)) where
  pub decodes_told : (end : Ending) (answer : Answer)
      → ((bytes : List ℕ) → left_old ≡ Some bytes → ReadsText bytes left end)
      → AnswersAll name part payload end answer → Appends before now (report_of answer)
      → Decodes name part payload left_old left read_old read wrote_old wrote before now (status_of answer)
  decodes_told end answer reads answers wrote_all = record {
    kinds = is_of_decode answer;
    ends = λ bytes known. ends_told name part payload bytes left before now answer
        (is_told name part payload bytes left before now end answer (reads bytes known) answers wrote_all);
    finishes = λ bytes report ending known is quiet still.
        (one_report one name part payload bytes (report_of answer) report (status_of answer) ending
        (is_report name part payload bytes left end answer (reads bytes known) answers) is).1;
  }

  pub decodes_in_part : (end : Ending) (answer : Answer)
      → ((bytes : List ℕ) → left_old ≡ Some bytes → ReadsText bytes left end)
      → AnswersAll name part payload end answer → WritesFront before now (report_of answer) → Rose wrote_old wrote
      → Decodes name part payload left_old left read_old read wrote_old wrote before now WriteFault
  decodes_in_part end answer reads answers front rose = record {
    kinds = tt;
    ends = λ bytes known.
        is_in_part name part payload bytes left before now end answer (reads bytes known) answers front;
    finishes = λ bytes report ending known is quiet still. absurd (still rose);
  }
