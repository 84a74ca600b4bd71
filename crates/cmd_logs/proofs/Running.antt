-- How a run over a log ends.
use Rattle.std.proofs.Common.{◌≡◌, ℕ, ◌+◌, List, Some, refl, sym, subst, ◌∙◌, ap}
use Rattle.std.specs.declared.option.Option.{Option}
use Rattle.outside.specs.Faults.{Rose}
use Rattle.cmd_io.specs.declared.status.Status.{Status}
use Rattle.cmd_io.specs.declared.status.Status.TheVariants.{Done, Usage, BadRow, ReadFault, WriteFault, Memory, Limit}
use Rattle.can_logs.specs.declared.form.Form.{Form}
use Rattle.can_logs.specs.declared.form.Line.{Line}
use Rattle.cmd_logs.specs.declared.log.End.{End}
use Rattle.cmd_logs.specs.declared.log.End.TheVariants.{Ended, NoLine, Full}
use Rattle.cmd_logs.specs.declared.log.Fault.{Fault}
use Rattle.cmd_logs.specs.Report.{Ends, IsOfLog, IsReadInPart, IsTold, IsWrittenInPart, Reports}
use Rattle.cmd_logs.specs.Walking.{Fails, Walks, status_of}
use Rattle.cmd_logs.proofs.OneReport.{SaysOne, reports}

-- a run over a log whose form and limit are known
module _ (listing : List Line → List ℕ) (done : ℕ → List ℕ) (form own : Form) (limit most : ℕ) (same : own ≡ form) (same_limit : most ≡ limit) where
  -- all lines were taken
  pub walks_as : (bytes : List ℕ) (sink : Option (List ℕ)) (taken : ℕ) (left sink_now : Option (List ℕ)) (output : List ℕ) (how : End) →
      Walks listing own most bytes sink taken left sink_now output how → Walks listing form limit bytes sink taken left sink_now output how
  walks_as bytes sink taken left sink_now output how walks =
      subst (λ f. Walks listing f limit bytes sink taken left sink_now output how) same
      (subst (λ n. Walks listing own n bytes sink taken left sink_now output how) same_limit walks)

  -- an object of the outside failed
  pub fails_as : (fault : Fault) (bytes : List ℕ) (left sink sink_now : Option (List ℕ)) →
      Fails fault listing done own most bytes left sink sink_now → Fails fault listing done form limit bytes left sink sink_now
  fails_as fault bytes left sink sink_now fails =
      subst (λ f. Fails fault listing done f limit bytes left sink sink_now) same
      (subst (λ n. Fails fault listing done own n bytes left sink sink_now) same_limit fails)

-- no such status tells of a fault, nor of words or memory
pub is_no_fault : (how : End) (taken : ℕ) → (status_of how taken ≡ ReadFault → ⊥) × (status_of how taken ≡ WriteFault → ⊥)
    × (status_of how taken ≡ Usage → ⊥) × (status_of how taken ≡ Memory → ⊥)
is_no_fault Ended taken = (λ e. cc, λ e. cc, λ e. cc, λ e. cc)
is_no_fault NoLine taken = (λ e. cc, λ e. cc, λ e. cc, λ e. cc)
is_no_fault Full taken = (λ e. cc, λ e. cc, λ e. cc, λ e. cc)

is_of_log : (how : End) (taken : ℕ) → IsOfLog (status_of how taken)
is_of_log Ended taken = tt
is_of_log NoLine taken = tt
is_of_log Full taken = tt

module _ (one : SaysOne) (listing : List Line → List ℕ) (done : ℕ → List ℕ) (form : Form) (limit : ℕ)
    (left_old left : Option (List ℕ)) (read_old read wrote_old wrote : ℕ) (sink sink_now : Option (List ℕ)) where
  ends_told : (how : End) (taken : ℕ) (bytes : List ℕ) → IsTold listing done form limit bytes left sink sink_now (status_of how taken) →
      Ends listing done form limit bytes left sink sink_now (status_of how taken)
  ends_told Ended taken bytes is = is
  ends_told NoLine taken bytes is = is
  ends_told Full taken bytes is = is

  -- the report was written
  pub run_told : (status : Status) (how : End) (taken : ℕ) → status ≡ status_of how taken →
      ((bytes : List ℕ) → left_old ≡ Some bytes → IsTold listing done form limit bytes left sink sink_now (status_of how taken)) →
      Reports listing done form limit left_old left read_old read wrote_old wrote sink sink_now status
  run_told status how taken is written =
      subst (Reports listing done form limit left_old left read_old read wrote_old wrote sink sink_now) (sym is)
      (reports one listing done form limit left_old left read_old read wrote_old wrote sink sink_now (status_of how taken) (is_of_log how taken)
      (λ bytes known. ends_told how taken bytes (written bytes known))
      (λ e. absurd ((is_no_fault how taken).0 e)) (λ e. absurd ((is_no_fault how taken).1 e)))

  -- the source failed
  pub run_unread : ((bytes : List ℕ) → left_old ≡ Some bytes → IsReadInPart listing form limit bytes left sink sink_now) → Rose read_old read →
      Reports listing done form limit left_old left read_old read wrote_old wrote sink sink_now ReadFault
  run_unread unread rose =
      reports one listing done form limit left_old left read_old read wrote_old wrote sink sink_now ReadFault tt unread (λ e. rose) (λ e. absurd (cc e))

  -- the sink failed
  pub run_unwritten : ((bytes : List ℕ) → left_old ≡ Some bytes → IsWrittenInPart listing done form limit bytes left sink sink_now) → Rose wrote_old wrote →
      Reports listing done form limit left_old left read_old read wrote_old wrote sink sink_now WriteFault
  run_unwritten unwritten rose =
      reports one listing done form limit left_old left read_old read wrote_old wrote sink sink_now WriteFault tt unwritten (λ e. absurd (cc e)) (λ e. rose)
