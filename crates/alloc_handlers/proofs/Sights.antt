-- A step that goes on, with what it saw.
use Rattle.std.proofs.Common.{◌≡◌, Bool, true, false, Option, Some, Result, Ok, Err, IsErr, IsErrAnd, refl, sym, subst, ◌∙◌, if◌then◌else◌}
use Rattle.alloc_handlers.proofs.Words.{Durable, Fault, Ghosts, GoesTo, IsInStep, Member, Offered, SeesTo, StepResult, StepState, Took, is_listed, reads, result_err, took}
use Rattle.can_frame.specs.declared.step.Seen.{Seen}
use Rattle.transfer_rx.specs.Reassembly.{Delivery}
use Rattle.alloc_handlers.proofs.Choosing.{otherwise, then_}
use Rattle.alloc_handlers.proofs.Taking.{given_on, is_step_state}

-- the value of a payload that is one
pub read_as : {A : Type 0} (P : StepResult → Type 0) (does : A → StepState → StepState) (value : Option A) (a : A) (g : StepState) → Some a ≡ value → P (took (does a g)) → P (reads does value g)
read_as P does value a g is p = subst (λ (v : Option _). P (reads does v g)) is p

-- it goes on and has seen this
module _ {D : Type 0} {disk : Ghosts D} {start : Durable D disk} {member : Member D disk} {step_result : StepResult} {seen : Seen} where
  pub sees : seen ≡ step_result.seen → IsInStep start member step_result.step_state → SeesTo start member step_result (Ok seen)
  sees is h = record { goes = is_step_state h; seen = is }

-- a put failed: what would have been seen does not matter
module _ {D : Type 0} {disk : Ghosts D} {start : Durable D disk} {member : Member D disk} {step_result : StepResult} {fault : Fault} where
  of_fault : (result : Result Seen Fault) → result_err result ≡ Some fault → GoesTo start member step_result.step_state (Some fault) → SeesTo start member step_result result
  of_fault (Ok seen) is goes = cc
  of_fault (Err e) is goes = record { goes = subst (λ (f : Option Fault). GoesTo start member step_result.step_state f) (sym is) goes; seen = tt }

  pub sees_failed : (result : Result Seen Fault) → IsErr result → IsErrAnd result (λ e. e ≡ fault) → GoesTo start member step_result.step_state (Some fault) → SeesTo start member step_result result
  sees_failed result is same goes = of_fault result (given_on result is same) goes

-- a value that counts from a source on the list alone
abbrev pub if_listed : {A : Type 0} → Delivery → (A → StepState → StepState) → A → StepState → StepState
if_listed d does a g = if is_listed d g.allocator then does a g else g

-- one that could be read, from a source that is on the list, and from one that is not
module _ {D A : Type 0} {disk : Ghosts D} {start : Durable D disk} {member : Member D disk} {value : Option A} {a : A} {g : StepState} (does : A → StepState → StepState) (d : Delivery) (is : Some a ≡ value) (listed : Bool)
    (here : listed ≡ is_listed d g.allocator) where
  pub reads_listed : {result : Result Seen Fault} → listed ≡ true → SeesTo start member (took (does a g)) result → SeesTo start member (reads (if_listed d does) value g) result
  reads_listed {result} on seen =
      read_as (λ (r : StepResult). SeesTo start member r result) (if_listed d does) value a g is
      (then_ (λ (x : StepState). SeesTo start member (took x) result) _ _ _ (sym here ∙ on) seen)

  pub reads_unlisted : listed ≡ false → IsInStep start member g → SeesTo start member (reads (if_listed d does) value g) (Ok Took)
  reads_unlisted not h =
      read_as (λ (r : StepResult). SeesTo start member r (Ok Took)) (if_listed d does) value a g is
      (otherwise (λ (x : StepState). SeesTo start member (took x) (Ok Took)) _ _ _ (sym here ∙ not) (sees refl h))
