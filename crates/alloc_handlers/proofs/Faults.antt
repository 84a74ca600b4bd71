-- Two calls, one after the other, keep faults as one does.
use Rattle.std.proofs.Common.{◌≡◌, sym, subst, Option, None, Some, Result, IsErr, IsErrAnd}
use Rattle.alloc_handlers.proofs.Words.{CallFaultIsSticky, Durable, Fault, Ghosts, PutsGoOn, result_err}
use Rattle.alloc_handlers.proofs.Taking.{given_on}

module _ {D : Type 0} {disk : Ghosts D} {old start mid new : Durable D disk} {failed : Option Fault} (laws : PutsGoOn D disk) where
  -- the first did not fail, and nothing is stored before it
  pub faults_in_turn : start ≡ old → CallFaultIsSticky start mid None → CallFaultIsSticky mid new failed → CallFaultIsSticky old new failed
  faults_in_turn before one two = subst (λ (d : Durable D disk). CallFaultIsSticky d new failed) before (laws.faults start mid new failed one two)

-- the second failed: `?` gives its fault on
module _ {T D : Type 0} {disk : Ghosts D} {old new : Durable D disk} {fault : Fault} where
  pub faults_failed : (result : Result T Fault) → IsErr result → IsErrAnd result (λ e. e ≡ fault) → CallFaultIsSticky old new (Some fault) → CallFaultIsSticky old new (result_err result)
  faults_failed result is same sticky = subst (λ (f : Option Fault). CallFaultIsSticky old new f) (sym (given_on result is same)) sticky
