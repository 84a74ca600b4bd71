-- Puts of the Raft model as they are made of a stored state, one after another.
use Rattle.std.proofs.Common.{◌≡◌, ◌⊎◌, inl, inr, ℕ, List, [], ◌∷◌, ◌++◌, Option, Some, None, refl, sym, ap, subst, ◌∙◌}
use Rattle.std.specs.Prelude.{⊤, Bool, true, false, Result, Ok, Err, IfSome, is_ok, is_none}
use Rattle.std.specs.Result.{result_err}
use Rattle.disk_model.specs.declared.disk.Disk.{Ghosts}
use Rattle.kv_store.specs.declared.fault.Fault.{Fault}
use Rattle.outside.specs.Faults.{Rose}
use Rattle.raft_log.specs.declared.durable.Durable.{Durable}
use Rattle.raft_log.specs.Calls.{FaultIsSticky, WritesInOrder}
use Rattle.raft_log.specs.DurableViews.{durable_disk, durable_fault, durable_state}
use Rattle.raft_log.specs.Stored.{Stored, after_put, after_puts, Put as StoredPut}
use Rattle.raft_model.specs.Server.{Put}
use Rattle.raft_core.specs.StoredPuts.{CallWrites, IsStill, CallFaultIsSticky, PutWithOrigin, with_origin, stored_put, stored_puts}

noted_both : (origin : ℕ) (xs ys : List Put) → with_origin origin (xs ++ ys) ≡ with_origin origin xs ++ with_origin origin ys
noted_both origin [] ys = refl
noted_both origin (x ∷ xs) ys = ap (λ (rest : List PutWithOrigin). record { put = x; origin = origin } ∷ rest) (noted_both origin xs ys)

stored_both : (xs ys : List PutWithOrigin) (s : Stored) → stored_puts (xs ++ ys) s ≡ stored_puts xs s ++ stored_puts ys (after_puts (stored_puts xs s) s)
stored_both [] ys s = refl
stored_both (x ∷ xs) ys s = ap (λ (rest : List StoredPut). stored_put x s ∷ rest) (stored_both xs ys (after_put (stored_put x s) s))

abbrev IsSomePut : List PutWithOrigin → Type 0
IsSomePut [] = ⊥
IsSomePut (put ∷ puts) = ⊤

front_none : (xs ys : List PutWithOrigin) → xs ++ ys ≡ [] → xs ≡ []
front_none [] ys none = refl
front_none (x ∷ xs) ys none = absurd (subst IsSomePut none tt)

back_none : (xs ys : List PutWithOrigin) → xs ++ ys ≡ [] → ys ≡ []
back_none [] ys none = none
back_none (x ∷ xs) ys none = absurd (subst IsSomePut none tt)

known : {A : Type 0} (o : Option A) → (o ≡ None) ⊎ ((a : A) × (o ≡ Some a))
known None = inl refl
known (Some a) = inr (a, refl)

pub none_failed : {T E : Type 0} (r : Result T E) → is_ok r ≡ is_none (result_err r)
none_failed (Ok value) = refl
none_failed (Err error) = refl

all_kept : (failed now : Option Fault) → now ≡ failed → IfSome failed (λ fault. now ≡ Some fault)
all_kept None now same = tt
all_kept (Some fault) now same = same

module _ {D : Type 0} {disk : Ghosts D} where
  pub still : (durable : Durable D disk) → IsStill durable durable
  still durable = record { disk = refl; state = refl; fault = refl }

  then_still : (old mid new : Durable D disk) → IsStill old mid → IsStill mid new → IsStill old new
  then_still old mid new first second = record { disk = second.disk ∙ first.disk; state = second.state ∙ first.state; fault = second.fault ∙ first.fault }

  -- no put at all
  pub nothing : (durable : Durable D disk) → WritesInOrder [] durable durable true → (durable_fault durable ≡ None → FaultIsSticky durable durable None) → CallWrites [] durable durable None
  nothing durable made keeps = record { made = made; needed = λ none. refl; faults = record { works = keeps; still = λ fault was. still durable; kept = tt } }

  -- the first puts failed
  pub cut_off : (xs ys : List PutWithOrigin) (old new : Durable D disk) (fault : Fault)
      → ((xs ys : List StoredPut) → WritesInOrder xs old new false → WritesInOrder (xs ++ ys) old new false)
      → CallWrites xs old new (Some fault) → CallWrites (xs ++ ys) old new (Some fault)
  cut_off xs ys old new fault law first = let s = durable_state old in record {
    made = subst (λ (l : List StoredPut). WritesInOrder l old new false) (sym (stored_both xs ys s)) (law (stored_puts xs s) (stored_puts ys (after_puts (stored_puts xs s) s)) first.made);
    needed = λ none. first.needed (front_none xs ys none);
    faults = first.faults;
  }

  pub all_faults : (old mid new : Durable D disk) (failed : Option Fault)
      → (FaultIsSticky old mid None → (durable_fault mid ≡ None → FaultIsSticky mid new failed) → FaultIsSticky old new failed)
      → CallFaultIsSticky old mid None → CallFaultIsSticky mid new failed → CallFaultIsSticky old new failed
  all_faults old mid new failed keeps first second = record {
    works = λ works. keeps (first.works works) second.works;
    still = λ fault was. let before = first.still fault was in then_still old mid new before (second.still fault (before.fault ∙ was));
    kept = second.kept;
  }

  -- the first puts were done, and then the others were made
  pub joined : (xs ys : List PutWithOrigin) (old mid new : Durable D disk) (failed : Option Fault)
      → ((xs ys : List StoredPut) → WritesInOrder xs old mid true → (durable_fault old ≡ None → FaultIsSticky old mid None) → WritesInOrder ys mid new (is_none failed) → WritesInOrder (xs ++ ys) old new (is_none failed))
      → (FaultIsSticky old mid None → (durable_fault mid ≡ None → FaultIsSticky mid new failed) → FaultIsSticky old new failed)
      → CallWrites xs old mid None → CallWrites ys mid new failed → CallWrites (xs ++ ys) old new failed
  joined xs ys old mid new failed law keeps first second = let s = durable_state old in record {
    made = subst (λ (l : List StoredPut). WritesInOrder l old new (is_none failed)) (sym (stored_both xs ys s))
        (law (stored_puts xs s) (stored_puts ys (after_puts (stored_puts xs s) s)) first.made first.faults.works
        (subst (λ (state : Stored). WritesInOrder (stored_puts ys state) mid new (is_none failed)) (first.made.state refl) second.made));
    needed = λ none. second.needed (back_none xs ys none);
    faults = all_faults old mid new failed keeps first.faults second.faults;
  }

  -- one call of the store made these puts
  pub does : (puts : List PutWithOrigin) (stored : List StoredPut) (old new : Durable D disk) (ok : Bool) (failed : Option Fault) → IsSomePut puts → ok ≡ is_none failed
      → stored_puts puts (durable_state old) ≡ stored → WritesInOrder stored old new ok → FaultIsSticky old new failed → CallWrites puts old new failed
  does puts stored old new ok failed some ended same made keeps = record {
    made = subst (λ (l : List StoredPut). WritesInOrder l old new (is_none failed)) (sym same) (subst (WritesInOrder stored old new) ended made);
    needed = λ none. absurd (subst IsSomePut none some);
    faults = record {
      works = λ works. keeps;
      still = λ fault was. closed fault was (subst (λ (o : Option Fault). IfSome o (λ fault. (failed ≡ Some fault) × (durable_disk new ≡ durable_disk old) × (durable_state new ≡ durable_state old))) was keeps.closed);
      kept = all_kept failed (durable_fault new) keeps.kept;
    };
  } where
    closed : (fault : Fault) → durable_fault old ≡ Some fault → (failed ≡ Some fault) × (durable_disk new ≡ durable_disk old) × (durable_state new ≡ durable_state old) → IsStill old new
    closed fault was told = record { disk = told.1; state = told.2; fault = keeps.kept ∙ (told.0 ∙ sym was) }

  -- a call that hands a fault on
  pub fails : {U : Type 0} (puts : List PutWithOrigin) (old new : Durable D disk) (fault : Fault) (result : Result U Fault) → result ≡ Err fault → CallWrites puts old new (Some fault) → CallWrites puts old new (result_err result)
  fails puts old new fault result is done = subst (λ (r : Result _ Fault). CallWrites puts old new (result_err r)) (sym is) done

  pub faults_at : {U : Type 0} (old new : Durable D disk) (fault : Fault) (result : Result U Fault) → result ≡ Err fault → CallFaultIsSticky old new (Some fault) → CallFaultIsSticky old new (result_err result)
  faults_at old new fault result is keeps = subst (λ (r : Result _ Fault). CallFaultIsSticky old new (result_err r)) (sym is) keeps

  pub none_made : (origin : ℕ) (puts : List Put) (durable : Durable D disk) (failed : Option Fault) → puts ≡ [] → CallWrites [] durable durable failed → CallWrites (with_origin origin puts) durable durable failed
  none_made origin puts durable failed none made = subst (λ (l : List Put). CallWrites (with_origin origin l) durable durable failed) (sym none) made

  -- puts of one origin
  pub alike : (origin : ℕ) (xs ys : List Put) (old new : Durable D disk) (failed : Option Fault) → CallWrites (with_origin origin xs ++ with_origin origin ys) old new failed → CallWrites (with_origin origin (xs ++ ys)) old new failed
  alike origin xs ys old new failed made = subst (λ (l : List PutWithOrigin). CallWrites l old new failed) (sym (noted_both origin xs ys)) made

  -- where no call of the disk failed, a call that failed changed nothing
  pub quiet : (old new : Durable D disk) (fault : Fault) → CallFaultIsSticky old new (Some fault) → (Rose (disk.faults (durable_disk old)) (disk.faults (durable_disk new)) → ⊥) → IsStill old new
  quiet old new fault keeps none = elim (known (durable_fault old)) [
    | inl works ↦ absurd (none ((keeps.works works).cause works).1)
    | inr was ↦ keeps.still was.0 was.1
  ]
