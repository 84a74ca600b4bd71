-- What the steps of an append request put.
use Rattle.std.proofs.Common.{◌≡◌, ℕ, ◌+◌, ◌<◌, ◌≤◌, Bool, true, false, List, [], ◌∷◌, ◌++◌, length, take, min, Option, Some, None, refl, sym, ap, subst, ◌∙◌, arith, append_assoc}
use Rattle.std.specs.Prelude.{Result, Ok, Err, IfOk, IsTrue, is_none, nat_lt}
use Rattle.std.specs.Result.{result_err}
use Rattle.std.proofs.lemmas.Bool.Decides.{nat_tests}
use Rattle.can_frame.specs.declared.entry.Entry.{Entry}
use Rattle.disk_model.specs.declared.disk.Disk.{Ghosts}
use Rattle.kv_store.specs.declared.fault.Fault.{Fault}
use Rattle.raft_log.specs.declared.origin.TheConstants.{LEADER}
use Rattle.raft_log.specs.declared.durable.Durable.{Durable}
use Rattle.raft_log.specs.Calls.{FaultIsSticky, WritesInOrder}
use Rattle.raft_log.specs.DurableViews.{durable_state}
use Rattle.raft_log.specs.Stored.{Put as StoredPut}
use Rattle.raft_model.specs.Messages.{Request, items, reach}
use Rattle.raft_model.specs.Moves.Appending.{Verdict, append_puts, is_accepted}
use Rattle.raft_model.specs.Moves.Appending.Verdict.{Refused, Held, Added}
use Rattle.raft_model.specs.Server.{Put, Store}
use Rattle.raft_model.specs.Server.Put.{PutEntry, PutLonger, PutShorter, PutCommit}
use Rattle.raft_core.specs.Appending.{commit_puts, cut_to, write_puts}
use Rattle.raft_core.specs.StoredPuts.{CallWrites, with_origin, store_of}
use Rattle.raft_core.proofs.Puts.{does, fails}

pub lt_true : (a b : ℕ) → a < b → nat_lt a b ≡ true
lt_true a b less = grind (arith, nat_tests)

pub lt_false : (a b : ℕ) → b ≤ a → nat_lt a b ≡ false
lt_false a b more = grind (arith, nat_tests)

module _ {D : Type 0} {disk : Ghosts D} (old new : Durable D disk) (ok : Bool) (failed : Option Fault) (ended : ok ≡ is_none failed) where
  pub cut_made : (previous : ℕ) → previous < length (durable_state old).log → WritesInOrder (StoredPut.PutLast (take previous (durable_state old).log) (take previous (durable_state old).origins) ∷ []) old new ok → FaultIsSticky old new failed
      → CallWrites (with_origin LEADER (cut_to (store_of (durable_state old)) previous)) old new failed
  cut_made previous shorter made keeps = rw (lt_true previous (length (durable_state old).log) shorter) (does (with_origin LEADER (PutShorter previous ∷ [])) _ old new ok failed tt ended refl made keeps)

  pub commit_made : (place : ℕ) → (durable_state old).commit < place → WritesInOrder (StoredPut.PutCommit place ∷ []) old new ok → FaultIsSticky old new failed
      → CallWrites (with_origin LEADER (commit_puts (store_of (durable_state old)) place)) old new failed
  commit_made place later made keeps = rw (lt_true (durable_state old).commit place later) (does (with_origin LEADER (PutCommit place ∷ [])) _ old new ok failed tt ended refl made keeps)

-- nothing is to be put
module _ {D : Type 0} {disk : Ghosts D} (old new : Durable D disk) where
  pub cut_none : (previous : ℕ) → length (durable_state old).log ≤ previous → CallWrites [] old new None → CallWrites (with_origin LEADER (cut_to (store_of (durable_state old)) previous)) old new None
  cut_none previous longer none = rw (lt_false previous (length (durable_state old).log) longer) none

  pub commit_none : (place : ℕ) → place ≤ (durable_state old).commit → CallWrites [] old new None → CallWrites (with_origin LEADER (commit_puts (store_of (durable_state old)) place)) old new None
  commit_none place done none = rw (lt_false (durable_state old).commit place done) none

reach_none : (r : Request) → r.entry ≡ None → reach r ≡ r.previous
reach_none r none = ap (λ (o : Option Entry). r.previous + items o) none ∙ omega arith

reach_one : (r : Request) (e : Entry) → r.entry ≡ Some e → reach r ≡ r.previous + 1
reach_one r e one = ap (λ (o : Option Entry). r.previous + items o) one

module _ {D : Type 0} {disk : Ghosts D} (s : Store) (r : Request) (v : Verdict) where
  -- the puts of the verdict, and whether it accepts
  abbrev pub AnswersAs : Durable D disk → Durable D disk → Result Bool Fault → Verdict → Type 0
  AnswersAs old new result w = CallWrites (with_origin LEADER (append_puts s r w)) old new (result_err result) × IfOk result (λ success. success ≡ is_accepted w)

  pub refused_so : (old : Durable D disk) → v ≡ Refused → CallWrites [] old old None → AnswersAs old old (Ok false) v
  refused_so old is none = subst (AnswersAs old old (Ok false)) (sym is) (none, refl)

  module _ (old new : Durable D disk) (result : Result Bool Fault) where
    held_so : (place : ℕ) → v ≡ Held → min r.commit (reach r) ≡ place → CallWrites (with_origin LEADER (commit_puts s place)) old new (result_err result) → IfOk result (λ success. IsTrue success) → AnswersAs old new result v
    held_so place is reaches puts accepted = subst (AnswersAs old new result) (sym is) (subst (λ (k : ℕ). CallWrites (with_origin LEADER (commit_puts s k)) old new (result_err result)) (sym reaches) puts, accepted)

    pub held_without : (place : ℕ) → v ≡ Held → r.entry ≡ None → place ≡ min r.commit r.previous → CallWrites (with_origin LEADER (commit_puts s place)) old new (result_err result) → IfOk result (λ success. IsTrue success) → AnswersAs old new result v
    held_without place is none at_place = held_so place is (ap (min r.commit) (reach_none r none) ∙ sym at_place)

    -- what an added entry puts is what is written and what is committed
    all_puts : (e : Entry) (place : ℕ) → r.entry ≡ Some e → place ≡ min r.commit (r.previous + 1) → write_puts s r.previous e ++ commit_puts s place ≡ append_puts s r (Added e)
    all_puts e place one at_place = append_assoc (cut_to s r.previous) (PutEntry e ∷ PutLonger e ∷ []) (commit_puts s place)
        ∙ ap (λ (k : ℕ). cut_to s r.previous ++ (PutEntry e ∷ PutLonger e ∷ commit_puts s k)) (at_place ∙ sym (ap (min r.commit) (reach_one r e one)))

    pub added_so : (e : Entry) (place : ℕ) → v ≡ Added e → r.entry ≡ Some e → place ≡ min r.commit (r.previous + 1)
        → CallWrites (with_origin LEADER (write_puts s r.previous e ++ commit_puts s place)) old new (result_err result) → IfOk result (λ success. IsTrue success) → AnswersAs old new result v
    added_so e place is one at_place puts accepted = subst (AnswersAs old new result) (sym is) (subst (λ (l : List Put). CallWrites (with_origin LEADER l) old new (result_err result)) (all_puts e place one at_place) puts, accepted)

    pub added_cut : (e : Entry) (place : ℕ) (fault : Fault) → result ≡ Err fault → v ≡ Added e → r.entry ≡ Some e → place ≡ min r.commit (r.previous + 1)
        → CallWrites (with_origin LEADER (write_puts s r.previous e ++ commit_puts s place)) old new (Some fault) → AnswersAs old new result v
    added_cut e place fault failed is one at_place puts =
        added_so e place is one at_place (fails _ old new fault result failed puts) (subst (λ (r : Result Bool Fault). IfOk r (λ success. IsTrue success)) (sym failed) tt)
