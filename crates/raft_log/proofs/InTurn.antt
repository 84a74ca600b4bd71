-- Puts that were made by two calls, one after the other.
use Rattle.std.proofs.Common.{◌≡◌, ◌⊎◌, inl, inr, ℕ, ◌-◌, ◌≤◌, List, [], ◌∷◌, ◌++◌, Bool, true, false, refl, sym, ap, subst, ◌∙◌, arith}
use Rattle.std.specs.Prelude.{Option, None, Some, IfSome, OnOk, Result, Ok, Err, is_ok}
use Rattle.disk_model.specs.declared.disk.Disk.{Ghosts}
use Rattle.disk_model.specs.Device.{DeviceCall, Makes}
use Rattle.kv_store.specs.declared.fault.Fault.{Fault}
use Rattle.kv_store.specs.Image.{put_calls, turned}
use Rattle.outside.specs.Faults.{Rose}
use Rattle.raft_log.specs.declared.durable.Durable.{Durable}
use Rattle.raft_log.specs.Allowed.{AreAllowed, nexts_after}
use Rattle.raft_log.specs.Calls.{IsCutAt, FaultIsSticky, WritesInOrder, WritesInOrderAfter}
use Rattle.raft_log.specs.DeviceCalls.{bytes_of, copies_after, device_calls, key_of}
use Rattle.raft_log.specs.DurableViews.{durable_copies, durable_disk, durable_fault, durable_state}
use Rattle.raft_log.specs.Rules.{AlwaysStandsForState, StandsForState}
use Rattle.raft_log.specs.Stored.{AfterSome, AtOne, Kept, Put, Stored, after_put, after_puts}
use Rattle.raft_log.proofs.AllowedPuts.{allowed_then}

-- the states and device calls of two lists of puts
after_both : (xs ys : List Put) (s : Stored) → after_puts (xs ++ ys) s ≡ after_puts ys (after_puts xs s)
after_both [] ys s = refl
after_both (x ∷ xs) ys s = after_both xs ys (after_put x s)

copies_both : (xs ys : List Put) (s : Stored) (c : ℕ → ℕ) → copies_after (xs ++ ys) s c ≡ copies_after ys (after_puts xs s) (copies_after xs s c)
copies_both [] ys s c = refl
copies_both (x ∷ xs) ys s c = copies_both xs ys (after_put x s) (turned (key_of x s) c)

calls_both : (xs ys : List Put) (s : Stored) (c : ℕ → ℕ) → device_calls (xs ++ ys) s c ≡ device_calls xs s c ++ device_calls ys (after_puts xs s) (copies_after xs s c)
calls_both [] ys s c = refl
calls_both (x ∷ xs) ys s c = ap (λ (rest : List DeviceCall). put_calls (key_of x s) (1 - c (key_of x s)) (bytes_of x) ++ rest) (calls_both xs ys (after_put x s) (turned (key_of x s) c))

at_once : (fact : Stored → Type 0) (puts : List Put) (s : Stored) → fact s → AfterSome fact puts s
at_once fact [] s here = here
at_once fact (put ∷ puts) s here = inl here

some_of_first : (fact : Stored → Type 0) (xs ys : List Put) (s : Stored) → AfterSome fact xs s → AfterSome fact (xs ++ ys) s
some_of_first fact [] ys s here = at_once fact ys s here
some_of_first fact (x ∷ xs) ys s (inl here) = inl here
some_of_first fact (x ∷ xs) ys s (inr there) = inr (some_of_first fact xs ys (after_put x s) there)

some_of_second : (fact : Stored → Type 0) (xs ys : List Put) (s : Stored) → AfterSome fact ys (after_puts xs s) → AfterSome fact (xs ++ ys) s
some_of_second fact [] ys s there = there
some_of_second fact (x ∷ xs) ys s there = inr (some_of_second fact xs ys (after_put x s) there)

one_of_first : (fact : Stored → Stored → Type 0) (xs ys : List Put) (s : Stored) → AtOne fact xs s → AtOne fact (xs ++ ys) s
one_of_first fact [] ys s none = elim none [ ]
one_of_first fact (x ∷ xs) ys s (inl here) = inl here
one_of_first fact (x ∷ xs) ys s (inr there) = inr (one_of_first fact xs ys (after_put x s) there)

one_of_second : (fact : Stored → Stored → Type 0) (xs ys : List Put) (s : Stored) → AtOne fact ys (after_puts xs s) → AtOne fact (xs ++ ys) s
one_of_second fact [] ys s there = there
one_of_second fact (x ∷ xs) ys s there = inr (one_of_second fact xs ys (after_put x s) there)

-- the device calls of two lists
module _ {D : Type 0} (does : D → DeviceCall → Bool → D → Type 0) where
  pub calls_joined : (xs ys : List DeviceCall) (ok : Bool) (old between new : D) → Makes does xs true old between → Makes does ys ok between new → Makes does (xs ++ ys) ok old new
  calls_joined [] ys ok old between new none rest = subst (λ d. Makes does ys ok d new) none.1 rest
  calls_joined (x ∷ xs) ys ok old between new (inl failed) rest = absurd (cc (failed.0))
  calls_joined (x ∷ xs) ys ok old between new (inr first) rest = inr (first.0, first.1, calls_joined xs ys ok first.0 between new first.2 rest)

  pub calls_parted : (xs ys : List DeviceCall) (ok : Bool) (old new : D) → Makes does (xs ++ ys) ok old new
      → ((ok ≡ false) × Makes does xs false old new) ⊎ ((between : D) × Makes does xs true old between × Makes does ys ok between new)
  calls_parted [] ys ok old new made = inr (old, (refl, refl), made)
  calls_parted (x ∷ xs) ys ok old new (inl failed) = inl (failed.0, inl (refl, failed.1))
  calls_parted (x ∷ xs) ys ok old new (inr first) = longer (calls_parted xs ys ok first.0 new first.2) where
    longer : ((ok ≡ false) × Makes does xs false first.0 new) ⊎ ((between : D) × Makes does xs true first.0 between × Makes does ys ok between new)
        → ((ok ≡ false) × Makes does (x ∷ xs) false old new) ⊎ ((between : D) × Makes does (x ∷ xs) true old between × Makes does ys ok between new)
    longer (inl failed) = inl (failed.0, inr (first.0, first.1, failed.1))
    longer (inr rest) = inr (rest.0, inr (first.0, first.1, rest.1), rest.2)

  calls_cut : (xs ys : List DeviceCall) (old new : D) → Makes does xs false old new → Makes does (xs ++ ys) false old new
  calls_cut [] ys old new none = absurd (cc (none.0))
  calls_cut (x ∷ xs) ys old new (inl failed) = inl failed
  calls_cut (x ∷ xs) ys old new (inr first) = inr (first.0, first.1, calls_cut xs ys first.0 new first.2)

-- a fact that holds where a call succeeded
pub on_ok : {T E : Type 0} (result : Result T E) (P : Type 0) → (is_ok result ≡ true → P) → OnOk result P
on_ok (Ok value) P there = there refl
on_ok (Err error) P there = tt

joined_lists : (xs ys zs : List Put) → xs ++ (ys ++ zs) ≡ (xs ++ ys) ++ zs
joined_lists [] ys zs = refl
joined_lists (x ∷ xs) ys zs = ap (λ (l : List Put). x ∷ l) (joined_lists xs ys zs)

pub cause_still : (before between now : ℕ) (failed : Option Fault) → before ≤ between → IfSome failed (λ f. (f.count ≡ now) × Rose between now) → IfSome failed (λ f. (f.count ≡ now) × Rose before now)
cause_still before between now None later none = tt
cause_still before between now (Some f) later some = (some.0, omega (arith, later, some.1))

open_yet : (fault : Option Fault) (P : Fault → Type 0) → fault ≡ None → IfSome fault P
open_yet None P works = tt
open_yet (Some f) P works = absurd (cc works)

-- a store that had failed answers its fault
was_open : (fault : Option Fault) (P Q : Type 0) → IfSome fault (λ f. (None ≡ Some f) × P × Q) → fault ≡ None
was_open None P Q closed = refl
was_open (Some f) P Q closed = let none : None ≡ Some f = closed.0 in absurd (cc none)

module _ {D : Type 0} {disk : Ghosts D} where
  -- the first puts failed
  pub cut_short : (next : Option Kept) (xs ys : List Put) (old new : Durable D disk) → WritesInOrderAfter next xs old new false → WritesInOrderAfter next (xs ++ ys) old new false
  cut_short next xs ys old new first = record {
    state = λ done. absurd (cc done);
    durable = λ works done. absurd (cc done);
    cut = λ works failed. one_of_first (IsCutAt new) xs ys (durable_state old) (first.cut works refl);
    stop = λ works told image left. some_of_first (StandsForState image) xs ys (durable_state old) (first.stop works told image left);
    made = λ works. subst (λ (calls : List DeviceCall). Makes disk.does calls false (durable_disk old) (durable_disk new)) (sym (calls_both xs ys (durable_state old) (durable_copies old)))
        (calls_cut disk.does (device_calls xs (durable_state old) (durable_copies old)) (device_calls ys (after_puts xs (durable_state old)) (copies_after xs (durable_state old) (durable_copies old))) (durable_disk old) (durable_disk new) (first.made works));
    copies = λ done. absurd (cc done);
    allowed = λ done. absurd (cc done);
    tried = λ failed. let t = first.tried refl in record { tried = t.tried; others = t.others ++ ys; are = ap (λ (l : List Put). l ++ ys) t.are ∙ sym (joined_lists t.tried t.others ys); allowed = t.allowed; made = t.made };
  }

  pub cut_by : {T : Type 0} (next : Option Kept) (xs ys : List Put) (old new : Durable D disk) (result : Result T Fault) (fault : Fault) → result ≡ Err fault
      → WritesInOrderAfter next xs old new false → WritesInOrderAfter next (xs ++ ys) old new (is_ok result)
  cut_by {T} next xs ys old new result fault is first = subst (λ (r : Result T Fault). WritesInOrderAfter next (xs ++ ys) old new (is_ok r)) (sym is) (cut_short next xs ys old new first)

  -- the first puts were done, and then the others were made
  module _ (next then : Option Kept) (xs ys : List Put) (old mid new : Durable D disk) (ok : Bool) (first : WritesInOrderAfter next xs old mid true) (keeps : durable_fault old ≡ None → FaultIsSticky old mid None) where
    abbrev between : Stored
    between = after_puts xs (durable_state old)

    abbrev copied : ℕ → ℕ
    copied = copies_after xs (durable_state old) (durable_copies old)

    -- the device calls of both
    calls_made : (zs : List Put) (ok : Bool) → durable_fault old ≡ None → Makes disk.does (device_calls zs (durable_state mid) (durable_copies mid)) ok (durable_disk mid) (durable_disk new)
        → Makes disk.does (device_calls (xs ++ zs) (durable_state old) (durable_copies old)) ok (durable_disk old) (durable_disk new)
    calls_made zs ok works made = subst (λ (calls : List DeviceCall). Makes disk.does calls ok (durable_disk old) (durable_disk new)) (sym (calls_both xs zs (durable_state old) (durable_copies old)))
        (calls_joined disk.does (device_calls xs (durable_state old) (durable_copies old)) (device_calls zs between copied) ok (durable_disk old) (durable_disk mid) (durable_disk new) (first.made works)
        (subst (λ s. Makes disk.does (device_calls zs s copied) ok (durable_disk mid) (durable_disk new)) (first.state refl)
        (subst (λ c. Makes disk.does (device_calls zs (durable_state mid) c) ok (durable_disk mid) (durable_disk new)) (first.copies refl) made)))

    -- the second puts are allowed after the first
    module _ (still : (zs : List Put) (s : Stored) → AreAllowed zs s then → AreAllowed zs s (nexts_after xs next)) where
      both_allowed : (zs : List Put) → AreAllowed zs (durable_state mid) then → AreAllowed (xs ++ zs) (durable_state old) next
      both_allowed zs allowed = allowed_then xs zs (durable_state old) next (first.allowed refl) (subst (λ s. AreAllowed zs s (nexts_after xs next)) (first.state refl) (still zs (durable_state mid) allowed))

      pub puts_after : WritesInOrderAfter then ys mid new ok → WritesInOrderAfter next (xs ++ ys) old new ok
      puts_after rest = record {
        state = λ done. rest.state done ∙ (ap (after_puts ys) (first.state refl) ∙ sym (after_both xs ys (durable_state old)));
        durable = λ works done told. rest.durable (keeps works).kept done ((keeps works).tells ∙ told);
        cut = λ works failed. one_of_second (IsCutAt new) xs ys (durable_state old) (subst (λ s. AtOne (IsCutAt new) ys s) (first.state refl) (rest.cut (keeps works).kept failed));
        stop = λ works told image left. some_of_second (StandsForState image) xs ys (durable_state old)
            (subst (λ s. AfterSome (StandsForState image) ys s) (first.state refl) (rest.stop (keeps works).kept ((keeps works).tells ∙ told) image left));
        made = λ works. calls_made ys ok works (rest.made (keeps works).kept);
        copies = λ done. rest.copies done
            ∙ (ap (λ s. copies_after ys s (durable_copies mid)) (first.state refl) ∙ (ap (copies_after ys between) (first.copies refl) ∙ sym (copies_both xs ys (durable_state old) (durable_copies old))));
        allowed = λ done. both_allowed ys (rest.allowed done);
        tried = λ failed. let t = rest.tried failed in record {
          tried = xs ++ t.tried;
          others = t.others;
          are = ap (λ (l : List Put). xs ++ l) t.are ∙ joined_lists xs t.tried t.others;
          allowed = both_allowed t.tried t.allowed;
          made = λ works. calls_made t.tried false works (t.made (keeps works).kept);
        };
      }

  pub fault_after : (old mid new : Durable D disk) (failed : Option Fault) → FaultIsSticky old mid None → (durable_fault mid ≡ None → FaultIsSticky mid new failed) → FaultIsSticky old new failed
  fault_after old mid new failed keeps then =
      let rest = then keeps.kept in record {
        closed = open_yet (durable_fault old) _ (was_open (durable_fault old) (durable_disk mid ≡ durable_disk old) (durable_state mid ≡ durable_state old) keeps.closed);
        kept = rest.kept;
        cause = λ works. cause_still _ _ _ failed keeps.later (rest.cause keeps.kept);
        tells = rest.tells ∙ keeps.tells;
        later = omega (arith, keeps.later, rest.later);
      }

  -- no put at all
  pub without_puts : (durable : Durable D disk)
      → (durable_fault durable ≡ None → disk.tells (durable_disk durable) ≡ true → AlwaysStandsForState (disk.contents (durable_disk durable)) (durable_state durable)) → WritesInOrder [] durable durable true
  without_puts durable always = record {
    state = λ done. refl;
    durable = λ works done. always works;
    cut = λ works failed. absurd (cc failed);
    stop = always;
    made = λ works. (refl, refl);
    copies = λ done. refl;
    allowed = λ done. tt;
    tried = λ failed. absurd (cc failed);
  }

  pub unchanged : (durable : Durable D disk) → durable_fault durable ≡ None → FaultIsSticky durable durable None
  unchanged durable works = record {
    closed = open_yet (durable_fault durable) _ works;
    kept = works;
    cause = λ w. tt;
    tells = refl;
    later = omega arith;
  }
