-- Which verdict the rules on log and entry give, told by what the tests of the code say.
use Rattle.std.proofs.Common.{◌≡◌, ◌↔◌, ◌⊎◌, inl, inr, ℕ, zero, suc, ◌+◌, ◌<◌, ◌≤◌, List, [], ◌∷◌, ◌++◌, Some, None, length, take, refl, sym, ap, subst, ◌∙◌, arith}
use Rattle.std.proofs.lemmas.List.{get_or-take, length-take-le}
use Rattle.can_frame.specs.declared.entry.Entry.{Entry}
use Rattle.can_frame.specs.Log.{IsDistinctFromAll, IsInjective, blank, entry_at, last_term, log_limit}
use Rattle.raft_log.specs.MayFollow.{MayFollow}
use Rattle.raft_log.specs.Stored.{Stored}
use Rattle.raft_model.specs.Log.{term_at}
use Rattle.raft_model.specs.Messages.{Request}
use Rattle.raft_model.specs.Moves.Appending.{Adds, HasPrevious, IsBadEntry, IsRuled, IsThere, Verdict}
use Rattle.raft_model.specs.Moves.Appending.Verdict.{Outdated, Refused, Held, Added}
use Rattle.raft_core.specs.StoredPuts.{store_of}

none_some : {A : Type 0} (x : A) → None ≡ Some x → ⊥
none_some x e = cc

some_same : {A : Type 0} (x y : A) → Some x ≡ Some y → x ≡ y
some_same x y e = cc

-- ---- logs

last_of_take : (log : List Entry) (k : ℕ) → k ≤ length log → last_term (take k log) ≡ term_at log k
last_of_take [] zero within = refl
last_of_take (e ∷ log) zero within = refl
last_of_take log (suc i) within =
    let long : length (take (suc i) log) ≡ suc i = length-take-le (suc i) log within in
    ap (λ n. (entry_at (take (suc i) log) n).term) long ∙ ap (λ (e : Entry). e.term) (get_or-take (suc i) log i (blank 0) (omega arith))

-- ---- verdicts

pub no_previous : (s : Stored) (r : Request) → (HasPrevious (store_of s) r → ⊥) → (v : Verdict) → IsRuled (store_of s) r v → v ≡ Refused
no_previous s r none Outdated h = absurd h
no_previous s r none Refused h = refl
no_previous s r none Held h = absurd (none h.fits)
no_previous s r none (Added e) h = absurd (none h.fits)

pub no_entry : (s : Stored) (r : Request) → HasPrevious (store_of s) r → r.entry ≡ None → (v : Verdict) → IsRuled (store_of s) r v → v ≡ Held
no_entry s r fits none Outdated h = absurd h
no_entry s r fits none Refused (inl no_fit) = absurd (no_fit fits)
no_entry s r fits none Refused (inr bad) = absurd (none_some bad.0 (sym none ∙ bad.1))
no_entry s r fits none Held h = refl
no_entry s r fits none (Added e) h = absurd (none_some e (sym none ∙ h.carried))

module _ (s : Stored) (r : Request) (e : Entry) (is : r.entry ≡ Some e) where
  same_entry : (x : Entry) → r.entry ≡ Some x → x ≡ e
  same_entry x q = some_same x e (sym q ∙ is)

  -- the entry is there
  pub there : HasPrevious (store_of s) r → length s.log ≤ log_limit → IsThere (store_of s) r e → (v : Verdict) → IsRuled (store_of s) r v → v ≡ Held
  there fits short has Outdated h = absurd h
  there fits short has Refused (inl no_fit) = absurd (no_fit fits)
  there fits short has Refused (inr bad) = not_bad (subst (IsBadEntry (store_of s) r) (same_entry bad.0 bad.1) bad.2) where
    not_bad : IsBadEntry (store_of s) r e → Refused ≡ Held
    not_bad (inl far) = absurd (let below = has.0 in omega (arith, far, below, short))
    not_bad (inr other) = absurd (other.0 has)
  there fits short has Held h = refl
  there fits short has (Added x) h = absurd (h.not_there (subst (IsThere (store_of s) r) (sym (same_entry x h.carried)) has))

  -- the tests by which it may come into the log
  abbrev pub MayAdd : Type 0
  MayAdd = (r.previous < log_limit) × (s.commit ≤ r.previous) × MayFollow (take r.previous s.log) s.term e

  module _ (grows : (log : List Entry) (x : Entry) → IsInjective (log ++ x ∷ []) ↔ (IsInjective log × IsDistinctFromAll log x)) (front : (log : List Entry) (k : ℕ) → IsInjective log → IsInjective (take k log))
      (own : r.term ≡ s.term) (fits : HasPrevious (store_of s) r) (not_there : IsThere (store_of s) r e → ⊥) where
    may_add : Adds (store_of s) r e → MayAdd
    may_add a = (
      omega (arith, a.room),
      omega (arith, a.after_commit),
      record {
        formed = a.well_formed;
        order = subst (λ n. n ≤ e.term) (sym (last_of_take s.log r.previous fits.previous)) a.rises;
        bound = subst (λ n. e.term ≤ n) own a.below;
        distinct = ((grows (take r.previous s.log) e).0 a.injective).1;
      },
    )

    -- it may not
    pub refused : (MayAdd → ⊥) → (v : Verdict) → IsRuled (store_of s) r v → v ≡ Refused
    refused no_add Outdated h = absurd h
    refused no_add Refused h = refl
    refused no_add Held h = no_held h.has where
      no_held : (r.entry ≡ None) ⊎ ((x : Entry) × (r.entry ≡ Some x) × (r.previous + 1 ≤ log_limit) × IsThere (store_of s) r x) → Held ≡ Refused
      no_held (inl none) = absurd (none_some e (sym none ∙ is))
      no_held (inr has) = absurd (not_there (subst (IsThere (store_of s) r) (same_entry has.0 has.1) has.3))
    refused no_add (Added x) h = absurd (no_add (may_add (subst (Adds (store_of s) r) (same_entry x h.carried) h)))

    -- it may
    pub added : MayAdd → IsInjective s.log → (v : Verdict) → IsRuled (store_of s) r v → v ≡ Added e
    added may injective Outdated h = absurd h
    added may injective Refused (inl no_fit) = absurd (no_fit fits)
    added may injective Refused (inr bad) = not_bad (subst (IsBadEntry (store_of s) r) (same_entry bad.0 bad.1) bad.2) where
      follows : MayFollow (take r.previous s.log) s.term e
      follows = may.2

      not_bad : IsBadEntry (store_of s) r e → Refused ≡ Added e
      not_bad (inl far) = absurd (let room = may.0 in omega (arith, far, room))
      not_bad (inr (no_there, inl low)) = absurd (let kept = may.1 in omega (arith, low, kept))
      not_bad (inr (no_there, inr (inl malformed))) = absurd (malformed follows.formed)
      not_bad (inr (no_there, inr (inr (inl falls)))) = absurd (let order = subst (λ n. n ≤ e.term) (last_of_take s.log r.previous fits.previous) follows.order in omega (arith, falls, order))
      not_bad (inr (no_there, inr (inr (inr (inl high))))) = absurd (let bound = subst (λ n. e.term ≤ n) (sym own) follows.bound in omega (arith, high, bound))
      not_bad (inr (no_there, inr (inr (inr (inr twice))))) = absurd (twice ((grows (take r.previous s.log) e).1 (front s.log r.previous injective, follows.distinct)))
    added may injective Held h = no_held h.has where
      no_held : (r.entry ≡ None) ⊎ ((x : Entry) × (r.entry ≡ Some x) × (r.previous + 1 ≤ log_limit) × IsThere (store_of s) r x) → Held ≡ Added e
      no_held (inl none) = absurd (none_some e (sym none ∙ is))
      no_held (inr has) = absurd (not_there (subst (IsThere (store_of s) r) (same_entry has.0 has.1) has.3))
    added may injective (Added x) h = ap Added (same_entry x h.carried)
