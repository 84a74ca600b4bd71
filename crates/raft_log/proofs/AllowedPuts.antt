-- A put that is allowed leaves a map that stores the state after it.
use Rattle.std.proofs.Common.{◌≡◌, ◌⊎◌, inl, inr, ℕ, ◌+◌, ◌<◌, ◌≤◌, ◌^◌, List, [], ◌∷◌, ◌++◌, length, take, get_or, refl, sym, ap, subst, ◌∙◌, arith}
use Rattle.std.specs.Prelude.{Option, None, Some}
use Rattle.std.specs.Int.{to_le_bytes, w32}
use Rattle.can_frame.specs.declared.entry.Entry.{Entry}
use Rattle.can_frame.specs.Log.{blank}
use Rattle.kv_store.specs.Image.{put_in}
use Rattle.raft_log.specs.Allowed.{AreAllowed, Fits, IsAllowed, IsBare, IsCut, IsLonger, IsNext, next_after, nexts_after}
use Rattle.raft_log.specs.DeviceCalls.{bytes_of, entry_bytes, key_of}
use Rattle.raft_log.specs.MayFollow.{IsStorable}
use Rattle.raft_log.specs.Rules.{HasEntry, Stores, number_of}
use Rattle.raft_log.specs.Stored.{Kept, Put, Stored, after_put, after_puts}
use Rattle.raft_log.specs.Stored.Put.{PutTerm, PutVote, PutEntry, PutLast, PutCommit, PutOrigin, PutVersion}
use Rattle.raft_log.proofs.Kept.{storable_after}
use Rattle.raft_log.proofs.Puts.{AreThere, Changes, cut_there, longer_there, put_behind, put_changes, put_commit, put_last, put_origin, put_term, put_version, put_vote}

pub term_again : (term : ℕ) → term < 2 ^ 32 → number_of (to_le_bytes w32 term) ≡ term
term_again term fits = omega arith

-- an entry and its origin are read again from their bytes
has_entry : (entry : Entry) (origin : ℕ) → Fits entry origin → HasEntry entry (Some origin) (entry_bytes entry origin)
has_entry entry origin fits = record { least = omega (arith, fits.size); most = omega (arith, fits.size); entry_is = fits.again; origin_is = fits.origin_again }

-- what stands after the last still does where another key is put
next_kept : (map : ℕ → List ℕ) (s s' : Stored) (next : Option Kept) (key : ℕ) (value : List ℕ) → s'.log ≡ s.log → key < 5 + length s.log → IsNext map s next → IsNext (put_in map key value) s' next
next_kept map s s' None key value same low at = tt
next_kept map s s' (Some kept) key value same low at =
    let changed : Changes key value map (put_in map key value) = put_changes map key value value refl in
    (ap (λ (l : List Entry). put_in map key value (5 + length l)) same ∙ changed.same (5 + length s.log) (λ e. omega (arith, e, low)) ∙ at.0, at.1)

abbrev pub Step : (ℕ → List ℕ) → Stored → Option Kept → Put → Type 0
Step map s next put = Stores (put_in map (key_of put s) (bytes_of put)) (after_put put s) × IsNext (put_in map (key_of put s) (bytes_of put)) (after_put put s) (next_after put next)

cut_step : (map : ℕ → List ℕ) (s : Stored) (next : Option Kept) (log : List Entry) (origins : List (Option ℕ)) → Stores map s → (cut : IsCut log origins s) → IsStorable (record s { log = log; origins = origins })
    → Step map s next (PutLast log origins)
cut_step map s next log origins has cut storable = (
  put_last map s has 3 (length log ∷ []) log origins refl (record { size = omega arith; byte_is = refl }) storable
      (subst (λ (l : List Entry). AreThere map l origins) (sym cut.is) (subst (λ (o : List (Option ℕ)). AreThere map (take cut.place s.log) o) (sym cut.origins_are) (cut_there map s.log s.origins cut.place cut.within has.entries))),
  tt,
)

longer_step : (map : ℕ → List ℕ) (s : Stored) (next : Option Kept) (log : List Entry) (origins : List (Option ℕ)) → Stores map s → IsNext map s next → (longer : IsLonger log origins s next)
    → IsStorable (record s { log = log; origins = origins }) → Step map s next (PutLast log origins)
longer_step map s next log origins has at longer storable =
    let entry = longer.kept.entry in
    let origin = longer.kept.origin in
    let stands : (map (5 + length s.log) ≡ entry_bytes entry origin) × Fits entry origin = subst (λ o. IsNext map s o) longer.there at in
    let there : HasEntry entry (Some origin) (map (5 + length s.log)) = subst (λ (v : List ℕ). HasEntry entry (Some origin) v) (sym stands.0) (has_entry entry origin stands.1) in (
      put_last map s has 3 (length log ∷ []) log origins refl (record { size = omega arith; byte_is = refl }) storable
          (subst (λ (l : List Entry). AreThere map l origins) (sym longer.is)
          (subst (λ (o : List (Option ℕ)). AreThere map (s.log ++ entry ∷ []) o) (sym longer.origins_are) (longer_there map s.log s.origins entry origin has.storable.count has.entries there))),
      tt,
    )

step_by : (map : ℕ → List ℕ) (s : Stored) (next : Option Kept) (put : Put) → Stores map s → IsNext map s next → IsAllowed put s next → IsStorable (after_put put s) → Step map s next put
step_by map s next (PutTerm term) has at allowed storable = (
  put_term map s has 1 (to_le_bytes w32 term) term refl (record { size = λ some. refl; number = term_again term allowed.1 }) storable,
  next_kept map s (record s { term = term }) next 1 (to_le_bytes w32 term) refl (omega arith) at,
)
step_by map s next (PutVote node) has at allowed storable =
    (put_vote map s has 2 (node ∷ []) node refl (record { size = omega arith; byte_is = refl }) storable, next_kept map s (record s { vote = node }) next 2 (node ∷ []) refl (omega arith) at)
step_by map s next (PutCommit index) has at allowed storable =
    (put_commit map s has 4 (index ∷ []) index refl (record { size = omega arith; byte_is = refl }) storable, next_kept map s (record s { commit = index }) next 4 (index ∷ []) refl (omega arith) at)
step_by map s next (PutEntry entry origin) has at allowed storable =
    let key = 5 + length s.log in (put_behind map s has key (entry_bytes entry origin) (omega arith), ((put_changes map key (entry_bytes entry origin) (entry_bytes entry origin) refl).new, allowed.2))
step_by map s next (PutLast log origins) has at (inl cut) storable = cut_step map s next log origins has cut storable
step_by map s next (PutLast log origins) has at (inr longer) storable = longer_step map s next log origins has at longer storable
step_by map s next (PutOrigin place entry) has at allowed storable =
    let bare : IsBare place entry s = allowed.0 in
    let there : HasEntry (get_or s.log place (blank 0)) (Some 0) (entry_bytes entry 0) = subst (λ (e : Entry). HasEntry e (Some 0) (entry_bytes entry 0)) (sym bare.there) (has_entry entry 0 allowed.1) in (
      put_origin map s has (5 + place) (entry_bytes entry 0) place 0 refl bare.within there storable,
      next_kept map s (after_put (PutOrigin place entry) s) next (5 + place) (entry_bytes entry 0) refl (omega (arith, bare.within)) at,
    )
step_by map s next PutVersion has at allowed storable = (
  put_version map s has 0 (2 ∷ []) 2 refl (record { size = record { size = omega arith; least = λ some. omega arith; most = omega arith }; number = refl }) storable,
  next_kept map s (record s { version = 2 }) next 0 (2 ∷ []) refl (omega arith) at,
)

pub step : (map : ℕ → List ℕ) (s : Stored) (next : Option Kept) (put : Put) → Stores map s → IsNext map s next → IsAllowed put s next → Step map s next put
step map s next put has at allowed = step_by map s next put has at allowed (storable_after put s next allowed has.storable)

-- the keys and values of puts are those of a store
pub key_exists : (s : Stored) (next : Option Kept) (put : Put) → length s.log ≤ 127 → IsAllowed put s next → key_of put s < 132
key_exists s next (PutTerm term) room allowed = omega arith
key_exists s next (PutVote node) room allowed = omega arith
key_exists s next (PutCommit index) room allowed = omega arith
key_exists s next (PutEntry entry origin) room allowed = omega (arith, allowed.0)
key_exists s next (PutLast log origins) room allowed = omega arith
key_exists s next (PutOrigin place entry) room allowed = omega (arith, allowed.0.within, room)
key_exists s next PutVersion room allowed = omega arith

pub value_short : (s : Stored) (next : Option Kept) (put : Put) → IsAllowed put s next → length (bytes_of put) ≤ 32
value_short s next (PutTerm term) allowed = omega arith
value_short s next (PutVote node) allowed = omega arith
value_short s next (PutCommit index) allowed = omega arith
value_short s next (PutEntry entry origin) allowed = omega (arith, allowed.2.size)
value_short s next (PutLast log origins) allowed = omega arith
value_short s next (PutOrigin place entry) allowed = omega (arith, allowed.1.size)
value_short s next PutVersion allowed = omega arith

-- puts in turn
pub still_allowed : (puts : List Put) (s : Stored) (next : Option Kept) → AreAllowed puts s None → AreAllowed puts s next
still_allowed [] s next all = tt
still_allowed (PutTerm term ∷ puts) s next all = (all.0, still_allowed puts (after_put (PutTerm term) s) next all.1)
still_allowed (PutVote node ∷ puts) s next all = (all.0, still_allowed puts (after_put (PutVote node) s) next all.1)
still_allowed (PutCommit index ∷ puts) s next all = (all.0, still_allowed puts (after_put (PutCommit index) s) next all.1)
still_allowed (PutOrigin place entry ∷ puts) s next all = (all.0, still_allowed puts (after_put (PutOrigin place entry) s) next all.1)
still_allowed (PutVersion ∷ puts) s next all = (all.0, still_allowed puts (after_put PutVersion s) next all.1)
still_allowed (PutEntry entry origin ∷ puts) s next all = all
still_allowed (PutLast log origins ∷ puts) s next all = (cut_only all.0, all.1) where
  cut_only : IsCut log origins s ⊎ IsLonger log origins s None → IsCut log origins s ⊎ IsLonger log origins s next
  cut_only (inl cut) = inl cut
  cut_only (inr longer) = absurd (cc (longer.there))

pub allowed_then : (xs ys : List Put) (s : Stored) (next : Option Kept) → AreAllowed xs s next → AreAllowed ys (after_puts xs s) (nexts_after xs next) → AreAllowed (xs ++ ys) s next
allowed_then [] ys s next none rest = rest
allowed_then (x ∷ xs) ys s next first rest = (first.0, allowed_then xs ys (after_put x s) (next_after x next) first.1 rest)

pub allowed_both : (xs ys : List Put) (s : Stored) (next : Option Kept) → AreAllowed xs s next → AreAllowed ys (after_puts xs s) None → AreAllowed (xs ++ ys) s next
allowed_both xs ys s next first rest = allowed_then xs ys s next first (still_allowed ys (after_puts xs s) (nexts_after xs next) rest)
