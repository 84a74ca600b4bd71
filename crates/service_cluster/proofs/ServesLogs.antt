-- Which unique IDs a log has, and that a sound log has none twice.
use Rattle.std.proofs.Common.{◌≡◌, ◌≢◌, ℕ, arith, true, Option, None, Some, List, [], ◌∷◌, ◌++◌, length, refl, sym, ◌∙◌, ap, subst, inl, inr}
use Rattle.std.specs.Prelude.{◌⊎◌, is_some, slice_index_or}
use Rattle.std.proofs.lemmas.List.{get_or_append_left, length-append}
use Rattle.std.proofs.lemmas.List.Quantifiers.{position-Some}
use Rattle.std.proofs.Math.Seq.{get_or-append_seam}
use Rattle.can_frame.specs.declared.entry.Entry.{Entry}
use Rattle.can_frame.specs.Log.{HasPair, HasUid, IsInjective, IsWellFormed, blank}
use Rattle.can_frame.specs.Zeros.{zeros}
use Rattle.can_frame.proofs.Logs.{pair_more, pair_of_device}
use Rattle.raft_model.specs.Invariants.{SoundStore}
use Rattle.raft_model.specs.Server.{Store}
use Rattle.alloc_spec.specs.AllocatorState.{recorded_at}
use Rattle.alloc_spec_laws.proofs.Choices.{tell}
use Rattle.alloc_spec_laws.proofs.Logs.{not_told, told_at}

-- a log with more entries has the unique ID too
pub has_more : (log more : List Entry) (uid : List ℕ) → HasUid log uid → HasUid (log ++ more) uid
has_more log more uid h = record {
  place = h.place;
  within = let e = length-append log more in let a = h.within in omega (arith, e, a);
  same = ap (λ (x : Entry). x.uid) (get_or_append_left log more (blank 0) h.place h.within) ∙ h.same;
}

-- it has that of its last entry
pub has_last : (log : List Entry) (entry : Entry) → HasUid (log ++ entry ∷ []) entry.uid
has_last log entry = record {
  place = length log;
  within = let e = length-append log (entry ∷ []) in omega (arith, e);
  same = ap (λ (x : Entry). x.uid) (get_or-append_seam log entry [] (blank 0));
}

-- where a sound log ends with a device's entry, it had not the unique ID before
pub had_not : (store : Store) → SoundStore store → (log : List Entry) (entry : Entry) → store.log ≡ log ++ entry ∷ [] → entry.uid ≢ zeros
    → HasUid log entry.uid → ⊥
had_not store sound log entry is device = ((pair_more log entry (pair_of_device entry well device)).0 (subst IsInjective is sound.injective)).1
  where
    well : IsWellFormed entry
    well = subst IsWellFormed (ap (λ (l : List Entry). slice_index_or l (length log) (blank 0)) is ∙ get_or-append_seam log entry [] (blank 0))
        (sound.well_formed (length log) (let e = length-append log (entry ∷ []) in let a = ap (λ (l : List Entry). length l) is in omega (arith, e, a)))

-- a log in which a unique ID is found has it
pub is_told : (log : List Entry) (uid : List ℕ) → is_some (recorded_at log uid) ≡ true → HasUid log uid
is_told log uid e = by (recorded_at log uid) refl e
  where
    by : (at : Option ℕ) → recorded_at log uid ≡ at → is_some at ≡ true → HasUid log uid
    by None same some = absurd (cc some)
    by (Some place) same some = record {
      place = place;
      within = (position-Some _ log place (blank 0) same).0;
      same = told_at log uid place same;
    }

-- a log has a unique ID, or has it not
pub has_or_not : (log : List Entry) (uid : List ℕ) → HasUid log uid ⊎ (HasUid log uid → ⊥)
has_or_not log uid = elim (tell (is_some (recorded_at log uid))) [
  | inl e ↦ inl (is_told log uid e)
  | inr e ↦ inr (not_told log uid e)
]

-- with a device's unique ID a sound log has a node ID
pub has_pair : (store : Store) → SoundStore store → (uid : List ℕ) → uid ≢ zeros → (h : HasUid store.log uid)
    → HasPair store.log uid (slice_index_or store.log h.place (blank 0)).node
has_pair store sound uid device h = record {
  place = h.place;
  within = h.within;
  pair = pair_of_device (slice_index_or store.log h.place (blank 0)) (sound.well_formed h.place h.within) (λ e. device (sym h.same ∙ e));
  its_uid = h.same;
  its_node = refl;
}
