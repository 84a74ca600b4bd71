-- States that maps and images stand for.
use Rattle.std.proofs.Common.{◌≡◌, ◌≢◌, ◌⊎◌, inl, inr, ℕ, ◌+◌, ◌<◌, ◌≤◌, List, [], length, take, get_or, slice_index, refl, sym, ap, subst, ◌∙◌, arith}
use Rattle.std.specs.Prelude.{Option, None, Some, slice_get}
use Rattle.std.proofs.lemmas.List.{ext_get_or, get_or_past}
use Rattle.std.proofs.lemmas.Option.{get_or_from_slice_get, slice_get-get_or, slice_get_past}
use Rattle.std.proofs.lemmas.Bool.Decides.{leb_tells, eqb_tells}
use Rattle.can_frame.specs.declared.entry.Entry.{Entry}
use Rattle.can_frame.specs.Log.{AreDistinct, blank}
use Rattle.kv_store.specs.Image.{IsFirstDamaged, StandsFor, chosen_copy, copy_start, length_byte, value_in}
use Rattle.raft_log.specs.MayFollow.{HaveOrigins, IsStorable, MayFollow}
use Rattle.raft_log.specs.Rules.{IsDamagedAt, IsEntryValue, IsFirstBroken, IsWhole, HasByte, HasEntry, HasTerm, HasVersion, KeepsRules, StandsForState, Stores, entries_of, entry_of, last_of, number_of, origin_of, origins_of, version_of}
use Rattle.raft_log.specs.Rules.IsDamagedAt.{BadLength, BadValue}
use Rattle.raft_log.specs.Stored.{Stored, first_state}
use Rattle.raft_log.proofs.Rules.{first_at, first_count, first_none, same_first, take_first}

-- maps that agree on all keys keep the same rules and store the same
module _ (map map' : ℕ → List ℕ) (same : (k : ℕ) → k < 132 → map' k ≡ map k) where
  pub keeps_same : (below : ℕ) → below ≤ 132 → KeepsRules map below → KeepsRules map' below
  keeps_same below within rules = record {
    version = λ h. rw (same 0 (omega arith)) (rules.version h);
    term = λ h. rw (same 1 (omega arith)) (rules.term h);
    vote = λ h. rw (same 2 (omega arith)) (rules.vote h);
    last = λ h. rw (same 3 (omega arith)) (rules.last h);
    commit = λ h. rw (same 3 (omega arith), same 4 (omega arith)) (rules.commit h);
    entry_value = λ i h low. rw (same (5 + i) (omega (arith, h, within)), same 0 (omega arith)) (rules.entry_value i h (rw (sym (same 3 (omega arith))) low));
    entry = λ i h low. rw (same (5 + i) (omega (arith, h, within)), same_first entry_of map map' i (λ j b. same (5 + j) (omega (arith, h, within, b))), same 1 (omega arith)) (rules.entry i h (rw (sym (same 3 (omega arith))) low));
  }

  pub stores_same : (s : Stored) → Stores map s → Stores map' s
  stores_same s has = record {
    version = subst (HasVersion s.version) (sym (same 0 (omega arith))) has.version;
    term = subst (HasTerm s.term) (sym (same 1 (omega arith))) has.term;
    vote = subst (HasByte s.vote) (sym (same 2 (omega arith))) has.vote;
    last = subst (HasByte (length s.log)) (sym (same 3 (omega arith))) has.last;
    commit = subst (HasByte s.commit) (sym (same 4 (omega arith))) has.commit;
    entries = λ i h. subst (HasEntry (get_or s.log i (blank 0)) (get_or s.origins i None)) (sym (same (5 + i) (omega (arith, h, has.storable.room)))) (has.entries i h);
    storable = has.storable;
  }

pub fewer_rules : (map : ℕ → List ℕ) (below less : ℕ) → less ≤ below → KeepsRules map below → KeepsRules map less
fewer_rules map below less le rules = record {
  version = λ h. rules.version (omega arith);
  term = λ h. rules.term (omega arith);
  vote = λ h. rules.vote (omega arith);
  last = λ h. rules.last (omega arith);
  commit = λ h. rules.commit (omega arith);
  entry_value = λ i h. rules.entry_value i (omega arith);
  entry = λ i h. rules.entry i (omega arith);
}

pub image_stands : (image : List ℕ) (map : ℕ → List ℕ) (s : Stored) → StandsFor image map → Stores map s → StandsForState image s
image_stands image map s shown has = record { whole = shown.whole; stores = stores_same map (value_in image) shown.values s has }

pub image_broken : (image : List ℕ) (map : ℕ → List ℕ) (key : ℕ) → StandsFor image map → IsFirstBroken map key → IsFirstBroken (value_in image) key
image_broken image map key shown first = record {
  exists = first.exists;
  before = keeps_same map (value_in image) shown.values key (omega (arith, first.exists)) first.before;
  broken = λ rules. first.broken (keeps_same (value_in image) map (λ k h. sym (shown.values k h)) (key + 1) (omega (arith, first.exists)) rules);
}

-- where a stop left the old map or the new one
pub old_or_new : (image : List ℕ) (map map' : ℕ → List ℕ) (s s' : Stored) → Stores map s → Stores map' s' → StandsFor image map ⊎ StandsFor image map' → StandsForState image s ⊎ StandsForState image s'
old_or_new image map map' s s' old new (inl shown) = inl (image_stands image map s shown old)
old_or_new image map map' s s' old new (inr shown) = inr (image_stands image map' s' shown new)

-- the state is what is read in a map that keeps all rules
pub record IsRead (map : ℕ → List ℕ) (s : Stored) : Type 0 where
  pub rules : KeepsRules map 132
  pub term : s.term ≡ number_of (map 1)
  pub vote : s.vote ≡ slice_index (map 2) 0
  pub log : s.log ≡ entries_of map (last_of map)
  pub commit : s.commit ≡ slice_index (map 4) 0
  pub origins : s.origins ≡ origins_of map (last_of map)
  pub version : s.version ≡ version_of map

-- the origin in the value of an entry
origin_there : (value : List ℕ) (origin : ℕ) → origin_of value ≡ Some origin → slice_index value 21 ≡ origin
origin_there value origin is = get_or_from_slice_get value 21 origin 0 is

has_none : (value : List ℕ) → length value ≤ 21 → origin_of value ≡ None
has_none value short = slice_get_past value 21 short

has_some : (value : List ℕ) → length value ≡ 22 → origin_of value ≢ None
has_some value long none = let some : slice_get value 21 ≡ Some (slice_index value 21) = slice_get-get_or value 21 0 (omega (arith, long)) in absurd (cc (none, some))

module _ (map : ℕ → List ℕ) (s : Stored) (has : IsRead map s) where
  count : length s.log ≡ last_of map
  count = ap length has.log ∙ first_count entry_of map (last_of map)

  count_too : length s.origins ≡ last_of map
  count_too = ap length has.origins ∙ first_count origin_of map (last_of map)

  most : last_of map ≤ 127
  most = (has.rules.last (omega arith)).limit

  -- its entries, one by one
  stored_entry : (i : ℕ) → i < length s.log → get_or s.log i (blank 0) ≡ entry_of (map (5 + i))
  stored_entry i below = ap (λ (l : List Entry). get_or l i (blank 0)) has.log ∙ first_at entry_of map (last_of map) i (blank 0) (omega (arith, count, below))

  stored_origin : (i : ℕ) → i < length s.origins → get_or s.origins i None ≡ origin_of (map (5 + i))
  stored_origin i below = ap (λ (l : List (Option ℕ)). get_or l i None) has.origins ∙ first_at origin_of map (last_of map) i None (omega (arith, count_too, below))

  earlier_entries : (i : ℕ) → i < length s.log → take i s.log ≡ entries_of map i
  earlier_entries i below = ap (λ (l : List Entry). take i l) has.log ∙ take_first entry_of map i (last_of map) (omega (arith, count, below))

  rule : (i : ℕ) → i < length s.log → MayFollow (entries_of map i) (number_of (map 1)) (entry_of (map (5 + i)))
  rule i below = has.rules.entry i (omega (arith, count, below, most)) (omega (arith, count, below))

  form : (i : ℕ) → i < last_of map → IsEntryValue (version_of map) (map (5 + i))
  form i below = has.rules.entry_value i (omega (arith, below, most)) below

  distinct : (i j : ℕ) → i < j → j < length s.log → AreDistinct (get_or s.log i (blank 0)) (get_or s.log j (blank 0))
  distinct i j before below =
      let low : i < length s.log = omega (arith, before, below) in
      let inside : i < length (entries_of map j) = subst (λ m. i < m) (sym (first_count entry_of map j)) before in
      let apart : AreDistinct (get_or (entries_of map j) i (blank 0)) (entry_of (map (5 + j))) = (rule j below).distinct i inside in
      rw (stored_entry i low, stored_entry j below) (subst (λ (e : Entry). AreDistinct e (entry_of (map (5 + j)))) (first_at entry_of map j i (blank 0) before) apart)

  low_origin : (i origin : ℕ) → get_or s.origins i None ≡ Some origin → origin ≤ 4
  low_origin i origin is = elim (leb_tells (length s.origins) i) as (λ _. origin ≤ 4) [
    | inl t ↦ let none : get_or s.origins i None ≡ None = get_or_past s.origins i None t.1 in absurd (cc (is, none))
    | inr t ↦ let there : slice_index (map (5 + i)) 21 ≡ origin = origin_there (map (5 + i)) origin (sym (stored_origin i t.1) ∙ is) in omega (arith, there, (form i (omega (arith, t.1, count_too))).origin)
  ]

  no_origin_lost : s.version ≡ 2 → HaveOrigins s.origins
  no_origin_lost two i below none =
      has_some (map (5 + i)) ((form i (omega (arith, below, count_too))).has (sym has.version ∙ two)) (sym (stored_origin i below) ∙ none)

  is_storable : IsStorable s
  is_storable = record {
    vote = rw has.vote (has.rules.vote (omega arith)).limit;
    room = rw count most;
    commit = rw (count, has.commit) (has.rules.commit (omega arith)).limit;
    follows = λ i below. rw (earlier_entries i below, stored_entry i below, has.term) (rule i below);
    injective = distinct;
    count = count_too ∙ sym count;
    limit = low_origin;
    version = rw has.version (has.rules.version (omega arith)).most;
    have = no_origin_lost;
  }

  pub stores_read : Stores map s
  stores_read = record {
    version = record { size = has.rules.version (omega arith); number = sym has.version };
    term = record { size = has.rules.term (omega arith); number = sym has.term };
    vote = record { size = (has.rules.vote (omega arith)).size; byte_is = sym has.vote };
    last = record { size = (has.rules.last (omega arith)).size; byte_is = sym count };
    commit = record { size = (has.rules.commit (omega arith)).size; byte_is = sym has.commit };
    entries = λ i h. let formed = form i (omega (arith, h, count)) in record {
      least = formed.least;
      most = formed.most;
      entry_is = sym (stored_entry i h);
      origin_is = sym (stored_origin i (omega (arith, h, count, count_too)));
    };
    storable = is_storable;
  }

-- and what a map stores is read in it
module _ (map : ℕ → List ℕ) (s : Stored) (has : Stores map s) where
  is_last : length s.log ≡ last_of map
  is_last = sym has.last.byte_is

  all_entries : s.log ≡ entries_of map (last_of map)
  all_entries = ext_get_or (blank 0) s.log (entries_of map (last_of map)) (is_last ∙ sym (first_count entry_of map (last_of map)))
      (λ i h. sym (has.entries i h).entry_is ∙ sym (first_at entry_of map (last_of map) i (blank 0) (omega (arith, h, is_last))))

  all_origins : s.origins ≡ origins_of map (last_of map)
  all_origins = ext_get_or None s.origins (origins_of map (last_of map)) (has.storable.count ∙ is_last ∙ sym (first_count origin_of map (last_of map)))
      (λ i h. sym (has.entries i (omega (arith, h, has.storable.count))).origin_is ∙ sym (first_at origin_of map (last_of map) i None (omega (arith, h, is_last, has.storable.count))))

  entry_rule : (i : ℕ) → i < last_of map → MayFollow (entries_of map i) (number_of (map 1)) (entry_of (map (5 + i)))
  entry_rule i h =
      let below : i < length s.log = omega (arith, h, is_last) in
      let earlier : entries_of map i ≡ take i s.log = sym (take_first entry_of map i (last_of map) (omega (arith, h))) ∙ ap (λ (l : List Entry). take i l) (sym all_entries) in
      rw (earlier, has.term.number, (has.entries i below).entry_is) (has.storable.follows i below)

  origin_low : (i : ℕ) → i < length s.log → slice_index (map (5 + i)) 21 ≤ 4
  origin_low i h = elim (leb_tells (length (map (5 + i))) 21) as (λ _. slice_index (map (5 + i)) 21 ≤ 4) [
    | inl t ↦ let none : slice_index (map (5 + i)) 21 ≡ 0 = get_or_past (map (5 + i)) 21 0 t.1 in omega (arith, none)
    | inr t ↦ has.storable.limit i (slice_index (map (5 + i)) 21) (sym (has.entries i h).origin_is ∙ slice_get-get_or (map (5 + i)) 21 0 t.1)
  ]

  entry_form : (i : ℕ) → i < last_of map → IsEntryValue (version_of map) (map (5 + i))
  entry_form i h =
      let below : i < length s.log = omega (arith, h, is_last) in
      let entry = has.entries i below in record {
        least = entry.least;
        most = entry.most;
        origin = origin_low i below;
        has = λ two. elim (leb_tells (length (map (5 + i))) 21) as (λ _. length (map (5 + i)) ≡ 22) [
          | inl t ↦ absurd (has.storable.have (sym has.version.number ∙ two) i (omega (arith, below, has.storable.count)) (sym entry.origin_is ∙ has_none (map (5 + i)) t.1))
          | inr t ↦ omega (arith, t.1, entry.most)
        ];
      }

  pub read_stored : IsRead map s
  read_stored = record {
    rules = record {
      version = λ h. has.version.size;
      term = λ h. has.term.size;
      vote = λ h. record { size = has.vote.size; limit = omega (arith, has.vote.byte_is, has.storable.vote) };
      last = λ h. record { size = has.last.size; limit = omega (arith, has.last.byte_is, has.storable.room) };
      commit = λ h. record { size = has.commit.size; limit = omega (arith, has.commit.byte_is, has.last.byte_is, has.storable.commit) };
      entry_value = λ i h. entry_form i;
      entry = λ i h. entry_rule i;
    };
    term = sym has.term.number;
    vote = sym has.vote.byte_is;
    log = all_entries;
    commit = sym has.commit.byte_is;
    origins = all_origins;
    version = sym has.version.number;
  }

pub same_state : (map : ℕ → List ℕ) (a b : Stored) → Stores map a → Stores map b → a ≡ b
same_state map a b first second =
    let x = read_stored map a first in
    let y = read_stored map b second in
    λ i. record { term = (x.term ∙ sym y.term) i; vote = (x.vote ∙ sym y.vote) i; log = (x.log ∙ sym y.log) i; commit = (x.commit ∙ sym y.commit) i; origins = (x.origins ∙ sym y.origins) i; version = (x.version ∙ sym y.version) i }

-- an image has one first damaged key
not_before : (map : ℕ → List ℕ) (a b : ℕ) → IsFirstBroken map a → IsFirstBroken map b → a < b → ⊥
not_before map a b first second before = first.broken (fewer_rules map b (a + 1) (omega (arith, before)) second.before)

one_broken : (map : ℕ → List ℕ) (a b : ℕ) → IsFirstBroken map a → IsFirstBroken map b → a ≡ b
one_broken map a b first second = elim (leb_tells a b) as (λ _. a ≡ b) [
  | inl t ↦ elim (eqb_tells a b) as (λ _. a ≡ b) [
    | inl u ↦ u.1
    | inr u ↦ absurd (not_before map a b first second (omega (arith, t.1, u.1)))
  ]
  | inr t ↦ absurd (not_before map b a second first (omega (arith, t.1)))
]

one_long : (image : List ℕ) (a b : ℕ) → IsFirstDamaged image a → IsFirstDamaged image b → a < b → ⊥
one_long image a b first second before = let short : length_byte image a ≤ 32 = second.before a before in let long : 32 < length_byte image a = first.long in omega (arith, short, long)

whole_or_long : (image : List ℕ) (a : ℕ) → IsWhole image → IsFirstDamaged image a → ⊥
whole_or_long image a whole first = let short : length_byte image a ≤ 32 = whole a first.exists in let long : 32 < length_byte image a = first.long in omega (arith, short, long)

pub damaged_once : (image : List ℕ) (a b : ℕ) → IsDamagedAt image a → IsDamagedAt image b → a ≡ b
damaged_once image a b (BadLength first) (BadLength second) = elim (leb_tells a b) as (λ _. a ≡ b) [
  | inl t ↦ elim (eqb_tells a b) as (λ _. a ≡ b) [
    | inl u ↦ u.1
    | inr u ↦ absurd (one_long image a b first second (omega (arith, t.1, u.1)))
  ]
  | inr t ↦ absurd (one_long image b a second first (omega (arith, t.1)))
]
damaged_once image a b (BadLength first) (BadValue whole second) = absurd (whole_or_long image a whole first)
damaged_once image a b (BadValue whole first) (BadLength second) = absurd (whole_or_long image b whole second)
damaged_once image a b (BadValue whole first) (BadValue also second) = one_broken (value_in image) a b first second

pub whole_or_damaged : (image : List ℕ) (s : Stored) (key : ℕ) → StandsForState image s → IsDamagedAt image key → ⊥
whole_or_damaged image s key stands (BadLength first) = whole_or_long image key stands.whole first
whole_or_damaged image s key stands (BadValue whole first) = first.broken (fewer_rules (value_in image) 132 (key + 1) (omega (arith, first.exists)) (read_stored (value_in image) s stands.stores).rules)

-- no key was ever put
abbrev no_values : ℕ → List ℕ
no_values key = []

nothing_stored : IsRead no_values (first_state)
nothing_stored = record {
  rules = record {
    version = λ h. record { size = omega arith; least = λ some. absurd (omega arith); most = omega arith };
    term = λ h some. absurd (omega arith);
    vote = λ h. record { size = omega arith; limit = omega arith };
    last = λ h. record { size = omega arith; limit = omega arith };
    commit = λ h. record { size = omega arith; limit = omega arith };
    entry_value = λ i h below. absurd (omega arith);
    entry = λ i h below. absurd (omega arith);
  };
  term = refl;
  vote = refl;
  log = sym (first_none entry_of no_values);
  commit = refl;
  origins = sym (first_none origin_of no_values);
  version = refl;
}

pub zeros_stand : (image : List ℕ) → ((i : ℕ) → get_or image i 0 ≡ 0) → StandsForState image (first_state)
zeros_stand image zeros = record {
  whole = λ key h. rw (zeros (copy_start key (chosen_copy image key))) (omega arith);
  stores = stores_same no_values (value_in image) (λ key h. rw (zeros (copy_start key (chosen_copy image key))) refl) (first_state)
      (stores_read no_values (first_state) nothing_stored);
}
