-- The rules of a map, key by key.
use Rattle.std.proofs.Common.{◌≡◌, inl, inr, ℕ, zero, suc, ◌+◌, ◌<◌, ◌≤◌, List, [], ◌∷◌, ◌++◌, length, take, get_or, map, refl, ap, subst, arith}
use Rattle.std.specs.List.{range_with_len}
use Rattle.std.proofs.lemmas.Bool.Decides.{eqb_tells}
use Rattle.std.proofs.lemmas.List.FromFn.{get_or-map-range_with_len, length-map-range_with_len, map-range_with_len_more, take-map-range_with_len}
use Rattle.raft_log.specs.MayFollow.{MayFollow}
use Rattle.raft_log.specs.Rules.{IsEntryValue, KeepsRules, entries_of, entry_of, first_read, last_of, number_of, version_of}

same_range : {X : Type 0} (f g : ℕ → X) (a n : ℕ) → ((i : ℕ) → i < n → g (a + i) ≡ f (a + i)) → map g (range_with_len a n) ≡ map f (range_with_len a n)
same_range f g a zero same = refl
same_range {X} f g a (suc n) same =
    let here : a + 0 ≡ a = omega arith in
    let first : g a ≡ f a = subst (λ k. g k ≡ f k) here (same 0 (omega arith)) in
    let next : (i : ℕ) → i < n → g (a + 1 + i) ≡ f (a + 1 + i) = λ i h. let on : a + (i + 1) ≡ a + 1 + i = omega arith in subst (λ k. g k ≡ f k) on (same (i + 1) (omega (arith, h))) in
    λ k. first k ∷ same_range f g (a + 1) n next k

-- what the first entries are read as
module _ {X : Type 0} (read : List ℕ → X) (values : ℕ → List ℕ) where
  pub first_none : first_read read values 0 ≡ []
  unfolding first_read
  first_none = refl

  pub first_more : (n : ℕ) → first_read read values (n + 1) ≡ first_read read values n ++ read (values (5 + n)) ∷ []
  unfolding first_read
  first_more n = map-range_with_len_more (λ key. read (values key)) 5 n (5 + n) refl

  pub first_count : (n : ℕ) → length (first_read read values n) ≡ n
  unfolding first_read
  first_count n = length-map-range_with_len (λ key. read (values key)) 5 n

  pub take_first : (k n : ℕ) → k ≤ n → take k (first_read read values n) ≡ first_read read values k
  unfolding first_read
  take_first k n le = take-map-range_with_len (λ key. read (values key)) 5 n k le

  pub first_at : (n i : ℕ) (d : X) → i < n → get_or (first_read read values n) i d ≡ read (values (5 + i))
  unfolding first_read
  first_at n i d below = get_or-map-range_with_len (λ key. read (values key)) 5 n i (5 + i) d below refl

pub same_first : {X : Type 0} (read : List ℕ → X) (values values' : ℕ → List ℕ) (n : ℕ) → ((i : ℕ) → i < n → values' (5 + i) ≡ values (5 + i)) → first_read read values' n ≡ first_read read values n
unfolding first_read
same_first read values values' n same = same_range (λ key. read (values key)) (λ key. read (values' key)) 5 n (λ i h. ap read (same i h))

-- one more entry
pub one_more : (map : ℕ → List ℕ) (i : ℕ) → KeepsRules map (5 + i) → IsEntryValue (version_of map) (map (5 + i)) → MayFollow (entries_of map i) (number_of (map 1)) (entry_of (map (5 + i))) → KeepsRules map (5 + (i + 1))
one_more map i rules formed follows = record {
  version = λ h. rules.version (omega arith);
  term = λ h. rules.term (omega arith);
  vote = λ h. rules.vote (omega arith);
  last = λ h. rules.last (omega arith);
  commit = λ h. rules.commit (omega arith);
  entry_value = λ j h below. elim (eqb_tells j i) as (λ _. IsEntryValue (version_of map) (map (5 + j))) [
    | inl t ↦ rw t.1 formed
    | inr t ↦ rules.entry_value j (omega (arith, t.1)) below
  ];
  entry = λ j h below. elim (eqb_tells j i) as (λ _. MayFollow (entries_of map j) (number_of (map 1)) (entry_of (map (5 + j)))) [
    | inl t ↦ rw t.1 follows
    | inr t ↦ rules.entry j (omega (arith, t.1)) below
  ];
}

-- the rules of the entries that are read are all that are left
pub all_rules : (map : ℕ → List ℕ) (last : ℕ) → last ≡ last_of map → KeepsRules map (5 + last) → KeepsRules map 132
all_rules map last is rules = record {
  version = λ h. rules.version (omega arith);
  term = λ h. rules.term (omega arith);
  vote = λ h. rules.vote (omega arith);
  last = λ h. rules.last (omega arith);
  commit = λ h. rules.commit (omega arith);
  entry_value = λ i h below. rules.entry_value i (omega (arith, below, is)) below;
  entry = λ i h below. rules.entry i (omega (arith, below, is)) below;
}
