-- The puts of an opening.
use Rattle.std.proofs.Common.{◌≡◌, inl, inr, ℕ, zero, suc, ◌+◌, ◌%◌, ◌<◌, ◌≤◌, ◌^◌, Bool, true, false, List, [], ◌∷◌, ◌++◌, length, take, drop, get_or, refl, sym, ap, subst, ◌∙◌, arith}
use Rattle.std.specs.Prelude.{Option, None, Some, ◌==◌, slice_get, slice_index, slice_index_or, slice_set, unwrap_or, if◌then◌else◌}
use Rattle.std.proofs.lemmas.Bool.Decides.{eqb_tells}
use Rattle.std.proofs.lemmas.List.{drop_all, get_or-set_other, get_or-set_same, length-append, length-drop, length-set, length-take-le, take-append-le, take_all}
use Rattle.std.proofs.lemmas.Option.{get_or_from_slice_get}
use Rattle.can_frame.specs.declared.entry.Entry.{Entry}
use Rattle.can_frame.specs.Log.{blank}
use Rattle.raft_log.specs.Allowed.{AreAllowed, Fits, IsAllowed, next_after}
use Rattle.raft_log.specs.Opening.{IsReadAs}
use Rattle.raft_log.specs.Rules.{Stores, entry_of}
use Rattle.raft_log.specs.Stored.{AfterSome, Kept, Put, Stored, after_put, after_puts, opening_puts, origin_at, origin_puts}
use Rattle.raft_log.specs.Stored.Put.{PutOrigin, PutVersion}
use Rattle.raft_log.proofs.AllowedPuts.{term_again}

-- the put is that of the first entry without an origin, and these are the others
pub record IsFirst (n : ℕ) (log : List Entry) (origins : List (Option ℕ)) (put : Put) (others : List Put) : Type 0 where
  pub place : ℕ
  pub entry : Entry
  pub is : put ≡ PutOrigin (n + place) entry
  pub there : place < length log
  pub within : place < length origins
  pub none : slice_index_or origins place None ≡ None
  pub stands : slice_index_or log place (blank 0) ≡ entry
  pub left : origin_puts n log (slice_set origins place (Some 0)) ≡ others

pub first_origin : (n : ℕ) (log : List Entry) (origins : List (Option ℕ)) (put : Put) (others : List Put) → origin_puts n log origins ≡ put ∷ others → IsFirst n log origins put others
first_origin n [] origins put others e = absurd (cc e)
first_origin n (entry ∷ log) [] put others e = absurd (cc e)
first_origin n (entry ∷ log) (None ∷ origins) put others e =
    let at : n ≡ n + 0 = omega arith in
    let is : PutOrigin n entry ≡ put = cc e in record {
      place = 0;
      entry = entry;
      is = sym is ∙ ap (λ k. PutOrigin k entry) at;
      there = omega arith;
      within = omega arith;
      none = refl;
      stands = refl;
      left = cc e;
    }
first_origin n (entry ∷ log) (Some origin ∷ origins) put others e =
    let first = first_origin (n + 1) log origins put others e in
    let at : (n + 1) + first.place ≡ n + suc first.place = omega arith in record {
      place = suc first.place;
      entry = first.entry;
      is = first.is ∙ ap (λ k. PutOrigin k first.entry) at;
      there = omega (arith, first.there);
      within = omega (arith, first.within);
      none = first.none;
      stands = first.stands;
      left = first.left;
    }

-- where no entry is put again, each has its origin
pub all_told : (n : ℕ) (log : List Entry) (origins : List (Option ℕ)) → origin_puts n log origins ≡ [] → length origins ≡ length log
    → (i : ℕ) → i < length log → slice_index_or origins i None ≡ None → ⊥
all_told n [] origins e long i below none = omega (arith, below)
all_told n (entry ∷ log) [] e long i below none = omega (arith, long)
all_told n (entry ∷ log) (None ∷ origins) e long i below none = cc e
all_told n (entry ∷ log) (Some origin ∷ origins) e long zero below none = cc none
all_told n (entry ∷ log) (Some origin ∷ origins) e long (suc i) below none = all_told (n + 1) log origins e (omega (arith, long)) i (omega (arith, below)) none

-- the first put of an opening, and what the others are
pub data First (s : Stored) (put : Put) (others : List Put) : Type 0 where
  ByOrigin : (rest : List Put) → IsFirst 0 s.log s.origins put rest → others ≡ rest ++ PutVersion ∷ [] → (s.version == 2) ≡ false → First s put others
  ByVersion : put ≡ PutVersion → others ≡ [] → origin_puts 0 s.log s.origins ≡ [] → First s put others

module _ (s : Stored) (put : Put) (others : List Put) where
  by_origins : (puts : List Put) → origin_puts 0 s.log s.origins ≡ puts → (s.version == 2) ≡ false → puts ++ PutVersion ∷ [] ≡ put ∷ others → First s put others
  by_origins [] are old e = ByVersion (cc e) (cc e) are
  by_origins (x ∷ rest) are old e = ByOrigin rest (first_origin 0 s.log s.origins put rest (are ∙ ap (λ (y : Put). y ∷ rest) (cc e))) (cc e) old

  by_version : (b : Bool) → (s.version == 2) ≡ b → (if b then [] else origin_puts 0 s.log s.origins ++ PutVersion ∷ []) ≡ put ∷ others → First s put others
  by_version true is e = absurd (cc e)
  by_version false is e = by_origins (origin_puts 0 s.log s.origins) refl is e

  pub first_of_opening : opening_puts s ≡ put ∷ others → First s put others
  first_of_opening e = by_version (s.version == 2) refl e

  -- the next opening puts the others
  next_puts : First s put others → opening_puts (after_put put s) ≡ others
  next_puts (ByVersion is none all) = ap (λ (p : Put). opening_puts (after_put p s)) is ∙ sym none
  next_puts (ByOrigin rest first are old) =
      let at : 0 + first.place ≡ first.place = omega arith in
      ap (λ (p : Put). opening_puts (after_put p s)) (first.is ∙ ap (λ k. PutOrigin k first.entry) at)
      ∙ (ap (λ (b : Bool). if b then [] else origin_puts 0 s.log (slice_set s.origins first.place (Some 0)) ++ PutVersion ∷ []) old
      ∙ (ap (λ (l : List Put). l ++ PutVersion ∷ []) first.left ∙ sym are))

left_by : (puts : List Put) (s : Stored) (k : ℕ) → opening_puts s ≡ puts → opening_puts (after_puts (take k puts) s) ≡ drop k puts
left_by [] s zero e = e
left_by [] s (suc k) e = e
left_by (put ∷ puts) s zero e = e
left_by (put ∷ puts) s (suc k) e = left_by puts (after_put put s) k (next_puts s put puts (first_of_opening s put puts e))

-- an opening goes on where another was cut off
pub left_after : (s : Stored) (k : ℕ) → opening_puts (after_puts (take k (opening_puts s)) s) ≡ drop k (opening_puts s)
left_after s k = left_by (opening_puts s) s k refl

-- an origin, 0 where none is stored
abbrev origin : Option ℕ → ℕ
origin stored = unwrap_or stored 0

-- an entry that is stored with the origin 0 in place of none
same_origin : (origins : List (Option ℕ)) (k i : ℕ) → k < length origins → slice_index_or origins k None ≡ None
    → origin (slice_index_or (slice_set origins k (Some 0)) i None) ≡ origin (slice_index_or origins i None)
same_origin origins k i within none = elim (eqb_tells i k) as (λ _. origin (slice_index_or (slice_set origins k (Some 0)) i None) ≡ origin (slice_index_or origins i None)) [
  | inl t ↦ subst (λ j. origin (slice_index_or (slice_set origins k (Some 0)) j None) ≡ origin (slice_index_or origins j None)) (sym t.1)
      (ap origin (get_or-set_same origins k (Some 0) None within) ∙ sym (ap origin none))
  | inr t ↦ ap origin (get_or-set_other origins k i (Some 0) None t.1)
]

same_at : (s : Stored) (k place : ℕ) → k < length s.origins → slice_index_or s.origins k None ≡ None
    → origin_at (record s { origins = slice_set s.origins k (Some 0) }) place ≡ origin_at s place
same_at s k zero within none = refl
same_at s k (suc i) within none = same_origin s.origins k i within none

pub same_state : (s : Stored) → IsReadAs s s
same_state s = record { term = refl; vote = refl; log = refl; commit = refl; origins = λ place. refl }

same_then : (a b c : Stored) → IsReadAs a b → IsReadAs b c → IsReadAs a c
same_then a b c x y = record { term = x.term ∙ y.term; vote = x.vote ∙ y.vote; log = x.log ∙ y.log; commit = x.commit ∙ y.commit; origins = λ place. x.origins place ∙ y.origins place }

module _ (s : Stored) (put : Put) (others : List Put) where
  first_put : First s put others → IsReadAs (after_put put s) s
  first_put (ByVersion is none all) = subst (λ (p : Put). IsReadAs (after_put p s) s) (sym is) (record { term = refl; vote = refl; log = refl; commit = refl; origins = λ place. refl })
  first_put (ByOrigin rest first are old) =
      let at : 0 + first.place ≡ first.place = omega arith in
      let is : put ≡ PutOrigin first.place first.entry = first.is ∙ ap (λ k. PutOrigin k first.entry) at in
      subst (λ (p : Put). IsReadAs (after_put p s) s) (sym is)
      (record { term = refl; vote = refl; log = refl; commit = refl; origins = λ place. same_at s first.place place first.within first.none })

same_by : (puts : List Put) (s : Stored) (k : ℕ) → opening_puts s ≡ puts → IsReadAs (after_puts (take k puts) s) s
same_by [] s zero e = same_state s
same_by [] s (suc k) e = same_state s
same_by (put ∷ puts) s zero e = same_state s
same_by (put ∷ puts) s (suc k) e =
    let first = first_of_opening s put puts e in
    same_then (after_puts (take k puts) (after_put put s)) (after_put put s) s (same_by puts (after_put put s) k (next_puts s put puts first)) (first_put s put puts first)

-- an opening's puts change nothing but the form of what is stored
pub same_after : (s : Stored) (k : ℕ) → IsReadAs (after_puts (take k (opening_puts s)) s) s
same_after s k = same_by (opening_puts s) s k refl

-- an opening that puts nothing finds the version 2
module _ (s : Stored) where
  none_put : (puts : List Put) → puts ++ PutVersion ∷ [] ≡ [] → ⊥
  none_put [] e = cc e
  none_put (put ∷ puts) e = cc e

  two_by : (b : Bool) → (s.version == 2) ≡ b → (if b then [] else origin_puts 0 s.log s.origins ++ PutVersion ∷ []) ≡ [] → s.version ≡ 2
  two_by true is e = elim (eqb_tells s.version 2) as (λ _. s.version ≡ 2) [
    | inl t ↦ t.1
    | inr t ↦ absurd (cc (t.0, is))
  ]
  two_by false is e = absurd (none_put (origin_puts 0 s.log s.origins) e)

  pub none_where_two : s.version ≡ 2 → opening_puts s ≡ []
  none_where_two is = ap (λ n. if n == 2 then [] else origin_puts 0 s.log s.origins ++ PutVersion ∷ []) is

  two_where_none : opening_puts s ≡ [] → s.version ≡ 2
  two_where_none e = two_by (s.version == 2) refl e

-- after all of its puts the version is 2
pub two_after : (s : Stored) → (after_puts (opening_puts s) s).version ≡ 2
two_after s =
    let puts : List Put = opening_puts s in
    subst (λ (l : List Put). (after_puts l s).version ≡ 2) (take_all (length puts) puts (omega arith))
    (two_where_none (after_puts (take (length puts) puts) s) (left_after s (length puts) ∙ drop_all (length puts) puts (omega arith)))

-- an entry that was read is read again from its bytes
at_seam : (xs ys : List ℕ) (k i : ℕ) → k ≡ length xs + i → slice_get (xs ++ ys) k ≡ slice_get ys i
at_seam [] ys k i e = ap (slice_get ys) (omega (arith, e))
at_seam (x ∷ xs) ys zero i e = absurd (omega (arith, e))
at_seam (x ∷ xs) ys (suc k) i e = at_seam xs ys k i (omega (arith, e))

fits : (entry : Entry) (origin : ℕ) → length entry.uid ≡ 16 → entry.node < 128 → entry.term < 2 ^ 32 → Fits entry origin
fits entry origin long small narrow = record {
  size = omega (arith, length-append entry.uid (entry.node ∷ origin ∷ []), long);
  again = λ i. record { term = term_again entry.term narrow i; uid = uid i; node = node i };
  origin_again = at_seam entry.uid (entry.node ∷ origin ∷ []) 17 1 (omega (arith, long));
} where
  uid : take 16 (entry.uid ++ entry.node ∷ origin ∷ []) ≡ entry.uid
  uid = take-append-le 16 entry.uid (entry.node ∷ origin ∷ []) (omega (arith, long)) ∙ take_all 16 entry.uid (omega (arith, long))

  node : slice_index (entry.uid ++ entry.node ∷ origin ∷ []) 16 % 128 ≡ entry.node
  node =
      let there : get_or (entry.uid ++ entry.node ∷ origin ∷ []) 16 0 ≡ entry.node = get_or_from_slice_get (entry.uid ++ entry.node ∷ origin ∷ []) 16 entry.node 0 (at_seam entry.uid (entry.node ∷ origin ∷ []) 16 0 (omega (arith, long))) in
      omega (arith, there, small)

-- the puts of an opening may all be made
pub record IsWhole (s : Stored) : Type 0 where
  pub count : length s.origins ≡ length s.log
  pub fit : (i : ℕ) → i < length s.log → Fits (slice_index_or s.log i (blank 0)) 0

-- the first of them, and what is kept for the others
abbrev Allowed : Put → Stored → Type 0
Allowed put s = IsAllowed put s None × IsWhole (after_put put s) × (next_after put None ≡ None)

first_allowed : (s : Stored) (put : Put) (others : List Put) → IsWhole s → First s put others → Allowed put s
first_allowed s put others whole (ByVersion is none all) = subst (λ (p : Put). Allowed p s) (sym is)
    (λ i below bare. all_told 0 s.log s.origins all whole.count i (omega (arith, below, whole.count)) bare, record { count = whole.count; fit = whole.fit }, refl)
first_allowed s put others whole (ByOrigin rest first are old) =
    let at : 0 + first.place ≡ first.place = omega arith in
    let is : put ≡ PutOrigin first.place first.entry = first.is ∙ ap (λ k. PutOrigin k first.entry) at in
    subst (λ (p : Put). Allowed p s) (sym is) (
      (record { within = first.there; there = first.stands; none = first.none }, subst (λ (e : Entry). Fits e 0) first.stands (whole.fit first.place first.there)),
      record { count = length-set s.origins first.place (Some 0) ∙ whole.count; fit = whole.fit },
      refl,
    )

allowed_by : (puts : List Put) (s : Stored) → opening_puts s ≡ puts → IsWhole s → AreAllowed puts s None
allowed_by [] s e whole = tt
allowed_by (put ∷ puts) s e whole =
    let first = first_of_opening s put puts e in
    let allowed = first_allowed s put puts whole first in
    (allowed.0, subst (λ (next : Option Kept). AreAllowed puts (after_put put s) next) (sym allowed.2) (allowed_by puts (after_put put s) (next_puts s put puts first) allowed.1))

pub allowed_opening : (map : ℕ → List ℕ) (s : Stored) → Stores map s → s.term < 2 ^ 32 → AreAllowed (opening_puts s) s None
allowed_opening map s has narrow = allowed_by (opening_puts s) s refl (record { count = has.storable.count; fit = fit }) where
  fit : (i : ℕ) → i < length s.log → Fits (slice_index_or s.log i (blank 0)) 0
  fit i below =
      let entry = has.entries i below in
      let bound : (slice_index_or s.log i (blank 0)).term ≤ s.term = (has.storable.follows i below).bound in
      subst (λ (e : Entry). Fits e 0) entry.entry_is (fits (entry_of (map (5 + i))) 0
      (length-take-le 16 (drop 4 (map (5 + i))) (omega (arith, length-drop 4 (map (5 + i)), entry.least))) (omega arith)
      (omega (arith, ap (λ (e : Entry). e.term) entry.entry_is, bound, narrow)))

-- what holds after some of the first of these puts holds after so many of them
pub record IsFront (fact : Stored → Type 0) (puts : List Put) (s : Stored) : Type 0 where
  pub count : ℕ
  pub state : Stored
  pub is : state ≡ after_puts (take count puts) s
  pub holds : fact state

pub some_front : (fact : Stored → Type 0) (puts : List Put) (s : Stored) → AfterSome fact puts s → IsFront fact puts s
some_front fact [] s here = record { count = 0; state = s; is = refl; holds = here }
some_front fact (put ∷ puts) s (inl here) = record { count = 0; state = s; is = refl; holds = here }
some_front fact (put ∷ puts) s (inr there) =
    let front = some_front fact puts (after_put put s) there in record { count = suc front.count; state = front.state; is = front.is; holds = front.holds }
