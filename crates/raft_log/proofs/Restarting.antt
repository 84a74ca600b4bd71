-- What a restart finds.
use Rattle.std.proofs.Common.{◌≡◌, ℕ, suc, ◌+◌, ◌<◌, ◌≤◌, length, Bool, true, false, List, [], ◌∷◌, take, refl, sym, ap, subst, ◌∙◌, arith}
use Rattle.std.specs.Prelude.{Option, None, Some, ◌&&◌, if◌then◌else◌}
use Rattle.disk_model.specs.declared.calls.Calls.{Calls}
use Rattle.disk_model.specs.Calls.{acts, after_call}
use Rattle.kv_store.specs.KeyDisk.{Unsynced, KeyDisk, after_calls, is_put, keeps, restarted_on, turned_to}
use Rattle.kv_store.specs.Image.{turned}
use Rattle.outside.specs.declared.pattern.Pattern.{Pattern}
use Rattle.raft_log.specs.DeviceCalls.{key_of}
use Rattle.raft_log.specs.Stored.{Put, Stored, after_put, after_puts}
use Rattle.raft_log.proofs.StatesOnShelf.{both_true, put_done}
use Rattle.raft_log.specs.KeyDisk.{are_put, done_on, found_by, kept_by, put_state_on, puts_on}

-- a shelf on which nothing is loose
abbrev nothing_unsynced : Stored → (ℕ → ℕ) → Calls → KeyDisk Stored
nothing_unsynced s copies calls = record { store = s; copies = copies; unsynced = None; calls = calls }

-- what is found of a put that failed: the state before it, or after it
abbrev IsFound : Pattern → Put → Stored → KeyDisk Stored → Type 0
IsFound pattern put s key_disk = (restarted_on pattern key_disk).store ≡ after_puts (take (found_by pattern key_disk) (put ∷ [])) s

loose_found : (pattern : Pattern) (put : Put) (s : Stored) (copies : ℕ → ℕ) (calls : Calls)
    → IsFound pattern put s (turned_to (key_of put s) (after_put put s) (nothing_unsynced s copies calls) (Some (record { key = key_of put s; before = s })) calls)
loose_found pattern put s copies calls = by (keeps pattern (turned (key_of put s) copies (key_of put s))) where
  by : (b : Bool) → (if b then record { store = after_put put s; copies = turned (key_of put s) copies; unsynced = None; calls = calls }
      else turned_to (key_of put s) s (turned_to (key_of put s) (after_put put s) (nothing_unsynced s copies calls) (Some (record { key = key_of put s; before = s })) calls) None calls).store
      ≡ after_puts (take (if b then 1 else 0) (put ∷ [])) s
  by true = refl
  by false = refl

-- a put fails at its first, second, third or fourth device call
module _ (put : Put) (s : Stored) (copies : ℕ → ℕ) where
  -- the shelf after a put, by which of its device calls act
  abbrev by_calls : Bool → Bool → Bool → Bool → Calls → KeyDisk Stored
  by_calls a b c d calls =
      if a then if b then if c
      then turned_to (key_of put s) (after_put put s) (nothing_unsynced s copies calls) (if d then None else Some (record { key = key_of put s; before = s })) (after_calls 4 calls)
      else nothing_unsynced s copies (after_calls 3 calls)
      else nothing_unsynced s copies (after_calls 2 calls)
      else nothing_unsynced s copies (after_call calls)

  any_found : (pattern : Pattern) (a b c d : Bool) (calls : Calls) → (a && (b && (c && d))) ≡ false → IsFound pattern put s (by_calls a b c d calls)
  any_found pattern false b c d calls e = refl
  any_found pattern true false c d calls e = refl
  any_found pattern true true false d calls e = refl
  any_found pattern true true true false calls e = loose_found pattern put s copies (after_calls 4 calls)
  any_found pattern true true true true calls e = absurd (cc e)

  failed_found : (pattern : Pattern) (calls : Calls) → is_put calls ≡ false → IsFound pattern put s (put_state_on put (nothing_unsynced s copies calls))
  failed_found pattern calls e = any_found pattern (acts calls) (acts (after_call calls)) (acts (after_calls 2 calls)) (acts (after_calls 3 calls)) calls e

none_left : (puts : List Put) → take 0 puts ≡ []
none_left [] = refl
none_left (put ∷ puts) = refl

-- so many puts, of which the first is this one
one_first : (n : ℕ) (put : Put) (puts : List Put) (s : Stored) → after_puts (take (1 + n) (put ∷ puts)) s ≡ after_puts (take n puts) (after_put put s)
one_first n put puts s = let one : 1 + n ≡ suc n = omega arith in ap (λ (k : ℕ). after_puts (take k (put ∷ puts)) s) one

at_most_one : (found : Bool) (put : Put) (puts : List Put) (s : Stored) → after_puts (take (if found then 1 else 0) (put ∷ [])) s ≡ after_puts (take (if found then 1 else 0) (put ∷ puts)) s
at_most_one true put puts s = refl
at_most_one false put puts s = refl

kept_one : (pattern : Pattern) (unsynced : Option (Unsynced Stored)) (key_disk : KeyDisk Stored) (put : Put) (puts : List Put) (s : Stored)
    → after_puts (take (kept_by pattern unsynced key_disk) (put ∷ [])) s ≡ after_puts (take (kept_by pattern unsynced key_disk) (put ∷ puts)) s
kept_one pattern None key_disk put puts s = refl
kept_one pattern (Some unsynced) key_disk put puts s = at_most_one (keeps pattern (key_disk.copies unsynced.key)) put puts s

module _ (put : Put) (puts : List Put) (s : Stored) (copies : ℕ → ℕ) (calls : Calls) (pattern : Pattern) where
  abbrev on : KeyDisk Stored
  on = put_state_on put (nothing_unsynced s copies calls)

  abbrev next : KeyDisk Stored
  next = nothing_unsynced (after_put put s) (turned (key_of put s) copies) (after_calls 4 calls)

  abbrev later : ℕ
  later = done_on puts (after_calls 4 calls)

  abbrev Later : Type 0
  Later = (restarted_on pattern (puts_on puts next)).store ≡ after_puts (take (later + found_by pattern (puts_on puts next)) puts) (after_put put s)

  none_more : kept_by pattern on.unsynced on ≡ 0 + found_by pattern on
  none_more = omega arith

  by : Later → (b : Bool) → is_put calls ≡ b
      → (restarted_on pattern (if b then puts_on puts on else on)).store
      ≡ after_puts (take ((if b then 1 + later else 0) + found_by pattern (if b then puts_on puts on else on)) (put ∷ puts)) s
  by rest true e =
      let done : on ≡ next = put_done (key_of put s) (after_put put s) (nothing_unsynced s copies calls) e in
      let sum : 1 + (later + found_by pattern (puts_on puts next)) ≡ (1 + later) + found_by pattern (puts_on puts next) = omega arith in
      subst (λ (x : KeyDisk Stored). (restarted_on pattern (puts_on puts x)).store ≡ after_puts (take ((1 + later) + found_by pattern (puts_on puts x)) (put ∷ puts)) s) (sym done)
      (rest ∙ (sym (one_first (later + found_by pattern (puts_on puts next)) put puts s) ∙ ap (λ (k : ℕ). after_puts (take k (put ∷ puts)) s) sum))
  by rest false e = failed_found put s copies pattern calls e ∙ (kept_one pattern on.unsynced on put puts s ∙ ap (λ (k : ℕ). after_puts (take k (put ∷ puts)) s) none_more)

  step : Later → (restarted_on pattern (puts_on (put ∷ puts) (nothing_unsynced s copies calls))).store ≡ after_puts (take (done_on (put ∷ puts) calls + found_by pattern (puts_on (put ∷ puts) (nothing_unsynced s copies calls))) (put ∷ puts)) s
  step rest = by rest (is_put calls) refl

pub finds : (puts : List Put) (s : Stored) (copies : ℕ → ℕ) (calls : Calls) (pattern : Pattern)
    → (restarted_on pattern (puts_on puts (nothing_unsynced s copies calls))).store ≡ after_puts (take (done_on puts calls + found_by pattern (puts_on puts (nothing_unsynced s copies calls))) puts) s
finds [] s copies calls pattern = refl
finds (put ∷ puts) s copies calls pattern = step put puts s copies calls pattern (finds puts (after_put put s) (turned (key_of put s) copies) (after_calls 4 calls) pattern)

-- no more are done than there are
one_more : (n m : ℕ) (b : Bool) → n ≤ m → (if b then 1 + n else 0) ≤ m + 1
one_more n m true h = omega (arith, h)
one_more n m false h = omega arith

pub done_most : (puts : List Put) (calls : Calls) → done_on puts calls ≤ length puts
done_most [] calls = omega arith
done_most (put ∷ puts) calls =
    let rest = one_more (done_on puts (after_calls 4 calls)) (length puts) (is_put calls) (done_most puts (after_calls 4 calls)) in omega (arith, rest)

pub all_done : (puts : List Put) (calls : Calls) → are_put puts calls ≡ true → done_on puts calls ≡ length puts
all_done [] calls e = refl
all_done (put ∷ puts) calls e =
    let tests = both_true (is_put calls) (are_put puts (after_calls 4 calls)) e in
    let rest : done_on puts (after_calls 4 calls) ≡ length puts = all_done puts (after_calls 4 calls) tests.1 in
    ap (λ (b : Bool). if b then 1 + done_on puts (after_calls 4 calls) else 0) tests.0 ∙ omega (arith, rest)

less_by : (n m : ℕ) (a b : Bool) → (b ≡ false → n < m) → (a && b) ≡ false → (if a then 1 + n else 0) < m + 1
less_by n m true b less e = let h : n < m = less e in omega (arith, h)
less_by n m false b less e = omega arith

pub some_left : (puts : List Put) (calls : Calls) → are_put puts calls ≡ false → done_on puts calls < length puts
some_left [] calls e = absurd (cc e)
some_left (put ∷ puts) calls e =
    let rest = less_by (done_on puts (after_calls 4 calls)) (length puts) (is_put calls) (are_put puts (after_calls 4 calls)) (some_left puts (after_calls 4 calls)) e in omega (arith, rest)

pub restart_finds : (puts : List Put) (key_disk : KeyDisk Stored) (pattern : Pattern) → key_disk.unsynced ≡ None
    → (restarted_on pattern (puts_on puts key_disk)).store ≡ after_puts (take (done_on puts key_disk.calls + found_by pattern (puts_on puts key_disk)) puts) key_disk.store
restart_finds puts key_disk pattern none = subst (λ (unsynced : Option (Unsynced Stored)). let on : KeyDisk Stored = record { store = key_disk.store; copies = key_disk.copies; unsynced = unsynced; calls = key_disk.calls } in
    (restarted_on pattern (puts_on puts on)).store ≡ after_puts (take (done_on puts key_disk.calls + found_by pattern (puts_on puts on)) puts) key_disk.store) (sym none) (finds puts key_disk.store key_disk.copies key_disk.calls pattern)
