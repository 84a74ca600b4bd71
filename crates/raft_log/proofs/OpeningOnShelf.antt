-- An opening on the disk by states.
use Rattle.std.proofs.Common.{◌≡◌, ◌⊎◌, inl, inr, ℕ, ◌+◌, ◌<◌, ◌≤◌, ◌^◌, Bool, true, false, length, take, drop, refl, sym, ap, subst, ◌∙◌, arith}
use Rattle.std.specs.Prelude.{Option, None, Some, if◌then◌else◌}
use Rattle.disk_model.specs.declared.memory.MemoryDisk.{MemoryDisk}
use Rattle.disk_model.specs.Calls.{acts, after_call}
use Rattle.disk_model.specs.Device.{Makes}
use Rattle.disk_model.specs.Memory.{DoesInMemory}
use Rattle.kv_store.specs.Image.{key_count, open_calls}
use Rattle.kv_store.specs.KeyDisk.{IsOn as IsOnKeys, IsReady as IsReadyKeys, Unsynced, KeyDisk, after_calls, is_opened, keeps, opened_on, restarted_on, settled_by}
use Rattle.outside.specs.declared.pattern.Pattern.{Pattern}
use Rattle.outside.specs.declared.pattern.Pattern.TheVariants.{New}
use Rattle.raft_log.specs.DeviceCalls.{copies_after, device_calls}
use Rattle.raft_log.specs.Opening.{opening_calls}
use Rattle.raft_log.specs.KeyDisk.{IsOn, IsReady, are_put, done_on, found_by, is_open_on, kept_by, opening_done, opening_on, puts_on}
use Rattle.raft_log.specs.Stored.{Stored, after_puts, opening_puts}
use Rattle.raft_log.proofs.InTurn.{calls_parted}
use Rattle.raft_log.proofs.Opening.{allowed_opening, left_after}
use Rattle.raft_log.proofs.Restarting.{all_done, done_most, restart_finds, some_left}
use Rattle.raft_log.proofs.StatesOnShelf.{LawOfPuts, Map, and_false, and_true, both_true, by_keys, maps_of, opened_fits, puts_done, ready_by_keys}

-- the shelf after both device calls of an opening
abbrev pub read_shelf : KeyDisk Stored → KeyDisk Stored
read_shelf key_disk = record key_disk { unsynced = None; calls = after_calls 2 key_disk.calls }

opened_by : (b : Bool) (key_disk : KeyDisk Stored) → b ≡ true → (if b then read_shelf key_disk else record key_disk { calls = after_call key_disk.calls }) ≡ read_shelf key_disk
opened_by b key_disk is = rw is refl

opened_is : (key_disk : KeyDisk Stored) → is_opened key_disk.calls ≡ true → opened_on key_disk ≡ read_shelf key_disk
opened_is key_disk is = opened_by (acts key_disk.calls) key_disk (both_true (acts key_disk.calls) (acts (after_call key_disk.calls)) is).0

opening_by : (b : Bool) (key_disk : KeyDisk Stored) → is_opened key_disk.calls ≡ b → opening_on key_disk ≡ (if b then puts_on (opening_puts key_disk.store) (opened_on key_disk) else opened_on key_disk)
opening_by b key_disk is = ap (λ (b : Bool). if b then puts_on (opening_puts key_disk.store) (opened_on key_disk) else opened_on key_disk) is

-- an opening whose two device calls act
opening_is : (key_disk : KeyDisk Stored) → is_opened key_disk.calls ≡ true → opening_on key_disk ≡ puts_on (opening_puts key_disk.store) (read_shelf key_disk)
opening_is key_disk is = opening_by true key_disk is ∙ ap (puts_on (opening_puts key_disk.store)) (opened_is key_disk is)

-- an opening that is whole
pub opening_whole : (key_disk : KeyDisk Stored) → is_open_on key_disk ≡ true
    → ((opening_on key_disk).store ≡ after_puts (opening_puts key_disk.store) key_disk.store) × ((opening_on key_disk).copies ≡ copies_after (opening_puts key_disk.store) key_disk.store key_disk.copies)
opening_whole key_disk e =
    let tests = both_true (is_opened key_disk.calls) (are_put (opening_puts key_disk.store) (after_calls 2 key_disk.calls)) e in
    let all = puts_done (opening_puts key_disk.store) (read_shelf key_disk) tests.1 in
    let is = opening_is key_disk tests.0 in (ap (λ (x : KeyDisk Stored). x.store) is ∙ all.0, ap (λ (x : KeyDisk Stored). x.copies) is ∙ all.1)

-- at most one put more is found than was done
at_most : (b : Bool) → (if b then 1 else 0) ≤ 1
at_most true = omega arith
at_most false = omega arith

kept_most : (pattern : Pattern) (unsynced : Option (Unsynced Stored)) (key_disk : KeyDisk Stored) → kept_by pattern unsynced key_disk ≤ 1
kept_most pattern None key_disk = omega arith
kept_most pattern (Some unsynced) key_disk = at_most (keeps pattern (key_disk.copies unsynced.key))

pub found_most : (pattern : Pattern) (key_disk : KeyDisk Stored) → found_by pattern key_disk ≤ 1
found_most pattern key_disk = kept_most pattern key_disk.unsynced key_disk

-- how many puts are done
done_by : (b : Bool) (n m : ℕ) → n ≤ m → (if b then n else 0) ≤ m
done_by true n m h = h
done_by false n m h = omega arith

pub opening_most : (key_disk : KeyDisk Stored) → opening_done key_disk ≤ length (opening_puts key_disk.store)
opening_most key_disk =
    done_by (is_opened key_disk.calls) (done_on (opening_puts key_disk.store) (after_calls 2 key_disk.calls)) (length (opening_puts key_disk.store)) (done_most (opening_puts key_disk.store) (after_calls 2 key_disk.calls))

pub opening_all : (key_disk : KeyDisk Stored) → is_open_on key_disk ≡ true → opening_done key_disk ≡ length (opening_puts key_disk.store)
opening_all key_disk e =
    let tests = both_true (is_opened key_disk.calls) (are_put (opening_puts key_disk.store) (after_calls 2 key_disk.calls)) e in
    ap (λ (b : Bool). if b then done_on (opening_puts key_disk.store) (after_calls 2 key_disk.calls) else 0) tests.0 ∙ all_done (opening_puts key_disk.store) (after_calls 2 key_disk.calls) tests.1

pub opening_less : (key_disk : KeyDisk Stored) → is_opened key_disk.calls ≡ true → is_open_on key_disk ≡ false → opening_done key_disk < length (opening_puts key_disk.store)
opening_less key_disk is e =
    let left = some_left (opening_puts key_disk.store) (after_calls 2 key_disk.calls) (sym (and_true (is_opened key_disk.calls) (are_put (opening_puts key_disk.store) (after_calls 2 key_disk.calls)) is) ∙ e) in
    subst (λ n. n < length (opening_puts key_disk.store)) (sym (ap (λ (b : Bool). if b then done_on (opening_puts key_disk.store) (after_calls 2 key_disk.calls) else 0) is)) left

-- a restart that keeps all that was written
kept_all : (unsynced : Option (Unsynced Stored)) (key_disk : KeyDisk Stored) → (settled_by New unsynced key_disk).store ≡ key_disk.store
kept_all None key_disk = refl
kept_all (Some unsynced) key_disk = refl

pub kept_as_it_is : (key_disk : KeyDisk Stored) → (restarted_on New key_disk).store ≡ key_disk.store
kept_as_it_is key_disk = kept_all key_disk.unsynced key_disk

-- what a restart after an opening finds
module _ (pattern : Pattern) (key_disk : KeyDisk Stored) where
  abbrev Finds : KeyDisk Stored → ℕ → Type 0
  Finds after done = (restarted_on pattern after).store ≡ after_puts (take (done + found_by pattern after) (opening_puts key_disk.store)) key_disk.store

  unread_by : (b : Bool) (unsynced : Option (Unsynced Stored)) → (b ≡ false → unsynced ≡ None) → Finds (if b then read_shelf key_disk else record key_disk { unsynced = unsynced; calls = after_call key_disk.calls }) 0
  unread_by true unsynced none = refl
  unread_by false unsynced none = subst (λ (l : Option (Unsynced Stored)). Finds (record key_disk { unsynced = l; calls = after_call key_disk.calls }) 0) (sym (none refl)) refl

  finds_by : (acts key_disk.calls ≡ false → key_disk.unsynced ≡ None) → (b : Bool) → is_opened key_disk.calls ≡ b
      → Finds (if b then puts_on (opening_puts key_disk.store) (opened_on key_disk) else opened_on key_disk) (if b then done_on (opening_puts key_disk.store) (after_calls 2 key_disk.calls) else 0)
  finds_by none true is = subst (λ (x : KeyDisk Stored). Finds (puts_on (opening_puts key_disk.store) x) (done_on (opening_puts key_disk.store) (after_calls 2 key_disk.calls))) (sym (opened_is key_disk is))
      (restart_finds (opening_puts key_disk.store) (read_shelf key_disk) pattern refl)
  finds_by none false is = unread_by (acts key_disk.calls) key_disk.unsynced none

  pub opening_finds : (acts key_disk.calls ≡ false → key_disk.unsynced ≡ None) → Finds (opening_on key_disk) (opening_done key_disk)
  opening_finds none = finds_by none (is_opened key_disk.calls) refl

  -- so the next opening goes on there
  pub opening_left : (acts key_disk.calls ≡ false → key_disk.unsynced ≡ None)
      → opening_puts (restarted_on pattern (opening_on key_disk)).store ≡ drop (opening_done key_disk + found_by pattern (opening_on key_disk)) (opening_puts key_disk.store)
  opening_left none = ap opening_puts (opening_finds none) ∙ left_after key_disk.store (opening_done key_disk + found_by pattern (opening_on key_disk))

-- the device calls of an opening
abbrev pub LawOfReads : Type 0
LawOfReads = (old new : MemoryDisk) (key_disk : KeyDisk Stored) (ok : Bool) → IsOn old key_disk → Makes DoesInMemory open_calls ok old new
    → IsOn new (opened_on key_disk) × (ok ≡ is_opened key_disk.calls) × (ok ≡ true → IsReady new (opened_on key_disk))

module _ (keys_read : (old new : MemoryDisk) (key_disk : KeyDisk Map) (ok : Bool) → IsOnKeys old key_disk → Makes DoesInMemory open_calls ok old new
    → IsOnKeys new (opened_on key_disk) × (ok ≡ is_opened key_disk.calls) × (ok ≡ true → IsReadyKeys new (opened_on key_disk))) where
  pub read_on_shelf : LawOfReads
  read_on_shelf old new key_disk ok on made =
      let keys = maps_of old key_disk on in
      let k = keys_read old new keys ok on.on made in
      let fit = opened_fits on.map on.map key_disk.store key_disk.store key_disk.copies on.before key_disk.unsynced key_disk.calls on.stores on.unsynced in
      (by_keys new (opened_on keys) (opened_on key_disk) fit k.0, k.1, λ good. ready_by_keys new (opened_on keys) (opened_on key_disk) fit (k.2 good))

module _ (reads : LawOfReads) (puts : LawOfPuts) (old new : MemoryDisk) (key_disk : KeyDisk Stored) (copies : ℕ → ℕ) (ok : Bool) (on : IsOn old key_disk)
    (agree : (key : ℕ) → key < key_count → copies key ≡ key_disk.copies key) (narrow : key_disk.store.term < 2 ^ 32) where
  abbrev Opened : Type 0
  Opened = IsOn new (opening_on key_disk) × (ok ≡ is_open_on key_disk) × (ok ≡ true → IsReady new (opening_on key_disk))

  by_part : ((ok ≡ false) × Makes DoesInMemory open_calls false old new)
      ⊎ ((between : MemoryDisk) × Makes DoesInMemory open_calls true old between × Makes DoesInMemory (device_calls (opening_puts key_disk.store) key_disk.store copies) ok between new) → Opened
  by_part (inl failed) =
      let k = reads old new key_disk false on failed.1 in
      let not : is_opened key_disk.calls ≡ false = sym k.1 in (
        subst (λ x. IsOn new x) (sym (opening_by false key_disk not)) k.0,
        failed.0 ∙ sym (and_false (is_opened key_disk.calls) (are_put (opening_puts key_disk.store) (after_calls 2 key_disk.calls)) not),
        λ good. absurd (cc (good, failed.0)),
      )
  by_part (inr more) =
      let k = reads old more.0 key_disk true on more.1 in
      let done : is_opened key_disk.calls ≡ true = sym k.1 in
      let ready : IsReady more.0 (read_shelf key_disk) = subst (λ x. IsReady more.0 x) (opened_is key_disk done) (k.2 refl) in
      let m = puts more.0 new (read_shelf key_disk) copies (opening_puts key_disk.store) ok ready agree (allowed_opening on.map key_disk.store on.stores narrow) more.2 in
      let is = opening_is key_disk done in (
        subst (λ x. IsOn new x) (sym is) m.0,
        m.1 ∙ sym (and_true (is_opened key_disk.calls) (are_put (opening_puts key_disk.store) (after_calls 2 key_disk.calls)) done),
        λ good. subst (λ x. IsReady new x) (sym is) (m.2 good),
      )

  pub opening_made : Makes DoesInMemory (opening_calls key_disk.store copies) ok old new → Opened
  opening_made made = by_part (calls_parted DoesInMemory open_calls (device_calls (opening_puts key_disk.store) key_disk.store copies) ok old new made)

-- an opening that could not read
pub cut_opening : (key_disk : KeyDisk Stored) → is_opened key_disk.calls ≡ false → (opening_on key_disk ≡ opened_on key_disk) × (is_open_on key_disk ≡ false)
cut_opening key_disk not = (opening_by false key_disk not, and_false (is_opened key_disk.calls) (are_put (opening_puts key_disk.store) (after_calls 2 key_disk.calls)) not)
