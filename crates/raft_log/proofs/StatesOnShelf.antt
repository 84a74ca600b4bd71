-- The disk by keys with stored states, step by step.
use Rattle.std.proofs.Common.{◌≡◌, ◌⊎◌, inl, inr, ℕ, ◌-◌, ◌<◌, ◌≤◌, ◌&&◌, Bool, true, false, List, [], ◌∷◌, ◌++◌, length, refl, sym, ap, subst, ◌∙◌, arith}
use Rattle.std.specs.Prelude.{Option, None, Some, if◌then◌else◌}
use Rattle.std.proofs.lemmas.Bool.Decides.{eqb_tells}
use Rattle.disk_model.specs.declared.calls.Calls.{Calls}
use Rattle.disk_model.specs.declared.memory.MemoryDisk.{MemoryDisk}
use Rattle.disk_model.specs.Calls.{acts, after_call}
use Rattle.disk_model.specs.Device.{DeviceCall, Makes}
use Rattle.disk_model.specs.Memory.{DoesInMemory, memory_contents, nothing_set}
use Rattle.kv_store.specs.Image.{chosen_copy, key_count, put_calls, put_in, turned, value_in, value_limit}
use Rattle.kv_store.specs.KeyDisk.{IsOn as IsOnKeys, IsReady as IsReadyKeys, Unsynced, KeyDisk, Shows, after_calls, is_put, keeps, opened_on, put_on, restarted_on, turned_to}
use Rattle.outside.specs.declared.pattern.Pattern.{Pattern}
use Rattle.raft_log.specs.Allowed.{AreAllowed, IsNext, next_after}
use Rattle.raft_log.specs.DeviceCalls.{bytes_of, copies_after, device_calls, key_of}
use Rattle.raft_log.specs.MayFollow.{IsStorable}
use Rattle.raft_log.specs.Rules.{StandsForState, Stores}
use Rattle.raft_log.specs.KeyDisk.{IsOn, IsReady, SameUnsynced, are_put, put_state_on, puts_on}
use Rattle.raft_log.specs.Stored.{Kept, Put, Stored, after_put, after_puts}
use Rattle.raft_log.proofs.AllowedPuts.{key_exists, step, value_short}
use Rattle.raft_log.proofs.InTurn.{calls_parted}
use Rattle.raft_log.proofs.Kept.{storable_after}
use Rattle.raft_log.proofs.States.{image_stands}

abbrev pub Map : Type 0
Map = ℕ → List ℕ

-- the one shelf has maps of the states of the other
pub record Fit (maps : KeyDisk Map) (key_disk : KeyDisk Stored) : Type 0 where
  pub store : Stores maps.store key_disk.store
  pub unsynced : SameUnsynced maps.unsynced key_disk.unsynced
  pub copies : maps.copies ≡ key_disk.copies
  pub calls : maps.calls ≡ key_disk.calls

same_none : (map : Option (Unsynced Map)) (state : Option (Unsynced Stored)) → SameUnsynced map state → map ≡ None → state ≡ None
same_none None None same is = refl
same_none None (Some s) same is = elim same [ ]
same_none (Some m) None same is = refl
same_none (Some m) (Some s) same is = absurd (cc (is))

none_same : (map : Option (Unsynced Map)) (state : Option (Unsynced Stored)) → SameUnsynced map state → state ≡ None → map ≡ None
none_same None None same is = refl
none_same None (Some s) same is = elim same [ ]
none_same (Some m) None same is = elim same [ ]
none_same (Some m) (Some s) same is = absurd (cc (is))

pub by_keys : (disk : MemoryDisk) (maps : KeyDisk Map) (key_disk : KeyDisk Stored) → Fit maps key_disk → IsOnKeys disk maps → IsOn disk key_disk
by_keys disk maps key_disk fit on = record {
  map = maps.store;
  before = maps.unsynced;
  on = subst (λ (copies : ℕ → ℕ). IsOnKeys disk (record { store = maps.store; copies = copies; unsynced = maps.unsynced; calls = key_disk.calls })) fit.copies
      (subst (λ (calls : Calls). IsOnKeys disk (record { store = maps.store; copies = maps.copies; unsynced = maps.unsynced; calls = calls })) fit.calls on);
  stores = fit.store;
  unsynced = fit.unsynced;
}

pub ready_by_keys : (disk : MemoryDisk) (maps : KeyDisk Map) (key_disk : KeyDisk Stored) → Fit maps key_disk → IsReadyKeys disk maps → IsReady disk key_disk
ready_by_keys disk maps key_disk fit ready = record {
  on = by_keys disk maps key_disk fit ready.on;
  settled = ready.settled;
  nothing_unsynced = same_none maps.unsynced key_disk.unsynced fit.unsynced ready.nothing_unsynced;
}

-- the maps of a shelf
abbrev pub maps_of : (disk : MemoryDisk) (key_disk : KeyDisk Stored) → IsOn disk key_disk → KeyDisk Map
maps_of disk key_disk on = record { store = on.map; copies = key_disk.copies; unsynced = on.before; calls = key_disk.calls }

-- what an opening finds
pub found : (disk : MemoryDisk) (key_disk : KeyDisk Stored) → IsOn disk key_disk
    → StandsForState (memory_contents disk).seen key_disk.store × ((key : ℕ) → key < key_count → chosen_copy (memory_contents disk).seen key ≡ key_disk.copies key)
found disk key_disk on = (image_stands (memory_contents disk).seen on.map key_disk.store on.on.seen.shown on.stores, on.on.seen.chosen)

-- the image as it is
pub shows_itself : (image : List ℕ) (s : Stored) → StandsForState image s → Shows image (value_in image) (λ key. chosen_copy image key)
shows_itself image s stands = record { shown = record { whole = stands.whole; values = λ key h. refl }; chosen = λ key h. refl }

pub bits_of : (image : List ℕ) (key : ℕ) → chosen_copy image key < 2
bits_of image key = omega arith

-- a put by the tests of its device calls
abbrev put_by : {S : Type 0} → Bool → Bool → Bool → Bool → ℕ → S → KeyDisk S → KeyDisk S
put_by b0 b1 b2 b3 key after key_disk =
    if b0 then if b1 then if b2
    then turned_to key after key_disk (if b3 then None else Some (record { key = key; before = key_disk.store })) (after_calls 4 key_disk.calls)
    else record key_disk { calls = after_calls 3 key_disk.calls }
    else record key_disk { calls = after_calls 2 key_disk.calls }
    else record key_disk { calls = after_call key_disk.calls }

module _ (m m' : Map) (s s' : Stored) (copies : ℕ → ℕ) (before : Option (Unsynced Map)) (unsynced : Option (Unsynced Stored)) (calls : Calls) (has : Stores m s) (same : SameUnsynced before unsynced) where
  abbrev of_maps : KeyDisk Map
  of_maps = record { store = m; copies = copies; unsynced = before; calls = calls }

  abbrev of_states : KeyDisk Stored
  of_states = record { store = s; copies = copies; unsynced = unsynced; calls = calls }

  module _ (key : ℕ) (has' : Stores m' s') where
    put_fits_by : (b0 b1 b2 b3 : Bool) → Fit (put_by b0 b1 b2 b3 key m' of_maps) (put_by b0 b1 b2 b3 key s' of_states)
    put_fits_by false b1 b2 b3 = record { store = has; unsynced = same; copies = refl; calls = refl }
    put_fits_by true false b2 b3 = record { store = has; unsynced = same; copies = refl; calls = refl }
    put_fits_by true true false b3 = record { store = has; unsynced = same; copies = refl; calls = refl }
    put_fits_by true true true false = record { store = has'; unsynced = (refl, has); copies = refl; calls = refl }
    put_fits_by true true true true = record { store = has'; unsynced = tt; copies = refl; calls = refl }

    put_fits : Fit (put_on key m' of_maps) (put_on key s' of_states)
    put_fits = put_fits_by (acts calls) (acts (after_call calls)) (acts (after_calls 2 calls)) (acts (after_calls 3 calls))

  opened_fits_by : (b : Bool) → Fit (if b then record of_maps { unsynced = None; calls = after_calls 2 calls } else record of_maps { calls = after_call calls }) (if b then record of_states { unsynced = None; calls = after_calls 2 calls } else record of_states { calls = after_call calls })
  opened_fits_by true = record { store = has; unsynced = tt; copies = refl; calls = refl }
  opened_fits_by false = record { store = has; unsynced = same; copies = refl; calls = refl }

  pub opened_fits : Fit (opened_on of_maps) (opened_on of_states)
  opened_fits = opened_fits_by (acts calls)

  pub set_fits : (now : Calls) → Fit (record of_maps { calls = now }) (record of_states { calls = now })
  set_fits now = record { store = has; unsynced = same; copies = refl; calls = refl }

-- after a restart
module _ (m b : Map) (s before : Stored) (copies : ℕ → ℕ) (key : ℕ) (calls : Calls) (has : Stores m s) (had : Stores b before) where
  abbrev loose_maps : ℕ → KeyDisk Map
  loose_maps k = record { store = m; copies = copies; unsynced = Some (record { key = k; before = b }); calls = calls }

  abbrev loose_shelf : KeyDisk Stored
  loose_shelf = record { store = s; copies = copies; unsynced = Some (record { key = key; before = before }); calls = calls }

  kept_fits_by : (kept : Bool) → Fit
      (record (if kept then record (loose_maps key) { unsynced = None } else turned_to key b (loose_maps key) None calls) { calls = nothing_set calls.faults })
      (record (if kept then record loose_shelf { unsynced = None } else turned_to key before loose_shelf None calls) { calls = nothing_set calls.faults })
  kept_fits_by true = record { store = has; unsynced = tt; copies = refl; calls = refl }
  kept_fits_by false = record { store = had; unsynced = tt; copies = refl; calls = refl }

  kept_fits : (pattern : Pattern) (k : ℕ) → k ≡ key → Fit (restarted_on pattern (loose_maps k)) (restarted_on pattern loose_shelf)
  kept_fits pattern k is = subst (λ k. Fit (restarted_on pattern (loose_maps k)) (restarted_on pattern loose_shelf)) (sym is) (kept_fits_by (keeps pattern (copies key)))

pub restarted_fits : (m : Map) (s : Stored) (copies : ℕ → ℕ) (before : Option (Unsynced Map)) (unsynced : Option (Unsynced Stored)) (calls : Calls) (pattern : Pattern) → Stores m s → SameUnsynced before unsynced
    → Fit (restarted_on pattern (record { store = m; copies = copies; unsynced = before; calls = calls })) (restarted_on pattern (record { store = s; copies = copies; unsynced = unsynced; calls = calls }))
restarted_fits m s copies None None calls pattern has same = record { store = has; unsynced = tt; copies = refl; calls = refl }
restarted_fits m s copies None (Some l) calls pattern has same = elim same [ ]
restarted_fits m s copies (Some b) None calls pattern has same = elim same [ ]
restarted_fits m s copies (Some b) (Some l) calls pattern has same = kept_fits m b.before s l.before copies l.key calls has same.1 pattern b.key same.0

-- all device calls of a put act
pub both_true : (a b : Bool) → (a && b) ≡ true → (a ≡ true) × (b ≡ true)
both_true true b e = (refl, e)
both_true false b e = absurd (cc (e))

pub put_done : {S : Type 0} (key : ℕ) (after : S) (key_disk : KeyDisk S) → is_put key_disk.calls ≡ true → put_on key after key_disk ≡ turned_to key after key_disk None (after_calls 4 key_disk.calls)
put_done {S} key after key_disk e =
    let first = both_true (acts key_disk.calls) (acts (after_call key_disk.calls) && (acts (after_calls 2 key_disk.calls) && acts (after_calls 3 key_disk.calls))) e in
    let second = both_true (acts (after_call key_disk.calls)) (acts (after_calls 2 key_disk.calls) && acts (after_calls 3 key_disk.calls)) first.1 in
    let third = both_true (acts (after_calls 2 key_disk.calls)) (acts (after_calls 3 key_disk.calls)) second.1 in
    rw (first.0, second.0, third.0, third.1) refl

chosen_true : {S : Type 0} (b : Bool) (x y : S) → b ≡ true → (if b then x else y) ≡ x
chosen_true b x y e = rw e refl

chosen_false : {S : Type 0} (b : Bool) (x y : S) → b ≡ false → (if b then x else y) ≡ y
chosen_false b x y e = rw e refl

pub and_true : (a b : Bool) → a ≡ true → (a && b) ≡ b
and_true a b e = rw e refl

pub and_false : (a b : Bool) → a ≡ false → (a && b) ≡ false
and_false a b e = rw e refl

not_both : (ok : Bool) (P : Type 0) → ok ≡ false → ok ≡ true → P
not_both ok P bad good = absurd (cc (bad, good))

-- copies that agree on all keys give the same device calls
same_calls : (puts : List Put) (s : Stored) (next : Option Kept) (c d : ℕ → ℕ) → ((key : ℕ) → key < 132 → c key ≡ d key) → IsStorable s → AreAllowed puts s next → device_calls puts s c ≡ device_calls puts s d
same_calls [] s next c d agree storable allowed = refl
same_calls (put ∷ puts) s next c d agree storable allowed =
    let key = key_of put s in
    let later : (k : ℕ) → k < 132 → turned key c k ≡ turned key d k = λ k h. elim (eqb_tells k key) as (λ _. turned key c k ≡ turned key d k) [
      | inl t ↦ rw t.0 (ap (λ n. 1 - n) (agree k h))
      | inr t ↦ rw t.0 (agree k h)
    ] in
    ap (λ n. put_calls key (1 - n) (bytes_of put) ++ device_calls puts (after_put put s) (turned key c)) (agree key (key_exists s next put storable.room allowed.0))
    ∙ ap (λ (calls : List DeviceCall). put_calls key (1 - d key) (bytes_of put) ++ calls) (same_calls puts (after_put put s) (next_after put next) (turned key c) (turned key d) later (storable_after put s next allowed.0 storable) allowed.1)

-- puts that are all done
pub puts_done : (puts : List Put) (key_disk : KeyDisk Stored) → are_put puts key_disk.calls ≡ true
    → ((puts_on puts key_disk).store ≡ after_puts puts key_disk.store) × ((puts_on puts key_disk).copies ≡ copies_after puts key_disk.store key_disk.copies)
puts_done [] key_disk e = (refl, refl)
puts_done (put ∷ puts) key_disk e =
    let tests = both_true (is_put key_disk.calls) (are_put puts (after_calls 4 key_disk.calls)) e in
    let next : KeyDisk Stored = turned_to (key_of put key_disk.store) (after_put put key_disk.store) key_disk None (after_calls 4 key_disk.calls) in
    let is : puts_on (put ∷ puts) key_disk ≡ puts_on puts next =
    chosen_true (is_put key_disk.calls) (puts_on puts (put_state_on put key_disk)) (put_state_on put key_disk) tests.0 ∙ ap (λ x. puts_on puts x) (put_done (key_of put key_disk.store) (after_put put key_disk.store) key_disk tests.0) in
    let rest = puts_done puts next tests.1 in
    (ap (λ (x : KeyDisk Stored). x.store) is ∙ rest.0, ap (λ (x : KeyDisk Stored). x.copies) is ∙ rest.1)

-- of puts of which one fails, those behind it are not tried
abbrev pub NoneBehind : List Put → List Put → KeyDisk Stored → Type 0
NoneBehind tried others key_disk = are_put tried key_disk.calls ≡ false
    → (puts_on (tried ++ others) key_disk ≡ puts_on tried key_disk) × (are_put (tried ++ others) key_disk.calls ≡ false)

module _ (put : Put) (tried others : List Put) (key_disk : KeyDisk Stored) where
  abbrev here : KeyDisk Stored
  here = put_state_on put key_disk

  abbrev done_shelf : KeyDisk Stored
  done_shelf = turned_to (key_of put key_disk.store) (after_put put key_disk.store) key_disk None (after_calls 4 key_disk.calls)

  none_behind_by : NoneBehind tried others done_shelf → (b : Bool) → is_put key_disk.calls ≡ b → NoneBehind (put ∷ tried) others key_disk
  none_behind_by later false is e = (
    chosen_false (is_put key_disk.calls) (puts_on (tried ++ others) here) here is ∙ sym (chosen_false (is_put key_disk.calls) (puts_on tried here) here is),
    and_false (is_put key_disk.calls) (are_put (tried ++ others) (after_calls 4 key_disk.calls)) is,
  )
  none_behind_by later true is e =
      let done : here ≡ done_shelf = put_done (key_of put key_disk.store) (after_put put key_disk.store) key_disk is in
      let rest = later (sym (and_true (is_put key_disk.calls) (are_put tried (after_calls 4 key_disk.calls)) is) ∙ e) in (
        chosen_true (is_put key_disk.calls) (puts_on (tried ++ others) here) here is
            ∙ (subst (λ x. puts_on (tried ++ others) x ≡ puts_on tried x) (sym done) rest.0 ∙ sym (chosen_true (is_put key_disk.calls) (puts_on tried here) here is)),
        and_true (is_put key_disk.calls) (are_put (tried ++ others) (after_calls 4 key_disk.calls)) is ∙ rest.1,
      )

pub none_behind : (tried others : List Put) (key_disk : KeyDisk Stored) → NoneBehind tried others key_disk
none_behind [] others key_disk e = absurd (cc e)
none_behind (put ∷ tried) others key_disk e =
    none_behind_by put tried others key_disk (none_behind tried others (turned_to (key_of put key_disk.store) (after_put put key_disk.store) key_disk None (after_calls 4 key_disk.calls))) (is_put key_disk.calls) refl e

abbrev pub LawOfPuts : Type 0
LawOfPuts = (old new : MemoryDisk) (key_disk : KeyDisk Stored) (copies : ℕ → ℕ) (puts : List Put) (ok : Bool) →
    IsReady old key_disk → ((key : ℕ) → key < key_count → copies key ≡ key_disk.copies key) → AreAllowed puts key_disk.store None →
    Makes DoesInMemory (device_calls puts key_disk.store copies) ok old new →
    IsOn new (puts_on puts key_disk) × (ok ≡ are_put puts key_disk.calls) × (ok ≡ true → IsReady new (puts_on puts key_disk))

module _ (keys_put : (old new : MemoryDisk) (key_disk : KeyDisk Map) (key : ℕ) (value : List ℕ) (ok : Bool) → IsReadyKeys old key_disk → key < key_count → length value ≤ value_limit
    → Makes DoesInMemory (put_calls key (1 - key_disk.copies key) value) ok old new
    → IsOnKeys new (put_on key (put_in key_disk.store key value) key_disk) × (ok ≡ is_put key_disk.calls) × (ok ≡ true → IsReadyKeys new (put_on key (put_in key_disk.store key value) key_disk))) where
  abbrev Made : List Put → MemoryDisk → Stored → (ℕ → ℕ) → Calls → Bool → Type 0
  Made puts new s copies calls ok = IsOn new (puts_on puts (record { store = s; copies = copies; unsynced = None; calls = calls })) × (ok ≡ are_put puts calls)
      × (ok ≡ true → IsReady new (puts_on puts (record { store = s; copies = copies; unsynced = None; calls = calls })))

  module _ (put : Put) (puts : List Put) (old new : MemoryDisk) (m : Map) (s : Stored) (next : Option Kept) (copies : ℕ → ℕ) (calls : Calls) (ok : Bool) where
    abbrev keys : KeyDisk Map
    keys = record { store = m; copies = copies; unsynced = None; calls = calls }

    abbrev states : KeyDisk Stored
    states = record { store = s; copies = copies; unsynced = None; calls = calls }

    abbrev first_calls : List DeviceCall
    first_calls = put_calls (key_of put s) (1 - copies (key_of put s)) (bytes_of put)

    abbrev later_calls : List DeviceCall
    later_calls = device_calls puts (after_put put s) (turned (key_of put s) copies)

    abbrev after_keys : KeyDisk Map
    after_keys = put_on (key_of put s) (put_in m (key_of put s) (bytes_of put)) keys

    abbrev done_keys : KeyDisk Map
    done_keys = turned_to (key_of put s) (put_in m (key_of put s) (bytes_of put)) keys None (after_calls 4 calls)

    module _ (ready : IsReadyKeys old keys) (has : Stores m s) (stepped : Stores (put_in m (key_of put s) (bytes_of put)) (after_put put s)) (exists : key_of put s < 132) (short : length (bytes_of put) ≤ 32)
        (later : (between : MemoryDisk) → IsReadyKeys between done_keys → Makes DoesInMemory later_calls ok between new → Made puts new (after_put put s) (turned (key_of put s) copies) (after_calls 4 calls) ok) where
      fit : Fit after_keys (put_state_on put states)
      fit = put_fits m (put_in m (key_of put s) (bytes_of put)) s (after_put put s) copies None None calls has tt (key_of put s) stepped

      by_part : ((ok ≡ false) × Makes DoesInMemory first_calls false old new) ⊎ ((between : MemoryDisk) × Makes DoesInMemory first_calls true old between × Makes DoesInMemory later_calls ok between new)
          → Made (put ∷ puts) new s copies calls ok
      by_part (inl failed) =
          let k = keys_put old new keys (key_of put s) (bytes_of put) false ready exists short failed.1 in
          let not : is_put calls ≡ false = sym k.1 in
          let is : puts_on (put ∷ puts) states ≡ put_state_on put states = chosen_false (is_put calls) (puts_on puts (put_state_on put states)) (put_state_on put states) not in (
            subst (λ x. IsOn new x) (sym is) (by_keys new after_keys (put_state_on put states) fit k.0),
            failed.0 ∙ sym (and_false (is_put calls) (are_put puts (after_calls 4 calls)) not),
            not_both ok (IsReady new (puts_on (put ∷ puts) states)) failed.0,
          )
      by_part (inr more) =
          let k = keys_put old more.0 keys (key_of put s) (bytes_of put) true ready exists short more.1 in
          let done : is_put calls ≡ true = sym k.1 in
          let then_ready : IsReadyKeys more.0 done_keys = subst (λ (x : KeyDisk Map). IsReadyKeys more.0 x) (put_done (key_of put s) (put_in m (key_of put s) (bytes_of put)) keys done) (k.2 refl) in
          let rest = later more.0 then_ready more.2 in
          let is : puts_on (put ∷ puts) states ≡ puts_on puts (turned_to (key_of put s) (after_put put s) states None (after_calls 4 calls)) =
          chosen_true (is_put calls) (puts_on puts (put_state_on put states)) (put_state_on put states) done ∙ ap (λ x. puts_on puts x) (put_done (key_of put s) (after_put put s) states done) in (
            subst (λ x. IsOn new x) (sym is) rest.0,
            rest.1 ∙ sym (and_true (is_put calls) (are_put puts (after_calls 4 calls)) done),
            λ good. subst (λ x. IsReady new x) (sym is) (rest.2 good),
          )

  pub puts_made : (puts : List Put) (old new : MemoryDisk) (m : Map) (s : Stored) (next : Option Kept) (copies : ℕ → ℕ) (calls : Calls) (ok : Bool)
      → IsReadyKeys old (record { store = m; copies = copies; unsynced = None; calls = calls }) → Stores m s → IsNext m s next → AreAllowed puts s next
      → Makes DoesInMemory (device_calls puts s copies) ok old new → Made puts new s copies calls ok
  puts_made [] old new m s next copies calls ok ready has at allowed made =
      let same : Fit (record { store = m; copies = copies; unsynced = None; calls = calls }) (record { store = s; copies = copies; unsynced = None; calls = calls }) = record { store = has; unsynced = tt; copies = refl; calls = refl } in
      let here = subst (λ disk. IsReady disk (record { store = s; copies = copies; unsynced = None; calls = calls })) (sym made.1) (ready_by_keys old (record { store = m; copies = copies; unsynced = None; calls = calls }) (record { store = s; copies = copies; unsynced = None; calls = calls }) same ready) in
      (here.on, made.0, λ good. here)
  puts_made (put ∷ puts) old new m s next copies calls ok ready has at allowed made =
      let stepped = step m s next put has at allowed.0 in
      by_part put puts old new m s next copies calls ok ready has stepped.0 (key_exists s next put has.storable.room allowed.0) (value_short s next put allowed.0)
      (λ between then_ready rest. puts_made puts between new (put_in m (key_of put s) (bytes_of put)) (after_put put s) (next_after put next) (turned (key_of put s) copies) (after_calls 4 calls) ok then_ready stepped.0 stepped.1 allowed.1 rest)
      (calls_parted DoesInMemory (put_calls (key_of put s) (1 - copies (key_of put s)) (bytes_of put)) (device_calls puts (after_put put s) (turned (key_of put s) copies)) ok old new made)

  pub puts_on_shelf : LawOfPuts
  puts_on_shelf old new key_disk copies puts ok ready agree allowed made =
      let none : ready.on.before ≡ None = none_same ready.on.before key_disk.unsynced ready.on.unsynced ready.nothing_unsynced in
      let keys : IsReadyKeys old (record { store = ready.on.map; copies = key_disk.copies; unsynced = None; calls = key_disk.calls }) = record {
        on = subst (λ (unsynced : Option (Unsynced Map)). IsOnKeys old (record { store = ready.on.map; copies = key_disk.copies; unsynced = unsynced; calls = key_disk.calls })) none ready.on.on;
        settled = ready.settled;
        nothing_unsynced = refl;
      } in
      subst (λ (unsynced : Option (Unsynced Stored)). IsOn new (puts_on puts (record { store = key_disk.store; copies = key_disk.copies; unsynced = unsynced; calls = key_disk.calls })) × (ok ≡ are_put puts key_disk.calls)
      × (ok ≡ true → IsReady new (puts_on puts (record { store = key_disk.store; copies = key_disk.copies; unsynced = unsynced; calls = key_disk.calls })))) (sym ready.nothing_unsynced)
      (puts_made puts old new ready.on.map key_disk.store None key_disk.copies key_disk.calls ok keys ready.on.stores tt allowed
      (subst (λ (calls : List DeviceCall). Makes DoesInMemory calls ok old new) (same_calls puts key_disk.store None copies key_disk.copies agree ready.on.stores.storable allowed) made))
