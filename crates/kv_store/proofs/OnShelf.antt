-- The disk by keys, step by step.
use Rattle.std.proofs.Common.{◌≡◌, inl, inr, ℕ, ◌-◌, ◌*◌, ◌%◌, ◌<◌, ◌≤◌, Bool, true, false, List, [], ◌∷◌, length, get_or, refl, sym, ap, subst, ◌∙◌, arith}
use Rattle.std.specs.Prelude.{Option, None, Some, IfSome}
use Rattle.std.proofs.lemmas.Bool.Decides.{eqb_tells}
use Rattle.disk_model.specs.declared.calls.Calls.{Calls}
use Rattle.disk_model.specs.declared.memory.MemoryDisk.{MemoryDisk}
use Rattle.disk_model.specs.Calls.{acts, after_call}
use Rattle.disk_model.specs.Contents.{Contents, IsSettled, IsSound, MayLeave}
use Rattle.disk_model.specs.Device.{DeviceCall, Makes}
use Rattle.disk_model.specs.Device.DeviceCall.{Read, Write, Sync}
use Rattle.disk_model.specs.Pattern.{IsUsable}
use Rattle.disk_model.specs.Restart.{remade_byte, repeated}
use Rattle.outside.specs.declared.pattern.Pattern.{Pattern}
use Rattle.outside.specs.declared.pattern.Pattern.TheVariants.{Old, New, Bytes}
use Rattle.disk_model.specs.Memory.{DoesInMemory, Restarts, memory_calls, memory_contents, nothing_set}
use Rattle.kv_store.specs.Image.{chosen_copy, copy_bytes, copy_start, open_calls, put_calls, put_in, turned}
use Rattle.kv_store.specs.KeyDisk.{IsUnsynced, IsOn, IsReady, Unsynced, KeyDisk, Shows, after_calls, is_opened, is_put, keeps, opened_on, put_on, restarted_on, turned_to}
use Rattle.kv_store.proofs.DeviceCalls.{only_image}
use Rattle.kv_store.proofs.PutTurns.{copy_synced, copy_written, selector_loose, selector_seen, turned_bits}

abbrev Map : Type 0
Map = ℕ → List ℕ

pub sound_of : (disk : MemoryDisk) → IsSound (memory_contents disk)
sound_of disk = record { size = disk.stable_size; current = record { size = disk.seen_size; kept = disk.agrees } }

none_loose : (unsynced : Option (Unsynced Map)) (P : Unsynced Map → Type 0) → unsynced ≡ None → IfSome unsynced P
none_loose None P is = tt
none_loose (Some l) P is = absurd (cc (is))

-- a shelf with no loose selector
module _ (disk : MemoryDisk) (key_disk : KeyDisk Map) (none : key_disk.unsynced ≡ None) (calls : memory_calls disk ≡ key_disk.calls) (bits : (k : ℕ) → key_disk.copies k < 2) where
  pub firm_on : ((image : List ℕ) → MayLeave (memory_contents disk) image → Shows image key_disk.store key_disk.copies) → IsOn disk key_disk
  firm_on shows = record {
    calls = calls;
    bits = bits;
    seen = shows (memory_contents disk).seen (sound_of disk).current;
    nothing_unsynced = λ e. shows;
    unsynced = none_loose key_disk.unsynced (λ unsynced. IsUnsynced (memory_contents disk) key_disk.store key_disk.copies unsynced) none;
  }

  pub settled_on : IsSettled (memory_contents disk) → Shows (memory_contents disk).seen key_disk.store key_disk.copies → IsOn disk key_disk
  settled_on settled shows = firm_on (λ image left. subst (λ xs. Shows xs key_disk.store key_disk.copies) (sym (only_image (memory_contents disk) image (sound_of disk) settled left)) shows)

pub begun : (disk : MemoryDisk) (map : ℕ → List ℕ) (copies : ℕ → ℕ) → Shows (memory_contents disk).seen map copies → ((key : ℕ) → copies key < 2) → IsSettled (memory_contents disk)
    → IsReady disk (record { store = map; copies = copies; unsynced = None; calls = memory_calls disk })
begun disk map copies shows bits settled = record {
  on = settled_on disk (record { store = map; copies = copies; unsynced = None; calls = memory_calls disk }) refl refl bits settled shows;
  settled = settled;
  nothing_unsynced = refl;
}

-- the settings after a device call
next : (old new : MemoryDisk) (call : DeviceCall) (ok : Bool) (calls : Calls) → memory_calls old ≡ calls → DoesInMemory old call ok new → (memory_calls new ≡ after_call calls) × (acts calls ≡ ok)
next old new call ok calls is does = (does.calls ∙ ap after_call is, sym (ap acts is) ∙ sym does.answer)

-- what a put that was made of a shelf says
abbrev IsPut : MemoryDisk → KeyDisk Map → ℕ → List ℕ → Bool → Type 0
IsPut new key_disk key value ok = IsOn new (put_on key (put_in key_disk.store key value) key_disk) × (ok ≡ is_put key_disk.calls) × (ok ≡ true → IsReady new (put_on key (put_in key_disk.store key value) key_disk))

not_true : (ok : Bool) (P : Type 0) → ok ≡ false → ok ≡ true → P
not_true ok P bad good = absurd (cc (bad, good))

-- the tests of a put
module _ (key : ℕ) (value : List ℕ) (key_disk : KeyDisk Map) where
  first_fails : acts key_disk.calls ≡ false → (put_on key (put_in key_disk.store key value) key_disk ≡ record key_disk { calls = after_call key_disk.calls }) × (is_put key_disk.calls ≡ false)
  first_fails e0 = (rw e0 refl, rw e0 refl)

  second_fails : acts key_disk.calls ≡ true → acts (after_call key_disk.calls) ≡ false → (put_on key (put_in key_disk.store key value) key_disk ≡ record key_disk { calls = after_calls 2 key_disk.calls }) × (is_put key_disk.calls ≡ false)
  second_fails e0 e1 = (rw (e0, e1) refl, rw (e0, e1) refl)

  third_fails : acts key_disk.calls ≡ true → acts (after_call key_disk.calls) ≡ true → acts (after_calls 2 key_disk.calls) ≡ false → (put_on key (put_in key_disk.store key value) key_disk ≡ record key_disk { calls = after_calls 3 key_disk.calls }) × (is_put key_disk.calls ≡ false)
  third_fails e0 e1 e2 = (rw (e0, e1, e2) refl, rw (e0, e1, e2) refl)

  fourth_fails : acts key_disk.calls ≡ true → acts (after_call key_disk.calls) ≡ true → acts (after_calls 2 key_disk.calls) ≡ true → acts (after_calls 3 key_disk.calls) ≡ false
      → (put_on key (put_in key_disk.store key value) key_disk ≡ turned_to key (put_in key_disk.store key value) key_disk (Some (record { key = key; before = key_disk.store })) (after_calls 4 key_disk.calls)) × (is_put key_disk.calls ≡ false)
  fourth_fails e0 e1 e2 e3 = (rw (e0, e1, e2, e3) refl, rw (e0, e1, e2, e3) refl)

  none_fails : acts key_disk.calls ≡ true → acts (after_call key_disk.calls) ≡ true → acts (after_calls 2 key_disk.calls) ≡ true → acts (after_calls 3 key_disk.calls) ≡ true
      → (put_on key (put_in key_disk.store key value) key_disk ≡ turned_to key (put_in key_disk.store key value) key_disk None (after_calls 4 key_disk.calls)) × (is_put key_disk.calls ≡ true)
  none_fails e0 e1 e2 e3 = (rw (e0, e1, e2, e3) refl, rw (e0, e1, e2, e3) refl)

module _ (old new : MemoryDisk) (key_disk : KeyDisk Map) (key : ℕ) (value : List ℕ) (ok : Bool) (ready : IsReady old key_disk) (exists : key < 132) (short : length value ≤ 32) where
  failed_as : (after : KeyDisk Map) → ok ≡ false → put_on key (put_in key_disk.store key value) key_disk ≡ after → is_put key_disk.calls ≡ false → IsOn new after → IsPut new key_disk key value ok
  failed_as after bad is not on = (subst (λ s. IsOn new s) (sym is) on, bad ∙ sym not, not_true ok (IsReady new (put_on key (put_in key_disk.store key value) key_disk)) bad)

  at_first : ok ≡ false → DoesInMemory old (Write (copy_start key (1 - key_disk.copies key)) (copy_bytes value)) false new → IsPut new key_disk key value ok
  at_first bad does =
      let n = next old new (Write (copy_start key (1 - key_disk.copies key)) (copy_bytes value)) false key_disk.calls ready.on.calls does in
      let e = first_fails key value key_disk n.1 in
      let same : memory_contents new ≡ memory_contents old = does.failed refl in
      failed_as (record key_disk { calls = after_call key_disk.calls }) bad e.0 e.1
      (firm_on new (record key_disk { calls = after_call key_disk.calls }) ready.nothing_unsynced n.0 ready.on.bits
      (λ image left. ready.on.nothing_unsynced ready.nothing_unsynced image (subst (λ c. MayLeave c image) same left)))

  module _ (m1 : MemoryDisk) (wrote : DoesInMemory old (Write (copy_start key (1 - key_disk.copies key)) (copy_bytes value)) true m1) where
    n1 : (memory_calls m1 ≡ after_call key_disk.calls) × (acts key_disk.calls ≡ true)
    n1 = next old m1 (Write (copy_start key (1 - key_disk.copies key)) (copy_bytes value)) true key_disk.calls ready.on.calls wrote

    written1 : (image : List ℕ) → MayLeave (memory_contents m1) image → Shows image key_disk.store key_disk.copies
    written1 = copy_written key_disk.store key_disk.copies value key exists short ready.on.bits (memory_contents old) (memory_contents m1) (sound_of old) ready.settled ready.on.seen (sound_of m1) (wrote.acted refl)

    at_second : ok ≡ false → DoesInMemory m1 Sync false new → IsPut new key_disk key value ok
    at_second bad does =
        let n = next m1 new Sync false (after_call key_disk.calls) n1.0 does in
        let e = second_fails key value key_disk n1.1 n.1 in
        let same : memory_contents new ≡ memory_contents m1 = does.failed refl in
        failed_as (record key_disk { calls = after_calls 2 key_disk.calls }) bad e.0 e.1
        (firm_on new (record key_disk { calls = after_calls 2 key_disk.calls }) ready.nothing_unsynced n.0 ready.on.bits
        (λ image left. written1 image (subst (λ c. MayLeave c image) same left)))

    module _ (m2 : MemoryDisk) (synced : DoesInMemory m1 Sync true m2) where
      n2 : (memory_calls m2 ≡ after_calls 2 key_disk.calls) × (acts (after_call key_disk.calls) ≡ true)
      n2 = next m1 m2 Sync true (after_call key_disk.calls) n1.0 synced

      shows2 : Shows (memory_contents m2).seen key_disk.store key_disk.copies
      shows2 = copy_synced key_disk.store key_disk.copies value key exists short ready.on.bits (memory_contents old) (memory_contents m1) (sound_of old) ready.settled ready.on.seen (sound_of m1) (wrote.acted refl)
          (memory_contents m2) (sound_of m2) (synced.acted refl)

      settled2 : IsSettled (memory_contents m2)
      settled2 = (synced.acted refl).settled

      at_third : ok ≡ false → DoesInMemory m2 (Write (67 * key) ((1 - key_disk.copies key) ∷ [])) false new → IsPut new key_disk key value ok
      at_third bad does =
          let n = next m2 new (Write (67 * key) ((1 - key_disk.copies key) ∷ [])) false (after_calls 2 key_disk.calls) n2.0 does in
          let e = third_fails key value key_disk n1.1 n2.1 n.1 in
          let same : memory_contents new ≡ memory_contents m2 = does.failed refl in
          failed_as (record key_disk { calls = after_calls 3 key_disk.calls }) bad e.0 e.1
          (settled_on new (record key_disk { calls = after_calls 3 key_disk.calls }) ready.nothing_unsynced n.0 ready.on.bits
          (subst (λ c. IsSettled c) (sym same) settled2) (subst (λ (c : Contents). Shows c.seen key_disk.store key_disk.copies) (sym same) shows2))

      module _ (m3 : MemoryDisk) (turns : DoesInMemory m2 (Write (67 * key) ((1 - key_disk.copies key) ∷ [])) true m3) where
        n3 : (memory_calls m3 ≡ after_calls 3 key_disk.calls) × (acts (after_calls 2 key_disk.calls) ≡ true)
        n3 = next m2 m3 (Write (67 * key) ((1 - key_disk.copies key) ∷ [])) true (after_calls 2 key_disk.calls) n2.0 turns

        shows3 : Shows (memory_contents m3).seen (put_in key_disk.store key value) (turned key key_disk.copies)
        shows3 = selector_seen key_disk.store key_disk.copies value key exists short ready.on.bits (memory_contents old) (memory_contents m1) (sound_of old) ready.settled ready.on.seen (sound_of m1) (wrote.acted refl)
            (memory_contents m2) (sound_of m2) (synced.acted refl) (memory_contents m3) (sound_of m3) (turns.acted refl)

        loose3 : IsUnsynced (memory_contents m3) (put_in key_disk.store key value) (turned key key_disk.copies) (record { key = key; before = key_disk.store })
        loose3 = selector_loose key_disk.store key_disk.copies value key exists short ready.on.bits (memory_contents old) (memory_contents m1) (sound_of old) ready.settled ready.on.seen (sound_of m1) (wrote.acted refl)
            (memory_contents m2) (sound_of m2) (synced.acted refl) (memory_contents m3) (sound_of m3) (turns.acted refl)

        at_fourth : ok ≡ false → DoesInMemory m3 Sync false new → IsPut new key_disk key value ok
        at_fourth bad does =
            let n = next m3 new Sync false (after_calls 3 key_disk.calls) n3.0 does in
            let e = fourth_fails key value key_disk n1.1 n2.1 n3.1 n.1 in
            let same : memory_contents new ≡ memory_contents m3 = does.failed refl in
            failed_as (turned_to key (put_in key_disk.store key value) key_disk (Some (record { key = key; before = key_disk.store })) (after_calls 4 key_disk.calls)) bad e.0 e.1 (record {
              calls = n.0;
              bits = turned_bits key key_disk.copies ready.on.bits;
              seen = subst (λ (c : Contents). Shows c.seen (put_in key_disk.store key value) (turned key key_disk.copies)) (sym same) shows3;
              nothing_unsynced = λ none. absurd (cc (none));
              unsynced = subst (λ (c : Contents). IsUnsynced c (put_in key_disk.store key value) (turned key key_disk.copies) (record { key = key; before = key_disk.store })) (sym same) loose3;
            })

        at_end : (m4 : MemoryDisk) → ok ≡ true → new ≡ m4 → DoesInMemory m3 Sync true m4 → IsPut new key_disk key value ok
        at_end m4 good is does' =
            let does : DoesInMemory m3 Sync true new = subst (λ m. DoesInMemory m3 Sync true m) (sym is) does' in
            let n = next m3 new Sync true (after_calls 3 key_disk.calls) n3.0 does in
            let e = none_fails key value key_disk n1.1 n2.1 n3.1 n.1 in
            let sync = does.acted refl in
            let after : KeyDisk Map = turned_to key (put_in key_disk.store key value) key_disk None (after_calls 4 key_disk.calls) in
            let here : IsOn new (put_on key (put_in key_disk.store key value) key_disk) = subst (λ s. IsOn new s) (sym e.0) (settled_on new after refl n.0 (turned_bits key key_disk.copies ready.on.bits) sync.settled
            (subst (λ xs. Shows xs (put_in key_disk.store key value) (turned key key_disk.copies)) (sym sync.seen) shows3)) in
            (here, good ∙ sym e.1, λ y. record { on = here; settled = sync.settled; nothing_unsynced = ap (λ (s : KeyDisk Map). s.unsynced) e.0 })

        from_fourth : Makes DoesInMemory (Sync ∷ []) ok m3 new → IsPut new key_disk key value ok
        from_fourth (inl failed) = at_fourth failed.0 failed.1
        from_fourth (inr more) = at_end more.0 more.2.0 more.2.1 more.1

      from_third : Makes DoesInMemory (Write (67 * key) ((1 - key_disk.copies key) ∷ []) ∷ Sync ∷ []) ok m2 new → IsPut new key_disk key value ok
      from_third (inl failed) = at_third failed.0 failed.1
      from_third (inr more) = from_fourth more.0 more.1 more.2

    from_second : Makes DoesInMemory (Sync ∷ Write (67 * key) ((1 - key_disk.copies key) ∷ []) ∷ Sync ∷ []) ok m1 new → IsPut new key_disk key value ok
    from_second (inl failed) = at_second failed.0 failed.1
    from_second (inr more) = from_third more.0 more.1 more.2

  pub put_made : Makes DoesInMemory (put_calls key (1 - key_disk.copies key) value) ok old new → IsPut new key_disk key value ok
  put_made (inl failed) = at_first failed.0 failed.1
  put_made (inr more) = from_second more.0 more.1 more.2

-- nothing but the settings has changed
pub set_on : (old new : MemoryDisk) (key_disk : KeyDisk Map) (calls : Calls) → IsOn old key_disk → memory_contents new ≡ memory_contents old → memory_calls new ≡ calls → IsOn new (record key_disk { calls = calls })
set_on old new key_disk calls on same now = record {
  calls = now;
  bits = on.bits;
  seen = subst (λ (c : Contents). Shows c.seen key_disk.store key_disk.copies) (sym same) on.seen;
  nothing_unsynced = λ none image left. on.nothing_unsynced none image (subst (λ c. MayLeave c image) same left);
  unsynced = subst (λ (c : Contents). IfSome key_disk.unsynced (λ unsynced. IsUnsynced c key_disk.store key_disk.copies unsynced)) (sym same) on.unsynced;
}

-- an opening
module _ (old new : MemoryDisk) (key_disk : KeyDisk Map) (ok : Bool) (on : IsOn old key_disk) where
  abbrev IsOpened : Type 0
  IsOpened = IsOn new (opened_on key_disk) × (ok ≡ is_opened key_disk.calls) × (ok ≡ true → IsReady new (opened_on key_disk))

  not_synced : ok ≡ false → DoesInMemory old Sync false new → IsOpened
  not_synced bad does =
      let n = next old new Sync false key_disk.calls on.calls does in
      let is : opened_on key_disk ≡ record key_disk { calls = after_call key_disk.calls } = rw n.1 refl in
      let not : is_opened key_disk.calls ≡ false = rw n.1 refl in
      (subst (λ s. IsOn new s) (sym is) (set_on old new key_disk (after_call key_disk.calls) on (does.failed refl) n.0), bad ∙ sym not, not_true ok (IsReady new (opened_on key_disk)) bad)

  module _ (m1 : MemoryDisk) (synced : DoesInMemory old Sync true m1) where
    read_by : (done : Bool) (m : MemoryDisk) → ok ≡ done → new ≡ m → memory_contents m ≡ memory_contents m1 → DoesInMemory m1 (Read 0 8844) done m → IsOpened
    read_by done m is_done is_new same does =
        let n1 = next old m1 Sync true key_disk.calls on.calls synced in
        let n2 = next m1 m (Read 0 8844) done (after_call key_disk.calls) n1.0 does in
        let sync = synced.acted refl in
        let is : opened_on key_disk ≡ record key_disk { unsynced = None; calls = after_calls 2 key_disk.calls } = rw n1.1 refl in
        let answer : is_opened key_disk.calls ≡ done = rw (n1.1, n2.1) refl in
        let settled : IsSettled (memory_contents m) = subst (λ c. IsSettled c) (sym same) sync.settled in
        let shows : Shows (memory_contents m).seen key_disk.store key_disk.copies = subst (λ (c : Contents). Shows c.seen key_disk.store key_disk.copies) (sym same) (subst (λ xs. Shows xs key_disk.store key_disk.copies) (sym sync.seen) on.seen) in
        let here : IsOn m (opened_on key_disk) = subst (λ s. IsOn m s) (sym is) (settled_on m (record key_disk { unsynced = None; calls = after_calls 2 key_disk.calls }) refl n2.0 on.bits settled shows) in (
          subst (λ m. IsOn m (opened_on key_disk)) (sym is_new) here,
          is_done ∙ sym answer,
          λ good. subst (λ m. IsReady m (opened_on key_disk)) (sym is_new) (record { on = here; settled = settled; nothing_unsynced = ap (λ (s : KeyDisk Map). s.unsynced) is }),
        )

    from_read : Makes DoesInMemory (Read 0 8844 ∷ []) ok m1 new → IsOpened
    from_read (inl failed) = read_by false new failed.0 refl (failed.1.failed refl) failed.1
    from_read (inr more) = read_by true more.0 more.2.0 more.2.1 (more.1.acted refl) more.1

  pub open_made : Makes DoesInMemory open_calls ok old new → IsOpened
  open_made (inl failed) = not_synced failed.0 failed.1
  open_made (inr more) = from_read more.0 more.1 more.2

-- a restart
module _ (old new : MemoryDisk) (map : ℕ → List ℕ) (copies : ℕ → ℕ) (bits : (k : ℕ) → copies k < 2) (calls : Calls) (settled : IsSettled (memory_contents new)) (set : memory_calls new ≡ nothing_set calls.faults) where
  back : Shows (memory_contents new).seen map copies → IsReady new (record { store = map; copies = copies; unsynced = None; calls = nothing_set calls.faults })
  back shows = record {
    on = settled_on new (record { store = map; copies = copies; unsynced = None; calls = nothing_set calls.faults }) refl set bits settled shows;
    settled = settled;
    nothing_unsynced = refl;
  }

  module _ (pattern : Pattern) (unsynced : Unsynced Map) (l : IsUnsynced (memory_contents old) map copies unsynced) (image : MayLeave (memory_contents old) (memory_contents new).seen) where
    abbrev Back : Type 0
    Back = IsReady new (restarted_on pattern (record { store = map; copies = copies; unsynced = Some unsynced; calls = calls }))

    back_kept : keeps pattern (copies unsynced.key) ≡ true → chosen_copy (memory_contents new).seen unsynced.key ≡ copies unsynced.key → Back
    back_kept e is = rw e (back (l.kept (memory_contents new).seen image is))

    back_turned : Shows (memory_contents new).seen unsynced.before (turned unsynced.key copies)
        → IsReady new (record { store = unsynced.before; copies = turned unsynced.key copies; unsynced = None; calls = nothing_set calls.faults })
    back_turned shows = record {
      on = settled_on new (record { store = unsynced.before; copies = turned unsynced.key copies; unsynced = None; calls = nothing_set calls.faults }) refl set (turned_bits unsynced.key copies bits) settled shows;
      settled = settled;
      nothing_unsynced = refl;
    }

    back_lost : keeps pattern (copies unsynced.key) ≡ false → chosen_copy (memory_contents new).seen unsynced.key ≡ 1 - copies unsynced.key → Back
    back_lost e is = rw e (back_turned (l.lost (memory_contents new).seen image is))

-- the selector's byte after a restart
selector_byte : (pattern : Pattern) (old new : MemoryDisk) (key : ℕ) → key < 132 → Restarts pattern old new → (memory_contents old).written (67 * key) ≡ true
    → get_or (memory_contents new).seen (67 * key) 0 ≡ remade_byte pattern (memory_contents old) (67 * key)
selector_byte pattern old new key exists r written = r.bytes (67 * key) (omega arith) ∙ (rw written refl)

first_byte : (bytes : List ℕ) (start : ℕ) → start ≡ start → 0 < length bytes → repeated bytes start start ≡ get_or bytes 0 0
first_byte bytes start same some = let zero_off : (start - start) % length bytes ≡ 0 = omega arith in rw zero_off refl

pub restart_made : (old new : MemoryDisk) (map : ℕ → List ℕ) (copies : ℕ → ℕ) (unsynced : Option (Unsynced Map)) (calls : Calls) (pattern : Pattern) → IsOn old (record { store = map; copies = copies; unsynced = unsynced; calls = calls })
    → IsUsable pattern → Restarts pattern old new → IsReady new (restarted_on pattern (record { store = map; copies = copies; unsynced = unsynced; calls = calls }))
restart_made old new map copies None calls pattern on usable r = back old new map copies on.bits calls r.settled (r.calls ∙ ap (λ (c : Calls). nothing_set c.faults) on.calls) (on.nothing_unsynced refl (memory_contents new).seen r.image)
restart_made old new map copies (Some l) calls Old on usable r =
    let unsynced : IsUnsynced (memory_contents old) map copies l = on.unsynced in
    back_lost old new map copies on.bits calls r.settled (r.calls ∙ ap (λ (c : Calls). nothing_set c.faults) on.calls) Old l unsynced r.image refl
    (ap (λ n. n % 2) (selector_byte Old old new l.key unsynced.exists r unsynced.written) ∙ unsynced.stable)
restart_made old new map copies (Some l) calls New on usable r =
    let unsynced : IsUnsynced (memory_contents old) map copies l = on.unsynced in
    back_kept old new map copies on.bits calls r.settled (r.calls ∙ ap (λ (c : Calls). nothing_set c.faults) on.calls) New l unsynced r.image refl
    (ap (λ n. n % 2) (selector_byte New old new l.key unsynced.exists r unsynced.written) ∙ on.seen.chosen l.key unsynced.exists)
restart_made old new map copies (Some l) calls (Bytes bytes) on usable r =
    let unsynced : IsUnsynced (memory_contents old) map copies l = on.unsynced in
    let byte : get_or (memory_contents new).seen (67 * l.key) 0 ≡ get_or bytes.items 0 0 = selector_byte (Bytes bytes) old new l.key unsynced.exists r unsynced.written
    ∙ (rw unsynced.alone (first_byte bytes.items (67 * l.key) refl usable)) in
    let chosen : chosen_copy (memory_contents new).seen l.key ≡ get_or bytes.items 0 0 % 2 = ap (λ n. n % 2) byte in
    elim (eqb_tells (get_or bytes.items 0 0 % 2) (copies l.key)) as (λ _. IsReady new (restarted_on (Bytes bytes) (record { store = map; copies = copies; unsynced = Some l; calls = calls }))) [
      | inl t ↦ back_kept old new map copies on.bits calls r.settled (r.calls ∙ ap (λ (c : Calls). nothing_set c.faults) on.calls) (Bytes bytes) l unsynced r.image t.0 (chosen ∙ t.1)
      | inr t ↦ back_lost old new map copies on.bits calls r.settled (r.calls ∙ ap (λ (c : Calls). nothing_set c.faults) on.calls) (Bytes bytes) l unsynced r.image t.0 (chosen ∙ (omega (arith, t.1, on.bits l.key)))
    ]
