-- A running member on a disk in memory that a shelf tells of.
use Rattle.std.proofs.Common.{◌≡◌, inl, inr, ℕ, ◌-◌, ◌<◌, ◌^◌, Bool, true, false, List, [], ◌∷◌, ◌++◌, refl, sym, ap, subst, ◌∙◌}
use Rattle.std.specs.Prelude.{None, ◌==◌, if◌then◌else◌}
use Rattle.disk_model.specs.declared.calls.Calls.{Calls}
use Rattle.disk_model.specs.declared.disk.Disk.{Ghosts}
use Rattle.disk_model.specs.declared.memory.MemoryDisk.{MemoryDisk}
use Rattle.disk_model.specs.Contents.{Contents, IsSettled}
use Rattle.disk_model.specs.Device.{DeviceCall, Makes}
use Rattle.disk_model.specs.Memory.{DoesInMemory, memory_calls, memory_contents}
use Rattle.kv_store.specs.Image.{chosen_copy, key_count, open_calls, turned}
use Rattle.kv_store.specs.KeyDisk.{KeyDisk}
use Rattle.raft_log.specs.Allowed.{AreAllowed}
use Rattle.raft_log.specs.Calls.{WritesInOrder}
use Rattle.raft_log.specs.declared.durable.Durable.{Durable}
use Rattle.raft_log.specs.DeviceCalls.{copies_after, device_calls, key_of}
use Rattle.raft_log.specs.DurableViews.{durable_copies, durable_disk, durable_fault, durable_state}
use Rattle.raft_log.specs.Opening.{FailsToOpen, Finds, OpensTo, opening_calls}
use Rattle.raft_log.specs.Rules.{StandsForState}
use Rattle.raft_log.specs.KeyDisk.{IsOn, IsKeyDisk, IsReady, are_put, is_open_on, opening_on, puts_on}
use Rattle.raft_log.specs.Stored.{Put, Stored, after_put, after_puts, opening_puts}
use Rattle.raft_log.proofs.OpeningOnShelf.{LawOfReads, cut_opening, opening_whole}
use Rattle.raft_log.proofs.StatesOnShelf.{LawOfPuts, none_behind, puts_done}

-- copies that agree at a key still do after puts
agree : (puts : List Put) (s : Stored) (c d : ℕ → ℕ) (k : ℕ) → c k ≡ d k → copies_after puts s c k ≡ copies_after puts s d k
agree [] s c d k e = e
agree (put ∷ puts) s c d k e = agree puts (after_put put s) (turned (key_of put s) c) (turned (key_of put s) d) k (ap (λ n. if k == key_of put s then 1 - n else n) e)

module _ {ghosts : Ghosts MemoryDisk} (old new : Durable MemoryDisk ghosts) (key_disk : KeyDisk Stored) (on : IsKeyDisk old key_disk) (law : LawOfPuts) where
  -- puts that were all tried
  tried_on : (puts : List Put) (ok : Bool) → AreAllowed puts (durable_state old) None → Makes DoesInMemory (device_calls puts (durable_state old) (durable_copies old)) ok (durable_disk old) (durable_disk new)
      → IsOn (durable_disk new) (puts_on puts key_disk) × (ok ≡ are_put puts key_disk.calls) × (ok ≡ true → IsReady (durable_disk new) (puts_on puts key_disk))
  tried_on puts ok allowed made = law (durable_disk old) (durable_disk new) key_disk (durable_copies old) puts ok on.disk on.copies
      (subst (λ (s : Stored). AreAllowed puts s None) on.state allowed)
      (subst (λ (s : Stored). Makes DoesInMemory (device_calls puts s (durable_copies old)) ok (durable_disk old) (durable_disk new)) on.state made)

  abbrev Follows : List Put → Bool → Type 0
  Follows puts ok = IsOn (durable_disk new) (puts_on puts key_disk) × (ok ≡ are_put puts key_disk.calls) × (ok ≡ true → IsKeyDisk new (puts_on puts key_disk))

  module _ (in_memory : ghosts.does ≡ DoesInMemory) where
    device : (puts : List Put) (ok : Bool) → Makes ghosts.does (device_calls puts (durable_state old) (durable_copies old)) ok (durable_disk old) (durable_disk new)
        → Makes DoesInMemory (device_calls puts (durable_state old) (durable_copies old)) ok (durable_disk old) (durable_disk new)
    device puts ok made = subst (λ (does : MemoryDisk → DeviceCall → Bool → MemoryDisk → Type 0). Makes does (device_calls puts (durable_state old) (durable_copies old)) ok (durable_disk old) (durable_disk new)) in_memory made

    pub followed : (puts : List Put) (ok : Bool) → WritesInOrder puts old new ok → (ok ≡ true → durable_fault new ≡ None) → Follows puts ok
    followed puts true made works =
        let m = tried_on puts true (made.allowed refl) (device puts true (made.made on.works)) in
        let all = puts_done puts key_disk (sym m.1) in (
          m.0,
          m.1,
          λ done. record {
            works = works refl;
            disk = m.2 refl;
            state = made.state refl ∙ (ap (after_puts puts) on.state ∙ sym all.0);
            copies = λ k h. ap (λ (c : ℕ → ℕ). c k) (made.copies refl)
                ∙ (ap (λ (s : Stored). copies_after puts s (durable_copies old) k) on.state
                ∙ (agree puts key_disk.store (durable_copies old) key_disk.copies k (on.copies k h) ∙ sym (ap (λ (c : ℕ → ℕ). c k) all.1)));
          },
        )
    followed puts false made works =
        let t = made.tried refl in
        let m = tried_on t.tried false t.allowed (device t.tried false (t.made on.works)) in
        let none = none_behind t.tried t.others key_disk (sym m.1) in
        let behind : IsOn (durable_disk new) (puts_on (t.tried ++ t.others) key_disk) = subst (λ x. IsOn (durable_disk new) x) (sym none.0) m.0 in (
          subst (λ (l : List Put). IsOn (durable_disk new) (puts_on l key_disk)) (sym t.are) behind,
          subst (λ (l : List Put). false ≡ are_put l key_disk.calls) (sym t.are) (sym none.1),
          λ done. absurd (cc done),
        )

-- openings of a disk that a shelf tells of
abbrev LawOfFound : Type 0
LawOfFound = (disk : MemoryDisk) (key_disk : KeyDisk Stored) → IsOn disk key_disk
    → StandsForState (memory_contents disk).seen key_disk.store × ((key : ℕ) → key < key_count → chosen_copy (memory_contents disk).seen key ≡ key_disk.copies key)

abbrev LawOfOpenings : Type 0
LawOfOpenings = (old new : MemoryDisk) (key_disk : KeyDisk Stored) (copies : ℕ → ℕ) (ok : Bool) → IsOn old key_disk → ((key : ℕ) → key < key_count → copies key ≡ key_disk.copies key) → key_disk.store.term < 2 ^ 32
    → Makes DoesInMemory (opening_calls key_disk.store copies) ok old new → IsOn new (opening_on key_disk) × (ok ≡ is_open_on key_disk) × (ok ≡ true → IsReady new (opening_on key_disk))

abbrev LawOfImages : Type 0
LawOfImages = (image : List ℕ) (a b : Stored) → StandsForState image a → StandsForState image b → a ≡ b

module _ {ghosts : Ghosts MemoryDisk} (in_memory : ghosts.does ≡ DoesInMemory) (tells : (disk : MemoryDisk) → ghosts.tells disk ≡ true) (contents : (disk : MemoryDisk) → ghosts.contents disk ≡ memory_contents disk)
    (finds : LawOfFound) (opening : LawOfOpenings) (once : LawOfImages) (disk : MemoryDisk) (key_disk : KeyDisk Stored) (on : IsOn disk key_disk) where
  module _ (found : Stored) (copies : ℕ → ℕ) (read : Finds ghosts disk found copies) where
    is_shelf : found ≡ key_disk.store
    is_shelf = once (memory_contents disk).seen found key_disk.store (subst (λ (c : Contents). StandsForState c.seen found) (contents disk) (read.state (tells disk))) (finds disk key_disk on).0

    same_copies : (key : ℕ) → key < key_count → copies key ≡ key_disk.copies key
    same_copies key h = read.chosen (tells disk) key h ∙ (ap (λ (c : Contents). chosen_copy c.seen key) (contents disk) ∙ (finds disk key_disk on).1 key h)

    opened_by : (new : MemoryDisk) (ok : Bool) → Makes ghosts.does (opening_calls found copies) ok disk new → IsOn new (opening_on key_disk) × (ok ≡ is_open_on key_disk) × (ok ≡ true → IsReady new (opening_on key_disk))
    opened_by new ok made = opening disk new key_disk copies ok on same_copies (subst (λ (s : Stored). s.term < 2 ^ 32) is_shelf read.kept.term)
        (subst (λ (s : Stored). Makes DoesInMemory (opening_calls s copies) ok disk new) is_shelf
        (subst (λ (does : MemoryDisk → DeviceCall → Bool → MemoryDisk → Type 0). Makes does (opening_calls found copies) ok disk new) in_memory made))

  pub opened_on_shelf : (new : Durable MemoryDisk ghosts) → OpensTo disk new → durable_fault new ≡ None → (is_open_on key_disk ≡ true) × IsKeyDisk new (opening_on key_disk)
  opened_on_shelf new opens works =
      let m = opened_by opens.found opens.copies opens.finds (durable_disk new) true opens.made in
      let is = is_shelf opens.found opens.copies opens.finds in
      let whole = opening_whole key_disk (sym m.1) in (
        sym m.1,
        record {
          works = works;
          disk = m.2 refl;
          state = opens.state ∙ (ap (λ (s : Stored). after_puts (opening_puts s) s) is ∙ sym whole.0);
          copies = λ k h. ap (λ (c : ℕ → ℕ). c k) opens.turned
              ∙ (ap (λ (s : Stored). copies_after (opening_puts s) s opens.copies k) is
              ∙ (agree (opening_puts key_disk.store) key_disk.store opens.copies key_disk.copies k (same_copies opens.found opens.copies opens.finds k h) ∙ sym (ap (λ (c : ℕ → ℕ). c k) whole.1)));
        },
      )

  pub not_opened_on_shelf : LawOfReads → (new : MemoryDisk) → FailsToOpen ghosts disk new → (is_open_on key_disk ≡ false) × IsOn new (opening_on key_disk)
  not_opened_on_shelf reads new (inl unread) =
      let made = subst (λ (does : MemoryDisk → DeviceCall → Bool → MemoryDisk → Type 0). Makes does open_calls false disk new) in_memory unread.made in
      let k = reads disk new key_disk false on made in
      let cut = cut_opening key_disk (sym k.1) in (cut.1, subst (λ x. IsOn new x) (sym cut.0) k.0)
  not_opened_on_shelf reads new (inr unput) = let m = opened_by unput.found unput.copies unput.finds new false unput.made in (sym m.1, m.0)

-- a change of the settings of its disk
pub set_on : {ghosts : Ghosts MemoryDisk} (old new : Durable MemoryDisk ghosts) (key_disk : KeyDisk Stored) (calls : Calls)
    → ((old new : MemoryDisk) (key_disk : KeyDisk Stored) (calls : Calls) → IsOn old key_disk → memory_contents new ≡ memory_contents old → memory_calls new ≡ calls → IsOn new (record key_disk { calls = calls }))
    → IsKeyDisk old key_disk → durable_state new ≡ durable_state old → durable_copies new ≡ durable_copies old → durable_fault new ≡ durable_fault old
    → memory_contents (durable_disk new) ≡ memory_contents (durable_disk old) → memory_calls (durable_disk new) ≡ calls → IsKeyDisk new (record key_disk { calls = calls })
set_on old new key_disk calls law on state copies fault contents now = record {
  works = fault ∙ on.works;
  disk = record {
    on = law (durable_disk old) (durable_disk new) key_disk calls on.disk.on contents now;
    settled = subst (λ (c : Contents). IsSettled c) (sym contents) on.disk.settled;
    nothing_unsynced = on.disk.nothing_unsynced;
  };
  state = state ∙ on.state;
  copies = λ key h. ap (λ (c : ℕ → ℕ). c key) copies ∙ on.copies key h;
}
