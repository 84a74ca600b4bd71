-- A disk that stops in place of the first call behind so many puts: these are done, and no other.
use Rattle.std.proofs.Common.{◌≡◌, ℕ, zero, suc, ◌+◌, ◌*◌, ◌<◌, ◌≤◌, Bool, true, false, List, [], ◌∷◌, length, take, refl, sym, ap, subst, ◌∙◌, arith, inl, inr, ◌⊎◌, None, Some}
use Rattle.std.specs.Prelude.{◌-◌, ◌==◌, ◌&&◌, ◌||◌, not, if◌then◌else◌}
use Rattle.std.proofs.lemmas.Bool.Decides.{eqb_tells}
use Rattle.disk_model.specs.declared.calls.Calls.{Calls}
use Rattle.disk_model.specs.Calls.{acts, after_call}
use Rattle.kv_store.specs.KeyDisk.{KeyDisk, after_calls, is_opened, is_put, opened_on, turned_to}
use Rattle.outside.specs.Faults.{one_more}
use Rattle.raft_log.specs.DeviceCalls.{key_of}
use Rattle.raft_log.specs.KeyDisk.{are_put, is_open_on, opening_on, put_state_on, puts_on}
use Rattle.raft_log.specs.Stored.{Put, Stored, after_put, after_puts, opening_puts}

-- a stop in place of that call, counted from the next one as 1
abbrev pub armed : ℕ → ℕ → Calls
armed call faults = record { stop_in = call; fail_in = 0; stopped = false; faults = faults }

abbrev pub armed_on : ℕ → ℕ → KeyDisk Stored → KeyDisk Stored
armed_on call faults key_disk = record key_disk { unsynced = None; calls = armed call faults }

not_one : (call : ℕ) → (suc (suc call) == 1) ≡ false
not_one call = elim (eqb_tells (suc (suc call)) 1) [ inl same ↦ absurd (omega (arith, same.1)) | inr apart ↦ apart.0 ]

acts_later : (call faults : ℕ) → acts (armed (suc (suc call)) faults) ≡ true
acts_later call faults = ap (λ (b : Bool). not (b || false)) (not_one call)

-- one call
passed : (call faults : ℕ) → after_call (armed (suc (suc call)) faults) ≡ armed (suc call) faults
passed call faults = λ i. record {
  stop_in = less i;
  fail_in = 0;
  stopped = not_one call i;
  faults = if acts_later call faults i then faults else one_more faults;
}
  where
    less : suc (suc call) - 1 ≡ suc call
    less = omega arith

abbrev five : ℕ → ℕ
five call = suc (suc (suc (suc (suc call))))

two_passed : (call faults : ℕ) → after_calls 2 (armed (five call) faults) ≡ armed (suc (suc (suc call))) faults
two_passed call faults = ap after_call (passed (suc (suc (suc call))) faults) ∙ passed (suc (suc call)) faults

three_passed : (call faults : ℕ) → after_calls 3 (armed (five call) faults) ≡ armed (suc (suc call)) faults
three_passed call faults = ap after_call (two_passed call faults) ∙ passed (suc call) faults

four_passed : (call faults : ℕ) → after_calls 4 (armed (five call) faults) ≡ armed (suc call) faults
four_passed call faults = ap after_call (three_passed call faults) ∙ passed call faults

first_acts : (call faults : ℕ) → acts (armed (five call) faults) ≡ true
first_acts call faults = acts_later (suc (suc (suc call))) faults

second_acts : (call faults : ℕ) → acts (after_call (armed (five call) faults)) ≡ true
second_acts call faults = ap acts (passed (suc (suc (suc call))) faults) ∙ acts_later (suc (suc call)) faults

third_acts : (call faults : ℕ) → acts (after_calls 2 (armed (five call) faults)) ≡ true
third_acts call faults = ap acts (two_passed call faults) ∙ acts_later (suc call) faults

fourth_acts : (call faults : ℕ) → acts (after_calls 3 (armed (five call) faults)) ≡ true
fourth_acts call faults = ap acts (three_passed call faults) ∙ acts_later call faults

put_acts : (call faults : ℕ) → is_put (armed (five call) faults) ≡ true
put_acts call faults = λ i. first_acts call faults i && (second_acts call faults i && (third_acts call faults i && fourth_acts call faults i))

-- a put before the stop
abbrev put_there : Put → ℕ → ℕ → KeyDisk Stored → KeyDisk Stored
put_there put call faults key_disk = turned_to (key_of put key_disk.store) (after_put put key_disk.store) (armed_on (five call) faults key_disk) None (armed (suc call) faults)

put_passed : (put : Put) (call faults : ℕ) (key_disk : KeyDisk Stored) → put_state_on put (armed_on (five call) faults key_disk) ≡ put_there put call faults key_disk
put_passed put call faults key_disk = λ i.
    if first_acts call faults i then if second_acts call faults i then if third_acts call faults i
    then turned_to (key_of put key_disk.store) (after_put put key_disk.store) x
    (if fourth_acts call faults i then None else Some (record { key = key_of put key_disk.store; before = key_disk.store })) (four_passed call faults i)
    else record x { calls = after_calls 3 c }
    else record x { calls = after_calls 2 c }
    else record x { calls = after_call c }
  where
    c : Calls
    c = armed (five call) faults

    x : KeyDisk Stored
    x = armed_on (five call) faults key_disk

-- the call behind so many puts
abbrev pub stop_behind : ℕ → ℕ
stop_behind zero = 1
stop_behind (suc puts) = suc (suc (suc (suc (stop_behind puts))))

pub stop_is : (puts : ℕ) → stop_behind puts ≡ 4 * puts + 1
stop_is zero = refl
stop_is (suc puts) = let e = stop_is puts in omega (arith, e)

-- at least one
behind_suc : (puts : ℕ) → (call : ℕ) × (stop_behind puts ≡ suc call)
behind_suc zero = (0, refl)
behind_suc (suc puts) = (suc (suc (suc (stop_behind puts))), refl)

-- the disk stops behind the last of these puts, or later
pub record AllPut (puts : List Put) (stop : ℕ) (key_disk after : KeyDisk Stored) (faults : ℕ) : Type 0 where
  pub few : length puts ≤ stop
  pub all : are_put puts (armed (stop_behind stop) faults) ≡ true
  pub left : ℕ
  pub left_is : left + length puts ≡ stop
  pub calls : after.calls ≡ armed (stop_behind left) faults
  pub nothing_unsynced : after.unsynced ≡ None
  pub store : after.store ≡ after_puts puts key_disk.store

-- the disk stops before the last of them
pub record SomePut (puts : List Put) (stop : ℕ) (key_disk after : KeyDisk Stored) (faults : ℕ) : Type 0 where
  pub many : stop < length puts
  pub not_all : are_put puts (armed (stop_behind stop) faults) ≡ false
  pub stopped : after.calls.stopped ≡ true
  pub nothing_unsynced : after.unsynced ≡ None
  pub store : after.store ≡ after_puts (take stop puts) key_disk.store

abbrev pub IsCutBehind : List Put → ℕ → KeyDisk Stored → KeyDisk Stored → ℕ → Type 0
IsCutBehind puts stop key_disk after faults = AllPut puts stop key_disk after faults ⊎ SomePut puts stop key_disk after faults

pub cut_behind : (puts : List Put) (stop : ℕ) (key_disk : KeyDisk Stored) (faults : ℕ) → IsCutBehind puts stop key_disk (puts_on puts (armed_on (stop_behind stop) faults key_disk)) faults
cut_behind [] stop key_disk faults = inl (record { few = omega arith; all = refl; left = stop; left_is = omega arith; calls = refl; nothing_unsynced = refl; store = refl })
cut_behind (put ∷ puts) zero key_disk faults = inr (record { many = omega arith; not_all = refl; stopped = refl; nothing_unsynced = refl; store = refl })
cut_behind (put ∷ puts) (suc stop) key_disk faults = elim (cut_behind puts stop there faults) [
  | inl r ↦ inl (record {
    few = omega (arith, r.few);
    all = acts_path ∙ r.all;
    left = r.left;
    left_is = omega (arith, r.left_is);
    calls = ap (λ (x : KeyDisk Stored). x.calls) after_path ∙ r.calls;
    nothing_unsynced = ap (λ (x : KeyDisk Stored). x.unsynced) after_path ∙ r.nothing_unsynced;
    store = ap (λ (x : KeyDisk Stored). x.store) after_path ∙ r.store;
  })
  | inr r ↦ inr (record {
    many = omega (arith, r.many);
    not_all = acts_path ∙ r.not_all;
    stopped = ap (λ (x : KeyDisk Stored). x.calls.stopped) after_path ∙ r.stopped;
    nothing_unsynced = ap (λ (x : KeyDisk Stored). x.unsynced) after_path ∙ r.nothing_unsynced;
    store = ap (λ (x : KeyDisk Stored). x.store) after_path ∙ r.store;
  })
]
  where
    call : ℕ
    call = (behind_suc stop).0

    is : stop_behind stop ≡ suc call
    is = (behind_suc stop).1

    there : KeyDisk Stored
    there = put_there put call faults key_disk

    four : ℕ → ℕ
    four n = suc (suc (suc (suc n)))

    on_path : puts_on (put ∷ puts) (armed_on (five call) faults key_disk) ≡ puts_on puts (armed_on (suc call) faults there)
    on_path = λ i. if put_acts call faults i then puts_on puts (put_passed put call faults key_disk i) else put_state_on put (armed_on (five call) faults key_disk)

    after_path : puts_on (put ∷ puts) (armed_on (four (stop_behind stop)) faults key_disk) ≡ puts_on puts (armed_on (stop_behind stop) faults there)
    after_path =
        ap (λ (n : ℕ). puts_on (put ∷ puts) (armed_on (four n) faults key_disk)) is ∙ on_path ∙ ap (λ (n : ℕ). puts_on puts (armed_on n faults there)) (sym is)

    acts_path : are_put (put ∷ puts) (armed (four (stop_behind stop)) faults) ≡ are_put puts (armed (stop_behind stop) faults)
    acts_path =
        ap (λ (n : ℕ). are_put (put ∷ puts) (armed (four n) faults)) is
        ∙ (λ i. put_acts call faults i && are_put puts (four_passed call faults i))
        ∙ ap (λ (n : ℕ). are_put puts (armed n faults)) (sym is)

-- ---- an opening, whose two calls come before its puts

abbrev pub behind_opening : ℕ → ℕ
behind_opening puts = suc (suc (stop_behind puts))

pub opening_stop_is : (puts : ℕ) → behind_opening puts ≡ 4 * puts + 3
opening_stop_is puts = let e = stop_is puts in omega (arith, e)

module _ (puts faults : ℕ) where
  read_acts : acts (armed (suc (stop_behind puts)) faults) ≡ true
  read_acts = let r = behind_suc puts in ap (λ (call : ℕ). acts (armed (suc call) faults)) r.1 ∙ acts_later r.0 faults

  read_passed : after_call (armed (suc (stop_behind puts)) faults) ≡ armed (stop_behind puts) faults
  read_passed = let r = behind_suc puts in
      ap (λ (call : ℕ). after_call (armed (suc call) faults)) r.1 ∙ passed r.0 faults ∙ ap (λ (call : ℕ). armed call faults) (sym r.1)

  both_passed : after_call (after_call (armed (behind_opening puts) faults)) ≡ armed (stop_behind puts) faults
  both_passed = ap after_call (passed (stop_behind puts) faults) ∙ read_passed

  both_act : is_opened (armed (behind_opening puts) faults) ≡ true
  both_act = λ i. acts_later (stop_behind puts) faults i && (ap acts (passed (stop_behind puts) faults) ∙ read_acts) i

  module _ (key_disk : KeyDisk Stored) where
    abbrev begun : KeyDisk Stored
    begun = armed_on (behind_opening puts) faults key_disk

    abbrev own_puts : List Put
    own_puts = opening_puts key_disk.store

    opened_path : opened_on begun ≡ armed_on (stop_behind puts) faults key_disk
    opened_path = λ i.
        if acts_later (stop_behind puts) faults i then record key_disk { unsynced = None; calls = both_passed i }
        else record begun { calls = after_call begun.calls }

    opening_path : opening_on begun ≡ puts_on own_puts (armed_on (stop_behind puts) faults key_disk)
    opening_path = λ i. if both_act i then puts_on own_puts (opened_path i) else opened_on begun

    open_path : is_open_on begun ≡ are_put own_puts (armed (stop_behind puts) faults)
    open_path = λ i. both_act i && are_put own_puts (both_passed i)

    -- all of its puts are done, and it is open; or those before the stop
    pub opening_behind : (AllPut own_puts puts key_disk (opening_on begun) faults × (is_open_on begun ≡ true))
        ⊎ (SomePut own_puts puts key_disk (opening_on begun) faults × (is_open_on begun ≡ false))
    opening_behind = elim (cut_behind own_puts puts key_disk faults) [
      | inl all ↦ inl (subst (λ (d : KeyDisk Stored). AllPut own_puts puts key_disk d faults) (sym opening_path) all, open_path ∙ all.all)
      | inr some ↦ inr (subst (λ (d : KeyDisk Stored). SomePut own_puts puts key_disk d faults) (sym opening_path) some, open_path ∙ some.not_all)
    ]
