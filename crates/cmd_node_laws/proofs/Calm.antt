-- A disk of which nothing is set to fail does all that is put on it.
use Rattle.std.proofs.Common.{◌≡◌, ℕ, Bool, true, false, List, [], ◌∷◌, refl, sym, ap, subst, ◌∙◌, Option, None, Some}
use Rattle.std.specs.Prelude.{if◌then◌else◌}
use Rattle.disk_model.specs.declared.calls.Calls.{Calls}
use Rattle.disk_model.specs.Memory.{nothing_set}
use Rattle.kv_store.specs.KeyDisk.{Unsynced, KeyDisk, keeps, restarted_on, settled_by, turned_to}
use Rattle.outside.specs.declared.pattern.Pattern.{Pattern}
use Rattle.raft_core.specs.StoredPuts.{store_of}
use Rattle.raft_log.specs.KeyDisk.{are_put, is_open_on, opening_on, put_state_on, puts_on}
use Rattle.raft_log.specs.Stored.{Put, Stored, after_puts, opening_puts}
use Rattle.alloc_spec.specs.StepState.{StepState}
use Rattle.alloc_spec.specs.AllocatorState.{AllocatorState}
use Rattle.alloc_spec.specs.Rules.{Rules, opening_by}
use Rattle.bus_spec.specs.Members.{MemberStatus, Member, after_cut_off, puts_of, stopped_with, after_failed_opening, after_writing}
use Rattle.bus_spec.specs.Members as members
use Rattle.bus_spec.specs.Members.MemberStatus.{Down, Up}
use Rattle.cmd_node_laws.specs.Mirrored.{IsCalm}

all_done : (puts : List Put) (faults : ℕ) → are_put puts (nothing_set faults) ≡ true
all_done [] faults = refl
all_done (put ∷ puts) faults = all_done puts faults

-- what puts leave
pub record HasPut (puts : List Put) (before after : KeyDisk Stored) (faults : ℕ) : Type 0 where
  pub calls : after.calls ≡ nothing_set faults
  pub nothing_unsynced : after.unsynced ≡ None
  pub store : after.store ≡ after_puts puts before.store

abbrev still : ℕ → KeyDisk Stored → KeyDisk Stored
still faults key_disk = record key_disk { unsynced = None; calls = nothing_set faults }

still_puts : (puts : List Put) (key_disk : KeyDisk Stored) (faults : ℕ) → HasPut puts key_disk (puts_on puts (still faults key_disk)) faults
still_puts [] key_disk faults = record { calls = refl; nothing_unsynced = refl; store = refl }
still_puts (put ∷ puts) key_disk faults =
    let r : HasPut puts (put_state_on put (still faults key_disk)) (puts_on puts (put_state_on put (still faults key_disk))) faults = still_puts puts (put_state_on put (still faults key_disk)) faults in
    record { calls = r.calls; nothing_unsynced = r.nothing_unsynced; store = r.store }

is_still : (key_disk : KeyDisk Stored) (faults : ℕ) → key_disk.calls ≡ nothing_set faults → key_disk.unsynced ≡ None → key_disk ≡ still faults key_disk
is_still key_disk faults e f = λ i. record key_disk { unsynced = f i; calls = e i }

pub puts_done : (puts : List Put) (key_disk : KeyDisk Stored) (faults : ℕ) → key_disk.calls ≡ nothing_set faults → are_put puts key_disk.calls ≡ true
puts_done puts key_disk faults e = ap (are_put puts) e ∙ all_done puts faults

pub puts_left : (puts : List Put) (key_disk : KeyDisk Stored) (faults : ℕ) → key_disk.calls ≡ nothing_set faults → key_disk.unsynced ≡ None → HasPut puts key_disk (puts_on puts key_disk) faults
puts_left puts key_disk faults e f = subst (λ (s : KeyDisk Stored). HasPut puts key_disk (puts_on puts s) faults) (sym (is_still key_disk faults e f)) (still_puts puts key_disk faults)

-- ---- a member's step

-- where nothing fails
abbrev pub written : Member → StepState → Member
written x step_state = record x { status = Up step_state.allocator; disk = puts_on (puts_of x step_state) x.disk }

pub step_done : (x : Member) (row : ℕ) (server : AllocatorState) (step_state : StepState) → IsCalm x → after_writing x row server step_state ≡ written x step_state
step_done x row server step_state calm =
    ap (λ (b : Bool). if b then written x step_state else after_cut_off x row server step_state (puts_on (puts_of x step_state) x.disk))
    (puts_done (puts_of x step_state) x.disk x.disk.calls.faults calm.calls)

own_faults : (key_disk : KeyDisk Stored) (faults : ℕ) → key_disk.calls ≡ nothing_set faults → key_disk.calls ≡ nothing_set key_disk.calls.faults
own_faults key_disk faults e = e ∙ ap (λ (c : Calls). nothing_set c.faults) (sym e)

pub step_calm : (x : Member) (step_state : StepState) → IsCalm x → IsCalm (written x step_state)
step_calm x step_state calm =
    let r = puts_left (puts_of x step_state) x.disk x.disk.calls.faults calm.calls calm.nothing_unsynced in
    record { calls = own_faults (puts_on (puts_of x step_state) x.disk) x.disk.calls.faults r.calls; nothing_unsynced = r.nothing_unsynced; works = tt }

-- ---- an opening

-- where nothing fails
abbrev pub opened_member : ℕ → Rules → ℕ → ℕ → Member → Member
opened_member n rules moment word x = record x {
  status = Up (opening_by n rules (store_of (opening_on x.disk).store) moment word);
  disk = opening_on x.disk;
}

opening_still : (key_disk : KeyDisk Stored) (faults : ℕ) → (is_open_on (still faults key_disk) ≡ true) × HasPut (opening_puts key_disk.store) key_disk (opening_on (still faults key_disk)) faults
opening_still key_disk faults = (all_done (opening_puts key_disk.store) faults, still_puts (opening_puts key_disk.store) key_disk faults)

opening_calm : (key_disk : KeyDisk Stored) (faults : ℕ) → key_disk.calls ≡ nothing_set faults → key_disk.unsynced ≡ None
    → (is_open_on key_disk ≡ true) × HasPut (opening_puts key_disk.store) key_disk (opening_on key_disk) faults
opening_calm key_disk faults e f =
    subst (λ (s : KeyDisk Stored). (is_open_on s ≡ true) × HasPut (opening_puts key_disk.store) key_disk (opening_on s) faults) (sym (is_still key_disk faults e f)) (opening_still key_disk faults)

pub opening_done : (n : ℕ) (rules : Rules) (moment word : ℕ) (x : Member) → IsCalm x → members.after_opening n rules moment word x ≡ opened_member n rules moment word x
opening_done n rules moment word x calm =
    ap (λ (b : Bool). if b then opened_member n rules moment word x else after_failed_opening x (opening_on x.disk)) (opening_calm x.disk x.disk.calls.faults calm.calls calm.nothing_unsynced).0

pub opened_calm : (n : ℕ) (rules : Rules) (moment word : ℕ) (x : Member) → IsCalm x → IsCalm (opened_member n rules moment word x)
opened_calm n rules moment word x calm =
    let r = (opening_calm x.disk x.disk.calls.faults calm.calls calm.nothing_unsynced).1 in
    record { calls = own_faults (opening_on x.disk) x.disk.calls.faults r.calls; nothing_unsynced = r.nothing_unsynced; works = tt }

pub opened_store : (x : Member) → IsCalm x → (opening_on x.disk).store ≡ after_puts (opening_puts x.disk.store) x.disk.store
opened_store x calm = (opening_calm x.disk x.disk.calls.faults calm.calls calm.nothing_unsynced).1.store

-- ---- a stop

settled : (pattern : Pattern) (unsynced : Option (Unsynced Stored)) (key_disk : KeyDisk Stored) → (settled_by pattern unsynced key_disk).unsynced ≡ None
settled pattern None key_disk = refl
settled pattern (Some l) key_disk = by (keeps pattern (key_disk.copies l.key))
  where
    by : (b : Bool) → (if b then record key_disk { unsynced = None } else turned_to l.key l.before key_disk None key_disk.calls).unsynced ≡ None
    by true = refl
    by false = refl

pub stop_calm : (pattern : Pattern) (key_disk : KeyDisk Stored) (x : Member) → IsCalm (stopped_with pattern key_disk x)
stop_calm pattern key_disk x = record { calls = refl; nothing_unsynced = settled pattern key_disk.unsynced key_disk; works = tt }

-- a disk with nothing loose is found as it was
pub stop_store : (pattern : Pattern) (key_disk : KeyDisk Stored) → key_disk.unsynced ≡ None → (restarted_on pattern key_disk).store ≡ key_disk.store
stop_store pattern key_disk nothing_unsynced = ap (λ (l : Option (Unsynced Stored)). (settled_by pattern l key_disk).store) nothing_unsynced
