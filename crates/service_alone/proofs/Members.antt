-- A member over a disk of which no call is set to fail: it opens, and takes its steps whole.
use Rattle.std.proofs.Common.{◌≡◌, ℕ, Bool, true, false, List, [], ◌∷◌, refl, sym, ap, subst, ◌∙◌, Option, None, Some}
use Rattle.std.specs.Prelude.{◌||◌, if◌then◌else◌}
use Rattle.disk_model.specs.Calls.{after_call}
use Rattle.disk_model.specs.Memory.{nothing_set}
use Rattle.kv_store.specs.KeyDisk.{KeyDisk, Unsynced, restarted_on, settled_by}
use Rattle.outside.specs.declared.pattern.Pattern.TheVariants.{Old}
use Rattle.raft_core.specs.StoredPuts.{store_of}
use Rattle.raft_log.specs.KeyDisk.{are_put, is_open_on, opening_on, put_state_on, puts_on}
use Rattle.kv_store.specs.KeyDisk.{opened_on}
use Rattle.raft_log.specs.Stored.{Put, Stored, opening_puts}
use Rattle.raft_model.specs.Server.{Store}
use Rattle.alloc_spec.specs.AllocatorState.{AllocatorState}
use Rattle.alloc_spec.specs.Rules.{Rules, opening_by}
use Rattle.alloc_spec.specs.Step.{Event, step}
use Rattle.alloc_spec.specs.StepState.{StepState}
use Rattle.bus_spec.specs.Members.{Member, MemberStatus, after_crash, after_cut_off, after_failed_opening, after_opening, after_writing, member_after_step, puts_of, stopped_with, with_stop_armed}
use Rattle.bus_spec.specs.Members.MemberStatus.{Down, Up}

-- no device call is set to fail
pub record IsQuiet (disk : KeyDisk Stored) : Type 0 where
  pub faults : ℕ
  pub calls : disk.calls ≡ nothing_set faults

-- ---- puts

abbrev still : ℕ → KeyDisk Stored → KeyDisk Stored
still faults disk = record disk { calls = nothing_set faults }

all_done : (puts : List Put) (faults : ℕ) → are_put puts (nothing_set faults) ≡ true
all_done [] faults = refl
all_done (put ∷ puts) faults = all_done puts faults

still_puts : (puts : List Put) (disk : KeyDisk Stored) (faults : ℕ) → (puts_on puts (still faults disk)).calls ≡ nothing_set faults
still_puts [] disk faults = refl
still_puts (put ∷ puts) disk faults = still_puts puts (put_state_on put (still faults disk)) faults

is_still : (disk : KeyDisk Stored) (faults : ℕ) → disk.calls ≡ nothing_set faults → disk ≡ still faults disk
is_still disk faults e = λ i. record disk { calls = e i }

puts_quiet : (puts : List Put) (disk : KeyDisk Stored) → IsQuiet disk → IsQuiet (puts_on puts disk)
puts_quiet puts disk quiet = record {
  faults = quiet.faults;
  calls = ap (λ (d : KeyDisk Stored). (puts_on puts d).calls) (is_still disk quiet.faults quiet.calls) ∙ still_puts puts disk quiet.faults;
}

-- ---- a step

abbrev pub written : Member → StepState → Member
written x step_state = record x { status = Up step_state.allocator; disk = puts_on (puts_of x step_state) x.disk }

step_done : (x : Member) (row : ℕ) (server : AllocatorState) (step_state : StepState) → IsQuiet x.disk
    → after_writing x row server step_state ≡ written x step_state
step_done x row server step_state quiet =
    ap (λ (b : Bool). if b then written x step_state else after_cut_off x row server step_state (puts_on (puts_of x step_state) x.disk))
    (ap (are_put (puts_of x step_state)) quiet.calls ∙ all_done (puts_of x step_state) quiet.faults)

-- what a row leaves of a member
pub record IsUp (server : AllocatorState) (x : Member) : Type 0 where
  pub status : x.status ≡ Up server
  pub quiet : IsQuiet x.disk

pub steps_up : (row : ℕ) (event : Event) (server : AllocatorState) (x : Member) → IsUp server x
    → IsUp (step server row event).step_state.allocator (member_after_step row event x.status x)
steps_up row event server x is = subst (IsUp (step server row event).step_state.allocator) (sym same) (record {
  status = refl;
  quiet = puts_quiet (puts_of x (step server row event).step_state) x.disk is.quiet;
})
  where
    same : member_after_step row event x.status x ≡ written x (step server row event).step_state
    same = ap (λ (status : MemberStatus). member_after_step row event status x) is.status
        ∙ step_done x row server (step server row event).step_state is.quiet

-- ---- an opening

opening_done : (disk : KeyDisk Stored) → IsQuiet disk → is_open_on disk ≡ true
opening_done disk quiet = ap (λ (d : KeyDisk Stored). is_open_on d) (is_still disk quiet.faults quiet.calls)
    ∙ all_done (opening_puts disk.store) quiet.faults

opening_quiet : (disk : KeyDisk Stored) → IsQuiet disk → IsQuiet (opening_on disk)
opening_quiet disk quiet = record {
  faults = quiet.faults;
  calls = ap (λ (d : KeyDisk Stored). (opening_on d).calls) (is_still disk quiet.faults quiet.calls)
      ∙ still_puts (opening_puts disk.store) (opened_on (still quiet.faults disk)) quiet.faults;
}

-- a member that is stopped over such a disk, and found this stored
pub record IsDown (store : Store) (x : Member) : Type 0 where
  pub status : x.status ≡ Down
  pub quiet : IsQuiet x.disk
  pub found : store_of x.disk.store ≡ store

pub opens_up : (keeps_store : (disk : KeyDisk Stored) → is_open_on disk ≡ true → store_of (opening_on disk).store ≡ store_of disk.store)
    → (n : ℕ) (rules : Rules) (moment word : ℕ) (store : Store) (x : Member) → IsDown store x
    → IsUp (opening_by n rules store moment word) (after_opening n rules moment word x)
opens_up keeps_store n rules moment word store x is = subst (IsUp (opening_by n rules store moment word)) (sym same) (record {
  status = ap (λ (s : Store). Up (opening_by n rules s moment word)) (keeps_store x.disk done ∙ is.found);
  quiet = opening_quiet x.disk is.quiet;
})
  where
    done : is_open_on x.disk ≡ true
    done = opening_done x.disk is.quiet

    opened : Member
    opened = record x { status = Up (opening_by n rules (store_of (opening_on x.disk).store) moment word); disk = opening_on x.disk }

    same : after_opening n rules moment word x ≡ opened
    same = ap (λ (b : Bool). if b then opened else after_failed_opening x (opening_on x.disk)) done

-- ---- a stop

stopped_down : (disk : KeyDisk Stored) (x : Member) → IsDown (store_of (restarted_on Old disk).store) (stopped_with Old disk x)
stopped_down disk x = record { status = refl; quiet = record { faults = disk.calls.faults; calls = refl }; found = refl }

-- a member that runs is stopped at once
pub stops_down : (x : Member) → IsDown (store_of (restarted_on Old x.disk).store) (after_crash 0 Old x)
stops_down x = stopped_down x.disk x

-- One that is stopped cannot be: but it can be stopped in its next opening, at the first device call. So nothing is set
-- to fail any more.

pub or_true : (b : Bool) → (b || true) ≡ true
or_true true = refl
or_true false = refl

pub cut_down : (n : ℕ) (rules : Rules) (moment word : ℕ) (x : Member)
    → IsDown (store_of (restarted_on Old x.disk).store) (after_opening n rules moment word (after_crash 1 Old x))
cut_down n rules moment word x = subst (IsDown (store_of (restarted_on Old x.disk).store)) (sym same)
    (record { status = refl; quiet = record { faults = halted.calls.faults; calls = refl }; found = ap store_of (by x.disk.unsynced) })
  where
    armed : Member
    armed = with_stop_armed 1 Old x

    halted : KeyDisk Stored
    halted = record x.disk { calls = after_call armed.disk.calls }

    same : after_opening n rules moment word armed ≡ stopped_with Old halted armed
    same = rw (or_true x.disk.calls.stopped) refl

    by : (u : Option (Unsynced Stored)) → (settled_by Old u halted).store ≡ (settled_by Old u x.disk).store
    by None = refl
    by (Some unsynced) = refl
