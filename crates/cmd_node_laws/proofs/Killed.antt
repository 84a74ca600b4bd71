-- A member that is killed in a turn: the first of the turn's puts are done.
use Rattle.std.proofs.Common.{◌≡◌, ◌≢◌, ℕ, ◌+◌, ◌*◌, ◌<◌, Bool, true, false, length, refl, sym, ap, subst, ◌∙◌, arith, None, inl, inr, ◌⊎◌}
use Rattle.std.specs.Prelude.{◌==◌, if◌then◌else◌}
use Rattle.std.proofs.lemmas.Bool.Decides.{eqb_tells}
use Rattle.disk_model.specs.declared.calls.Calls.{Calls}
use Rattle.kv_store.specs.KeyDisk.{KeyDisk}
use Rattle.outside.specs.declared.pattern.Pattern.TheVariants.{Old}
use Rattle.raft_log.specs.KeyDisk.{are_put, done_on, puts_on}
use Rattle.raft_log.specs.Stored.{Stored}
use Rattle.raft_model.specs.Lists.{at_here, at_other}
use Rattle.bus_rows.specs.declared.row.Row.TheVariants.{Crash}
use Rattle.alloc_spec.specs.StepState.{StepState}
use Rattle.alloc_spec.specs.Step.{Event}
use Rattle.alloc_spec.specs.AllocatorState.{AllocatorState}
use Rattle.bus_spec.specs.Cluster.{Cluster, after_row, with_member}
use Rattle.bus_spec.specs.Members.{MemberStatus, Member, with_stop_armed as armed_member, after_cut_off, puts_of, member_after_step, stopped_with, after_writing}
use Rattle.bus_spec.specs.Members.MemberStatus.{Down, Failed}
use Rattle.cmd_node_laws.specs.Mirrored.{AreCalm, IsCalm}
use Rattle.cmd_node_laws.proofs.Armed.{AllPut, IsCutBehind, SomePut, armed, armed_on, cut_behind, stop_behind, stop_is}
use Rattle.cmd_node_laws.proofs.Calm.{stop_calm, stop_store, written}
use Rattle.cmd_node_laws.proofs.Places.{own_is}
use Rattle.cmd_node_laws.proofs.Rows.{Runs, after_event, step_state_of}
use Rattle.cmd_node_laws.proofs.Stored.{after_noted, after_some, as_many}

-- the disk of a member stops behind so many more puts
pub record IsArmed (x : Member) (left : ℕ) : Type 0 where
  pub calls : x.disk.calls ≡ armed (stop_behind left) x.disk.calls.faults
  pub nothing_unsynced : x.disk.unsynced ≡ None
  pub pattern : x.pattern ≡ Old

pub record RunsArmed (n : ℕ) (w : Cluster) (server : AllocatorState) (left : ℕ) : Type 0 where
  pub runs : Runs n w server
  pub arm : IsArmed (w.member n) left
  pub others : (m : ℕ) → m ≢ n → IsCalm (w.member m)

-- the member is stopped, and all disks are calm
pub record IsDead (n : ℕ) (w : Cluster) : Type 0 where
  pub down : (w.member n).status ≡ Down
  pub calm : AreCalm w

-- what its disk has stored
abbrev pub stored_at : ℕ → Cluster → Stored
stored_at n w = (w.member n).disk.store

pub others_with : (n : ℕ) (w : Cluster) (x : Member) → ((m : ℕ) → m ≢ n → IsCalm (w.member m)) → (m : ℕ) → m ≢ n → IsCalm ((with_member w n x).member m)
others_with n w x others m apart = subst IsCalm (sym (at_other w.member n m x apart)) (others m apart)

pub all_with : (n : ℕ) (w : Cluster) (x : Member) → ((m : ℕ) → m ≢ n → IsCalm (w.member m)) → IsCalm x → AreCalm (with_member w n x)
all_with n w x others own m = elim (eqb_tells m n) [
  | inl same ↦ subst IsCalm (sym (at_here w.member n m x same.1)) own
  | inr apart ↦ subst IsCalm (sym (at_other w.member n m x apart.1)) (others m apart.1)
]

-- ---- a stop is armed

pub not_zero : (call : ℕ) → 0 < call → (call == 0) ≡ false
not_zero call some = elim (eqb_tells call 0) [ inl same ↦ absurd (omega (arith, some, same.1)) | inr apart ↦ apart.0 ]

pub arm_at : (n call : ℕ) (w : Cluster) → 0 < call → after_row w (Crash n call Old) ≡ record (with_member w n (armed_member call Old (w.member n))) { rows = w.rows + 1 }
arm_at n call w some = λ i. record (with_member w n (if not_zero call some i then stopped_with Old (w.member n).disk (w.member n) else armed_member call Old (w.member n))) { rows = w.rows + 1 }

abbrev with_stop : ℕ → Member → Member
with_stop puts x = record x { disk = record x.disk { calls = record x.disk.calls { stop_in = stop_behind puts } }; pattern = Old }

pub arm_world : (n puts : ℕ) (w : Cluster) → after_row w (Crash n (4 * puts + 1) Old) ≡ record (with_member w n (with_stop puts (w.member n))) { rows = w.rows + 1 }
arm_world n puts w =
    arm_at n (4 * puts + 1) w (omega arith)
    ∙ ap (λ (call : ℕ). record (with_member w n (armed_member call Old (w.member n))) { rows = w.rows + 1 }) (sym (stop_is puts))

stop_arms : (puts : ℕ) (x : Member) → IsCalm x → IsArmed (with_stop puts x) puts
stop_arms puts x calm = record { calls = ap (λ (c : Calls). record c { stop_in = stop_behind puts }) calm.calls; nothing_unsynced = calm.nothing_unsynced; pattern = refl }

pub arm_leaves : (n puts : ℕ) (w : Cluster) (server : AllocatorState) → AreCalm w → Runs n w server
    → RunsArmed n (after_row w (Crash n (4 * puts + 1) Old)) server puts × (stored_at n (after_row w (Crash n (4 * puts + 1) Old)) ≡ stored_at n w)
arm_leaves n puts w server calm runs =
    subst (λ (v : Cluster). RunsArmed n v server puts × (stored_at n v ≡ stored_at n w)) (sym (arm_world n puts w)) (
      record {
        runs = record { member = runs.member; up = ap (λ (x : Member). x.status) own ∙ runs.up };
        arm = subst (λ (x : Member). IsArmed x puts) (sym own) (stop_arms puts (w.member n) (calm n));
        others = others_with n w (with_stop puts (w.member n)) (λ m apart. calm m);
      },
      ap (λ (x : Member). x.disk.store) own,
    )
  where
    own : (with_member w n (with_stop puts (w.member n))).member n ≡ with_stop puts (w.member n)
    own = own_is w n (with_stop puts (w.member n))

-- ---- a step of it

is_armed_on : (x : Member) (left : ℕ) → IsArmed x left → x.disk ≡ armed_on (stop_behind left) x.disk.calls.faults x.disk
is_armed_on x left is = λ i. record x.disk { calls = is.calls i; unsynced = is.nothing_unsynced i }

-- the member went on, or stopped within the step
pub record GoesOn (n : ℕ) (w v : Cluster) (step_state : StepState) (left : ℕ) : Type 0 where
  pub more : ℕ
  pub more_is : more + length step_state.puts ≡ left
  pub runs : RunsArmed n v step_state.allocator more
  pub stored : stored_at n v ≡ after_noted step_state.puts (stored_at n w)

pub record StopsIn (n : ℕ) (w v : Cluster) (step_state : StepState) (left : ℕ) : Type 0 where
  pub few : left < length step_state.puts
  pub dead : IsDead n v
  pub stored : stored_at n v ≡ after_some left step_state.puts (stored_at n w)

module _ (n : ℕ) (w : Cluster) (server : AllocatorState) (event : Event) (left : ℕ) (is : RunsArmed n w server left) where
  abbrev x : Member
  x = w.member n

  abbrev step_state : StepState
  step_state = step_state_of w server event

  abbrev faults : ℕ
  faults = x.disk.calls.faults

  abbrev disk : KeyDisk Stored
  disk = puts_on (puts_of x step_state) x.disk

  cut : IsCutBehind (puts_of x step_state) left x.disk disk faults
  cut = subst (λ (d : KeyDisk Stored). IsCutBehind (puts_of x step_state) left x.disk (puts_on (puts_of x step_state) d) faults) (sym (is_armed_on x left is.arm)) (cut_behind (puts_of x step_state) left x.disk faults)

  begun : member_after_step (w.rows + 1) event x.status x ≡ after_writing x (w.rows + 1) server step_state
  begun = ap (λ (status : MemberStatus). member_after_step (w.rows + 1) event status x) is.runs.up

  done : (b : Bool) → are_put (puts_of x step_state) (armed (stop_behind left) faults) ≡ b
      → member_after_step (w.rows + 1) event x.status x ≡ (if b then written x step_state else after_cut_off x (w.rows + 1) server step_state disk)
  done b e = begun ∙ ap (λ (c : Bool). if c then written x step_state else after_cut_off x (w.rows + 1) server step_state disk) (ap (are_put (puts_of x step_state)) is.arm.calls ∙ e)

  went_on : AllPut (puts_of x step_state) left x.disk disk faults → GoesOn n w (after_event n w event) step_state left
  went_on all = record {
    more = all.left;
    more_is = omega (arith, all.left_is, as_many step_state.puts x.disk.store);
    runs = record {
      runs = record { member = is.runs.member; up = ap (λ (y : Member). y.status) own };
      arm = subst (λ (y : Member). IsArmed y all.left) (sym own)
          (record { calls = all.calls ∙ ap (λ (c : Calls). armed (stop_behind all.left) c.faults) (sym all.calls); nothing_unsynced = all.nothing_unsynced; pattern = is.arm.pattern });
      others = others_with n w (member_after_step (w.rows + 1) event x.status x) is.others;
    };
    stored = ap (λ (y : Member). y.disk.store) own ∙ all.store;
  }
    where
      own : (after_event n w event).member n ≡ written x step_state
      own = own_is w n (member_after_step (w.rows + 1) event x.status x) ∙ done true all.all

  stopped_in : SomePut (puts_of x step_state) left x.disk disk faults → StopsIn n w (after_event n w event) step_state left
  stopped_in some = record {
    few = omega (arith, some.many, as_many step_state.puts x.disk.store);
    dead = record {
      down = ap (λ (y : Member). y.status) own;
      calm = all_with n w (member_after_step (w.rows + 1) event x.status x) is.others (subst IsCalm (sym made) (stop_calm x.pattern disk x));
    };
    stored = ap (λ (y : Member). y.disk.store) own ∙ stop_store x.pattern disk some.nothing_unsynced ∙ some.store;
  }
    where
      made : member_after_step (w.rows + 1) event x.status x ≡ stopped_with x.pattern disk x
      made = done false some.not_all
          ∙ ap (λ (b : Bool). if b then stopped_with x.pattern disk x else record x { status = Failed (record { row = w.rows + 1; before = server; step_state = step_state; done = done_on (puts_of x step_state) x.disk.calls }); disk = disk }) some.stopped

      own : (after_event n w event).member n ≡ stopped_with x.pattern disk x
      own = own_is w n (member_after_step (w.rows + 1) event x.status x) ∙ made

  pub step_cut : GoesOn n w (after_event n w event) step_state left ⊎ StopsIn n w (after_event n w event) step_state left
  step_cut = elim cut [ inl all ↦ inl (went_on all) | inr some ↦ inr (stopped_in some) ]

-- ---- a stop at once

pub stop_dead : (n : ℕ) (w : Cluster) (server : AllocatorState) (left : ℕ) → RunsArmed n w server left → IsDead n (after_row w (Crash n 0 Old)) × (stored_at n (after_row w (Crash n 0 Old)) ≡ stored_at n w)
stop_dead n w server left is = (
  record { down = ap (λ (y : Member). y.status) own; calm = all_with n w stopped is.others (stop_calm Old (w.member n).disk (w.member n)) },
  ap (λ (y : Member). y.disk.store) own ∙ stop_store Old (w.member n).disk is.arm.nothing_unsynced,
)
  where
    stopped : Member
    stopped = stopped_with Old (w.member n).disk (w.member n)

    own : (with_member w n stopped).member n ≡ stopped
    own = own_is w n stopped
