-- A member after a step.
use Rattle.std.proofs.Common.{◌≡◌, ℕ, Bool, true, false, refl, sym, ap, subst, ◌∙◌}
use Rattle.std.specs.Prelude.{if◌then◌else◌}
use Rattle.kv_store.specs.KeyDisk.{KeyDisk, restarted_on}
use Rattle.outside.specs.declared.pattern.Pattern.{Pattern}
use Rattle.raft_core.specs.StoredPuts.{stored_puts}
use Rattle.raft_log.specs.KeyDisk.{IsOn, are_put, done_on, puts_on}
use Rattle.raft_log.specs.Stored.{Stored}
use Rattle.alloc_spec.specs.StepState.{StepState}
use Rattle.alloc_spec.specs.Step.{Event, step}
use Rattle.alloc_spec.specs.AllocatorState.{AllocatorState, view_of}
use Rattle.alloc_server.specs.Server.{disk_of}
use Rattle.bus_spec.specs.Members.{MemberStatus, Member as MemberState, after_cut_off, is_running, puts_of, member_after_step, stopped_with}
use Rattle.bus_spec.specs.Members.MemberStatus.{Down, Up, Failed}
use Rattle.bus_spec.specs.Report.{line_of_failure, line_of_step, line_of_view}
use Rattle.bus_rows.specs.ReportLine.{ReportLine, is_stop}
use Rattle.bus_rows.specs.ReportLine.ReportLine.{HasFailed, HasStopped}
use Rattle.bus_world.specs.OnDisk.{HasFailedOn, IsClosedOn, IsUpOn}
use Rattle.bus_world.specs.Places.{HasStatus}
use Rattle.bus_world.specs.declared.place.Place.{Place}

true_not_false : true ≡ false → ⊥
true_not_false e = cc (e)

module _ {F : Type 0} (n number : ℕ) (event : Event) (old new : Place F) (told : ReportLine) where
  abbrev pub Finished : Type 0
  Finished = (t : AllocatorState) (key_disk : KeyDisk Stored) → IsUpOn old.server t key_disk → are_put (stored_puts (step t number event).step_state.puts key_disk.store) key_disk.calls ≡ true →
      (told ≡ line_of_view n (view_of (step t number event).step_state.allocator) (step t number event))
      × IsUpOn new.server (step t number event).step_state.allocator (puts_on (stored_puts (step t number event).step_state.puts key_disk.store) key_disk)

  abbrev pub Cut : Type 0
  Cut = (t : AllocatorState) (key_disk : KeyDisk Stored) → IsUpOn old.server t key_disk → are_put (stored_puts (step t number event).step_state.puts key_disk.store) key_disk.calls ≡ false →
      (told ≡ line_of_failure n (puts_on (stored_puts (step t number event).step_state.puts key_disk.store) key_disk))
      × IsClosedOn new.server (puts_on (stored_puts (step t number event).step_state.puts key_disk.store) key_disk)

  abbrev pub Again : Type 0
  Again = (key_disk : KeyDisk Stored) → HasFailedOn old.server key_disk → (told ≡ HasFailed n) × (new.server ≡ old.server)

  module _ (finished : Finished) (cut : Cut) (again : Again) (x : MemberState) where
    -- what is told

    step_result_by : (t : AllocatorState) → IsUpOn old.server t x.disk → (b : Bool) → are_put (puts_of x (step t number event).step_state) x.disk.calls ≡ b →
        told ≡ (if b then line_of_view n (view_of (step t number event).step_state.allocator) (step t number event) else line_of_failure n (puts_on (puts_of x (step t number event).step_state) x.disk))
    step_result_by t up true e = (finished t x.disk up e).0
    step_result_by t up false e = (cut t x.disk up e).0

    pub told_by : (status : MemberStatus) → is_running status ≡ true → HasStatus old status x.disk → told ≡ line_of_step n number event status x
    told_by Down runs is = absurd (true_not_false (sym runs))
    told_by (Up t) runs is = step_result_by t is.server (are_put (puts_of x (step t number event).step_state) x.disk.calls) refl
    told_by (Failed failure) runs is = (again x.disk is.server).0

    -- what it stands for, where it goes on
    module _ (still : new.runs ≡ old.runs) (no_stop : is_stop told ≡ false) where
      failed_by : (before : AllocatorState) (step_state : StepState) (disk : KeyDisk Stored) → new.runs ≡ true → IsClosedOn new.server disk → told ≡ line_of_failure n disk → (b : Bool) → disk.calls.stopped ≡ b →
          let after = if b then stopped_with x.pattern disk x else record x { status = Failed (record { row = number; before = before; step_state = step_state; done = done_on (puts_of x step_state) x.disk.calls }); disk = disk } in
          HasStatus new after.status after.disk
      failed_by before step_state disk runs is e true s = absurd (true_not_false (sym (ap is_stop e ∙ ap (λ (z : Bool). is_stop (if z then HasStopped n else HasFailed n)) s) ∙ no_stop))
      failed_by before step_state disk runs is e false s = record { runs = runs; server = record { closed = is; runs = s } }

      wrote_by : (t : AllocatorState) → new.runs ≡ true → IsUpOn old.server t x.disk → (b : Bool) → are_put (puts_of x (step t number event).step_state) x.disk.calls ≡ b →
          let step_state = (step t number event).step_state in let disk = puts_on (puts_of x step_state) x.disk in
          let after = if b then record x { status = Up step_state.allocator; disk = disk } else after_cut_off x number t step_state disk in
          HasStatus new after.status after.disk
      wrote_by t runs up true e = record { runs = runs; server = (finished t x.disk up e).1 }
      wrote_by t runs up false e = failed_by t (step t number event).step_state (puts_on (puts_of x (step t number event).step_state) x.disk) runs (cut t x.disk up e).1 (cut t x.disk up e).0
          ((puts_on (puts_of x (step t number event).step_state) x.disk).calls.stopped) refl

      pub goes_on : (status : MemberStatus) → x.status ≡ status → is_running status ≡ true → HasStatus old status x.disk → HasStatus new (member_after_step number event status x).status (member_after_step number event status x).disk
      goes_on Down same runs is = absurd (true_not_false (sym runs))
      goes_on (Up t) same runs is = wrote_by t (still ∙ is.runs) is.server (are_put (puts_of x (step t number event).step_state) x.disk.calls) refl
      goes_on (Failed failure) same runs is =
          subst (λ (status : MemberStatus). HasStatus new status x.disk) (sym same) (record {
            runs = still ∙ is.runs;
            server = subst (λ s. HasFailedOn s x.disk) (sym (again x.disk is.server).1) is.server;
          })

    -- where it stopped
    module _ (place : Place F) (pattern : Pattern) (pattern_same : pattern ≡ x.pattern)
        (restarted : (key_disk : KeyDisk Stored) → IsOn (disk_of new.server) key_disk → HasStatus place Down (restarted_on pattern key_disk)) (stop : is_stop told ≡ true) where
      stopped_by : (before : AllocatorState) (step_state : StepState) (disk : KeyDisk Stored) → IsClosedOn new.server disk → told ≡ line_of_failure n disk → (b : Bool) → disk.calls.stopped ≡ b →
          let after = if b then stopped_with x.pattern disk x else record x { status = Failed (record { row = number; before = before; step_state = step_state; done = done_on (puts_of x step_state) x.disk.calls }); disk = disk } in
          HasStatus place after.status after.disk
      stopped_by before step_state disk is e true s =
          subst (λ (p : Pattern). HasStatus place Down (restarted_on p disk)) pattern_same (restarted disk is.on)
      stopped_by before step_state disk is e false s = absurd (true_not_false (sym stop ∙ (ap is_stop e ∙ ap (λ (z : Bool). is_stop (if z then HasStopped n else HasFailed n)) s)))

      broke_by : (t : AllocatorState) → IsUpOn old.server t x.disk → (b : Bool) → are_put (puts_of x (step t number event).step_state) x.disk.calls ≡ b →
          let step_state = (step t number event).step_state in let disk = puts_on (puts_of x step_state) x.disk in
          let after = if b then record x { status = Up step_state.allocator; disk = disk } else after_cut_off x number t step_state disk in
          HasStatus place after.status after.disk
      broke_by t up true e = absurd (true_not_false (sym stop ∙ ap is_stop (finished t x.disk up e).0))
      broke_by t up false e = stopped_by t (step t number event).step_state (puts_on (puts_of x (step t number event).step_state) x.disk) (cut t x.disk up e).1 (cut t x.disk up e).0
          ((puts_on (puts_of x (step t number event).step_state) x.disk).calls.stopped) refl

      pub stops : (status : MemberStatus) → is_running status ≡ true → HasStatus old status x.disk → HasStatus place (member_after_step number event status x).status (member_after_step number event status x).disk
      stops Down runs is = absurd (true_not_false (sym runs))
      stops (Up t) runs is = broke_by t is.server (are_put (puts_of x (step t number event).step_state) x.disk.calls) refl
      stops (Failed failure) runs is = absurd (true_not_false (sym stop ∙ ap is_stop (again x.disk is.server).0))

-- the pattern stays
pub pattern_kept : (number : ℕ) (event : Event) (x : MemberState) (status : MemberStatus) → (member_after_step number event status x).pattern ≡ x.pattern
pattern_kept number event x Down = refl
pattern_kept number event x (Failed failure) = refl
pattern_kept number event x (Up t) = by (are_put (puts_of x (step t number event).step_state) x.disk.calls) where
  disk : KeyDisk Stored
  disk = puts_on (puts_of x (step t number event).step_state) x.disk

  cut_by : (b : Bool) → (if b then stopped_with x.pattern disk x else record x { status = Failed (record { row = number; before = t; step_state = (step t number event).step_state; done = done_on (puts_of x (step t number event).step_state) x.disk.calls }); disk = disk }).pattern ≡ x.pattern
  cut_by true = refl
  cut_by false = refl

  by : (b : Bool) → (if b then record x { status = Up (step t number event).step_state.allocator; disk = disk } else after_cut_off x number t (step t number event).step_state disk).pattern ≡ x.pattern
  by true = refl
  by false = cut_by disk.calls.stopped
