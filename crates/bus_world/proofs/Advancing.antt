-- A server after a step, on the disk by states.
use Rattle.std.proofs.Common.{rules, ◌≡◌, ℕ, Bool, true, false, List, refl, sym, ap, subst, ◌∙◌}
use Rattle.std.specs.Prelude.{None, Option, Some, IfSome, IsSome, Result, Ok, Err, if◌then◌else◌, is_ok}
use Rattle.can_frame.specs.declared.step.Seen.{Seen}
use Rattle.can_frame.specs.declared.step.Sent.{Sent}
use Rattle.disk_model.specs.declared.calls.Calls.{Calls}
use Rattle.disk_model.specs.declared.disk.Disk.{Ghosts}
use Rattle.disk_model.specs.declared.memory.MemoryDisk.{MemoryDisk}
use Rattle.disk_model.specs.Memory.{memory_calls}
use Rattle.kv_store.specs.declared.fault.Fault.{Fault}
use Rattle.kv_store.specs.KeyDisk.{KeyDisk}
use Rattle.raft_core.specs.StoredPuts.{stored_puts}
use Rattle.raft_log.specs.declared.durable.Durable.{Durable}
use Rattle.raft_log.specs.Calls.{WritesInOrder}
use Rattle.raft_log.specs.DurableViews.{durable_disk, durable_fault}
use Rattle.raft_log.specs.KeyDisk.{IsOn, IsKeyDisk, are_put, puts_on}
use Rattle.raft_log.specs.Stored.{Put, Stored}
use Rattle.alloc_spec.specs.declared.event.Outcome.{Outcome}
use Rattle.alloc_spec.specs.declared.event.View.{View}
use Rattle.alloc_spec.specs.Delivered.{StepResult}
use Rattle.alloc_spec.specs.AllocatorState.{AllocatorState}
use Rattle.alloc_server.specs.declared.server.Server.{Server}
use Rattle.alloc_server.specs.Server.{StepsTo, disk_of, durable_of, fault_of}
use Rattle.bus_spec.specs.Report.{line_of_failure, line_of_outcome}
use Rattle.bus_rows.specs.ReportLine.ReportLine.{HasFailed, HasStopped}
use Rattle.bus_world.specs.OnDisk.{IsClosedOn, IsUpOn}

abbrev pub LawOfMemberPuts : Ghosts MemoryDisk → Type 0
LawOfMemberPuts disk = (puts : List Put) (old new : Durable MemoryDisk disk) (key_disk : KeyDisk Stored) (ok : Bool) → IsKeyDisk old key_disk →
    WritesInOrder puts old new ok → (ok ≡ true → durable_fault new ≡ None) →
    IsOn (durable_disk new) (puts_on puts key_disk) × (ok ≡ are_put puts key_disk.calls) × (ok ≡ true → IsKeyDisk new (puts_on puts key_disk))

module _ {F : Type 0} {disk : Ghosts MemoryDisk} (server new : Server MemoryDisk F disk) (law : LawOfMemberPuts disk) (t : AllocatorState) (key_disk : KeyDisk Stored)
    (up : IsUpOn server t key_disk) (step_result : StepResult) where
  abbrev puts : List Put
  puts = stored_puts step_result.step_state.puts key_disk.store

  abbrev Follows : Bool → Type 0
  Follows ok = IsOn (disk_of new) (puts_on puts key_disk) × (ok ≡ are_put puts key_disk.calls) × (ok ≡ true → IsKeyDisk (durable_of new) (puts_on puts key_disk))

  makes : (result : Result Outcome Fault) → StepsTo server new step_result result → WritesInOrder puts (durable_of server) (durable_of new) (is_ok result)
  makes result steps =
      subst (λ (s : Stored). WritesInOrder (stored_puts step_result.step_state.puts s) (durable_of server) (durable_of new) (is_ok result)) up.keeps.state steps.puts

  follows_ok : (outcome : Outcome) → StepsTo server new step_result (Ok outcome) → Follows true
  follows_ok outcome steps = law puts (durable_of server) (durable_of new) key_disk true up.keeps (makes (Ok outcome) steps) (λ ok. steps.stands.works)

  follows_err : (why : Fault) → StepsTo server new step_result (Err why) → Follows false
  follows_err why steps = law puts (durable_of server) (durable_of new) key_disk false up.keeps (makes (Err why) steps) (λ ok. absurd (cc (ok)))

  pub up_after : (outcome : Outcome) → StepsTo server new step_result (Ok outcome) → IsUpOn new step_result.step_state.allocator (puts_on puts key_disk)
  up_after outcome steps = record { stands = steps.stands; keeps = (follows_ok outcome steps).2 refl }

  pub all_put : (outcome : Outcome) → StepsTo server new step_result (Ok outcome) → are_put puts key_disk.calls ≡ false → ⊥
  all_put outcome steps e = let f : true ≡ are_put puts key_disk.calls = (follows_ok outcome steps).1 in cc (f, e)

  pub not_all_put : (why : Fault) → StepsTo server new step_result (Err why) → are_put puts key_disk.calls ≡ true → ⊥
  not_all_put why steps e = let f : false ≡ are_put puts key_disk.calls = (follows_err why steps).1 in cc (f, e)

  pub cut_after : (why : Fault) → StepsTo server new step_result (Err why) → fault_of new ≡ Some why → IsClosedOn new (puts_on puts key_disk)
  cut_after why steps closed = record { closed = subst (λ (o : Option Fault). IsSome o) (sym closed) (search rules); on = (follows_err why steps).0 }

  pub failure_after : (why : Fault) (n : ℕ) (b : Bool) → StepsTo server new step_result (Err why) → (memory_calls (disk_of new)).stopped ≡ b →
      (if b then HasStopped n else HasFailed n) ≡ line_of_failure n (puts_on puts key_disk)
  failure_after why n b steps e =
      ap (λ (z : Bool). if z then HasStopped n else HasFailed n)
      (sym e ∙ ap (λ (calls : Calls). calls.stopped) (follows_err why steps).0.on.calls)

-- the same numbers give the same line
pub told_same : (n : ℕ) (a b : View) (seen s : Seen) (sent l : List Sent) → a ≡ b → seen ≡ s → sent ≡ l → line_of_outcome n a seen sent ≡ line_of_outcome n b s l
told_same n a b seen s sent l e f g =
    ap (λ (v : View). line_of_outcome n v seen sent) e
    ∙ (ap (λ (x : Seen). line_of_outcome n b x sent) f ∙ ap (λ (x : List Sent). line_of_outcome n b s x) g)

-- a server that had failed answers the same again
pub again_by : (P : Fault → Type 0) (o : Option Fault) → IsSome o → IfSome o P → (why : Fault) × P why
again_by P (Some why) closed again = (why, again)
again_by P None closed again = absurd (search (rules, closed))

pub same_stopped : {F : Type 0} {disk : Ghosts MemoryDisk} (new server : Server MemoryDisk F disk) → new ≡ server
    → (memory_calls (disk_of new)).stopped ≡ (memory_calls (disk_of server)).stopped
same_stopped {F} {disk} new server e = ap (λ (s : Server MemoryDisk F disk). (memory_calls (disk_of s)).stopped) e
