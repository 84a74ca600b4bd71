-- What a server that runs, or has failed, answers without a step.
use Rattle.std.proofs.Common.{rules, ◌≡◌, ◌≤◌, ℕ, refl, ap, ◌∙◌}
use Rattle.std.specs.Prelude.{IsNone, IsSome, None, Option, Some, option_map}
use Rattle.can_frame.specs.declared.step.Judged.{Judged}
use Rattle.can_frame.specs.declared.step.Judged.TheVariants.{Fine}
use Rattle.disk_model.specs.declared.disk.Disk.{Ghosts}
use Rattle.disk_model.specs.declared.memory.MemoryDisk.{MemoryDisk}
use Rattle.kv_store.specs.KeyDisk.{KeyDisk}
use Rattle.raft_log.specs.Stored.{Stored}
use Rattle.transfer_rx.specs.Reassembly.{Arrival}
use Rattle.transfer_tx.specs.declared.marked.Marked.{Marked}
use Rattle.transfer_tx.specs.Queue.{next_out}
use Rattle.transfer_tx.specs.Views.{queued_of}
use Rattle.alloc_spec.specs.Judging.{arrival_judgement}
use Rattle.alloc_spec.specs.AllocatorState.{AllocatorState}
use Rattle.alloc_server.specs.declared.server.Server.{Server}
use Rattle.alloc_server.specs.Server.{StandsFor, fault_of, queued}
use Rattle.bus_spec.specs.Lawful.{arrival_refusal, cause_of_judgement}
use Rattle.bus_spec.specs.Members.{MemberStatus, next_frame}
use Rattle.bus_spec.specs.Members.MemberStatus.{Down, Up, Failed}
use Rattle.std.proofs.Props.{props}
use Rattle.outside.specs.declared.pattern.Pattern.{Pattern}
use Rattle.bus_world.specs.OnDisk.{IsServerOf}
use Rattle.bus_world.specs.Patterns.{IsFilled}
use Rattle.bus_world.specs.declared.member.Member.{Member}
use Rattle.bus_world.specs.declared.place.Place.{Place}

-- a member whose place is as it was is the same
filled_prop : (pattern : Pattern) → IsProp (IsFilled pattern)
filled_prop pattern = hlevel props

at_least_prop : (m n : ℕ) → IsProp (m ≤ n)
at_least_prop m n = hlevel props

pub same_but_place : {F : Type 0} (member : Member F) (place : Place F) (filled : IsFilled member.pattern) (least : 1 ≤ member.id) (most : member.id ≤ 125)
    → place ≡ member.place → record { id = member.id; place = place; pattern = member.pattern; filled = filled; least = least; most = most } ≡ member
same_but_place member place filled least most e = λ i. record {
  id = member.id;
  place = e i;
  pattern = member.pattern;
  filled = filled_prop member.pattern filled member.filled i;
  least = at_least_prop 1 member.id least member.least i;
  most = at_least_prop member.id 125 most member.most i;
}

module _ {F : Type 0} {ghosts : Ghosts MemoryDisk} (server : Server MemoryDisk F ghosts) where
  pub judged_as : (status : MemberStatus) (key_disk : KeyDisk Stored) (arrival : Arrival) (result : Judged) → IsServerOf status server key_disk
      → ((t : AllocatorState) → StandsFor server t → result ≡ arrival_judgement t arrival) → (IsSome (fault_of server) → result ≡ Fine)
      → cause_of_judgement result ≡ arrival_refusal status arrival
  judged_as Down key_disk arrival result is by_state by_fault = ap cause_of_judgement (by_fault is.closed)
  judged_as (Up t) key_disk arrival result is by_state by_fault = ap cause_of_judgement (by_state t is.stands)
  judged_as (Failed failure) key_disk arrival result is by_state by_fault = ap cause_of_judgement (by_fault is.closed.closed)

  nothing_in : (o : Option Marked) → IsNone o → option_map queued_of o ≡ None
  nothing_in None is = refl
  nothing_in (Some marked) is = absurd (search (rules, is))

  pub next_as : (status : MemberStatus) (key_disk : KeyDisk Stored) (result : Option Marked) → IsServerOf status server key_disk
      → option_map queued_of result ≡ next_out (queued server) → (IsSome (fault_of server) → IsNone result)
      → option_map queued_of result ≡ next_frame status
  next_as Down key_disk result is next closed = nothing_in result (closed is.closed)
  next_as (Up t) key_disk result is next closed = next ∙ ap (λ outbox. next_out outbox.queue) is.stands.member.outbox
  next_as (Failed failure) key_disk result is next closed = nothing_in result (closed is.closed.closed)
