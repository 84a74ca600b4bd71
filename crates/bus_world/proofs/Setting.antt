-- A server whose disk is set to stop or to fail.
use Rattle.std.proofs.Common.{◌≡◌, sym, ap, subst, ◌∙◌}
use Rattle.std.specs.Prelude.{IsSome, Option}
use Rattle.disk_model.specs.declared.calls.Calls.{Calls}
use Rattle.disk_model.specs.declared.disk.Disk.{Ghosts}
use Rattle.disk_model.specs.declared.memory.MemoryDisk.{MemoryDisk}
use Rattle.disk_model.specs.Memory.{memory_calls, memory_contents}
use Rattle.kv_store.specs.declared.fault.Fault.{Fault}
use Rattle.kv_store.specs.KeyDisk.{KeyDisk}
use Rattle.raft_log.specs.declared.durable.Durable.{Durable}
use Rattle.raft_log.specs.DurableViews.{durable_copies, durable_disk, durable_fault, durable_state}
use Rattle.raft_log.specs.KeyDisk.{IsOn, IsKeyDisk}
use Rattle.raft_log.specs.Stored.{Stored}
use Rattle.alloc_spec.specs.AllocatorState.{AllocatorState}
use Rattle.alloc_server.specs.declared.server.Server.{Server}
use Rattle.alloc_server.specs.Server.{StandsFor, disk_of, durable_of, fault_of}
use Rattle.bus_spec.specs.Members.{MemberStatus}
use Rattle.bus_spec.specs.Members.MemberStatus.{Down, Up, Failed}
use Rattle.bus_world.specs.OnDisk.{IsClosedOn, IsServerOf}

abbrev pub LawOfSet : Type 0
LawOfSet = (old new : MemoryDisk) (key_disk : KeyDisk Stored) (calls : Calls) → IsOn old key_disk →
    memory_contents new ≡ memory_contents old → memory_calls new ≡ calls → IsOn new (record key_disk { calls = calls })

abbrev pub LawOfMemberSet : Ghosts MemoryDisk → Type 0
LawOfMemberSet disk = (old new : Durable MemoryDisk disk) (key_disk : KeyDisk Stored) (calls : Calls) → IsKeyDisk old key_disk →
    durable_state new ≡ durable_state old → durable_copies new ≡ durable_copies old → durable_fault new ≡ durable_fault old →
    memory_contents (durable_disk new) ≡ memory_contents (durable_disk old) → memory_calls (durable_disk new) ≡ calls →
    IsKeyDisk new (record key_disk { calls = calls })

module _ {F : Type 0} {disk : Ghosts MemoryDisk} (server new : Server MemoryDisk F disk) (setting : Calls → Calls) (law : LawOfSet) (member_law : LawOfMemberSet disk)
    (calls : memory_calls (disk_of new) ≡ setting (memory_calls (disk_of server)))
    (contents : memory_contents (disk_of new) ≡ memory_contents (disk_of server))
    (stands : (t : AllocatorState) → StandsFor server t → StandsFor new t) (fault : fault_of new ≡ fault_of server)
    (state : durable_state (durable_of new) ≡ durable_state (durable_of server)) (copies : durable_copies (durable_of new) ≡ durable_copies (durable_of server))
    (runs : (calls : Calls) → (setting calls).stopped ≡ calls.stopped) where
  closed_set : (key_disk : KeyDisk Stored) → IsClosedOn server key_disk → IsClosedOn new (record key_disk { calls = setting key_disk.calls })
  closed_set key_disk is = record {
    closed = subst (λ (o : Option Fault). IsSome o) (sym fault) is.closed;
    on = law (disk_of server) (disk_of new) key_disk (setting key_disk.calls) is.on contents (calls ∙ ap setting is.on.on.calls);
  }

  pub server_set : (status : MemberStatus) (key_disk : KeyDisk Stored) → IsServerOf status server key_disk → IsServerOf status new (record key_disk { calls = setting key_disk.calls })
  server_set Down key_disk is = closed_set key_disk is
  server_set (Up t) key_disk is = record {
    stands = stands t is.stands;
    keeps = member_law (durable_of server) (durable_of new) key_disk (setting key_disk.calls) is.keeps state copies
        ((stands t is.stands).works ∙ sym is.stands.works) contents (calls ∙ ap setting is.keeps.disk.on.on.calls);
  }
  server_set (Failed failure) key_disk is = record {
    closed = closed_set key_disk is.closed;
    runs = runs key_disk.calls ∙ is.runs;
  }
