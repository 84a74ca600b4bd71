-- A server on a disk in memory that is seen by its stored state.
use Rattle.std.specs.Prelude.{◌≡◌, IsSome, false}
use Rattle.disk_model.specs.declared.disk.Disk.{Ghosts}
use Rattle.disk_model.specs.declared.memory.MemoryDisk.{MemoryDisk}
use Rattle.kv_store.specs.KeyDisk.{KeyDisk}
use Rattle.raft_log.specs.KeyDisk.{IsOn, IsKeyDisk}
use Rattle.raft_log.specs.Stored.{Stored}
use Rattle.alloc_spec.specs.AllocatorState.{AllocatorState}
use Rattle.alloc_server.specs.declared.server.Server.{Server}
use Rattle.alloc_server.specs.Server.{StandsFor, disk_of, durable_of, fault_of}
use Rattle.bus_spec.specs.Members.{MemberStatus}
use Rattle.bus_spec.specs.Members.MemberStatus.{Down, Up, Failed}

module _ {F : Type 0} {disk : Ghosts MemoryDisk} where
  -- a server that runs, on a disk on which nothing waits for a sync
  pub record IsUpOn (server : Server MemoryDisk F disk) (t : AllocatorState) (key_disk : KeyDisk Stored) : Type 0 where
    pub stands : StandsFor server t
    pub keeps : IsKeyDisk (durable_of server) key_disk

  -- a server that takes no step any more: its step was cut off, or its process stopped
  pub record IsClosedOn (server : Server MemoryDisk F disk) (key_disk : KeyDisk Stored) : Type 0 where
    pub closed : IsSome (fault_of server)
    pub on : IsOn (disk_of server) key_disk

  -- a server whose step was cut off, and whose disk goes on
  pub record HasFailedOn (server : Server MemoryDisk F disk) (key_disk : KeyDisk Stored) : Type 0 where
    pub closed : IsClosedOn server key_disk
    pub runs : key_disk.calls.stopped ≡ false

  -- a server is that of a member with this status; where the member is stopped, only the disk counts
  abbrev pub IsServerOf : MemberStatus → Server MemoryDisk F disk → KeyDisk Stored → Type 0
  IsServerOf Down server key_disk = IsClosedOn server key_disk
  IsServerOf (Up t) server key_disk = IsUpOn server t key_disk
  IsServerOf (Failed failure) server key_disk = HasFailedOn server key_disk
