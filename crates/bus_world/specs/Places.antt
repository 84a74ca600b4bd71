-- What the place of a member stands for.
use Rattle.std.specs.Prelude.{◌≡◌}
use Rattle.kv_store.specs.KeyDisk.{KeyDisk}
use Rattle.raft_log.specs.Stored.{Stored}
use Rattle.alloc_server.specs.Server.{accepts}
use Rattle.bus_spec.specs.Members.{MemberStatus, is_running}
use Rattle.bus_world.specs.OnDisk.{IsServerOf}
use Rattle.bus_world.specs.declared.place.Place.{Place}

module _ {F : Type 0} where
  -- the server is that of a member with this status, and runs where the member runs
  pub record HasStatus (place : Place F) (status : MemberStatus) (key_disk : KeyDisk Stored) : Type 0 where
    pub runs : place.runs ≡ is_running status
    pub server : IsServerOf status place.server key_disk

  -- the closure that was given to the server
  abbrev pub closure_of : Place F → F
  closure_of place = accepts place.server
