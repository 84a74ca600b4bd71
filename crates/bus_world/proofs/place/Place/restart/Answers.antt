use Rattle.std.proofs.Common.{refl, subst}
use Rattle.kv_store.specs.KeyDisk.{restarted_on}
use Rattle.outside.specs.declared.pattern.Pattern.{Pattern}
use Rattle.raft_log.specs.KeyDisk.{IsOn}
use Rattle.alloc_server.specs.Server.{disk_of}
use Rattle.bus_world.proofs.place.Place.restart.Goals as goal

pub returns-clause-status : goal.returns-clause-status
returns-clause-status g c = λ key_disk on.
    let ready = c.the_disk_by_states.ensures.restarted (disk_of c.args.self.now.server) (disk_of c.restart.new.self) key_disk c.copy_of.result on
    c.copy_of.ensures.usable c.restart.ensures.disk in record {
      runs = refl;
      server = record {
        closed = c.restart.ensures.closed;
        on = subst (λ (p : Pattern). IsOn (disk_of c.restart.new.self) (restarted_on p key_disk)) c.copy_of.ensures.same ready.on;
      };
    }
