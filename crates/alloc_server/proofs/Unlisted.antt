-- A member stands for what it stood for, and is as ready, whatever its step has offered.
use Rattle.alloc_handlers.specs.declared.member.Member.{Member}
use Rattle.alloc_handlers.specs.Stands.{IsReady, StandsFor}
use Rattle.alloc_spec.specs.AllocatorState.{AllocatorState}
use Rattle.alloc_spec.specs.declared.offered.Offered.{Offered}
use Rattle.disk_model.specs.declared.disk.Disk.{Ghosts}

module _ {D : Type 0} {disk : Ghosts D} {member : Member D disk} {offered : Offered} where
  pub stands_unlisted : {t : AllocatorState} → StandsFor member t → StandsFor (record member { offered = offered }) t
  stands_unlisted h = record {
    me = h.me;
    size = h.size;
    raft = h.raft;
    exchange = h.exchange;
    watch = h.watch;
    counting = h.counting;
    cluster = h.cluster;
    outbox = h.outbox;
    opened_at = h.opened_at;
    now = h.now;
    status_at = h.status_at;
  }

  pub ready_unlisted : IsReady member → IsReady (record member { offered = offered })
  ready_unlisted h = record {
    least = h.least;
    most = h.most;
    some = h.some;
    five = h.five;
    raft_me = h.raft_me;
    raft_size = h.raft_size;
    outbox_me = h.outbox_me;
    opened_before = h.opened_before;
    status_before = h.status_before;
    fits = h.fits;
  }
