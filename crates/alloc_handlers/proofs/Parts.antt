-- A member with new parts: what it stands for, and that it is ready.
use Rattle.std.proofs.Common.{◌≡◌, ◌∙◌, ℕ, List, refl}
use Rattle.alloc_handlers.proofs.Words.{Accepted, AllocatorState, Durable, Ghosts, IsReady, Member, Raft, RaftServer, StandsFor, Times, Watched, durable_state, members, raft_me, raft_size, start_of}
use Rattle.alloc_exchange.specs.declared.exchange.Exchange.{Exchange}
use Rattle.alloc_exchange.specs.Stands as exchange
use Rattle.cluster_discovery.specs.declared.cluster.Cluster.{Cluster}
use Rattle.cluster_discovery.specs.Members.{Event as Heard}
use Rattle.cluster_discovery.specs.Stands as cluster
use Rattle.node_discovery.specs.declared.counting.Counting.{Counting}
use Rattle.node_discovery.specs.declared.watch.Watch.{Watch}
use Rattle.node_discovery.specs.Stands as watch
use Rattle.raft_core.specs.Fits.{Fits}
use Rattle.raft_core.specs.Stands as raft

module _ {D : Type 0} {disk : Ghosts D} {member : Member D disk} {t : AllocatorState} {durable : Durable D disk} {r : Raft} {x : Exchange} {w : Watch} {k : Cluster} {at status : ℕ}
    {server : RaftServer} {times : Times} {accepted : List Accepted} {watched : List Watched} {events : List Heard} (h : StandsFor member t) where
  pub with_parts : raft.StandsFor r (members (start_of t) events) (durable_state durable) server times → exchange.StandsFor x accepted → watch.StandsFor w watched → cluster.StandsFor k (start_of t) events → at ≡ status
      → StandsFor (record member { durable = durable; raft = r; exchange = x; watch = w; cluster = k; status_at = at }) (record t { raft_server = server; times = times; accepted = accepted; watch = watched; heard = events; status_at = status })
  with_parts counts asks knows lists told = record {
    me = h.me;
    size = h.size;
    raft = counts;
    exchange = asks;
    watch = knows;
    counting = h.counting;
    cluster = lists;
    outbox = h.outbox;
    opened_at = h.opened_at;
    now = h.now;
    status_at = told;
  }

module _ {D : Type 0} {disk : Ghosts D} {member : Member D disk} {t : AllocatorState} (counting : Counting) (h : StandsFor member t) where
  pub with_counting : StandsFor (record member { counting = counting }) (record t { counting = counting })
  with_counting = record {
    me = h.me;
    size = h.size;
    raft = h.raft;
    exchange = h.exchange;
    watch = h.watch;
    counting = refl;
    cluster = h.cluster;
    outbox = h.outbox;
    opened_at = h.opened_at;
    now = h.now;
    status_at = h.status_at;
  }

module _ {D : Type 0} {disk : Ghosts D} {member : Member D disk} {r : Raft} {k : Cluster} {counting : Counting} (h : IsReady member) where
  pub ready_with : raft_me r ≡ raft_me member.raft → raft_size r ≡ raft_size member.raft → Fits r (durable_state member.durable) → IsReady (record member { raft = r; cluster = k; counting = counting })
  ready_with me size fits = record {
    least = h.least;
    most = h.most;
    some = h.some;
    five = h.five;
    raft_me = me ∙ h.raft_me;
    raft_size = size ∙ h.raft_size;
    outbox_me = h.outbox_me;
    opened_before = h.opened_before;
    status_before = h.status_before;
    fits = fits;
  }
