-- An allocator state: a server of the Raft model, with the moments and the lists that its step goes by. It is the
-- server of the code without its tables, chains of bytes and caches.
use Rattle.std.specs.Prelude.{ℕ, ◌-◌, ◌/◌, Bool, ◌&&◌, ◌||◌, min, nat_eq, nat_lt, List, [], length, map, position, Option}
use Rattle.std.specs.List.{list_any, range_with_len}
use Rattle.std.specs.Str.{bytes_eq}
use Rattle.alloc_exchange.specs.Exchange.{Accepted}
use Rattle.can_frame.specs.declared.entry.Entry.{Entry}
use Rattle.can_frame.specs.declared.step.Role.{Role}
use Rattle.can_frame.specs.declared.step.Role.TheVariants.{Follower, Candidate, Leader}
use Rattle.can_frame.specs.Log.{entry_at, log_limit}
use Rattle.can_frame.specs.Sizes.{node_ids}
use Rattle.can_frame.specs.Zeros.{zeros}
use Rattle.cluster_discovery.specs.Members.{Event as Heard, Start, is_complete, is_on_list, members}
use Rattle.dsdl_codec.specs.declared.node_status.NodeStatus.{NodeStatus}
use Rattle.node_discovery.specs.declared.counting.Counting.{Counting}
use Rattle.node_discovery.specs.declared.counting.Counting.TheVariants.{OfSpell}
use Rattle.node_discovery.specs.History.{is_online}
use Rattle.node_discovery.specs.Watch.{Watched, history}
use Rattle.raft_core.specs.StoredPuts.{number_of_vote}
use Rattle.raft_core.specs.Times.{Times, opened_times}
use Rattle.raft_model.specs.Moves.Elections.{is_leader}
use Rattle.raft_model.specs.Server.{RaftServer, Role as MachineRole, Store, memory_when_opened}
use Rattle.transfer_rx.specs.Sessions.{Session}
use Rattle.transfer_tx.specs.Queue.{Queued}
use Rattle.alloc_spec.specs.declared.event.View.{View}
use Rattle.alloc_spec.specs.Transfers.{Ids, first_ids}

pub record AllocatorState : Type 0 where
  -- the allocator's own node ID, and how many members its cluster has
  pub me : ℕ
  pub size : ℕ
  -- the server of the Raft model, and what it waits for
  pub raft_server : RaftServer
  pub times : Times
  -- the transfers that it receives
  pub sessions : List Session
  -- the frames that wait for the bus, in the order of offering
  pub queue : List Queued
  -- the requests of the exchange that were accepted since the last clearing
  pub accepted : List Accepted
  -- what happened with the nodes of the bus, newest first
  pub watch : List Watched
  -- which queries count against a node that answers none of them
  pub counting : Counting
  -- the Discoveries that it heard and sent, newest first
  pub heard : List Heard
  -- the transfer IDs that come next
  pub ids : Ids
  pub opened_at : ℕ
  -- the greatest moment given so far, that of the opening among them
  pub now : ℕ
  -- when the last NodeStatus was due, or the opening
  pub status_at : ℕ

-- a server that was opened with this store: it knows nothing but itself
abbrev pub opening : ℕ → ℕ → Store → ℕ → ℕ → AllocatorState
opening me size store now word = record {
  me = me;
  size = size;
  raft_server = record { store = store; memory = memory_when_opened };
  times = opened_times now word;
  sessions = [];
  queue = [];
  accepted = [];
  watch = [];
  counting = OfSpell;
  heard = [];
  ids = first_ids;
  opened_at = now;
  now = now;
  status_at = now;
}

-- ---- its cluster

abbrev pub start_of : AllocatorState → Start
start_of t = record { me = t.me; size = t.size; moment = t.opened_at }

-- the members that it knows, itself first
abbrev pub members_of : AllocatorState → List ℕ
members_of t = members (start_of t) t.heard

abbrev pub knows_all : AllocatorState → Bool
knows_all t = is_complete (start_of t) t.heard

-- ---- its log

-- the place, from 0, at which a unique ID stands
abbrev pub recorded_at : List Entry → List ℕ → Option ℕ
recorded_at log uid = position (λ entry. bytes_eq entry.uid uid) log

abbrev pub is_zero : List ℕ → Bool
is_zero uid = bytes_eq uid zeros

-- a leader whose log has room may record a pair
abbrev pub may_propose : AllocatorState → Bool
may_propose t = is_leader t.raft_server.memory.role && nat_lt (length t.raft_server.store.log) log_limit

-- ---- node IDs

abbrev pub is_recorded : List Entry → ℕ → Bool
is_recorded log node = list_any (λ entry. nat_eq entry.node node) log

-- members, and nodes that stand in the log
abbrev pub is_known : AllocatorState → ℕ → Bool
is_known t node = is_on_list (members_of t) node || is_recorded t.raft_server.store.log node

-- node IDs that may not be given: those known, and those of nodes that are online
abbrev pub is_taken : AllocatorState → ℕ → Bool
is_taken t node = is_known t node || is_online (history node t.watch) t.now

-- for each node ID, from 0 on
abbrev pub by_node : (ℕ → Bool) → List Bool
by_node test = map test (range_with_len 0 node_ids)

abbrev pub known : AllocatorState → List Bool
known t = by_node (is_known t)

abbrev pub taken : AllocatorState → List Bool
taken t = by_node (is_taken t)

-- ---- what it shows of itself

-- the seconds since the opening; all is well
abbrev pub status_of : AllocatorState → NodeStatus
status_of t =
    record { uptime = min ((t.now - t.opened_at) / 1000) 4294967295; health = 0; mode = 0; sub_mode = 0; vendor = 0 }

abbrev pub role_shown : MachineRole → Role
role_shown MachineRole.Follower = Follower
role_shown MachineRole.Candidate = Candidate
role_shown MachineRole.Leader = Leader

abbrev pub view_of : AllocatorState → View
view_of t = record {
  role = role_shown t.raft_server.memory.role;
  term = t.raft_server.store.term;
  vote = number_of_vote t.raft_server.store.vote;
  last = length t.raft_server.store.log;
  commit = t.raft_server.store.commit;
  queued = length t.queue;
}

-- the entry at a place; at place 0 the blank of term 0
abbrev pub entry_of : AllocatorState → ℕ → Entry
entry_of t place = entry_at t.raft_server.store.log place
