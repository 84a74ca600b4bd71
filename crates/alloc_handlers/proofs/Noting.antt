-- A member notes what it did: the step goes on.
use Rattle.std.proofs.Common.{◌≡◌, ◌≢◌, ℕ, List, [], ◌++◌, ap, subst, sym, ◌∙◌, append-nil, None}
use Rattle.alloc_handlers.proofs.Words.{Accepted, CallWrites, Durable, Ghosts, HandedIn, IsInStep, Member, Move, Offered, PutWithOrigin, Raft, RaftServer, StepState, Times, Watched, durable_state, members, members_of, puts_with_origins, raft_role, server_after_all, start_of, times_after_all, with_moves}
use Rattle.alloc_exchange.specs.declared.exchange.Exchange.{Exchange}
use Rattle.alloc_exchange.specs.Stands as exchange
use Rattle.cluster_discovery.specs.declared.cluster.Cluster.{Cluster}
use Rattle.cluster_discovery.specs.Members.{Event as Heard}
use Rattle.cluster_discovery.specs.Stands as cluster
use Rattle.node_discovery.specs.declared.watch.Watch.{Watch}
use Rattle.node_discovery.specs.Stands as watch
use Rattle.raft_core.specs.Stands as raft
use Rattle.can_frame.specs.declared.step.Role.TheVariants.{Follower}
use Rattle.raft_log.specs.Stored.{Stored}
use Rattle.alloc_handlers.proofs.Parts.{with_parts}

-- a member that counts others counts the same
pub counts_same : (r : Raft) (list later : List ℕ) (state : Stored) (server : RaftServer) (times : Times) → raft.StandsFor r list state server times
    → (raft_role r ≢ Follower → later ≡ list) → raft.StandsFor r later state server times
counts_same r list later state server times h same = record {
  store = h.store;
  role = h.role;
  told = h.told;
  known = λ leads. h.known leads ∙ sym (same leads);
  since = h.since;
  word = h.word;
  waits = h.waits;
  peers = h.peers;
}

-- its parts change, and what they stand for; nothing is put or listed
module _ {D : Type 0} {disk : Ghosts D} {start : Durable D disk} {member : Member D disk} {g : StepState} {x : Exchange} {w : Watch} {k : Cluster} {at status : ℕ} {accepted : List Accepted} {watched : List Watched} {events : List Heard}
    (h : IsInStep start member g) where
  noted : raft.StandsFor member.raft (members (start_of g.allocator) events) (durable_state member.durable) g.allocator.raft_server g.allocator.times → exchange.StandsFor x accepted → watch.StandsFor w watched
      → cluster.StandsFor k (start_of g.allocator) events → at ≡ status
      → IsInStep start (record member { exchange = x; watch = w; cluster = k; status_at = at }) (record g { allocator = record g.allocator { accepted = accepted; watch = watched; heard = events; status_at = status } })
  noted counts asks knows lists told = record { stands = with_parts h.stands counts asks knows lists told; sent = h.sent; given = h.given; puts = h.puts }

module _ {D : Type 0} {disk : Ghosts D} (start : Durable D disk) (member : Member D disk) (g : StepState) (h : IsInStep start member g) where
  -- it heard or sent a Discovery, and counts the members that it counted before
  pub noted_cluster : (k : Cluster) (events : List Heard) → cluster.StandsFor k (start_of g.allocator) events
      → raft.StandsFor member.raft (members (start_of g.allocator) events) (durable_state member.durable) g.allocator.raft_server g.allocator.times
      → IsInStep start (record member { cluster = k }) (record g { allocator = record g.allocator { heard = events } })
  noted_cluster k events knows counts = noted h counts h.stands.exchange h.stands.watch knows h.stands.status_at

  -- something happened with a node
  pub noted_watch : (w : Watch) (events : List Watched) → watch.StandsFor w events
      → IsInStep start (record member { watch = w }) (record g { allocator = record g.allocator { watch = events } })
  noted_watch w events knows = noted h h.stands.raft h.stands.exchange knows h.stands.cluster h.stands.status_at

  -- a request of the exchange was heard
  pub noted_request : (x : Exchange) (accepted : List Accepted) → exchange.StandsFor x accepted
      → IsInStep start (record member { exchange = x }) (record g { allocator = record g.allocator { accepted = accepted } })
  noted_request x accepted knows = noted h h.stands.raft knows h.stands.watch h.stands.cluster h.stands.status_at

  -- its NodeStatus was sent
  pub noted_status : (now : ℕ) → now ≡ g.allocator.now → IsInStep start (record member { status_at = now }) (record g { allocator = record g.allocator { status_at = g.allocator.now } })
  noted_status now at = noted h h.stands.raft h.stands.exchange h.stands.watch h.stands.cluster at

  -- moves without puts were made
  pub noted_moves : (step : ℕ) (given : HandedIn) (moves : List Move) (r : Raft)
      → puts_with_origins (members_of g.allocator) g.allocator.me step given g.allocator.raft_server moves ≡ []
      → raft.StandsFor r (members_of g.allocator) (durable_state member.durable) (server_after_all (members_of g.allocator) g.allocator.me step g.allocator.raft_server moves) (times_after_all (members_of g.allocator) g.allocator.me step given g.allocator.raft_server moves g.allocator.times)
      → IsInStep start (record member { raft = r }) (with_moves step given moves g)
  noted_moves step given moves r quiet counts = record {
    stands = with_parts h.stands counts h.stands.exchange h.stands.watch h.stands.cluster h.stands.status_at;
    sent = h.sent;
    given = h.given;
    puts = subst (λ (list : List PutWithOrigin). CallWrites list start member.durable None) (sym (ap (λ (list : List PutWithOrigin). g.puts ++ list) quiet ∙ append-nil g.puts)) h.puts;
  }
