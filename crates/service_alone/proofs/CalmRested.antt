-- Whatever happened, an allocator that is alone comes to rest.
use Rattle.std.proofs.Common.{◌≡◌, ℕ, ◌+◌, ◌<◌, List, [], ◌∷◌, ◌++◌, length, refl, ap, subst, arith, Option}
use Rattle.alloc_exchange.specs.Exchange.{Accepted, last_moment}
use Rattle.can_frame.specs.Log.{log_limit}
use Rattle.cluster_discovery.specs.Members.{Event as Heard_, owes}
use Rattle.node_discovery.specs.History.{is_online}
use Rattle.node_discovery.specs.Watch.{Watched, history}
use Rattle.raft_model.specs.Moves.Elections.{term_limit}
use Rattle.raft_model.specs.Server.{Store}
use Rattle.transfer_tx.specs.Queue.{Queued}
use Rattle.allocatee.specs.Allocatee.{Device}
use Rattle.alloc_spec.specs.AllocatorState.{AllocatorState, start_of}
use Rattle.service_steps.specs.Serving.{with_queue}
use Rattle.service_alone.specs.Alone.{found}
use Rattle.service_alone.specs.Calm.{HasComeToRest, queue_of}
use Rattle.service_alone.proofs.Goes.{CanGo, and_then, so}
use Rattle.service_alone.proofs.Leading.{HasComeToLead, Laws, comes_to_lead}
use Rattle.service_alone.proofs.Reached.{IsReached}
use Rattle.service_alone.proofs.Scenes.{At}
use Rattle.service_alone.proofs.Sending.{drains}
use Rattle.bus_spec.specs.Cluster.{Cluster}

module _ (n a : ℕ) (laws : Laws (n ∷ [])) where
  -- its NodeStatus goes out, and it is at rest
  rests_then : (moment : ℕ) (store : Store) (x : Option Device) (frames : List Queued) (w : Cluster) → HasComeToLead n a laws store moment x frames w
      → CanGo w moment moment 1 (HasComeToRest n store.log moment)
  rests_then moment store x frames w l =
      so (At n a (with_queue [] l.server) x (frames ++ l.fresh.status ∷ [])) (HasComeToRest n store.log moment) w moment moment 1
      (drains n a moment l.server x l.fresh.status.id (l.fresh.status ∷ []) frames w (refl, tt) (subst (λ (s : AllocatorState). At n a s x frames w) waits l.at))
      (λ v at. record {
        log = l.stored.log;
        grown = l.settled.log;
        rests = record {
          settled = record {
            server = with_queue [] l.server;
            runs = at.up.status;
            faults = at.up.quiet.faults;
            disk = at.up.quiet.calls;
            leads = l.fresh.role;
            log_is = l.fresh.log;
            committed = l.fresh.committed;
            told = l.fresh.told;
            clock = let e = l.fresh.now in omega (arith, e);
            status = let e = l.fresh.status_at in omega (arith, e);
            requests = let e = ap (λ (accepted : List Accepted). last_moment accepted) l.fresh.accepted in omega (arith, e);
            known = λ other e. ap (λ (watch : List Watched). is_online (history other watch) l.server.now) l.fresh.watch;
            discovery = ap (λ (heard : List Heard_). owes (start_of l.server) heard) l.fresh.heard;
          };
          sent = ap queue_of at.up.status;
        };
      })
    where
      waits : l.server ≡ with_queue (l.fresh.status ∷ []) l.server
      waits = λ i. record l.server { queue = l.fresh.waiting i }

  -- from any world that rows lead to
  pub comes_to_rest : (moment : ℕ) (w : Cluster) → w.ids ≡ n ∷ [] → IsReached (n ∷ []) w → length (found w n).log < log_limit
      → (found w n).term + 1 < term_limit → CanGo w moment (moment + 4000) 8 (HasComeToRest n (found w n).log (moment + 4000))
  comes_to_rest moment w ids r room low =
      and_then (HasComeToLead n a laws (found w n) (moment + 4000) (w.allocatee a) w.frames) (HasComeToRest n (found w n).log (moment + 4000)) w moment (moment + 4000) (moment + 4000) 7 1
      (comes_to_lead n a laws moment w ids r room low)
      (λ v l. rests_then (moment + 4000) (found w n) (w.allocatee a) w.frames v l)
