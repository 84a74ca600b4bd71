-- An allocator that has settled serves, by what it goes by; and one that serves has settled.
use Rattle.std.proofs.Common.{◌≡◌, ℕ, ◌≤◌, List, [], ◌∷◌, length, inl, refl, sym, ◌∙◌, ap, subst, arith}
use Rattle.std.specs.Prelude.{◌||◌}
use Rattle.alloc_exchange.specs.Exchange.{Accepted, last_moment}
use Rattle.can_frame.specs.declared.entry.Entry.{Entry}
use Rattle.can_frame.specs.Log.{IsInjective}
use Rattle.cluster_discovery.specs.Members.{is_on_list}
use Rattle.raft_model.specs.Lists.{In}
use Rattle.raft_model.specs.Server.{RaftServer}
use Rattle.alloc_spec.specs.AllocatorState.{AllocatorState, is_known, is_recorded}
use Rattle.bus_agreement.specs.Shows.{ShowsMember, ShowsUp}
use Rattle.service_alone.specs.Calm.{HasSettled}
use Rattle.service_alone.proofs.CalmRest.{Serves, lists_itself}
use Rattle.service_alone.proofs.Members.{IsUp}
use Rattle.service_alone.proofs.Reached.{IsShown}
use Rattle.bus_spec.specs.Cluster.{Cluster}
use Rattle.bus_spec.specs.Members.{MemberStatus}

-- it knows itself, and whom its log has
known_is : (n : ℕ) (log : List Entry) (t : AllocatorState) → t.me ≡ n → t.size ≡ 1 → t.raft_server.store.log ≡ log → (node : ℕ)
    → is_known t node ≡ (is_on_list (n ∷ []) node || is_recorded log node)
known_is n log t me size log_is node = λ i. is_on_list ((lists_itself t size ∙ ap (λ (k : ℕ). k ∷ []) me) i) node || is_recorded (log_is i) node

module _ (n : ℕ) (log : List Entry) (now : ℕ) (w : Cluster) (shown : IsShown w) (ids : w.ids ≡ n ∷ []) (h : HasSettled n log now w) where
  -- what it is in the run that the world shows
  pub shows_it : ShowsUp shown.made w.ids w.frames shown.run n h.server (w.member n).disk
  shows_it = subst (λ (status : MemberStatus). ShowsMember shown.choice shown.made w.ids w.frames shown.run n status (w.member n).disk) h.runs
      (shown.shows.lives n (subst (λ (l : List ℕ). In n l) (sym ids) (inl refl)))

  -- no node ID stands in its log for two unique IDs
  pub log_is_injective : IsInjective log
  log_is_injective = subst IsInjective (ap (λ (x : RaftServer). x.store.log) shows_it.runs.raft_server ∙ h.log_is) (shown.invariants.stores n).injective

  size : h.server.size ≡ 1
  size = shows_it.runs.size ∙ ap length ids

  pub serves_it : Serves n log h.server.accepted h.server.ids.alloc h.server
  serves_it = record {
    me = shows_it.runs.me;
    size = size;
    offline = λ other e. h.known other (known_is n log h.server shows_it.runs.me size h.log_is other ∙ e);
    discovery = h.discovery;
    accepts = refl;
    id = refl;
    role = h.leads;
    log_is = h.log_is;
    committed = h.committed;
    told = h.told;
  }

pub settled_by : (n : ℕ) (log : List Entry) (accepted : List Accepted) (next : ℕ) (t : AllocatorState) (now : ℕ) (w : Cluster) → Serves n log accepted next t
    → IsUp t (w.member n) → t.now ≤ now → t.status_at ≤ now → last_moment accepted ≤ now → HasSettled n log now w
settled_by n log accepted next t now w s up clock status requests = record {
  server = t;
  runs = up.status;
  faults = up.quiet.faults;
  disk = up.quiet.calls;
  leads = s.role;
  log_is = s.log_is;
  committed = s.committed;
  told = s.told;
  clock = clock;
  status = status;
  requests = let e = ap (λ (l : List Accepted). last_moment l) s.accepts in omega (arith, e, requests);
  known = λ other e. s.offline other (sym (known_is n log t s.me s.size s.log_is other) ∙ e);
  discovery = s.discovery;
}
