-- The run that rows show has what members have stored.
use Rattle.std.proofs.Common.{◌≡◌, ℕ, ◌+◌, ◌<◌, ◌≤◌, Bool, List, length, sym, subst, ◌∙◌, arith}
use Rattle.can_frame.specs.Log.{HasNodeId, HasUid, log_limit}
use Rattle.raft_model.specs.Lists.{In}
use Rattle.raft_model.specs.Members.{HasNoneTwice}
use Rattle.raft_model.specs.Moves.Elections.{term_limit}
use Rattle.raft_model.specs.Runs.{World}
use Rattle.raft_model.specs.Server.{Store, quorum}
use Rattle.alloc_spec.specs.Transfers.{SentTransfer}
use Rattle.bus_agreement.specs.Shows.{Shows}
use Rattle.bus_agreement.proofs.MirroredRuns.{same_store}
use Rattle.service_steps.specs.Coming.{CanCome}
use Rattle.service_steps.specs.ComingBack.{HasRoom, IsMajority, IsNew, IsTold}
use Rattle.service_alone.specs.Recovery.{HavePlace}
use Rattle.bus_spec.specs.Cluster.{Cluster}
use Rattle.bus_spec.specs.Logs.{stored}

pub after_rows : (choice : ℕ → Bool) (made : List SentTransfer) (ids : List ℕ) (w : Cluster) (world : World) → Shows choice made w world
    → w.ids ≡ ids → HasNoneTwice ids
    → ((group : List ℕ) (uid : List ℕ) (node : ℕ) → HasNoneTwice world.members → IsMajority world.members group → HasRoom world group
    → IsNew world group uid node → CanCome world (λ later. IsTold later uid node))
    → (group : List ℕ) (uid : List ℕ) (node : ℕ) → IsMajority ids group → HavePlace choice w group uid node
    → CanCome world (λ later. IsTold later uid node)
after_rows choice made ids w world shows same once tells group uid node majority h = tells group uid node
    (subst HasNoneTwice (sym members) once)
    (record {
      enough = subst (λ (l : List ℕ). quorum l ≤ length group) (sym members) majority.enough;
      once = majority.once;
      listed = λ n i. subst (λ (l : List ℕ). In n l) (sym members) (majority.listed n i);
    })
    (record {
      term = λ n i. subst (λ (s : Store). s.term < term_limit) (sym (store n i)) (h.term n i);
      log = λ n i. let room : length (world.server n).store.log + 1 < log_limit
          = subst (λ (s : Store). length s.log + 1 < log_limit) (sym (store n i)) (h.room n i) in omega (arith, room);
    })
    (record {
      device = h.device;
      least = h.least;
      most = h.most;
      uids = λ n i. subst (λ (s : Store). HasUid s.log uid → ⊥) (sym (store n i)) (h.uids n i);
      nodes = λ n i. subst (λ (s : Store). HasNodeId s.log node → ⊥) (sym (store n i)) (h.nodes n i);
      room = λ n i. subst (λ (s : Store). length s.log + 1 < log_limit) (sym (store n i)) (h.room n i);
    })
  where
    members : world.members ≡ ids
    members = shows.members ∙ same

    store : (n : ℕ) → In n group → (world.server n).store ≡ stored choice w n
    store n i = same_store choice made w world shows n (w.member n).status (w.member n).disk
        (shows.lives n (subst (λ (l : List ℕ). In n l) (sym same) (majority.listed n i)))
