-- Invariants and safety of the world that a state shows.
use Rattle.std.proofs.Common.{◌≡◌, ℕ, ◌≤◌, List, length, arith, sym, ◌∙◌, subst, take, get_or, length-take}
use Rattle.std.proofs.lemmas.List.{take-take, take_all}
use Rattle.can_frame.specs.declared.entry.Entry.{Entry}
use Rattle.can_frame.specs.Log.{IsPrefix, blank}
use Rattle.can_frame.proofs.Logs.{pair_of_device}
use Rattle.raft_model.specs.Log.{Same}
use Rattle.raft_model.specs.Invariants.{Invariants}
use Rattle.raft_model.specs.Safety.{IsSafe, Lasts}
use Rattle.raft_model.proofs.Micro.{State}
use Rattle.raft_model.proofs.Facts.{Facts, Safe, Later}
use Rattle.raft_model.proofs.Safe.{safe}
use Rattle.raft_model.proofs.Bridge.{world_of}
use Rattle.raft_model.proofs.StoresSound.{stores_shown}
use Rattle.raft_model.proofs.VotesBound.{votes_shown}
use Rattle.raft_model.proofs.LeadersElected.{leaders_shown}
use Rattle.raft_model.proofs.LogsMatch.{logs_shown}
use Rattle.raft_model.proofs.AcknowledgedKept.{kept_shown}
use Rattle.raft_model.proofs.AcknowledgedVoted.{voted_shown}
use Rattle.raft_model.proofs.LeadersComplete.{complete_shown}
use Rattle.raft_model.proofs.CommitsSettled.{commits_shown}
use Rattle.raft_model.proofs.CallsSound.{calls_shown}

pub invariants_shown : (z : State) (n : ℕ) → Facts z → Invariants (world_of z n)
invariants_shown z n f = record {
  stores = stores_shown z n f;
  votes = votes_shown z n f;
  leaders = leaders_shown z n f;
  logs = logs_shown z n f;
  kept = kept_shown z n f;
  voted = voted_shown z n f;
  complete = complete_shown z n f;
  commits = commits_shown z n f;
  calls = calls_shown z n f;
}

-- the first k of l as a prefix of what agrees with it so far
pub prefix_take : (k : ℕ) (l m : List Entry) → k ≤ length l → k ≤ length m → Same k l m → IsPrefix (take k l) m
prefix_take k l m a b s =
    let n : length (take k l) ≡ k = omega (arith, length-take k l, a) in
    subst (λ (j : ℕ). take j m ≡ take k l) (sym n) (sym s)

pub safe_shown : (z : State) (n : ℕ) → Facts z → IsSafe (world_of z n)
safe_shown z n f =
    let x : Safe z = safe z f in
    record {
      committed_here = λ m. let y = x.committed m in prefix_take (z.commit m) (z.log m) z.ledger (f.stored.within m) y.0 y.1;
      injective = x.injective;
      pairs = λ p i.
          let y = f.told.pair p (f.posted.pair p i) in
          let low : 1 ≤ (get_or (z.log p.from) y.0 (blank 0)).node
          = (pair_of_device (get_or (z.log p.from) y.0 (blank 0))
          (f.stored.well_formed p.from y.0 (omega (arith, y.1, f.stored.within p.from))) (λ e. y.4 (sym y.2 ∙ e))).least in
          (y.0, y.1, y.2, y.3, y.4, subst (λ (k : ℕ). 1 ≤ k) y.3 low);
      stamps = f.committed.stamped;
      leaders = x.later;
    }

pub lasts_shown : (y z : State) (k n : ℕ) → Facts y → Facts z → Later y z → Lasts (world_of y k) (world_of z n)
lasts_shown y z k n f g h = record {
  committed_here = λ m. let c = h.commit m in
      let e : length (take (z.commit m) (z.log m)) ≡ z.commit m = omega (arith, length-take (z.commit m) (z.log m), g.stored.within m) in
      prefix_take (y.commit m) (y.log m) (take (z.commit m) (z.log m)) (f.stored.within m) (omega (arith, e, c))
      (sym (take-take (y.commit m) (z.commit m) (z.log m) c ∙ h.committed m));
  ledger = h.ledger.1 ∙ take_all (length y.ledger) y.ledger (omega arith);
  led = h.led;
  leader = h.leader;
  list = λ t l. (h.list t l).1 ∙ take_all (length (y.list t)) (y.list t) (omega arith);
  gains = h.gains;
}
