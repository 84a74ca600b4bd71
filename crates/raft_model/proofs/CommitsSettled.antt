-- Only what is settled is committed: the fact Committed.
use Rattle.std.proofs.Common.{ℕ, ◌+◌, List, inl, inr, take, get_or}
use Rattle.can_frame.specs.declared.entry.Entry.{Entry}
use Rattle.raft_model.specs.Invariants.{CommitsSettled, IsSettled, IsFirm}
use Rattle.raft_model.proofs.Micro.{State}
use Rattle.raft_model.proofs.Facts.{Facts, Firm, IsSettled as SettledState}
use Rattle.raft_model.proofs.Bridge.{world_of}

pub firm_shown : (z : State) (n t k : ℕ) → Firm z.members z.led z.leader z.list z.bag t k → IsFirm (world_of z n) t k
firm_shown z n t k h = record { led = h.there; low = h.low; inside = h.inside; own_term = h.own_term; held = h.held }

pub settled_shown : (z : State) (n : ℕ) (l : List Entry) (t : ℕ) → SettledState z.members z.led z.leader z.list z.bag l t
    → IsSettled (world_of z n) l t
settled_shown z n l t h = (h.0, h.1, firm_shown z n t h.0 h.2, h.3)

pub commits_shown : (z : State) (n : ℕ) → Facts z → CommitsSettled (world_of z n)
commits_shown z n f = record {
  ledger = λ i b. settled_shown z n (take (i + 1) z.ledger) (get_or z.stamps i 0) (f.committed.place i b);
  servers = λ m. elim (f.committed.server m)
      [ inl e ↦ inl e | inr s ↦ inr (s.0, s.1, settled_shown z n (take (z.commit m) (z.log m)) s.0 s.2) ];
  requests = λ r i k. let x = f.committed.request r (f.posted.request r i) k in
      (x.0, elim x.2 [ inl e ↦ inl e | inr s ↦ inr (s.0, s.1, settled_shown z n (take r.commit (z.list r.term)) s.0 s.2) ]);
}
