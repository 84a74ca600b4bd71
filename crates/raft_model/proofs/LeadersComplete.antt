-- What is settled begins the list of every later leader: Complete, over the facts of a moment.
use Rattle.std.proofs.Common.{ℕ, length, arith, ◌∙◌}
use Rattle.std.proofs.lemmas.List.{take_all}
use Rattle.raft_model.specs.Log.{Same}
use Rattle.raft_model.specs.Invariants.{LeadersComplete, IsFirm}
use Rattle.raft_model.proofs.Micro.{State}
use Rattle.raft_model.proofs.Facts.{Facts, Firm}
use Rattle.raft_model.proofs.Firm.{settled_later}
use Rattle.raft_model.proofs.Bridge.{world_of}

pub firm_back : (z : State) (n t k : ℕ) → IsFirm (world_of z n) t k → Firm z.members z.led z.leader z.list z.bag t k
firm_back z n t k h = record { there = h.led; low = h.low; inside = h.inside; own_term = h.own_term; held = h.held }

pub complete_shown : (z : State) (n : ℕ) → Facts z → LeadersComplete (world_of z n)
complete_shown z n f l t u h b led =
    let same : Same (length l) (z.list u) l = settled_later z f l t u (h.0, h.1, firm_back z n t h.0 h.2, h.3) (omega (arith, b)) led in
    same ∙ take_all (length l) l (omega arith)
