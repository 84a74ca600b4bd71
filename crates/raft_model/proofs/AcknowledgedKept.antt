-- What a member acknowledged it keeps, unless a later term diverges: the fact Acks.
use Rattle.std.proofs.Common.{◌≡◌, ◌≤◌, ℕ, inl, inr, arith}
use Rattle.raft_model.specs.Invariants.{AcknowledgedKept, AcknowledgedVoted, Acknowledged}
use Rattle.raft_model.specs.Runs.{World}
use Rattle.raft_model.proofs.Micro.{State}
use Rattle.raft_model.proofs.Facts.{Facts, Acked}
use Rattle.raft_model.proofs.Bridge.{world_of}

pub acked_shown : (z : State) (n : ℕ) → Facts z → (m t j : ℕ) → Acknowledged ◌≤◌ (world_of z n) m t j
    → Acked z.led z.leader z.list z.answers m t j
acked_shown z n f m t j h = elim h [ inl l ↦ inl l | inr a ↦ inr (a.0, f.posted.answer a.0 a.1, a.2, a.3, a.4, a.5, a.6) ]

pub kept_shown : (z : State) (n : ℕ) → Facts z → AcknowledgedKept ◌≤◌ (world_of z n)
kept_shown z n f m t j h = let x = f.acks.own_log m t j (acked_shown z n f m t j h) in (x.1, x.3)

-- who acknowledged just so many places acknowledged so many or more
at_least : (w : World) (m t j : ℕ) → Acknowledged ◌≡◌ w m t j → Acknowledged ◌≤◌ w m t j
at_least w m t j (inl l) = inl l
at_least w m t j (inr a) = inr (a.0, a.1, a.2, a.3, a.4, a.5, omega (arith, a.6))

pub kept_exactly : (w : World) → AcknowledgedKept ◌≤◌ w → AcknowledgedKept ◌≡◌ w
kept_exactly w f m t j a = f m t j (at_least w m t j a)

pub voted_exactly : (w : World) → AcknowledgedVoted ◌≤◌ w → AcknowledgedVoted ◌≡◌ w
voted_exactly w f k t j i l b a = f k t j i l b (at_least w k.voter t j a)
