use Rattle.std.proofs.Common.{◌≡◌, ℕ, ◌<◌, false, get_or, None}
use Rattle.transfer_rx.specs.Places.{Places, KeepPlaces, is_free, left}
use Rattle.transfer_rx.proofs.sessions.Sessions.free.Given as goal

-- no place before this one is free
abbrev pub invariant-loop-place : goal.invariant-loop-place
invariant-loop-place g l =
    (places : Places) → KeepPlaces l.self.progress l.self.pool places →
    (j : ℕ) → j < l.place → is_free (get_or (left l.now places) j None) ≡ false
