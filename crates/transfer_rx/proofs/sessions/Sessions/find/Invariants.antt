use Rattle.std.proofs.Common.{◌≡◌, ℕ, ◌<◌, false, get_or, None}
use Rattle.transfer_rx.specs.Places.{Places, KeepPlaces, has_key, left}
use Rattle.transfer_rx.proofs.sessions.Sessions.find.Given as goal

-- no place before this one has the key's session
abbrev pub invariant-loop-place : goal.invariant-loop-place
invariant-loop-place g l =
    (places : Places) → KeepPlaces l.self.progress l.self.pool places →
    (j : ℕ) → j < l.place → has_key l.key (get_or (left l.now places) j None) ≡ false
