use Rattle.std.proofs.Common.{◌≡◌, ℕ, ◌<◌, get_or, length, None}
use Rattle.transfer_rx.proofs.sessions.Sessions.clear.Given as goal

-- the places before this one are free
abbrev pub invariant-loop-place : goal.invariant-loop-place
invariant-loop-place g l = record {
  none : (i : ℕ) → i < l.place → get_or l.self.progress i None ≡ None;
  used : l.self.used ≡ l.fn.self.used;
  size : length l.self.progress ≡ length l.fn.self.progress;
}
