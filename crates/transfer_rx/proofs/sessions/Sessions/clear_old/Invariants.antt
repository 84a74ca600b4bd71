use Rattle.std.proofs.Common.{◌≡◌, ℕ, ◌<◌, ◌≤◌, get_or, length, Option, None, []}
use Rattle.transfer_rx.specs.declared.key.Key.{Key}
use Rattle.transfer_rx.specs.Crcs.{HaveCrcs}
use Rattle.transfer_rx.specs.Places.{Places, KeepPlaces, kept}
use Rattle.transfer_rx.specs.Progress.{IsProgressAt}
use Rattle.transfer_rx.proofs.sessions.Sessions.clear_old.Given as goal

-- the places before this one are done, the others are as they were
abbrev pub invariant-loop-place : goal.invariant-loop-place
invariant-loop-place g l = record {
  done : (places : Places) → KeepPlaces l.fn.self.progress l.fn.self.pool places → (i : ℕ) → i < l.place →
      IsProgressAt (get_or l.self.progress i None) (get_or l.self.pool i []) (kept l.now (get_or places i None));
  left : (i : ℕ) → l.place ≤ i → get_or l.self.progress i None ≡ get_or l.fn.self.progress i None;
  chains : (i : ℕ) → l.place ≤ i → get_or l.self.pool i [] ≡ get_or l.fn.self.pool i [];
  crcs : (signature_of : Key → Option ℕ) → HaveCrcs signature_of l.fn.self.progress l.fn.self.pool → HaveCrcs signature_of l.self.progress l.self.pool;
  used : l.self.used ≡ l.fn.self.used;
  size : length l.self.progress ≡ length l.fn.self.progress;
}
