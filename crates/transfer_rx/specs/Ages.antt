-- Since when sessions took no frame.
use Rattle.std.specs.Prelude.{ℕ, ◌≤◌, IfSome, List, slice_index_or, Option, None}
use Rattle.transfer_rx.specs.declared.progress.Progress.{Progress}

-- what is at a place took its last frame at this moment or later
abbrev pub IsSince : ℕ → Option Progress → Type 0
IsSince moment there = IfSome there (λ progress. moment ≤ progress.moment)

abbrev pub AreSince : ℕ → List (Option Progress) → Type 0
AreSince moment progress = (place : ℕ) → IsSince moment (slice_index_or progress place None)
