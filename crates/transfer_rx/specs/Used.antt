-- How far the places are used.
use Rattle.std.specs.Prelude.{◌≡◌, ℕ, ◌≤◌, List, slice_index_or, Option, None}
use Rattle.transfer_rx.specs.declared.progress.Progress.{Progress}

-- no place from this one on has a session
abbrev pub AreUnused : ℕ → List (Option Progress) → Type 0
AreUnused used progress = (place : ℕ) → used ≤ place → slice_index_or progress place None ≡ None
