-- How the chains of a receiver's pool go with what is kept of its sessions.
use Rattle.std.specs.Prelude.{◌≡◌, ℕ, ◌+◌, ◌*◌, ◌<◌, ◌≤◌, nat_eq, if◌then◌else◌, List, [], length, slice_index_or, set, Option, Some, None}
use Rattle.std.specs.List.{sum_by}
use Rattle.transfer_rx.specs.declared.progress.Progress.{Progress}
use Rattle.transfer_rx.specs.Outcome.{blocks_for}
use Rattle.transfer_rx.specs.Places.{Places, blocks_at}

-- the frames that were taken at a place, each of seven bytes
abbrev pub taken_at : Option Progress → ℕ
taken_at None = 0
taken_at (Some progress) = progress.taken

-- each chain has the bytes of the frames that its place has taken; without a session it is empty
abbrev pub AreFilled : List (Option Progress) → List (List ℕ) → Type 0
AreFilled progress chains =
    (place : ℕ) → place < length progress →
    length (slice_index_or chains place []) ≡ 7 * taken_at (slice_index_or progress place None)

-- where frames were taken, the chain has their bytes
abbrev pub Fills : Progress → List ℕ → Type 0
Fills progress chain = 0 < progress.taken → 7 * progress.taken ≡ length chain

-- beside the sessions at the other places there are blocks for so many bytes
abbrev pub HasRoomFor : ℕ → Places → ℕ → ℕ → Type 0
HasRoomFor blocks places place bytes = sum_by blocks_at (set places place None) + blocks_for bytes ≤ blocks

-- the chains, where the one of a place is emptied if nothing is taken there
abbrev pub emptied : ℕ → ℕ → List (List ℕ) → List (List ℕ)
emptied taken place chains = if nat_eq taken 0 then set chains place [] else chains

-- so many blocks are free beside the sessions at the places
abbrev pub IsFree : ℕ → Places → ℕ → Type 0
IsFree blocks places free = free + sum_by blocks_at places ≡ blocks
