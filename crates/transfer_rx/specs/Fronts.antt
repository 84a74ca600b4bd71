-- Where the front of a payload is kept.
use Rattle.std.specs.Prelude.{ℕ, ◌+◌, ◌<◌, ◌≤◌, nat_eq, if◌then◌else◌, IfSome, List, [], drop, length, slice_index_or, Option, Some, None}
use Rattle.can_frame.specs.Sizes.{longest_payload}
use Rattle.transfer_rx.specs.declared.progress.Found.{Found}

-- the place whose chain has the front of the payload, behind the CRC: none where nothing was taken
abbrev pub front_of : Found → Option ℕ
front_of found = if nat_eq found.progress.taken 0 then None else Some found.place

-- the bytes in front of those of the last frame
abbrev pub front_bytes : List (List ℕ) → Option ℕ → List ℕ
front_bytes chains None = []
front_bytes chains (Some place) = drop 2 (slice_index_or chains place [])

-- the front of a payload is there, and leaves room for so many bytes behind it
pub record HasFront (places : ℕ) (chains : List (List ℕ)) (front : Option ℕ) (last : ℕ) : Type 0 where
  pub there : IfSome front (λ place. place < places)
  pub behind_crc : IfSome front (λ place. 2 ≤ length (slice_index_or chains place []))
  pub fits : length (front_bytes chains front) + last ≤ longest_payload
