-- The requests for node IDs that come from outside: three for each of 200 devices, in turn.
use Rattle.std.specs.Prelude.{ℕ, ◌+◌, ◌/◌, ◌%◌, ◌==◌, ◌<◌, ◌≤◌, List, [], ◌∷◌, length, if◌then◌else◌}
use Rattle.std.proofs.Common.{lit<, lit≤}
use Rattle.can_frame.specs.declared.frame.Frame.{Frame}

-- a message of type 1, Allocation, from a node without an ID
abbrev pub frame_of : (bytes : List ℕ) → 0 < length bytes → length bytes ≤ 8 → Frame
frame_of bytes filled short = record {
  id = 0x1e000500;
  bytes = record { items = bytes };
  narrow = lit< tt;
  filled = filled;
  short = short;
}

-- No node ID is wished for. The unique ID is 14 bytes 0x5a, and the number of the device in two bytes, high byte
-- first: the first request has the first part flag and bytes 0 to 5, the second bytes 6 to 11, the third bytes 12
-- to 15. Each of them is one frame, with transfer ID 0.
abbrev pub first_request : Frame
first_request = frame_of (1 ∷ 0x5a ∷ 0x5a ∷ 0x5a ∷ 0x5a ∷ 0x5a ∷ 0x5a ∷ 0xc0 ∷ []) (lit< tt) (lit≤ tt)

abbrev pub second_request : Frame
second_request =
    frame_of (0 ∷ 0x5a ∷ 0x5a ∷ 0x5a ∷ 0x5a ∷ 0x5a ∷ 0x5a ∷ 0xc0 ∷ []) (lit< tt) (lit≤ tt)

abbrev pub third_request : ℕ → Frame
third_request device = frame_of (0 ∷ 0x5a ∷ 0x5a ∷ 0 ∷ device ∷ 0xc0 ∷ []) (lit< tt) (lit≤ tt)

-- request number q, from 0
unfoldable pub request : ℕ → Frame
request q =
    if q % 3 == 0 then first_request
    else if q % 3 == 1 then second_request
    else third_request (q / 3 % 200 + 1)
