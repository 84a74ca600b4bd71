-- What comes of the next frame of a transfer. Whole frames are compared with the cutting of the payload that they
-- carry.
use Rattle.std.specs.Prelude.{ℕ, ◌+◌, ◌%◌, ◌/◌, nat_eq, nat_lt, if◌then◌else◌, not, Bool, ◌&&◌, ◌||◌, List, [], ◌∷◌, ◌++◌, length, map, sum_by, Option, Some, None}
use Rattle.std.specs.Bool.{beq}
use Rattle.std.specs.Cmp.Lexicographic.{pointwise}
use Rattle.can_frame.specs.declared.tail.Tail.{Tail}
use Rattle.can_frame.specs.declared.step.Why.{Why}
use Rattle.can_frame.specs.declared.step.Why.TheVariants.{Start, Toggle, TransferId, Crc, Length, NoBlock}
use Rattle.can_frame.specs.Cutting.{Piece, joined, frames_of, payload_of}
use Rattle.can_frame.specs.Sizes.{longest_payload, longest_transfer}
use Rattle.transfer_rx.specs.Sessions.{Session}

-- the next piece has the expected ID, the start bit where it is the first, and the toggle where an odd number were
-- taken; else the first of these that fails is the cause
abbrev pub out_of_turn : Tail → Session → Option Why
out_of_turn tail session =
    if nat_eq tail.id session.expected then
    (if beq tail.start (nat_eq (length session.taken) 0) then
    (if beq tail.toggle (nat_eq (length session.taken % 2) 1) then None else Some Toggle)
    else Some Start)
    else Some TransferId

abbrev pub sizes : List Piece → List ℕ
sizes pieces = map (λ piece. length piece.bytes) pieces

abbrev pub same_tail : Tail → Tail → Bool
same_tail a b = beq a.start b.start && (beq a.end b.end && (beq a.toggle b.toggle && nat_eq a.id b.id))

abbrev pub same_piece : Piece → Piece → Bool
same_piece a b = pointwise nat_eq a.bytes b.bytes && same_tail a.tail b.tail

-- the frames of the only payload that pieces can be the cutting of
abbrev pub cut_again : ℕ → ℕ → List Piece → List Piece
cut_again signature id pieces = frames_of signature id (payload_of pieces)

-- no payload has frames of these lengths, or the payload is longer than the longest
unfoldable pub fits_no_payload : ℕ → ℕ → List Piece → Bool
fits_no_payload signature id pieces =
    not (pointwise nat_eq (sizes pieces) (sizes (cut_again signature id pieces))) ||
    nat_lt longest_payload (length (payload_of pieces))

-- a frame before the last has not seven bytes, or there are more than the longest transfer has with its CRC
unfoldable pub fits_no_part : List Piece → Bool
fits_no_part pieces =
    not (pointwise nat_eq (sizes pieces) (map (λ piece. 7) pieces)) || nat_lt longest_transfer (length (joined pieces))

abbrev pub is_wrong_length : ℕ → Piece → List Piece → Bool
is_wrong_length signature piece pieces =
    if piece.tail.end then fits_no_payload signature piece.tail.id pieces else fits_no_part pieces

-- bytes are kept in blocks of 28
abbrev pub blocks_for : ℕ → ℕ
blocks_for count = (count + 27) / 28

abbrev pub session_blocks : Session → ℕ
session_blocks session = blocks_for (length (joined session.taken))

unfoldable pub blocks_used : List Session → ℕ
blocks_used sessions = sum_by session_blocks sessions

-- a frame that is no transfer of its own would make its session use more blocks than the other sessions leave
abbrev pub lacks_blocks : ℕ → Piece → List Piece → List Session → Bool
lacks_blocks blocks piece taken others =
    not (piece.tail.start && piece.tail.end)
    && nat_lt blocks (blocks_used others + blocks_for (length (joined (taken ++ piece ∷ []))))

-- what comes of the next piece
pub data Outcome : Type 0 where
  Delivers : List ℕ → Outcome
  Grows : Outcome
  Spoils : Why → Outcome

-- the payload of which all pieces are the cutting, or the cause that there is none
abbrev pub assembled : ℕ → ℕ → List Piece → Outcome
assembled signature id pieces =
    if pointwise same_piece pieces (cut_again signature id pieces) then Delivers (payload_of pieces) else Spoils Crc

-- the next piece, behind the pieces taken, while the other sessions stand: its length is tried first, then the
-- blocks, and the CRC last
unfoldable pub outcome : ℕ → ℕ → Piece → List Piece → List Session → Outcome
outcome blocks signature piece taken others =
    let pieces : List Piece = taken ++ piece ∷ [] in
    if is_wrong_length signature piece pieces then Spoils Length else
    (if lacks_blocks blocks piece taken others then Spoils NoBlock else
    (if piece.tail.end then assembled signature piece.tail.id pieces else Grows))
