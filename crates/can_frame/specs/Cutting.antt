-- Cutting a transfer into frames (UAVCAN v0 specification, "Transfer payload"). Sending and receiving both mean this.
use Rattle.std.specs.Prelude.{◌≡◌, ◌≤◌, ℕ, zero, suc, ◌+◌, ◌-◌, ◌/◌, ◌%◌, nat_eq, nat_le, if◌then◌else◌, Bool, true, false, List, [], ◌∷◌, ◌++◌, length, map, take, drop, slice_index_or, flat_map}
use Rattle.can_frame.specs.declared.tail.Tail.{Tail}
use Rattle.can_frame.specs.Sizes.{longest_payload}
use Rattle.can_frame.specs.Tail.{tail_byte, tail_of}
use Rattle.can_frame.specs.TransferCrc.{transfer_crc}

-- a frame of a transfer: its bytes before the tail, and the tail
pub record Piece : Type 0 where
  pub bytes : List ℕ
  pub tail : Tail

-- the bytes of a frame, the tail last
abbrev pub frame_bytes : Piece → List ℕ
frame_bytes piece = piece.bytes ++ tail_byte piece.tail ∷ []

-- the piece that a frame with these bytes is
abbrev pub piece_from : List ℕ → Piece
piece_from bytes = record {
  bytes = take (length bytes - 1) bytes;
  tail = tail_of (slice_index_or bytes (length bytes - 1) 0);
}

-- the CRC of a payload, low byte first
abbrev pub crc_bytes : ℕ → List ℕ → List ℕ
crc_bytes signature payload = (transfer_crc signature payload % 256) ∷ (transfer_crc signature payload / 256) ∷ []

-- what is cut: a payload of at most 7 bytes alone, a longer one behind its CRC
abbrev pub bytes_cut : ℕ → List ℕ → List ℕ
bytes_cut signature payload = if nat_le (length payload) 7 then payload else crc_bytes signature payload ++ payload

-- start is set in the first frame alone, end in the last alone; the toggle is 0 in the first and alternates
abbrev pub tail_at : ℕ → ℕ → Bool → Tail
tail_at id place last = record { start = nat_eq place 0; end = last; toggle = nat_eq (place % 2) 1; id = id }

-- the frames from a place on: some of seven bytes each, and the last with what is left
abbrev pub cut : ℕ → ℕ → ℕ → List ℕ → List Piece
cut id place zero bytes = record { bytes = bytes; tail = tail_at id place true } ∷ []
cut id place (suc more) bytes =
    record { bytes = take 7 bytes; tail = tail_at id place false } ∷ cut id (suc place) more (drop 7 bytes)

-- how many frames there are before the last one
abbrev pub frames_before_last : ℕ → List ℕ → ℕ
frames_before_last signature payload = (length (bytes_cut signature payload) - 1) / 7

-- the frames of a payload
unfoldable pub frames_of : ℕ → ℕ → List ℕ → List Piece
frames_of signature id payload = cut id 0 (frames_before_last signature payload) (bytes_cut signature payload)

-- the bytes of frames before their tails, one after the other
abbrev pub joined : List Piece → List ℕ
joined pieces = flat_map (λ piece. piece.bytes) pieces

-- the only payload that frames can be the cutting of: behind the CRC where they are several
unfoldable pub payload_of : List Piece → List ℕ
payload_of pieces = if nat_le (length pieces) 1 then joined pieces else drop 2 (joined pieces)

-- how many bytes are cut for a payload of so many: itself, or behind the two bytes of the CRC
abbrev pub cut_length : ℕ → ℕ
cut_length bytes = if nat_le bytes 7 then bytes else 2 + bytes

-- how many frames a payload of so many bytes has
abbrev pub frame_count : ℕ → ℕ
frame_count bytes = if nat_le bytes 7 then 1 else (bytes + 8) / 7

-- how many bytes each frame has before its tail
abbrev pub frame_lengths : List Piece → List ℕ
frame_lengths pieces = map (λ piece. length piece.bytes) pieces

-- the frames are the cutting of a payload, under a signature and with a transfer ID
pub record IsCutting (signature id : ℕ) (payload : List ℕ) (pieces : List Piece) : Type 0 where
  pub size : length payload ≤ longest_payload
  pub frames : pieces ≡ frames_of signature id payload
