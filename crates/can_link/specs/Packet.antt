-- A frame as a raw CAN socket of Linux has it: a `struct can_frame` of a machine whose low bytes come first.
use Rattle.std.specs.Prelude.{◌≡◌, ℕ, ◌+◌, ◌^◌, ◌<◌, ◌≤◌, List, length, take, slice_index}
use Rattle.std.specs.Int.{from_le_bytes, w32}
use Rattle.outside.specs.declared.received.RawFrame.{RawFrame}

-- the most data bytes of a frame, what stands before them in a packet, and the bytes of a packet
abbrev pub most_data : ℕ
most_data = 8

abbrev pub head_size : ℕ
head_size = 8

abbrev pub packet_size : ℕ
packet_size = 16

-- the flag of an identifier of 29 bits. The two flags below it, of a frame that asks for data and of one that tells of
-- an error of the bus, are not set
abbrev pub extended : ℕ
extended = 2 ^ 31

-- the identifier with its flag, in 4 bytes, the low byte first; the number of data bytes; three bytes that mean
-- nothing; and room for 8 data bytes
pub record IsPacket (frame : RawFrame) (bytes : List ℕ) : Type 0 where
  pub size : length bytes ≡ packet_size
  pub most : frame.len ≤ most_data
  pub narrow : frame.id < 2 ^ 29
  pub identifier : from_le_bytes w32 (take 4 bytes) ≡ extended + frame.id
  pub count : slice_index bytes 4 ≡ frame.len
  pub same : (i : ℕ) → i < frame.len → slice_index bytes (head_size + i) ≡ slice_index frame.bytes i

-- two frames that have the same identifier and the same data
pub record IsSameFrame (frame other : RawFrame) : Type 0 where
  pub identifier : frame.id ≡ other.id
  pub count : frame.len ≡ other.len
  pub same : (i : ℕ) → i < frame.len → slice_index frame.bytes i ≡ slice_index other.bytes i
