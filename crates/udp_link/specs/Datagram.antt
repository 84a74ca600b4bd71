-- A frame as a datagram.
use Rattle.std.specs.Prelude.{◌≡◌, ℕ, ◌+◌, ◌^◌, ◌<◌, ◌≤◌, List, length, take, slice_index}
use Rattle.std.specs.Int.{from_be_bytes, w32}
use Rattle.outside.specs.declared.received.RawFrame.{RawFrame}

-- the most data bytes of a frame, and what stands before them in a datagram
abbrev pub most_data : ℕ
most_data = 8

abbrev pub head_size : ℕ
head_size = 5

-- the identifier, of 29 bits, in 4 bytes, the high byte first; the number of data bytes; and these, 1 to 8
pub record IsDatagram (frame : RawFrame) (bytes : List ℕ) : Type 0 where
  pub size : length bytes ≡ head_size + frame.len
  pub some : 0 < frame.len
  pub most : frame.len ≤ most_data
  pub identifier : from_be_bytes w32 (take 4 bytes) ≡ frame.id
  pub narrow : frame.id < 2 ^ 29
  pub count : slice_index bytes 4 ≡ frame.len
  pub same : (i : ℕ) → i < frame.len → slice_index bytes (head_size + i) ≡ slice_index frame.bytes i

-- two frames that have the same identifier and the same data
pub record IsSameFrame (frame other : RawFrame) : Type 0 where
  pub identifier : frame.id ≡ other.id
  pub count : frame.len ≡ other.len
  pub same : (i : ℕ) → i < frame.len → slice_index frame.bytes i ≡ slice_index other.bytes i
