-- The tail byte as a table of fields: bit 7 start, bit 6 end, bit 5 toggle, bits 4 to 0 the transfer ID.
use Rattle.std.specs.Prelude.{ℕ, ◌+◌, ◌/◌, ◌%◌, Bool, nat_eq, if◌then◌else◌}
use Rattle.can_frame.specs.declared.tail.Tail.{Tail}

-- what a bit is worth
abbrev pub worth : Bool → ℕ → ℕ
worth bit weight = if bit then weight else 0

-- the byte of the fields
abbrev pub tail_byte : Tail → ℕ
tail_byte tail = worth tail.start 128 + worth tail.end 64 + worth tail.toggle 32 + tail.id

-- the fields of a byte
abbrev pub tail_of : ℕ → Tail
tail_of byte = record {
  start = nat_eq (byte / 128 % 2) 1;
  end = nat_eq (byte / 64 % 2) 1;
  toggle = nat_eq (byte / 32 % 2) 1;
  id = byte % 32;
}
