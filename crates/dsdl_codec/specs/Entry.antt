-- A log entry against its bytes (uavcan.protocol.dynamic_node_id.server.Entry).
--
--   uint32 term           four bytes, the low one first
--   uint8[16] unique_id   sixteen bytes
--   void1, uint7 node_id  one byte, whose high bit is padding
use Rattle.std.specs.Prelude.{◌≡◌, ℕ, ◌+◌, ◌*◌, ◌/◌, ◌%◌, ◌^◌, ◌<◌, nat_eq, List, [], ◌∷◌, ◌++◌, length, take, slice_index_or, Option, Some, None, IfSome, if◌then◌else◌}
use Rattle.std.specs.Option.{option_map}
use Rattle.std.specs.Int.{to_le_bytes, from_le_bytes, w32}
use Rattle.can_frame.specs.declared.entry.Entry.{Entry}

-- the bytes of an entry, with this padding bit
abbrev pub entry_bytes : Entry → ℕ → List ℕ
entry_bytes entry padding = to_le_bytes w32 entry.term ++ entry.uid ++ (padding * 128 + entry.node) ∷ []

-- the padding bit that stands in bytes
abbrev pub entry_padding : List ℕ → ℕ
entry_padding bytes = slice_index_or bytes 20 0 / 128

-- the values that have bytes
pub record IsEntry (entry : Entry) : Type 0 where
  pub term : entry.term < 2 ^ 32
  pub uid : length entry.uid ≡ 16
  pub node : entry.node < 128

-- these are the bytes of the entry, whatever the padding
pub record SpellsEntry (entry : Entry) (bytes : List ℕ) : Type 0 where
  pub fits : IsEntry entry
  pub written : bytes ≡ entry_bytes entry (entry_padding bytes)

-- the bytes of an entry, if there is one, with this padding bit
abbrev pub optional_entry_bytes : Option Entry → ℕ → List ℕ
optional_entry_bytes None padding = []
optional_entry_bytes (Some entry) padding = entry_bytes entry padding

-- these are the bytes of an entry, or there is neither
pub record SpellsOptionalEntry (entry : Option Entry) (bytes : List ℕ) : Type 0 where
  pub fits : IfSome entry IsEntry
  pub written : bytes ≡ optional_entry_bytes entry (entry_padding bytes)

-- the entry of bytes, where they are some entry's
abbrev pub entry_of : List ℕ → Option Entry
entry_of (a ∷ b ∷ c ∷ d ∷ rest) = if nat_eq (length rest) 17
    then Some (record {
      term = from_le_bytes w32 (a ∷ b ∷ c ∷ d ∷ []);
      uid = take 16 rest;
      node = slice_index_or rest 16 0 % 128;
    })
    else None
entry_of _ = None

-- the entry of what is left, if anything is left
abbrev pub optional_entry_of : List ℕ → Option (Option Entry)
optional_entry_of [] = Some None
optional_entry_of (a ∷ rest) = option_map Some (entry_of (a ∷ rest))
