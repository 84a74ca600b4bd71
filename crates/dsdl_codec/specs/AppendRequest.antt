-- AppendRequest against its bytes (the request of uavcan.protocol.dynamic_node_id.server.AppendEntries).
--
--   uint32 term, uint32 prev_log_term   four bytes each, the low one first
--   uint8 prev_log_index                one byte
--   uint8 leader_commit                 one byte
--   Entry[<=1] entries                  nothing, or the bytes of one entry
use Rattle.std.specs.Prelude.{◌≡◌, ℕ, ◌^◌, ◌<◌, List, [], ◌∷◌, ◌++◌, drop, Option, None, IfSome}
use Rattle.std.specs.Option.{option_map}
use Rattle.std.specs.Int.{to_le_bytes, from_le_bytes, w32}
use Rattle.dsdl_codec.specs.Entry.{IsEntry, entry_padding, optional_entry_bytes, optional_entry_of}
use Rattle.dsdl_codec.specs.declared.append_request.AppendRequest.{AppendRequest}

-- the values that have bytes
pub record IsAppendRequest (request : AppendRequest) : Type 0 where
  pub term : request.term < 2 ^ 32
  pub prev_term : request.prev_term < 2 ^ 32
  pub entry : IfSome request.entry IsEntry

-- the bytes of a value, with this padding bit
abbrev pub append_request_bytes : AppendRequest → ℕ → List ℕ
append_request_bytes request padding =
    to_le_bytes w32 request.term
    ++ to_le_bytes w32 request.prev_term
    ++ request.prev_index ∷ request.commit ∷ optional_entry_bytes request.entry padding

-- the padding bit that stands in bytes
abbrev pub append_request_padding : List ℕ → ℕ
append_request_padding bytes = entry_padding (drop 10 bytes)

-- these are the bytes of the value, whatever the padding
pub record SpellsAppendRequest (request : AppendRequest) (bytes : List ℕ) : Type 0 where
  pub fits : IsAppendRequest request
  pub written : bytes ≡ append_request_bytes request (append_request_padding bytes)

-- the value of bytes, where they are some value's
abbrev pub append_request_of : List ℕ → Option AppendRequest
append_request_of (a ∷ b ∷ c ∷ d ∷ e ∷ f ∷ g ∷ h ∷ prev_index ∷ commit ∷ rest) = option_map
    (λ entry. record {
      term = from_le_bytes w32 (a ∷ b ∷ c ∷ d ∷ []);
      prev_term = from_le_bytes w32 (e ∷ f ∷ g ∷ h ∷ []);
      prev_index = prev_index;
      commit = commit;
      entry = entry;
    })
    (optional_entry_of rest)
append_request_of _ = None
