-- VoteRequest against its bytes (the request of uavcan.protocol.dynamic_node_id.server.RequestVote).
--
--   uint32 term, uint32 last_log_term   four bytes each, the low one first
--   uint8 last_log_index                one byte
use Rattle.std.specs.Prelude.{◌≡◌, ℕ, ◌^◌, ◌<◌, List, [], ◌∷◌, ◌++◌, Option, Some, None}
use Rattle.std.specs.Int.{to_le_bytes, from_le_bytes, w32}
use Rattle.dsdl_codec.specs.declared.vote_request.VoteRequest.{VoteRequest}

-- the values that have bytes
pub record IsVoteRequest (request : VoteRequest) : Type 0 where
  pub term : request.term < 2 ^ 32
  pub last_term : request.last_term < 2 ^ 32

-- the bytes of a value
abbrev pub vote_request_bytes : VoteRequest → List ℕ
vote_request_bytes request =
    to_le_bytes w32 request.term ++ to_le_bytes w32 request.last_term ++ request.last_index ∷ []

-- these are the bytes of the value
pub record SpellsVoteRequest (request : VoteRequest) (bytes : List ℕ) : Type 0 where
  pub fits : IsVoteRequest request
  pub written : bytes ≡ vote_request_bytes request

-- the value of bytes, where they are some value's
abbrev pub vote_request_of : List ℕ → Option VoteRequest
vote_request_of (a ∷ b ∷ c ∷ d ∷ e ∷ f ∷ g ∷ h ∷ last_index ∷ []) = Some (record {
  term = from_le_bytes w32 (a ∷ b ∷ c ∷ d ∷ []);
  last_term = from_le_bytes w32 (e ∷ f ∷ g ∷ h ∷ []);
  last_index = last_index;
})
vote_request_of _ = None
