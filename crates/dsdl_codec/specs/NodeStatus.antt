-- NodeStatus against its bytes (uavcan.protocol.NodeStatus).
--
--   uint32 uptime_sec                         four bytes, the low one first
--   uint2 health, uint3 mode, uint3 sub_mode  one byte
--   uint16 vendor_specific_status_code        two bytes, the low one first
use Rattle.std.specs.Prelude.{◌≡◌, ℕ, ◌+◌, ◌*◌, ◌/◌, ◌%◌, ◌^◌, ◌<◌, List, [], ◌∷◌, ◌++◌, Option, Some, None}
use Rattle.std.specs.Int.{to_le_bytes, from_le_bytes, w16, w32}
use Rattle.dsdl_codec.specs.declared.node_status.NodeStatus.{NodeStatus}

-- the values that have bytes
pub record IsNodeStatus (status : NodeStatus) : Type 0 where
  pub uptime : status.uptime < 2 ^ 32
  pub health : status.health < 4
  pub mode : status.mode < 8
  pub sub_mode : status.sub_mode < 8
  pub vendor : status.vendor < 2 ^ 16

-- the bytes of a value
abbrev pub node_status_bytes : NodeStatus → List ℕ
node_status_bytes status =
    to_le_bytes w32 status.uptime
    ++ (status.health * 64 + status.mode * 8 + status.sub_mode) ∷ to_le_bytes w16 status.vendor

-- these are the bytes of the value
pub record SpellsNodeStatus (status : NodeStatus) (bytes : List ℕ) : Type 0 where
  pub fits : IsNodeStatus status
  pub written : bytes ≡ node_status_bytes status

-- the value of bytes, where they are some value's
abbrev pub node_status_of : List ℕ → Option NodeStatus
node_status_of (a ∷ b ∷ c ∷ d ∷ state ∷ e ∷ f ∷ []) = Some (record {
  uptime = from_le_bytes w32 (a ∷ b ∷ c ∷ d ∷ []);
  health = state / 64;
  mode = state / 8 % 8;
  sub_mode = state % 8;
  vendor = from_le_bytes w16 (e ∷ f ∷ []);
})
node_status_of _ = None
