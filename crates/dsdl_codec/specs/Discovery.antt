-- Discovery against its bytes (uavcan.protocol.dynamic_node_id.server.Discovery).
--
--   uint8 configured_cluster_size   one byte
--   uint8[<=5] known_nodes          what is left
use Rattle.std.specs.Prelude.{◌≡◌, ℕ, ◌≤◌, nat_le, List, [], ◌∷◌, length, Option, Some, None, if◌then◌else◌}
use Rattle.can_frame.specs.Sizes.{most_members}
use Rattle.dsdl_codec.specs.declared.discovery.Discovery.{Discovery}

-- the values that have bytes
abbrev pub IsDiscovery : Discovery → Type 0
IsDiscovery discovery = length discovery.known.items ≤ most_members

-- the bytes of a value
abbrev pub discovery_bytes : Discovery → List ℕ
discovery_bytes discovery = discovery.size ∷ discovery.known.items

-- these are the bytes of the value
pub record SpellsDiscovery (discovery : Discovery) (bytes : List ℕ) : Type 0 where
  pub fits : IsDiscovery discovery
  pub written : bytes ≡ discovery_bytes discovery

-- the value of bytes, where they are some value's
abbrev pub discovery_of : List ℕ → Option Discovery
discovery_of [] = None
discovery_of (size ∷ rest) =
    if nat_le (length rest) most_members then Some (record { size = size; known = record { items = rest } }) else None
