-- Allocation against its bytes (uavcan.protocol.dynamic_node_id.Allocation).
--
--   uint7 node_id, bool first_part_of_unique_id    one byte
--   uint8[<=16] unique_id                          what is left
use Rattle.std.specs.Prelude.{◌≡◌, ℕ, ◌+◌, ◌*◌, ◌/◌, ◌%◌, ◌<◌, ◌≤◌, nat_eq, nat_le, List, [], ◌∷◌, length, Option, Some, None, if◌then◌else◌}
use Rattle.dsdl_codec.specs.declared.allocation.Allocation.{Allocation}

-- the values that have bytes
pub record IsAllocation (allocation : Allocation) : Type 0 where
  pub node : allocation.node < 128
  pub uid : length allocation.uid.items ≤ 16

-- the bytes of a value
abbrev pub allocation_bytes : Allocation → List ℕ
allocation_bytes allocation = (allocation.node * 2 + (if allocation.first_part then 1 else 0)) ∷ allocation.uid.items

-- these are the bytes of the value
pub record SpellsAllocation (allocation : Allocation) (bytes : List ℕ) : Type 0 where
  pub fits : IsAllocation allocation
  pub written : bytes ≡ allocation_bytes allocation

-- the value of bytes, where they are some value's
abbrev pub allocation_of : List ℕ → Option Allocation
allocation_of [] = None
allocation_of (first ∷ rest) = if nat_le (length rest) 16
    then Some (record { node = first / 2; first_part = nat_eq (first % 2) 1; uid = record { items = rest } })
    else None
