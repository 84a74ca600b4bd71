use Rattle.std.proofs.Common.{◌<◌, ℕ, slice_index}
use Rattle.std.specs.List.{Contains}
use Rattle.allocator_app.proofs.told.are_in.Given as goal

-- the node IDs so far are members
abbrev pub invariant-loop-id : goal.invariant-loop-id
invariant-loop-id l = (i : ℕ) → i < l.id-index → Contains l.members (slice_index l.ids i)
