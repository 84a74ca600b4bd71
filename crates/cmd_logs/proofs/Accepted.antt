-- The rows that an allocator accepts.
use Rattle.std.specs.Prelude.{◌≡◌, length}
use Rattle.std.proofs.Common.{refl}
use Rattle.alloc_spec.specs.Accepted.{rows}

-- the receiver of a watch has room for them
pub few_rows : length rows ≡ 9
unfolding rows
few_rows = refl
