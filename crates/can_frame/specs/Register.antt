-- The register, bit by bit.
use Rattle.std.specs.Prelude.{List, [], ◌∷◌, ◌++◌, Bool, false, if◌then◌else◌}
use Rattle.can_frame.specs.TransferCrc.{xor, add_front, divisor}

unfoldable pub shift : List Bool → Bool → List Bool
shift [] b = []
shift (r ∷ rs) b = if xor r b then add_front divisor (rs ++ false ∷ []) else rs ++ false ∷ []

unfoldable pub run : List Bool → List Bool → List Bool
run r [] = r
run r (b ∷ bits) = run (shift r b) bits
