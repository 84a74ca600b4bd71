-- The digits at the front of a text, as they are read one by one.
use Rattle.std.specs.Prelude.{◌&&◌, ◌+◌, ◌-◌, ◌*◌, ℕ, List, [], ◌∷◌, Option, Some, None, nat_le, not, if◌then◌else◌}

-- the digits at the front of a text, behind `size` digits that write n: the number that they write together,
-- and how many they are; None where it is above `most`
abbrev pub digits_in_front : ℕ → ℕ → ℕ → List ℕ → Option (ℕ × ℕ)
digits_in_front most n size [] = Some (n, size)
digits_in_front most n size (byte ∷ bytes) =
    if not (nat_le 48 byte && nat_le byte 57) then Some (n, size)
    else if not (nat_le (10 * n + (byte - 48)) most) then None
    else digits_in_front most (10 * n + (byte - 48)) (size + 1) bytes
