-- The unique ID that no device has.
use Rattle.std.specs.Prelude.{ℕ, List, replicate}

-- sixteen zeros
abbrev pub zeros : List ℕ
zeros = replicate 16 0
