-- The line of a stranger, behind the report of a run.
use Rattle.std.specs.Prelude.{ℕ, List, ◌++◌, codes, decimal}
use Rattle.hex.specs.Hex.{encode_lower}
use Rattle.replay_text.specs.Words.{identifier_bytes}

-- the member that heard it, and the identifier of the frame in eight hexadecimal digits
abbrev pub stranger_line : ℕ → ℕ → List ℕ
stranger_line member identifier = codes "stranger " ++ decimal member
    ++ codes " " ++ encode_lower (identifier_bytes identifier) ++ codes "\n"
