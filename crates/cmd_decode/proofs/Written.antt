-- Numbers that are written, each on a line.
use Rattle.std.proofs.Common.{◌≡◌, ℕ, List, ◌∷◌, ◌++◌, ap}
use Rattle.std.specs.Prelude.{codes, decimal}
use Rattle.cmd_decode.specs.Report.{number_lines}

pub lines_more : (number : ℕ) (numbers line : List ℕ) → line ≡ decimal number ++ codes "\n"
    → line ++ number_lines numbers ≡ number_lines (number ∷ numbers)
lines_more number numbers line is = ap (λ l. l ++ number_lines numbers) is
