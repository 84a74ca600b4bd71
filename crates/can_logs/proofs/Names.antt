-- The bytes of a name.
use Rattle.std.proofs.Common.{◌≡◌, ◌≢◌, ◌<◌, ◌≤◌, ◌∷◌, ◌++◌, ℕ, List, length, get_or, arith, sym, ◌∙◌}
use Rattle.std.specs.List.{All}
use Rattle.std.proofs.lemmas.List.{get_or_append_left}
use Rattle.std.proofs.lemmas.List.Elements.{All-get_or, All-weaker}
use Rattle.can_logs.specs.Candump.{IsName}

pub name_without : (byte : ℕ) (name : List ℕ) → byte < 33 → IsName name → All (λ other. other ≢ byte) name
name_without byte name low is =
    All-weaker (λ other. (33 ≤ other) × (other ≤ 126)) (λ other. other ≢ byte) (λ other printed e. let least = printed.0 in absurd (omega arith)) name is.printed

pub name_first : (name rest : List ℕ) → IsName name → get_or (name ++ 32 ∷ rest) 0 0 ≢ 32
name_first name rest is space =
    let some : 0 < length name = let least = is.some in omega arith in
    let printed = All-get_or (λ other. (33 ≤ other) × (other ≤ 126)) name 0 0 some is.printed in
    let here : get_or name 0 0 ≡ 32 = sym (get_or_append_left name (32 ∷ rest) 0 0 some) ∙ space in
    let least = printed.0 in
    absurd (omega arith)
