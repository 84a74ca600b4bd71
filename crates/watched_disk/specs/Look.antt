-- What a look at a file is.
use Rattle.std.specs.Prelude.{◌≡◌, Bool, List, ◌∷◌}

-- one more look was made, with this answer
abbrev pub Looks : Bool → List Bool → List Bool → Type 0
Looks answer old new = new ≡ answer ∷ old
