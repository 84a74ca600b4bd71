-- What a clock that sleeps while nothing comes makes of the clock below it.
use Rattle.std.specs.Prelude.{◌⊎◌, ℕ, List, Option}
use Rattle.outside.specs.Contents.{WhereTold}
use Rattle.outside.specs.Readings.{Reads}

-- the clock below read this moment; or it read the last one again, and then, after a sleep, this one
abbrev pub Paces : (last moment : ℕ) → (old new : Option (List ℕ)) → Type 0
Paces last moment old new =
    WhereTold (Reads moment) old new
    ⊎ ((between : Option (List ℕ)) × WhereTold (Reads last) old between × WhereTold (Reads moment) between new)
