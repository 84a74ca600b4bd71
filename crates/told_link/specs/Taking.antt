-- What a link that keeps terms below a ceiling makes of the link and the clock below it.
use Rattle.std.specs.Prelude.{◌≡◌, ℕ, List, Option, Ok, Some, None, if◌then◌else◌}
use Rattle.outside.specs.Contents.{WhereTold}
use Rattle.outside.specs.Readings.{Reads}
use Rattle.outside.specs.Traffic.{Receives}
use Rattle.outside.specs.declared.failed.Failed.{Failed}
use Rattle.outside.specs.declared.received.Received.{Received}
use Rattle.outside.specs.declared.received.Received.TheVariants.{Junk}
use Rattle.told_link.specs.Terms.{ceiling_above, ceiling_for, is_below_ceiling, term_to}
use Rattle.told_link.specs.declared.terms.Ceiling.{Ceiling}

-- an item with this term is handed on where the ceiling, as it stands then, is not below it
abbrev pub let_through : ℕ → Option Ceiling → Received → Received
let_through term ceiling item = if is_below_ceiling term ceiling then item else Junk

module _ {C : Type 0} (readings : C → Option (List ℕ)) (clock_old clock : C) (ceiling_old ceiling : Option Ceiling) where
  -- this is handed on of an item, by its term. The clock is read where it has one, and only there
  abbrev pub IsLetThrough : Option ℕ → Received → Received → Type 0
  IsLetThrough None item handed = (handed ≡ item) × (clock ≡ clock_old) × (ceiling ≡ ceiling_old)
  IsLetThrough (Some term) item handed = (now : ℕ) × WhereTold (Reads now) (readings clock_old) (readings clock)
      × (ceiling ≡ ceiling_for now term ceiling_old) × (handed ≡ let_through term ceiling item)

  -- the link below gave this item, of which that was handed on to a member that is told this list
  pub record Takes (coming_old coming : Option (List Received)) (me : ℕ) (ids : List ℕ) (handed : Received)
      : Type 0 where
    pub item : Received
    pub below : WhereTold (Receives {E = Failed} (Ok item)) coming_old coming
    pub answer : IsLetThrough (term_to me ids item) item handed

  -- the member sent its first term, or none that is its first. The clock is read where it did, and only there
  abbrev pub IsTold : Option ℕ → Type 0
  IsTold None = (clock ≡ clock_old) × (ceiling ≡ ceiling_old)
  IsTold (Some term) = (now : ℕ) × WhereTold (Reads now) (readings clock_old) (readings clock)
      × (ceiling ≡ Some (ceiling_above now term))
