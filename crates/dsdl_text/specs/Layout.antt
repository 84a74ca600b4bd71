-- The layout of a type: what stands in the bits of its values, one thing behind the other.
use Rattle.std.specs.Prelude.{ℕ, List, [], ◌∷◌, Option}
use Rattle.dsdl_text.specs.declared.line.Shape.{Shape}
use Rattle.dsdl_text.specs.declared.line.Shape.TheVariants.{One, Exactly, UpTo}

pub data Layout : Type 0 where
  -- no bits
  nothing : Layout
  -- bits of no meaning
  void : (width : ℕ) → Layout
  -- a number of so many bits; a bool is one of one bit
  number : (width : ℕ) → Layout
  -- one thing, and another behind it
  pair : (front back : Layout) → Layout
  -- so many elements
  exactly : (count : ℕ) (element : Layout) → Layout
  -- at most so many elements
  up_to : (most : ℕ) (element : Layout) → Layout

-- fields that follow each other
abbrev pub joined : List Layout → Layout
joined [] = nothing
joined (field ∷ fields) = pair field (joined fields)

-- a field of that shape, whose type has this layout
abbrev pub shaped : Shape → Layout → Layout
shaped One element = element
shaped (Exactly count) element = exactly count element
shaped (UpTo most) element = up_to most element

-- a type: its name, and the fields of its one or two parts
pub record DataType : Type 0 where
  pub name : List ℕ
  pub first : List Layout
  pub second : Option (List Layout)
