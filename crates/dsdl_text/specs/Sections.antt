-- The types that sections stand for. A field names an earlier section by its place.
use Rattle.std.specs.Prelude.{◌/◌, ◌%◌, ◌+◌, ℕ, nat_eq, if◌then◌else◌, List, [], ◌∷◌, ◌++◌, map, Option, Some, None, slice_get}
use Rattle.std.specs.Option.{option_and_then, option_map}
use Rattle.dsdl_text.specs.declared.section.Kind.{Kind}
use Rattle.dsdl_text.specs.declared.section.Kind.TheVariants.{Number, Section as Earlier}
use Rattle.dsdl_text.specs.declared.section.Field.{Field}
use Rattle.dsdl_text.specs.declared.section.Field.TheVariants.{Void, Data}
use Rattle.dsdl_text.specs.declared.section.Section.{Section}
use Rattle.arrayvec.specs.ArrayVec.{ArrayVec as Items}
use Rattle.dsdl_text.specs.Layout.{Layout, nothing, number, void, DataType, joined, shaped}
use Rattle.dsdl_text.specs.Text.{type_named}

abbrev pub first_layout : Option DataType → Layout
first_layout None = nothing
first_layout (Some type) = joined type.first

abbrev pub kind_layout : List DataType → Kind → Layout
kind_layout types (Number width) = number width.bits
kind_layout types (Earlier place) = first_layout (slice_get types place)

abbrev pub field_layout : List DataType → Field → Layout
field_layout types (Void width) = void width
field_layout types (Data kind shape) = shaped shape (kind_layout types kind)

abbrev pub part_layout : List DataType → List Field → List Layout
part_layout types fields = map (field_layout types) fields

-- the type of a section behind these types
abbrev pub type_of : List DataType → Section → DataType
type_of types section = record {
  name = section.name.items;
  first = part_layout types section.first.items;
  second = option_map (λ part. part_layout types part.items) section.second;
}

-- these types and those of sections behind them
abbrev pub types_onto : List DataType → List Section → List DataType
types_onto types [] = types
types_onto types (section ∷ sections) = types_onto (types ++ type_of types section ∷ []) sections

abbrev pub types_of : List Section → List DataType
types_of sections = types_onto [] sections

-- ---- parts by their places

-- that part of a type, 1 or 2
abbrev pub part_of : ℕ → DataType → Option (List Layout)
part_of part type = if nat_eq part 1 then Some type.first else (if nat_eq part 2 then type.second else None)

-- the part of the type of that name
abbrev pub part_named : List DataType → List ℕ → ℕ → Option (List Layout)
part_named types name part = option_and_then (part_of part) (type_named types name)

-- the part at a place: two places for each type
abbrev pub part_at : List DataType → ℕ → Option (List Layout)
part_at types at = option_and_then (part_of (at % 2 + 1)) (slice_get types (at / 2))

-- ---- the state of a reader

-- the section that the lines go into, behind these types
abbrev pub latest_of : List DataType → Option Section → Option DataType
latest_of types latest = option_map (type_of types) latest

-- how many sections that is
abbrev pub count_of : Option Section → ℕ
count_of None = 0
count_of (Some section) = 1

-- the fields of the last part of a section
abbrev pub last_part : Option Section → List Field
last_part None = []
last_part (Some section) = fields_in section.second where
  fields_in : Option (Items Field) → List Field
  fields_in None = section.first.items
  fields_in (Some part) = part.items
