-- How long the values of a layout are.
use Rattle.std.specs.Prelude.{◌≡◌, ◌<◌, ℕ, Bool, true, false, ◌&&◌, not, nat_eq, min, if◌then◌else◌, List, [], ◌∷◌, length, map, take, slice_index_or}
use Rattle.dsdl_text.specs.declared.section.Field.{Field}
use Rattle.dsdl_text.specs.declared.section.Section.{Section}
use Rattle.dsdl_text.specs.declared.size.Size.{Size}
use Rattle.dsdl_text.specs.Layout.{DataType, Layout, nothing, void, number, pair, exactly, up_to, joined}
use Rattle.dsdl_text.specs.Numbers.{least_bits}
use Rattle.dsdl_text.specs.Sections.{field_layout, types_of}

-- it has no numbers: then each of its values has the same number of bits, none of which means a thing
abbrev pub has_no_number : Layout → Bool
has_no_number nothing = true
has_no_number (void width) = true
has_no_number (number width) = false
has_no_number (pair front back) = has_no_number front && has_no_number back
has_no_number (exactly count element) = has_no_number element
has_no_number (up_to most element) = false

-- its least number of bits, or 4096 where it is more
abbrev pub size_of : Layout → Size
size_of layout = record { bits = min 4096 (least_bits layout); blank = has_no_number layout }

-- the sizes of the first parts of types
abbrev pub sizes_in : List DataType → List Size
sizes_in types = map (λ type. size_of (joined type.first)) types

-- ---- what is there at all

-- values of that size have bits, or numbers
abbrev pub takes_bits : Size → Bool
takes_bits size = not (size.blank && nat_eq size.bits 0)

-- whether the values of a field have bits, behind these types
abbrev pub has_bits : List DataType → Field → Bool
has_bits types field = takes_bits (size_of (field_layout types field))

-- the fields whose values have bits, and the last field: what stands at the end goes by it
abbrev pub with_bits : List DataType → List Field → List Field
with_bits types [] = []
with_bits types (field ∷ []) = field ∷ []
with_bits types (field ∷ next ∷ fields) =
    if has_bits types field then field ∷ with_bits types (next ∷ fields)
    else with_bits types (next ∷ fields)

-- the first parts of sections, without the other fields
pub record IsCompact (sections compact : List Section) : Type 0 where
  pub count : length compact ≡ length sections
  pub fields : (place : ℕ) (d e : Section) → place < length sections
      → (slice_index_or compact place d).first.items
      ≡ with_bits (types_of (take place sections)) (slice_index_or sections place e).first.items
