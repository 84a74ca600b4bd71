-- What the lines of a text make of it: its types. The part that a type's lines go into is its last one.
use Rattle.std.specs.Prelude.{⊤, ◌≡◌, ◌^◌, ℕ, Bool, false, not, nat_le, nat_lt, if◌then◌else◌, List, [], ◌∷◌, ◌++◌, length, Option, Some, None, is_some, is_none, codes, find, Result, Ok, Err, MatchOption}
use Rattle.std.specs.List.{list_any}
use Rattle.std.specs.Option.{option_map, option_to_list}
use Rattle.std.specs.Str.{bytes_eq}
use Rattle.dsdl_text.specs.declared.fault.LineFault.{LineFault}
use Rattle.dsdl_text.specs.declared.fault.LineFault.TheVariants.{Form, Unknown, Twice, Range, Many}
use Rattle.dsdl_text.specs.declared.line.Line.{Line}
use Rattle.dsdl_text.specs.declared.line.Line.TheVariants.{Empty, Section, Divider, Void, Field, Constant}
use Rattle.dsdl_text.specs.Layout.{Layout, number, void, DataType, joined, shaped}

-- a text as far as it was read
pub record Text : Type 0 where
  -- the types in front of the last one
  pub earlier : List DataType
  -- the last one, which the lines go into
  pub latest : Option DataType
  -- the names in its last part, of fields and constants; empty for a void
  pub names : List (List ℕ)

abbrev pub no_text : Text
no_text = record { earlier = []; latest = None; names = [] }

-- the types of a text
abbrev pub types_in : Text → List DataType
types_in text = text.earlier ++ option_to_list text.latest

-- ---- types by their names

-- the bits of a number's type
abbrev pub number_bits : List ℕ → Option ℕ
number_bits word = bits_in (
    (codes "bool", 1)
    ∷ (codes "uint1", 1)
    ∷ (codes "uint2", 2)
    ∷ (codes "uint3", 3)
    ∷ (codes "uint4", 4)
    ∷ (codes "uint5", 5)
    ∷ (codes "uint6", 6)
    ∷ (codes "uint7", 7)
    ∷ (codes "uint8", 8)
    ∷ (codes "uint16", 16)
    ∷ (codes "uint32", 32)
    ∷ (codes "uint64", 64)
    ∷ []
    ) where
      bits_in : List (List ℕ × ℕ) → Option ℕ
      bits_in [] = None
      bits_in (row ∷ rows) = if bytes_eq word row.0 then Some row.1 else bits_in rows

-- the type of that name
abbrev pub type_named : List DataType → List ℕ → Option DataType
type_named types word = find (λ type. bytes_eq type.name word) types

-- the layout of a type, if it has one part
abbrev pub layout_of : Option DataType → Option Layout
layout_of None = None
layout_of (Some type) = if is_none type.second then Some (joined type.first) else None

-- the layout that a field's type has, behind these types
abbrev pub layout_named : List DataType → List ℕ → Option Layout
layout_named types word = number_or (number_bits word) where
  number_or : Option ℕ → Option Layout
  number_or None = layout_of (type_named types word)
  number_or (Some width) = Some (number width)

-- ---- faults

-- nothing but empty lines stands in front of the first type
abbrev pub is_misplaced : Option DataType → Line → Bool
is_misplaced latest Empty = false
is_misplaced latest (Section name) = false
is_misplaced latest Divider = is_none latest
is_misplaced latest (Void bits) = is_none latest
is_misplaced latest (Field type_name shape name) = is_none latest
is_misplaced latest (Constant type_name name value) = is_none latest

-- a field is of a number or of an earlier type with one part, a constant of a number
abbrev pub has_unknown_type : List DataType → Line → Bool
has_unknown_type types Empty = false
has_unknown_type types (Section name) = false
has_unknown_type types Divider = false
has_unknown_type types (Void bits) = false
has_unknown_type types (Field type_name shape name) = is_none (layout_named types type_name.items)
has_unknown_type types (Constant type_name name value) = is_none (number_bits type_name.items)

abbrev pub has_second : Option DataType → Bool
has_second None = false
has_second (Some type) = is_some type.second

abbrev pub stands_in : List (List ℕ) → List ℕ → Bool
stands_in names name = list_any (λ other. bytes_eq other name) names

-- a name stands once in a text or in a part, and a type has two parts at most
abbrev pub is_repeated : Text → Line → Bool
is_repeated text Empty = false
is_repeated text (Section name) = is_some (type_named (types_in text) name.items)
is_repeated text Divider = has_second text.latest
is_repeated text (Void bits) = false
is_repeated text (Field type_name shape name) = stands_in text.names name.items
is_repeated text (Constant type_name name value) = stands_in text.names name.items

-- a number of so many bits has the value
abbrev pub fits : Option ℕ → Option ℕ → Bool
fits (Some width) (Some value) = nat_lt value (2 ^ width)
fits (Some width) None = false
fits None value = false

abbrev pub is_out_of_range : Line → Bool
is_out_of_range Empty = false
is_out_of_range (Section name) = false
is_out_of_range Divider = false
is_out_of_range (Void bits) = false
is_out_of_range (Field type_name shape name) = false
is_out_of_range (Constant type_name name value) = not (fits (number_bits type_name.items) value)

-- a text has 16 types at most, and a part 32 fields, voids and constants
abbrev pub is_too_many : Text → Line → Bool
is_too_many text Empty = false
is_too_many text (Section name) = nat_le 16 (length (types_in text))
is_too_many text Divider = false
is_too_many text (Void bits) = nat_le 32 (length text.names)
is_too_many text (Field type_name shape name) = nat_le 32 (length text.names)
is_too_many text (Constant type_name name value) = nat_le 32 (length text.names)

-- the first fault of a line behind this text
abbrev pub fault_of : Text → Line → Option LineFault
fault_of text line =
    if is_misplaced text.latest line then Some Form
    else if has_unknown_type text.earlier line then Some Unknown
    else if is_repeated text line then Some Twice
    else if is_out_of_range line then Some Range
    else if is_too_many text line then Some Many
    else None

-- ---- what a line makes of the text

abbrev pub new_type : List ℕ → DataType
new_type name = record { name = name; first = []; second = None }

-- a type with one more field in its last part
abbrev pub with_field : DataType → Layout → DataType
with_field type field = behind type.second where
  behind : Option (List Layout) → DataType
  behind None = record type { first = type.first ++ field ∷ [] }
  behind (Some fields) = record type { second = Some (fields ++ field ∷ []) }

-- the text with a field, under that name, of a type that may be known
abbrev pub add_field : Text → List ℕ → Option Layout → Text
add_field text name None = text
add_field text name (Some field) = grown text.latest where
  grown : Option DataType → Text
  grown None = text
  grown (Some type) = record text { latest = Some (with_field type field); names = text.names ++ name ∷ [] }

-- the text with a second part begun
abbrev pub divided : Text → Text
divided text = grown text.latest where
  grown : Option DataType → Text
  grown None = text
  grown (Some type) = record text { latest = Some (record type { second = Some [] }); names = [] }

-- the text behind a line without a fault
abbrev pub text_after : Text → Line → Text
text_after text Empty = text
text_after text (Section name) = record { earlier = types_in text; latest = Some (new_type name.items); names = [] }
text_after text Divider = divided text
text_after text (Void bits) = add_field text [] (Some (void bits))
text_after text (Field type_name shape name) =
    add_field text name.items (option_map (shaped shape) (layout_named text.earlier type_name.items))
text_after text (Constant type_name name value) = record text { names = text.names ++ name.items ∷ [] }

-- these lines have no fault behind the text, and make the other of it
abbrev pub TakesLines : Text → List Line → Text → Type 0
TakesLines text [] after = text ≡ after
TakesLines text (line ∷ lines) after = (fault_of text line ≡ None) × TakesLines (text_after text line) lines after

-- what a reader answers to a line: it takes it, or tells its fault and stays as it was
abbrev pub Answers : Text → Line → Result (⊤) LineFault → Text → Type 0
Answers text line answer after = MatchOption (fault_of text line)
    ((answer ≡ Ok tt) × (after ≡ text_after text line))
    (λ fault. (answer ≡ Err fault) × (after ≡ text))
