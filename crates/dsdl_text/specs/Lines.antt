-- The lines of a text. A line is its words, whatever spaces stand between and around them; a remark behind
-- `#` counts for nothing.
use Rattle.std.specs.Prelude.{⊤, ◌≡◌, ◌≢◌, ◌<◌, ◌≤◌, ◌^◌, ℕ, List, [], ◌∷◌, ◌++◌, Option, Some, None, IsTrue, codes, decimal}
use Rattle.dsdl_text.specs.declared.line.Line.{Line}
use Rattle.dsdl_text.specs.declared.line.Line.TheVariants.{Empty, Section, Divider, Void, Field, Constant}
use Rattle.dsdl_text.specs.declared.line.Shape.{Shape}
use Rattle.dsdl_text.specs.declared.line.Shape.TheVariants.{One, Exactly, UpTo}
use Rattle.dsdl_text.specs.Words.{is_name, is_numeral, words}

-- what stands behind the name of a type
abbrev pub shape_text : Shape → List ℕ
shape_text One = []
shape_text (Exactly count) = codes "[" ++ decimal count ++ codes "]"
shape_text (UpTo most) = codes "[<=" ++ decimal most ++ codes "]"

abbrev pub IsShape : Shape → Type 0
IsShape One = ⊤
IsShape (Exactly count) = (1 ≤ count) × (count < 256)
IsShape (UpTo most) = (1 ≤ most) × (most < 256)

-- the word is the number, or a number that is of no 64 bits
abbrev pub SpellsValue : Option ℕ → List ℕ → Type 0
SpellsValue (Some value) word = (value < 2 ^ 64) × (word ≡ decimal value)
SpellsValue None word = IsTrue (is_numeral word) × ((value : ℕ) → value < 2 ^ 64 → word ≢ decimal value)

-- the words that spell a line
abbrev pub Spells : Line → List (List ℕ) → Type 0
Spells Empty line = line ≡ []
Spells (Section name) line = (line ≡ codes "@" ∷ name.items ∷ []) × IsTrue (is_name name.items)
Spells Divider line = line ≡ codes "---" ∷ []
Spells (Void bits) line = (line ≡ (codes "void" ++ decimal bits) ∷ []) × (1 ≤ bits) × (bits ≤ 64)
Spells (Field type_name shape name) line = (line ≡ (type_name.items ++ shape_text shape) ∷ name.items ∷ [])
    × IsTrue (is_name type_name.items) × IsShape shape × IsTrue (is_name name.items)
Spells (Constant type_name name value) line = (word : List ℕ)
    × (line ≡ type_name.items ∷ name.items ∷ codes "=" ∷ word ∷ [])
    × IsTrue (is_name type_name.items) × IsTrue (is_name name.items) × SpellsValue value word

-- the bytes, without a line feed, read as that line
abbrev pub Reads : Line → List ℕ → Type 0
Reads line bytes = Spells line (words bytes)
