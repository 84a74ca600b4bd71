-- Lines of a log as `candump -l` and `candump -L` write them: `(SECONDS.MICROS) NAME ID#BYTES`. A line is without its
-- line feed. Bytes are named by their codes: 32 is the space, 35 `#`, 40 and 41 the brackets, 46 the point.
use Rattle.std.specs.Prelude.{◌≡◌, ◌≤◌, ◌<◌, ◌%◌, ◌^◌, ◌⊎◌, ℕ, List, [], ◌∷◌, ◌++◌, All, length, replicate, codes}
use Rattle.std.specs.List.{AllPass}
use Rattle.std.specs.Char.{is_ascii_hexdigit}
use Rattle.hex.specs.Hex.{encode_upper}
use Rattle.can_frame.specs.declared.frame.Frame.{Frame}
use Rattle.can_logs.specs.declared.candump.LogLine.{LogLine}
use Rattle.can_logs.specs.declared.candump.LogLine.TheVariants.{Data, Skipped}
use Rattle.replay_text.specs.Words.{IsHex, identifier_bytes}
use Rattle.can_logs.specs.Words.{IsDecimal, zero_padded}

-- ---- the front of a line

-- the digits of a moment: 1 to 10 of seconds, and 6 of a second's parts
pub record IsMoment (sec micros : ℕ) (whole part : List ℕ) : Type 0 where
  pub whole_few : length whole ≤ 10
  pub part_six : length part ≡ 6
  pub seconds : IsDecimal sec whole
  pub parts : IsDecimal micros part

-- the text is a moment in brackets, with a point between seconds and parts; then the rest
pub record BeginsWithMoment (sec micros : ℕ) (text rest : List ℕ) : Type 0 where
  pub whole : List ℕ
  pub part : List ℕ
  pub spelled : text ≡ 40 ∷ (whole ++ 46 ∷ (part ++ 41 ∷ rest))
  pub is_moment : IsMoment sec micros whole part

-- a name of an interface: 1 to 15 bytes from 33 to 126
pub record IsName (name : List ℕ) : Type 0 where
  pub some : 1 ≤ length name
  pub few : length name ≤ 15
  pub printed : All (λ byte. (33 ≤ byte) × (byte ≤ 126)) name

-- the text is one or more spaces, since a shorter name is padded on its left, a name and a space; then the rest
pub record BeginsWithName (name text rest : List ℕ) : Type 0 where
  pub more : ℕ
  pub spelled : text ≡ 32 ∷ (replicate more 32 ++ (name ++ 32 ∷ rest))
  pub is_name : IsName name

-- the text is the moment, the name and the space behind it; then the rest
pub record BeginsWithFront (sec micros : ℕ) (name text rest : List ℕ) : Type 0 where
  pub named : List ℕ
  pub moment : BeginsWithMoment sec micros text named
  pub name_behind : BeginsWithName name named rest

-- ---- the rest of a line: an identifier, a `#`, and what belongs to it

-- the direction that `candump -x` writes at the end of a line, where it does: sent or received
abbrev pub IsDirection : List ℕ → Type 0
IsDirection text = (text ≡ []) ⊎ ((text ≡ codes " T") ⊎ (text ≡ codes " R"))

-- the whole is the text and nothing behind it but a direction
pub record IsBeforeDirection (text whole : List ℕ) : Type 0 where
  pub direction : List ℕ
  pub spelled : whole ≡ text ++ direction
  pub is_direction : IsDirection direction

-- the word of an identifier and the text behind its `#`, without the direction
pub record HasParts (id tail rest : List ℕ) : Type 0 where
  pub whole : List ℕ
  pub spelled : rest ≡ id ++ 35 ∷ whole
  pub ends : IsBeforeDirection tail whole

-- the identifier has 8 digits, and the bytes two each
pub record SpellsFrame (frame : Frame) (id bytes : List ℕ) : Type 0 where
  pub id_read : IsHex (identifier_bytes frame.id) id
  pub bytes_read : IsHex frame.bytes.items bytes

-- the rest of a line with a frame
pub record SpellsData (frame : Frame) (rest : List ℕ) : Type 0 where
  pub id : List ℕ
  pub bytes : List ℕ
  pub parts : HasParts id bytes rest
  pub spells : SpellsFrame frame id bytes

-- an identifier of 3 or of 8 digits, of any value
pub record IsIdentifier (id : List ℕ) : Type 0 where
  pub sized : (length id ≡ 3) ⊎ (length id ≡ 8)
  pub digits : AllPass is_ascii_hexdigit id

-- 0 to 8 bytes, two digits each
pub record IsBytesWord (word : List ℕ) : Type 0 where
  pub even : length word % 2 ≡ 0
  pub few : length word ≤ 16
  pub digits : AllPass is_ascii_hexdigit word

-- what may stand behind the `#` of such an identifier: a further `#` and a frame of CAN FD, `R` and what is asked of a
-- remote frame, or bytes
abbrev pub IsTail : List ℕ → Type 0
IsTail tail = ((more : List ℕ) × (tail ≡ 35 ∷ more))
    ⊎ (((more : List ℕ) × (tail ≡ 82 ∷ more)) ⊎ IsBytesWord tail)

-- the rest of a line of such an identifier
pub record SpellsAny (rest : List ℕ) : Type 0 where
  pub id : List ℕ
  pub tail : List ℕ
  pub parts : HasParts id tail rest
  pub is_id : IsIdentifier id
  pub is_tail : IsTail tail

-- ---- lines

-- a line with a frame
pub record ReadsData (sec micros : ℕ) (name : List ℕ) (frame : Frame) (line : List ℕ) : Type 0 where
  pub rest : List ℕ
  pub front : BeginsWithFront sec micros name line rest
  pub spells : SpellsData frame rest

-- a line of something else that a bus carries
pub record ReadsSkipped (line : List ℕ) : Type 0 where
  pub sec : ℕ
  pub micros : ℕ
  pub name : List ℕ
  pub rest : List ℕ
  pub front : BeginsWithFront sec micros name line rest
  pub spells : SpellsAny rest
  pub no_data : (sec micros : ℕ) (name : List ℕ) (frame : Frame) → ReadsData sec micros name frame line → ⊥

-- a line reads as a value
abbrev pub Reads : LogLine → List ℕ → Type 0
Reads (Data sec micros iface frame) line = ReadsData sec micros iface.items frame line
Reads Skipped line = ReadsSkipped line

-- ---- lines that are written

-- a line whose fields are in their ranges
abbrev pub IsWritable : LogLine → Type 0
IsWritable (Data sec micros iface frame) = (sec < 10 ^ 10) × (micros < 10 ^ 6) × IsName iface.items
IsWritable Skipped = ⊥

-- the line of a frame: ten digits of seconds, one space before the name, upper case, and nothing at the end
abbrev pub candump_text : LogLine → List ℕ
candump_text (Data sec micros iface frame) = codes "(" ++ zero_padded 10 sec ++ codes "." ++ zero_padded 6 micros
    ++ codes ") " ++ iface.items ++ codes " " ++ encode_upper (identifier_bytes frame.id) ++ codes "#"
    ++ encode_upper frame.bytes.items
candump_text Skipped = []
