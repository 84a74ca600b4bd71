-- Rows of a schedule. A line is a row's words with single spaces: its name, and its fields in order.
use Rattle.std.specs.Prelude.{⊤, true, false, ◌≡◌, ◌<◌, ◌≤◌, ◌^◌, ℕ, List, [], ◌∷◌, length, codes, decimal}
use Rattle.std.specs.List.{join_with_byte}
use Rattle.hex.specs.Hex.{IsBytes, encode_lower}
use Rattle.outside.specs.declared.pattern.Pattern.{Pattern}
use Rattle.outside.specs.declared.pattern.Pattern.TheVariants.{Old, New, Bytes}
use Rattle.bus_rows.specs.declared.row.Row.{Row}
use Rattle.bus_rows.specs.declared.row.Row.TheVariants.{Open, Tick, Rx, Send, Ext, Crash, Fault, AOpen, ATick, ARx, ASend, AEnd}
use Rattle.replay_text.specs.Words.{IsHex, identifier_bytes, words}

-- the last moment, in milliseconds
abbrev pub last_moment : ℕ
last_moment = 1000000000000000

-- the highest number of a disk call
abbrev pub last_call : ℕ
last_call = 1000000

-- what a pattern repeats: 1 to 16 bytes
pub record IsRepeated (bytes : List ℕ) : Type 0 where
  pub filled : 1 ≤ length bytes
  pub short : length bytes ≤ 16
  pub each : IsBytes bytes

abbrev pub IsPattern : Pattern → Type 0
IsPattern Old = ⊤
IsPattern New = ⊤
IsPattern (Bytes bytes) = IsRepeated bytes.items

-- a unique ID: 16 bytes
pub record IsUid (uid : List ℕ) : Type 0 where
  pub size : length uid ≡ 16
  pub each : IsBytes uid

-- the fields of a row are in their ranges (the identifier and the size of a frame always are)
abbrev pub IsRow : Row → Type 0
IsRow (Open n told ms word) = (n < 256) × (ms ≤ last_moment) × (word < 2 ^ 32)
IsRow (Tick n ms word) = (n < 256) × (ms ≤ last_moment) × (word < 2 ^ 32)
IsRow (Rx n k ms) = (n < 256) × (k < 2 ^ 32) × (ms ≤ last_moment)
IsRow (Send n) = n < 256
IsRow (Ext frame) = IsBytes frame.bytes.items
IsRow (Crash n calls pattern) = (n < 256) × (calls ≤ last_call) × IsPattern pattern
IsRow (Fault n call) = (n < 256) × (1 ≤ call) × (call ≤ last_call)
IsRow (AOpen a uid pref ms word) =
    (a < 256) × IsUid uid × (pref < 128) × (ms ≤ last_moment) × (word < 2 ^ 32)
IsRow (ATick a ms word) = (a < 256) × (ms ≤ last_moment) × (word < 2 ^ 32)
IsRow (ARx a k ms word) = (a < 256) × (k < 2 ^ 32) × (ms ≤ last_moment) × (word < 2 ^ 32)
IsRow (ASend a) = a < 256
IsRow (AEnd a) = a < 256

-- the row of an allocatee
abbrev pub IsOfAllocatee : Row → Type 0
IsOfAllocatee (Open n told ms word) = ⊥
IsOfAllocatee (Tick n ms word) = ⊥
IsOfAllocatee (Rx n k ms) = ⊥
IsOfAllocatee (Send n) = ⊥
IsOfAllocatee (Ext frame) = ⊥
IsOfAllocatee (Crash n calls pattern) = ⊥
IsOfAllocatee (Fault n call) = ⊥
IsOfAllocatee row = ⊤

-- each other row but `copen`
abbrev pub IsOfCluster : Row → Type 0
IsOfCluster (Open n true ms word) = ⊥
IsOfCluster (AOpen a uid pref ms word) = ⊥
IsOfCluster (ATick a ms word) = ⊥
IsOfCluster (ARx a k ms word) = ⊥
IsOfCluster (ASend a) = ⊥
IsOfCluster (AEnd a) = ⊥
IsOfCluster row = ⊤

abbrev pub SpellsPattern : Pattern → List ℕ → Type 0
SpellsPattern Old word = word ≡ codes "old"
SpellsPattern New word = word ≡ codes "new"
SpellsPattern (Bytes bytes) word = IsHex bytes.items word

-- the words that spell a row: hexadecimal digits may be of either case, and all else has one spelling
abbrev pub Spells : Row → List (List ℕ) → Type 0
Spells (Open n false ms word) line = line ≡ codes "open" ∷ decimal n ∷ decimal ms ∷ decimal word ∷ []
Spells (Open n true ms word) line = line ≡ codes "copen" ∷ decimal n ∷ decimal ms ∷ decimal word ∷ []
Spells (Tick n ms word) line = line ≡ codes "tick" ∷ decimal n ∷ decimal ms ∷ decimal word ∷ []
Spells (Rx n k ms) line = line ≡ codes "rx" ∷ decimal n ∷ decimal k ∷ decimal ms ∷ []
Spells (Send n) line = line ≡ codes "send" ∷ decimal n ∷ []
Spells (Ext frame) line = (id bytes : List ℕ) × (line ≡ codes "ext" ∷ id ∷ bytes ∷ [])
    × IsHex (identifier_bytes frame.id) id × IsHex frame.bytes.items bytes
Spells (Crash n calls pattern) line = (word : List ℕ)
    × (line ≡ codes "crash" ∷ decimal n ∷ decimal calls ∷ word ∷ [])
    × SpellsPattern pattern word
Spells (Fault n call) line = line ≡ codes "fault" ∷ decimal n ∷ decimal call ∷ []
Spells (AOpen a uid pref ms word) line = (digits : List ℕ)
    × (line ≡ codes "aopen" ∷ decimal a ∷ digits ∷ decimal pref ∷ decimal ms ∷ decimal word ∷ [])
    × IsHex uid digits
Spells (ATick a ms word) line = line ≡ codes "atick" ∷ decimal a ∷ decimal ms ∷ decimal word ∷ []
Spells (ARx a k ms word) line = line ≡ codes "arx" ∷ decimal a ∷ decimal k ∷ decimal ms ∷ decimal word ∷ []
Spells (ASend a) line = line ≡ codes "asend" ∷ decimal a ∷ []
Spells (AEnd a) line = line ≡ codes "aend" ∷ decimal a ∷ []

-- the words are those of a row whose fields are in their ranges
pub record ReadsWords (row : Row) (line : List (List ℕ)) : Type 0 where
  pub fields : IsRow row
  pub spelled : Spells row line

-- a line, without its line feed, reads as a row
abbrev pub Reads : Row → List ℕ → Type 0
Reads row line = ReadsWords row (words line)

abbrev pub pattern_word : Pattern → List ℕ
pattern_word Old = codes "old"
pattern_word New = codes "new"
pattern_word (Bytes bytes) = encode_lower bytes.items

-- the words of a row with hexadecimal digits in lower case
abbrev pub row_words : Row → List (List ℕ)
row_words (Open n false ms word) = codes "open" ∷ decimal n ∷ decimal ms ∷ decimal word ∷ []
row_words (Open n true ms word) = codes "copen" ∷ decimal n ∷ decimal ms ∷ decimal word ∷ []
row_words (Tick n ms word) = codes "tick" ∷ decimal n ∷ decimal ms ∷ decimal word ∷ []
row_words (Rx n k ms) = codes "rx" ∷ decimal n ∷ decimal k ∷ decimal ms ∷ []
row_words (Send n) = codes "send" ∷ decimal n ∷ []
row_words (Ext frame) =
    codes "ext" ∷ encode_lower (identifier_bytes frame.id) ∷ encode_lower frame.bytes.items ∷ []
row_words (Crash n calls pattern) = codes "crash" ∷ decimal n ∷ decimal calls ∷ pattern_word pattern ∷ []
row_words (Fault n call) = codes "fault" ∷ decimal n ∷ decimal call ∷ []
row_words (AOpen a uid pref ms word) =
    codes "aopen" ∷ decimal a ∷ encode_lower uid ∷ decimal pref ∷ decimal ms ∷ decimal word ∷ []
row_words (ATick a ms word) = codes "atick" ∷ decimal a ∷ decimal ms ∷ decimal word ∷ []
row_words (ARx a k ms word) = codes "arx" ∷ decimal a ∷ decimal k ∷ decimal ms ∷ decimal word ∷ []
row_words (ASend a) = codes "asend" ∷ decimal a ∷ []
row_words (AEnd a) = codes "aend" ∷ decimal a ∷ []

-- the text of a row, without its line feed
abbrev pub row_text : Row → List ℕ
row_text row = join_with_byte 32 (row_words row)
