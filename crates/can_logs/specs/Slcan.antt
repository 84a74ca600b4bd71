-- Lines of a serial adapter, without the carriage return that ends them: `T`, an identifier of 8 digits, the number of
-- bytes and the bytes, two digits each, and the adapter's time stamp of 4 digits, or nothing.
use Rattle.std.specs.Prelude.{⊤, ◌≡◌, ◌+◌, ◌⊎◌, ◌<◌, ◌^◌, ℕ, List, [], ◌∷◌, ◌++◌, length, codes, Option, Some, None, Contains}
use Rattle.hex.specs.Hex.{encode_upper}
use Rattle.can_logs.specs.declared.slcan.SlLine.{SlLine}
use Rattle.can_logs.specs.declared.slcan.SlLine.TheVariants.{Data, Skipped}
use Rattle.replay_text.specs.Words.{IsHex, identifier_bytes}
use Rattle.can_logs.specs.Words.{stamp_bytes}

-- no stamp, or one of 16 bits
abbrev pub IsStamp : Option ℕ → Type 0
IsStamp None = ⊤
IsStamp (Some stamp) = stamp < 2 ^ 16

-- nothing, or a stamp of 4 digits
abbrev pub SpellsStamp : Option ℕ → List ℕ → Type 0
SpellsStamp None word = word ≡ []
SpellsStamp (Some stamp) word = (stamp < 2 ^ 16) × IsHex (stamp_bytes stamp) word

-- a line of these bytes of an identifier below 2^29, 0 to 8 of them
pub record ReadsBytes (id : ℕ) (bytes : List ℕ) (stamp : Option ℕ) (line : List ℕ) : Type 0 where
  pub id_word : List ℕ
  pub bytes_word : List ℕ
  pub stamp_word : List ℕ
  pub spelled : line ≡ 84 ∷ (id_word ++ (48 + length bytes) ∷ (bytes_word ++ stamp_word))
  pub narrow : id < 2 ^ 29
  pub id_read : IsHex (identifier_bytes id) id_word
  pub bytes_read : IsHex bytes bytes_word
  pub stamp_read : SpellsStamp stamp stamp_word

-- the letters of other frames, `t`, `r` and `R`, of what an adapter answers, `z`, `Z`, `V`, `v`, `N` and `F`, and of
-- its state and its error counters, `s` and `e`
abbrev pub other_letters : List ℕ
other_letters = codes "trRzZVvNFse"

-- a line of something else: nothing, one that begins with such a letter, or a frame without bytes
abbrev pub IsSkipped : List ℕ → Type 0
IsSkipped line = (line ≡ []) ⊎
    (((letter : ℕ) × (more : List ℕ) × (line ≡ letter ∷ more) × Contains other_letters letter) ⊎
    ((id : ℕ) × (stamp : Option ℕ) × ReadsBytes id [] stamp line))

-- a line reads as a value
abbrev pub Reads : SlLine → List ℕ → Type 0
Reads (Data frame stamp) line = ReadsBytes frame.id frame.bytes.items stamp line
Reads Skipped line = IsSkipped line

-- ---- lines that are written

-- a line of a frame
abbrev pub IsWritable : SlLine → Type 0
IsWritable (Data frame stamp) = ⊤
IsWritable Skipped = ⊥

abbrev pub stamp_text : Option ℕ → List ℕ
stamp_text None = []
stamp_text (Some stamp) = encode_upper (stamp_bytes stamp)

-- the line of a frame, in upper case
abbrev pub slcan_text : SlLine → List ℕ
slcan_text (Data frame stamp) = codes "T" ++ encode_upper (identifier_bytes frame.id)
    ++ (48 + length frame.bytes.items) ∷ (encode_upper frame.bytes.items ++ stamp_text stamp)
slcan_text Skipped = []
