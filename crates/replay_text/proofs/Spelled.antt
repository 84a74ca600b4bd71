-- What the words of a row say of its line.
use Rattle.std.proofs.Common.{◌≡◌, ◌≢◌, ◌<◌, ◌≤◌, ◌+◌, ◌^◌, ℕ, zero, suc, List, [], ◌∷◌, length, refl, arith, length-append}
use Rattle.std.specs.List.{All, join_with_byte}
use Rattle.std.specs.Prelude.{true, false, codes}
use Rattle.std.specs.Fmt.{decimal}
use Rattle.std.proofs.lemmas.Fmt.{length-decimal-le}
use Rattle.std.proofs.lemmas.List.Elements.{All-cons, All-nil, All-weaker}
use Rattle.hex.specs.Hex.{IsBytes, encode_lower}
use Rattle.hex.proofs.HexLemmas.{decode_of-encode_lower}
use Rattle.outside.specs.declared.pattern.Pattern.{Pattern}
use Rattle.outside.specs.declared.pattern.Pattern.TheVariants.{Old, New, Bytes}
use Rattle.bus_rows.specs.declared.row.Row.{Row}
use Rattle.bus_rows.specs.declared.row.Row.TheVariants.{Open, Tick, Rx, Send, Ext, Crash, Fault, AOpen, ATick, ARx, ASend, AEnd}
use Rattle.replay_text.specs.Schedule.{IsPattern, IsRow, last_moment, last_call, Reads, Spells, SpellsPattern, row_text, row_words, pattern_word}
use Rattle.replay_text.specs.Words.{identifier_bytes, words}
use Rattle.replay_text.proofs.Numbers.{length-decoded}
use Rattle.replay_text.proofs.Visible.{AreVisible, IsVisible, bytes-joined, join-words, visible-decimal, visible-hex, visible-literal, words-joined}

two : (a b : List ℕ) → IsVisible a → IsVisible b → AreVisible (a ∷ b ∷ [])
two a b x y = All-cons IsVisible a (b ∷ []) x (All-cons IsVisible b [] y (All-nil IsVisible))

three : (a b c : List ℕ) → IsVisible a → IsVisible b → IsVisible c → AreVisible (a ∷ b ∷ c ∷ [])
three a b c x y z = All-cons IsVisible a (b ∷ c ∷ []) x (two b c y z)

four : (a b c d : List ℕ) → IsVisible a → IsVisible b → IsVisible c → IsVisible d → AreVisible (a ∷ b ∷ c ∷ d ∷ [])
four a b c d w x y z = All-cons IsVisible a (b ∷ c ∷ d ∷ []) w (three b c d x y z)

five : (a b c d e : List ℕ) → IsVisible a → IsVisible b → IsVisible c → IsVisible d → IsVisible e → AreVisible (a ∷ b ∷ c ∷ d ∷ e ∷ [])
five a b c d e v w x y z = All-cons IsVisible a (b ∷ c ∷ d ∷ e ∷ []) v (four b c d e w x y z)

six : (a b c d e f : List ℕ) → IsVisible a → IsVisible b → IsVisible c → IsVisible d → IsVisible e → IsVisible f → AreVisible (a ∷ b ∷ c ∷ d ∷ e ∷ f ∷ [])
six a b c d e f u v w x y z = All-cons IsVisible a (b ∷ c ∷ d ∷ e ∷ f ∷ []) u (five b c d e f v w x y z)

visible-pattern : (pattern : Pattern) (word : List ℕ) → SpellsPattern pattern word → IsVisible word
visible-pattern Old word spelt = rw spelt (visible-literal (codes "old") refl)
visible-pattern New word spelt = rw spelt (visible-literal (codes "new") refl)
visible-pattern (Bytes bytes) word spelt = visible-hex bytes.items word spelt

-- no word of a row has a space or a line feed in it
visible-row : (row : Row) (line : List (List ℕ)) → IsRow row → Spells row line → AreVisible line
visible-row (Open n false ms word) line fields spelt = rw spelt
    (four (codes "open") _ _ _ (visible-literal (codes "open") refl) (visible-decimal n (omega arith)) (visible-decimal ms (omega arith)) (visible-decimal word (omega arith)))
visible-row (Open n true ms word) line fields spelt = rw spelt
    (four (codes "copen") _ _ _ (visible-literal (codes "copen") refl) (visible-decimal n (omega arith)) (visible-decimal ms (omega arith)) (visible-decimal word (omega arith)))
visible-row (Tick n ms word) line fields spelt = rw spelt
    (four (codes "tick") _ _ _ (visible-literal (codes "tick") refl) (visible-decimal n (omega arith)) (visible-decimal ms (omega arith)) (visible-decimal word (omega arith)))
visible-row (Rx n k ms) line fields spelt = rw spelt
    (four (codes "rx") _ _ _ (visible-literal (codes "rx") refl) (visible-decimal n (omega arith)) (visible-decimal k (omega arith)) (visible-decimal ms (omega arith)))
visible-row (Send n) line fields spelt = rw spelt
    (two (codes "send") _ (visible-literal (codes "send") refl) (visible-decimal n (omega arith)))
visible-row (Ext frame) line fields spelt = rw spelt.2
    (three (codes "ext") _ _ (visible-literal (codes "ext") refl) (visible-hex _ _ spelt.3) (visible-hex _ _ spelt.4))
visible-row (Crash n calls pattern) line fields spelt = rw spelt.1
    (four (codes "crash") _ _ _ (visible-literal (codes "crash") refl) (visible-decimal n (omega arith)) (visible-decimal calls (omega arith)) (visible-pattern pattern spelt.0 spelt.2))
visible-row (Fault n call) line fields spelt = rw spelt
    (three (codes "fault") _ _ (visible-literal (codes "fault") refl) (visible-decimal n (omega arith)) (visible-decimal call (omega arith)))
visible-row (AOpen a uid pref ms word) line fields spelt = rw spelt.1
    (six (codes "aopen") _ _ _ _ _ (visible-literal (codes "aopen") refl) (visible-decimal a (omega arith)) (visible-hex _ _ spelt.2) (visible-decimal pref (omega arith)) (visible-decimal ms (omega arith)) (visible-decimal word (omega arith)))
visible-row (ATick a ms word) line fields spelt = rw spelt
    (four (codes "atick") _ _ _ (visible-literal (codes "atick") refl) (visible-decimal a (omega arith)) (visible-decimal ms (omega arith)) (visible-decimal word (omega arith)))
visible-row (ARx a k ms word) line fields spelt = rw spelt
    (five (codes "arx") _ _ _ _ (visible-literal (codes "arx") refl) (visible-decimal a (omega arith)) (visible-decimal k (omega arith)) (visible-decimal ms (omega arith)) (visible-decimal word (omega arith)))
visible-row (ASend a) line fields spelt = rw spelt
    (two (codes "asend") _ (visible-literal (codes "asend") refl) (visible-decimal a (omega arith)))
visible-row (AEnd a) line fields spelt = rw spelt
    (two (codes "aend") _ (visible-literal (codes "aend") refl) (visible-decimal a (omega arith)))

pub no_line_feed : (row : Row) (line : List ℕ) → Reads row line → All (λ byte. byte ≢ 10) line
no_line_feed row line reads =
    let visible = bytes-joined (words line) (visible-row row (words line) reads.fields reads.spelled) in
    All-weaker (λ byte. 32 ≤ byte) (λ byte. byte ≢ 10) (λ byte h e. absurd (omega arith)) line (rw (join-words line) at visible)

length-two : (a b : List ℕ) → length (join_with_byte 32 (a ∷ b ∷ [])) ≡ length a + length b + 1
length-two a b = omega (arith, length-append a (32 ∷ b))

length-three : (a b c : List ℕ) → length (join_with_byte 32 (a ∷ b ∷ c ∷ [])) ≡ length a + length b + length c + 2
length-three a b c = omega (arith, length-append a (32 ∷ join_with_byte 32 (b ∷ c ∷ [])), length-two b c)

length-four : (a b c d : List ℕ) → length (join_with_byte 32 (a ∷ b ∷ c ∷ d ∷ [])) ≡ length a + length b + length c + length d + 3
length-four a b c d = omega (arith, length-append a (32 ∷ join_with_byte 32 (b ∷ c ∷ d ∷ [])), length-three b c d)

length-five : (a b c d e : List ℕ) → length (join_with_byte 32 (a ∷ b ∷ c ∷ d ∷ e ∷ [])) ≡ length a + length b + length c + length d + length e + 4
length-five a b c d e = omega (arith, length-append a (32 ∷ join_with_byte 32 (b ∷ c ∷ d ∷ e ∷ [])), length-four b c d e)

length-six : (a b c d e f : List ℕ) → length (join_with_byte 32 (a ∷ b ∷ c ∷ d ∷ e ∷ f ∷ [])) ≡ length a + length b + length c + length d + length e + length f + 5
length-six a b c d e f = omega (arith, length-append a (32 ∷ join_with_byte 32 (b ∷ c ∷ d ∷ e ∷ f ∷ [])), length-five b c d e f)

node : (n : ℕ) → n < 256 → length (decimal n) ≤ 3
node n small = length-decimal-le 3 n (omega arith) (omega arith) (omega arith)

moment : (ms : ℕ) → ms ≤ last_moment → length (decimal ms) ≤ 16
moment ms small = length-decimal-le 16 ms (omega arith) (omega arith) (omega arith)

number : (n : ℕ) → n < 2 ^ 32 → length (decimal n) ≤ 10
number n small = length-decimal-le 10 n (omega arith) (omega arith) (omega arith)

call : (n : ℕ) → n ≤ last_call → length (decimal n) ≤ 7
call n small = length-decimal-le 7 n (omega arith) (omega arith) (omega arith)

length-pattern : (pattern : Pattern) (word : List ℕ) → IsPattern pattern → SpellsPattern pattern word → length word ≤ 32
length-pattern Old word fits spelt = rw spelt (omega arith)
length-pattern New word fits spelt = rw spelt (omega arith)
length-pattern (Bytes bytes) word fits spelt = let sized = (length-decoded word bytes.items spelt).0 in let short = fits.short in omega arith

short_words : (row : Row) (line : List (List ℕ)) → IsRow row → Spells row line → length (join_with_byte 32 line) ≤ 74
short_words (Open n false ms word) line fields spelt = rw spelt
    (omega (arith, length-four (codes "open") (decimal n) (decimal ms) (decimal word), node n fields.0, moment ms fields.1, number word fields.2))
short_words (Open n true ms word) line fields spelt = rw spelt
    (omega (arith, length-four (codes "copen") (decimal n) (decimal ms) (decimal word), node n fields.0, moment ms fields.1, number word fields.2))
short_words (Tick n ms word) line fields spelt = rw spelt
    (omega (arith, length-four (codes "tick") (decimal n) (decimal ms) (decimal word), node n fields.0, moment ms fields.1, number word fields.2))
short_words (Rx n k ms) line fields spelt = rw spelt
    (omega (arith, length-four (codes "rx") (decimal n) (decimal k) (decimal ms), node n fields.0, number k fields.1, moment ms fields.2))
short_words (Send n) line fields spelt = rw spelt (omega (arith, length-two (codes "send") (decimal n), node n fields))
short_words (Ext frame) line fields spelt =
    let short = frame.short in
    rw spelt.2
    (omega (arith, length-three (codes "ext") spelt.0 spelt.1, (length-decoded _ _ spelt.3).0, (length-decoded _ _ spelt.4).0))
short_words (Crash n calls pattern) line fields spelt = rw spelt.1
    (omega (arith, length-four (codes "crash") (decimal n) (decimal calls) spelt.0, node n fields.0, call calls fields.1, length-pattern pattern spelt.0 fields.2 spelt.2))
short_words (Fault n calls) line fields spelt = rw spelt
    (omega (arith, length-three (codes "fault") (decimal n) (decimal calls), node n fields.0, call calls fields.2))
short_words (AOpen a uid pref ms word) line fields spelt =
    let size = fields.1.size in
    rw spelt.1
    (omega (
      arith,
      size,
      length-six (codes "aopen") (decimal a) spelt.0 (decimal pref) (decimal ms) (decimal word),
      (length-decoded _ _ spelt.2).0,
      node a fields.0,
      node pref (omega (arith, fields.2)),
      moment ms fields.3,
      number word fields.4,
    ))
short_words (ATick a ms word) line fields spelt = rw spelt
    (omega (arith, length-four (codes "atick") (decimal a) (decimal ms) (decimal word), node a fields.0, moment ms fields.1, number word fields.2))
short_words (ARx a k ms word) line fields spelt = rw spelt
    (omega (arith, length-five (codes "arx") (decimal a) (decimal k) (decimal ms) (decimal word), node a fields.0, number k fields.1, moment ms fields.2, number word fields.3))
short_words (ASend a) line fields spelt = rw spelt (omega (arith, length-two (codes "asend") (decimal a), node a fields))
short_words (AEnd a) line fields spelt = rw spelt (omega (arith, length-two (codes "aend") (decimal a), node a fields))

pub short_line : (row : Row) (line : List ℕ) → Reads row line → length line ≤ 74
short_line row line reads = rw (join-words line) at (short_words row (words line) reads.fields reads.spelled)

identifier-bytes : (id : ℕ) → IsBytes (identifier_bytes id)
identifier-bytes id zero = omega arith
identifier-bytes id (suc zero) = omega arith
identifier-bytes id (suc (suc zero)) = omega arith
identifier-bytes id (suc (suc (suc zero))) = omega arith
identifier-bytes id (suc (suc (suc (suc i)))) = omega arith

pattern-word : (pattern : Pattern) → IsPattern pattern → SpellsPattern pattern (pattern_word pattern)
pattern-word Old fits = refl
pattern-word New fits = refl
pattern-word (Bytes bytes) fits = decode_of-encode_lower bytes.items fits.each

-- a row is spelled by its words
spells-row_words : (row : Row) → IsRow row → Spells row (row_words row)
spells-row_words (Open n false ms word) fields = refl
spells-row_words (Open n true ms word) fields = refl
spells-row_words (Tick n ms word) fields = refl
spells-row_words (Rx n k ms) fields = refl
spells-row_words (Send n) fields = refl
spells-row_words (Ext frame) fields = (
  encode_lower (identifier_bytes frame.id),
  encode_lower frame.bytes.items,
  refl,
  decode_of-encode_lower (identifier_bytes frame.id) (identifier-bytes frame.id),
  decode_of-encode_lower frame.bytes.items fields,
)
spells-row_words (Crash n calls pattern) fields = (pattern_word pattern, refl, pattern-word pattern fields.2)
spells-row_words (Fault n call) fields = refl
spells-row_words (AOpen a uid pref ms word) fields = (encode_lower uid, refl, decode_of-encode_lower uid fields.1.each)
spells-row_words (ATick a ms word) fields = refl
spells-row_words (ARx a k ms word) fields = refl
spells-row_words (ASend a) fields = refl
spells-row_words (AEnd a) fields = refl

-- which are those of its text
words-row_text : (row : Row) → AreVisible (row_words row) → words (row_text row) ≡ row_words row
words-row_text (Open n false ms word) visible = words-joined _ _ visible
words-row_text (Open n true ms word) visible = words-joined _ _ visible
words-row_text (Tick n ms word) visible = words-joined _ _ visible
words-row_text (Rx n k ms) visible = words-joined _ _ visible
words-row_text (Send n) visible = words-joined _ _ visible
words-row_text (Ext frame) visible = words-joined _ _ visible
words-row_text (Crash n calls pattern) visible = words-joined _ _ visible
words-row_text (Fault n call) visible = words-joined _ _ visible
words-row_text (AOpen a uid pref ms word) visible = words-joined _ _ visible
words-row_text (ATick a ms word) visible = words-joined _ _ visible
words-row_text (ARx a k ms word) visible = words-joined _ _ visible
words-row_text (ASend a) visible = words-joined _ _ visible
words-row_text (AEnd a) visible = words-joined _ _ visible

pub read_again : (row : Row) → IsRow row → Reads row (row_text row)
read_again row fields =
    let spelt = spells-row_words row fields in
    record { fields = fields; spelled = rw (words-row_text row (visible-row row (row_words row) fields spelt)) spelt }
