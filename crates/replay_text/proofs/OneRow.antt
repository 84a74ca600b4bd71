-- Words are those of one row at most.
use Rattle.std.proofs.Common.{◌≡◌, ◌<◌, ◌^◌, ◌+◌, ◌*◌, ℕ, List, ◌∷◌, length, get_or, refl, sym, ap, ◌∙◌, arith}
use Rattle.std.specs.Prelude.{true, false, codes}
use Rattle.std.specs.Fmt.{decimal}
use Rattle.std.specs.Int.{from_be_bytes, w32}
use Rattle.std.proofs.lemmas.Fmt.{decimal_injective}
use Rattle.std.proofs.lemmas.Nat.{from_be_bytes-to_be_bytes_4}
use Rattle.arrayvec.specs.ArrayVec.{ArrayVec}
use Rattle.outside.specs.declared.pattern.Pattern.{Pattern}
use Rattle.outside.specs.declared.pattern.Pattern.TheVariants.{Old, New, Bytes}
use Rattle.can_frame.specs.declared.frame.Frame.{Frame}
use Rattle.bus_rows.specs.declared.row.Row.{Row}
use Rattle.bus_rows.specs.declared.row.Row.TheVariants.{Open, Tick, Rx, Send, Ext, Crash, Fault, AOpen, ATick, ARx, ASend, AEnd}
use Rattle.replay_text.specs.Schedule.{ReadsWords, Spells, SpellsPattern}
use Rattle.replay_text.specs.Words.{IsHex, identifier_bytes}
use Rattle.replay_text.proofs.Numbers.{length-decoded}

one_number : (m n : ℕ) → m < 2 ^ 64 → n < 2 ^ 64 → decimal m ≡ decimal n → m ≡ n
one_number = decimal_injective

-- a word spells one list of bytes
one_list : (xs ys word : List ℕ) → IsHex xs word → IsHex ys word → xs ≡ ys
one_list xs ys word x y = cc

one_identifier : (m n : ℕ) → m < 2 ^ 32 → n < 2 ^ 32 → identifier_bytes m ≡ identifier_bytes n → m ≡ n
one_identifier m n small less same =
    sym (from_be_bytes-to_be_bytes_4 m small) ∙ ap (from_be_bytes w32) same ∙ from_be_bytes-to_be_bytes_4 n less

-- of `frames_are_their_parts`
abbrev pub FramesAreTheirParts : Type 0
FramesAreTheirParts = (a b : Frame) → a.id ≡ b.id → a.bytes.items ≡ b.bytes.items → a ≡ b

one_frame : FramesAreTheirParts → (a b : Frame) (id bytes : List ℕ) → IsHex (identifier_bytes a.id) id → IsHex (identifier_bytes b.id) id
    → IsHex a.bytes.items bytes → IsHex b.bytes.items bytes → a ≡ b
one_frame same_frame a b id bytes x y v w =
    let narrow = a.narrow in
    let less = b.narrow in
    same_frame a b (one_identifier a.id b.id (omega arith) (omega arith) (one_list _ _ id x y)) (one_list _ _ bytes v w)

-- patterns that are no bytes differ in their first letters
abbrev first_letter : List ℕ → ℕ
first_letter word = get_or word 0 0

-- and rows in the first two letters of their names
abbrev first_letters : List ℕ → ℕ
first_letters word = 256 * get_or word 0 0 + get_or word 1 0

-- three letters spell no bytes
odd_word : (bytes word : List ℕ) → length word ≡ 3 → IsHex bytes word → ⊥
odd_word bytes word three read = let size = (length-decoded word bytes read).0 in omega arith

one_pattern : (a b : Pattern) (word : List ℕ) → SpellsPattern a word → SpellsPattern b word → a ≡ b
one_pattern Old Old word x y = refl
one_pattern New New word x y = refl
one_pattern (Bytes xs) (Bytes ys) word x y =
    let listed : List ℕ → ArrayVec ℕ = λ zs. record { items = zs } in
    ap (λ zs. Bytes (listed zs)) (one_list xs.items ys.items word x y)
one_pattern Old New word x y = let letter = ap first_letter (sym x ∙ y) in absurd (omega arith)
one_pattern New Old word x y = let letter = ap first_letter (sym x ∙ y) in absurd (omega arith)
one_pattern Old (Bytes ys) word x y = absurd (odd_word ys.items word (ap length x) y)
one_pattern New (Bytes ys) word x y = absurd (odd_word ys.items word (ap length x) y)
one_pattern (Bytes xs) Old word x y = absurd (odd_word xs.items word (ap length y) x)
one_pattern (Bytes xs) New word x y = absurd (odd_word xs.items word (ap length y) x)

-- the name of a row
abbrev name_of : Row → List ℕ
name_of (Open n false ms word) = codes "open"
name_of (Open n true ms word) = codes "copen"
name_of (Tick n ms word) = codes "tick"
name_of (Rx n k ms) = codes "rx"
name_of (Send n) = codes "send"
name_of (Ext frame) = codes "ext"
name_of (Crash n calls pattern) = codes "crash"
name_of (Fault n call) = codes "fault"
name_of (AOpen a uid pref ms word) = codes "aopen"
name_of (ATick a ms word) = codes "atick"
name_of (ARx a k ms word) = codes "arx"
name_of (ASend a) = codes "asend"
name_of (AEnd a) = codes "aend"

-- stands first
name_first : (row : Row) (line : List (List ℕ)) → Spells row line → (more : List (List ℕ)) × (line ≡ name_of row ∷ more)
name_first (Open n false ms word) line spelt = (_, spelt)
name_first (Open n true ms word) line spelt = (_, spelt)
name_first (Tick n ms word) line spelt = (_, spelt)
name_first (Rx n k ms) line spelt = (_, spelt)
name_first (Send n) line spelt = (_, spelt)
name_first (Ext frame) line spelt = (_, spelt.2)
name_first (Crash n calls pattern) line spelt = (_, spelt.1)
name_first (Fault n call) line spelt = (_, spelt)
name_first (AOpen a uid pref ms word) line spelt = (_, spelt.1)
name_first (ATick a ms word) line spelt = (_, spelt)
name_first (ARx a k ms word) line spelt = (_, spelt)
name_first (ASend a) line spelt = (_, spelt)
name_first (AEnd a) line spelt = (_, spelt)

one_name : (a b : Row) (line : List (List ℕ)) → Spells a line → Spells b line → name_of a ≡ name_of b
one_name a b line x y =
    let first = (name_first a line x).1 in
    let second = (name_first b line y).1 in
    cc

pub one_row : FramesAreTheirParts → (a b : Row) (line : List (List ℕ)) → ReadsWords a line → ReadsWords b line → a ≡ b
one_row same_frame (Open n false ms word) (Open n' false ms' word') line x y =
    let same = sym x.spelled ∙ y.spelled in
    let e : n ≡ n' = one_number n n' (omega (arith, x.fields)) (omega (arith, y.fields)) (cc same) in
    let f : ms ≡ ms' = one_number ms ms' (omega (arith, x.fields)) (omega (arith, y.fields)) (cc same) in
    let g : word ≡ word' = one_number word word' (omega (arith, x.fields)) (omega (arith, y.fields)) (cc same) in
    cc
one_row same_frame (Open n true ms word) (Open n' true ms' word') line x y =
    let same = sym x.spelled ∙ y.spelled in
    let e : n ≡ n' = one_number n n' (omega (arith, x.fields)) (omega (arith, y.fields)) (cc same) in
    let f : ms ≡ ms' = one_number ms ms' (omega (arith, x.fields)) (omega (arith, y.fields)) (cc same) in
    let g : word ≡ word' = one_number word word' (omega (arith, x.fields)) (omega (arith, y.fields)) (cc same) in
    cc
one_row same_frame (Tick n ms word) (Tick n' ms' word') line x y =
    let same = sym x.spelled ∙ y.spelled in
    let e : n ≡ n' = one_number n n' (omega (arith, x.fields)) (omega (arith, y.fields)) (cc same) in
    let f : ms ≡ ms' = one_number ms ms' (omega (arith, x.fields)) (omega (arith, y.fields)) (cc same) in
    let g : word ≡ word' = one_number word word' (omega (arith, x.fields)) (omega (arith, y.fields)) (cc same) in
    cc
one_row same_frame (Rx n k ms) (Rx n' k' ms') line x y =
    let same = sym x.spelled ∙ y.spelled in
    let e : n ≡ n' = one_number n n' (omega (arith, x.fields)) (omega (arith, y.fields)) (cc same) in
    let f : k ≡ k' = one_number k k' (omega (arith, x.fields)) (omega (arith, y.fields)) (cc same) in
    let g : ms ≡ ms' = one_number ms ms' (omega (arith, x.fields)) (omega (arith, y.fields)) (cc same) in
    cc
one_row same_frame (Send n) (Send n') line x y =
    let same = sym x.spelled ∙ y.spelled in
    ap Send (one_number n n' (omega (arith, x.fields)) (omega (arith, y.fields)) (cc same))
one_row same_frame (Ext frame) (Ext frame') line x y =
    let p = x.spelled in
    let q = y.spelled in
    let same = sym p.2 ∙ q.2 in
    let id : p.0 ≡ q.0 = cc same in
    let bytes : p.1 ≡ q.1 = cc same in
    ap Ext (one_frame same_frame frame frame' p.0 p.1 p.3 (rw id q.3) p.4 (rw bytes q.4))
one_row same_frame (Crash n calls pattern) (Crash n' calls' pattern') line x y =
    let p = x.spelled in
    let q = y.spelled in
    let same = sym p.1 ∙ q.1 in
    let e : n ≡ n' = one_number n n' (omega (arith, x.fields)) (omega (arith, y.fields)) (cc same) in
    let f : calls ≡ calls' = one_number calls calls' (omega (arith, x.fields)) (omega (arith, y.fields)) (cc same) in
    let word : p.0 ≡ q.0 = cc same in
    let g : pattern ≡ pattern' = one_pattern pattern pattern' p.0 p.2 (rw word q.2) in
    cc
one_row same_frame (Fault n call) (Fault n' call') line x y =
    let same = sym x.spelled ∙ y.spelled in
    let e : n ≡ n' = one_number n n' (omega (arith, x.fields)) (omega (arith, y.fields)) (cc same) in
    let f : call ≡ call' = one_number call call' (omega (arith, x.fields)) (omega (arith, y.fields)) (cc same) in
    cc
one_row same_frame (AOpen a uid pref ms word) (AOpen a' uid' pref' ms' word') line x y =
    let p = x.spelled in
    let q = y.spelled in
    let same = sym p.1 ∙ q.1 in
    let e : a ≡ a' = one_number a a' (omega (arith, x.fields)) (omega (arith, y.fields)) (cc same) in
    let f : pref ≡ pref' = one_number pref pref' (omega (arith, x.fields)) (omega (arith, y.fields)) (cc same) in
    let g : ms ≡ ms' = one_number ms ms' (omega (arith, x.fields)) (omega (arith, y.fields)) (cc same) in
    let h : word ≡ word' = one_number word word' (omega (arith, x.fields)) (omega (arith, y.fields)) (cc same) in
    let digits : p.0 ≡ q.0 = cc same in
    let i : uid ≡ uid' = one_list uid uid' p.0 p.2 (rw digits q.2) in
    cc
one_row same_frame (ATick a ms word) (ATick a' ms' word') line x y =
    let same = sym x.spelled ∙ y.spelled in
    let e : a ≡ a' = one_number a a' (omega (arith, x.fields)) (omega (arith, y.fields)) (cc same) in
    let f : ms ≡ ms' = one_number ms ms' (omega (arith, x.fields)) (omega (arith, y.fields)) (cc same) in
    let g : word ≡ word' = one_number word word' (omega (arith, x.fields)) (omega (arith, y.fields)) (cc same) in
    cc
one_row same_frame (ARx a k ms word) (ARx a' k' ms' word') line x y =
    let same = sym x.spelled ∙ y.spelled in
    let e : a ≡ a' = one_number a a' (omega (arith, x.fields)) (omega (arith, y.fields)) (cc same) in
    let f : k ≡ k' = one_number k k' (omega (arith, x.fields)) (omega (arith, y.fields)) (cc same) in
    let g : ms ≡ ms' = one_number ms ms' (omega (arith, x.fields)) (omega (arith, y.fields)) (cc same) in
    let h : word ≡ word' = one_number word word' (omega (arith, x.fields)) (omega (arith, y.fields)) (cc same) in
    cc
one_row same_frame (ASend a) (ASend a') line x y =
    let same = sym x.spelled ∙ y.spelled in
    ap ASend (one_number a a' (omega (arith, x.fields)) (omega (arith, y.fields)) (cc same))
one_row same_frame (AEnd a) (AEnd a') line x y =
    let same = sym x.spelled ∙ y.spelled in
    ap AEnd (one_number a a' (omega (arith, x.fields)) (omega (arith, y.fields)) (cc same))
one_row same_frame (Open n false ms word) b line x y = let letters = ap first_letters (one_name (Open n false ms word) b line x.spelled y.spelled) in absurd (omega arith)
one_row same_frame (Open n true ms word) b line x y = let letters = ap first_letters (one_name (Open n true ms word) b line x.spelled y.spelled) in absurd (omega arith)
one_row same_frame a (Open n false ms word) line x y = let letters = ap first_letters (one_name a (Open n false ms word) line x.spelled y.spelled) in absurd (omega arith)
one_row same_frame a (Open n true ms word) line x y = let letters = ap first_letters (one_name a (Open n true ms word) line x.spelled y.spelled) in absurd (omega arith)
one_row same_frame a b line x y = let letters = ap first_letters (one_name a b line x.spelled y.spelled) in absurd (omega arith)
