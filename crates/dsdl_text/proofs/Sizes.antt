-- What is passed over at once, and the sizes of types one behind the other.
use Rattle.std.proofs.Common.{◌≡◌, ◌<◌, ◌≤◌, ◌+◌, ◌*◌, ℕ, zero, suc, List, [], ◌∷◌, ◌++◌, length, Bool, true, false, ◌&&◌, min, get_or, take, drop, unwrap_or, Some, None, inl, inr, refl, ap, sym, ◌∙◌, arith, length-append, length-drop}
use Rattle.std.specs.Prelude.{slice_get}
use Rattle.std.proofs.lemmas.Bool.{cases_lt, le-leb, lt-leb}
use Rattle.std.proofs.lemmas.List.{drop-drop, length-map, map-append, take-append-le, take-map, take_all, take_more}
use Rattle.dsdl_text.specs.declared.section.Section.{Section}
use Rattle.dsdl_text.specs.declared.size.Size.{Size}
use Rattle.dsdl_text.specs.Layout.{DataType, Layout, nothing, void, number, pair, exactly, up_to, joined}
use Rattle.dsdl_text.specs.Numbers.{◌>>=◌, Reading, least_bits, read_both, read_times, read_void, reads}
use Rattle.dsdl_text.specs.Sections.{first_layout, part_layout, type_of, types_of, types_onto}
use Rattle.dsdl_text.specs.Sizes.{has_no_number, size_of, sizes_in}
use Rattle.std.proofs.Math.Seq.{take-nil}
use Rattle.std.proofs.Math.Nat.{mul_comm}
use Rattle.dsdl_text.proofs.Readings.{then}
use Rattle.dsdl_text.proofs.Types.{length-types_of, types_of_push}

pub both : (a b : Bool) → (a && b) ≡ true → (a ≡ true) × (b ≡ true)
both true b e = (refl, e)
both false b e = absurd (cc)

-- bits of no meaning, and others behind them
void_both : (n m : ℕ) (bits : List Bool) → read_both (read_void n) (read_void m) bits ≡ read_void (n + m) bits
void_both n m bits = elim (cases_lt (length bits) n) [
  | inl short ↦ rw (lt-leb n (length bits) short, lt-leb (n + m) (length bits) (omega arith)) refl
  | inr front ↦ elim (cases_lt (length (drop n bits)) m) [
    | inl short ↦
        rw (le-leb n (length bits) front, lt-leb m (length (drop n bits)) short, lt-leb (n + m) (length bits) (omega (arith, length-drop n bits))) refl
    | inr back ↦
        rw (le-leb n (length bits) front, le-leb m (length (drop n bits)) back, le-leb (n + m) (length bits) (omega (arith, length-drop n bits)), drop-drop m n bits) refl
  ]
]

-- these numbers in front of those of a reading
abbrev with_front : List ℕ → Reading → Reading
with_front numbers read = read >>= λ y. Some (numbers ++ y.0, y.1)

both_are : (f g h k : List Bool → Reading) → ((bits : List Bool) → f bits ≡ h bits) → ((bits : List Bool) → g bits ≡ k bits)
    → (bits : List Bool) → read_both f g bits ≡ read_both h k bits
both_are f g h k front back bits = ap (λ o. then o g) (front bits) ∙ go (h bits) where
  go : (o : Reading) → then o g ≡ then o k
  go None = refl
  go (Some x) = ap (with_front x.0) (back x.1)

pub void_none : (bits : List Bool) → read_void 0 bits ≡ Some ([], bits)
void_none bits = rw (le-leb 0 (length bits) (omega arith)) refl

void_times : (count width : ℕ) (read : List Bool → Reading) → ((bits : List Bool) → read bits ≡ read_void width bits)
    → (bits : List Bool) → read_times count read bits ≡ read_void (count * width) bits
void_times zero width read is bits = sym (ap (λ n. read_void n bits) (omega arith) ∙ void_none bits)
void_times (suc count) width read is bits =
    let more : width + count * width ≡ suc count * width = grind arith in
    both_are read (read_times count read) (read_void width) (read_void (count * width)) is (void_times count width read is) bits
    ∙ void_both width (count * width) bits
    ∙ ap (λ n. read_void n bits) more

-- a layout without numbers is bits of no meaning
pub blank : (layout : Layout) → has_no_number layout ≡ true → (bits : List Bool) → reads layout bits ≡ read_void (least_bits layout) bits
blank nothing is bits = sym (void_none bits)
blank (void width) is bits = refl
blank (number width) is bits = absurd (cc)
blank (pair front back) is bits =
    let parts = both (has_no_number front) (has_no_number back) is in
    both_are (reads front) (reads back) (read_void (least_bits front)) (read_void (least_bits back)) (blank front parts.0) (blank back parts.1) bits
    ∙ void_both (least_bits front) (least_bits back) bits
blank (exactly count element) is bits = void_times count (least_bits element) (reads element) (blank element is) bits
blank (up_to most element) is bits = absurd (cc)

-- and is passed over, where its bits are counted
pub passed_over : (size : Size) (layout : Layout) → size ≡ size_of layout → size.blank ≡ true → size.bits < 4096
    → (bits : List Bool) → reads layout bits ≡ read_void size.bits bits
passed_over size layout is empty counted bits =
    let bits_are : size.bits ≡ min 4096 (least_bits layout) = ap (λ s. s.bits) is in
    let none : has_no_number layout ≡ true = sym (ap (λ s. s.blank) is) ∙ empty in
    let all : least_bits layout ≡ size.bits = omega arith in
    blank layout none bits ∙ ap (λ n. read_void n bits) all

-- ---- sizes of types

-- the bits of so many values, and those of two
pub times_capped : (count bits least : ℕ) → bits ≡ min 4096 least → min 4096 (bits * count) ≡ min 4096 (count * least)
times_capped zero bits least is = omega arith
times_capped (suc count) bits least is = elim (cases_lt least 4096) [
  | inl low ↦ let same : bits ≡ least = omega arith in rw same (ap (min 4096) (mul_comm least (suc count)))
  | inr high ↦
      let full : bits ≡ 4096 = omega arith in
      let more : suc count * least ≡ least + count * least = grind arith in
      rw (full, more) (omega arith)
]

pub sized : (bits other : ℕ) (blank also : Bool) → bits ≡ other → blank ≡ also
    → (let a : Size = record { bits = bits; blank = blank } in let b : Size = record { bits = other; blank = also } in a ≡ b)
sized bits other blank also same still = rw (same, still) refl

pub length-sizes : (sections : List Section) → length (sizes_in (types_of sections)) ≡ length sections
length-sizes sections = length-map (types_of sections) (λ type. size_of (joined type.first)) ∙ length-types_of sections

pub sizes_push : (types : List DataType) (type : DataType) → sizes_in (types ++ type ∷ []) ≡ sizes_in types ++ size_of (joined type.first) ∷ []
sizes_push types type = map-append (λ t. size_of (joined t.first)) types (type ∷ [])

take-kept : (types : List DataType) (a : List Section) (n : ℕ) → n ≤ length types → take n (types_onto types a) ≡ take n types
take-kept types [] n within = refl
take-kept types (section ∷ a) n within =
    take-kept (types ++ type_of types section ∷ []) a n (omega (arith, length-append types (type_of types section ∷ [])))
    ∙ take-append-le n types (type_of types section ∷ []) within

take-onto : (types : List DataType) (a : List Section) (i n : ℕ) → n ≡ length types + i → take n (types_onto types a) ≡ types_onto types (take i a)
take-onto types [] i n is = take_all n types (omega arith) ∙ sym (ap (types_onto types) (take-nil i))
take-onto types (section ∷ a) zero n is =
    take-kept types (section ∷ a) n (omega arith) ∙ take_all n types (omega arith)
take-onto types (section ∷ a) (suc i) n is =
    take-onto (types ++ type_of types section ∷ []) a i n (omega (arith, length-append types (type_of types section ∷ [])))

-- the sizes of the types in front of a place
pub sizes_before : (sections : List Section) (place : ℕ) → take place (sizes_in (types_of sections)) ≡ sizes_in (types_of (take place sections))
sizes_before sections place =
    take-map (λ type. size_of (joined type.first)) place (types_of sections)
    ∙ ap sizes_in (take-onto [] sections place place (omega arith))

-- one type more
pub sizes_more : (sections : List Section) (place : ℕ) (d : Section) → place < length sections
    → sizes_in (types_of (take (place + 1) sections))
    ≡ sizes_in (types_of (take place sections)) ++ size_of (joined (part_layout (types_of (take place sections)) (get_or sections place d).first.items)) ∷ []
sizes_more sections place d within =
    let types = types_of (take place sections) in
    let section = get_or sections place d in
    ap (λ a. sizes_in (types_of a)) (take_more sections place d within)
    ∙ ap sizes_in (types_of_push (take place sections) section)
    ∙ sizes_push types (type_of types section)
