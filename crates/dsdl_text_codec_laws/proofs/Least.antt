-- A reading takes at least the least number of bits of its layout, so fewer bits have no reading.
use Rattle.std.proofs.Common.{◌≡◌, ◌<◌, ◌≤◌, ◌+◌, ◌*◌, ℕ, zero, suc, List, [], ◌∷◌, ◌++◌, length, Bool, Some, None, refl, ap, arith, inl, inr, length-drop}
use Rattle.std.proofs.lemmas.Bool.Decides.{leb_tells}
use Rattle.dsdl_text.specs.Layout.{Layout, nothing, void, number, pair, exactly, up_to}
use Rattle.dsdl_text.specs.Numbers.{◌>>=◌, Reading, count_width, least_bits, read_both, read_counted, read_number, read_times, reads}
use Rattle.dsdl_text_codec_laws.proofs.Pieces.{followed, onto}

-- so many bits were taken at least
abbrev Takes : ℕ → List Bool → Reading → Type 0
Takes least bits None = Unit {0}
Takes least bits (Some x) = least + length x.1 ≤ length bits

takes_both : (m n : ℕ) (bits : List Bool) (front : Reading) (back : List Bool → Reading) → Takes m bits front
    → ((rest : List Bool) → Takes n rest (back rest)) → Takes (m + n) bits (front >>= λ x. back x.1 >>= λ y. Some (x.0 ++ y.0, y.1))
takes_both m n bits None back first second = tt
takes_both m n bits (Some x) back first second = go (back x.1) (second x.1) where
  go : (r : Reading) → Takes n x.1 r → Takes (m + n) bits (r >>= λ y. Some (x.0 ++ y.0, y.1))
  go None h = tt
  go (Some y) h = omega arith

takes_times : (count n : ℕ) (read : List Bool → Reading) → ((bits : List Bool) → Takes n bits (read bits))
    → (bits : List Bool) → Takes (count * n) bits (read_times count read bits)
takes_times zero n read each bits = let none : 0 * n ≡ 0 = omega arith in rw none (omega arith)
takes_times (suc count) n read each bits =
    let more : suc count * n ≡ n + count * n = grind arith in
    rw more (takes_both n (count * n) bits (read bits) (read_times count read) (each bits) (takes_times count n read each))

takes_number : (width : ℕ) (bits : List Bool) → Takes width bits (read_number width bits)
takes_number width bits = elim (leb_tells width (length bits)) [
  | inl enough ↦ rw enough.0 (omega (arith, length-drop width bits))
  | inr few ↦ rw few.0 tt
]

takes_void : (width : ℕ) (bits : List Bool) → Takes width bits (reads (void width) bits)
takes_void width bits = elim (leb_tells width (length bits)) [
  | inl enough ↦ rw enough.0 (omega (arith, length-drop width bits))
  | inr few ↦ rw few.0 tt
]

-- elements take no bits that are not there
weaker : (m : ℕ) (bits : List Bool) (read : Reading) (n : ℕ) → n ≤ m → Takes m bits read → Takes n bits read
weaker m bits None n less h = tt
weaker m bits (Some x) n less h = omega arith

takes_counted : (width most n : ℕ) (read : List Bool → Reading) → ((bits : List Bool) → Takes n bits (read bits)) → (bits : List Bool)
    (front : Reading) → Takes width bits front → Takes width bits (front >>= read_counted most read)
takes_counted width most n read each bits None h = tt
takes_counted width most n read each bits (Some ([], rest)) h = tt
takes_counted width most n read each bits (Some (count ∷ [], rest)) h = elim (leb_tells count most) [
  | inl within ↦ rw within.0 (go (read_times count read rest) (weaker (count * n) rest (read_times count read rest) 0 (omega arith) (takes_times count n read each rest)))
  | inr above ↦ rw above.0 tt
] where
  go : (r : Reading) → Takes 0 rest r → Takes width bits (r >>= λ y. Some (count ∷ y.0, y.1))
  go None k = tt
  go (Some y) k = omega arith
takes_counted width most n read each bits (Some (count ∷ other ∷ counts, rest)) h = tt

takes : (layout : Layout) (bits : List Bool) → Takes (least_bits layout) bits (reads layout bits)
takes nothing bits = omega arith
takes (void width) bits = takes_void width bits
takes (number width) bits = takes_number width bits
takes (pair front back) bits = takes_both (least_bits front) (least_bits back) bits (reads front bits) (reads back) (takes front bits) (takes back)
takes (exactly count element) bits = takes_times count (least_bits element) (reads element) (takes element) bits
takes (up_to most element) bits =
    takes_counted (count_width most) most (least_bits element) (reads element) (takes element) bits
    (read_number (count_width most) bits) (takes_number (count_width most) bits)

-- too few bits for a field, or for what is behind it
pub too_short_behind : (layout : Layout) (least : ℕ) (back : List Bool → Reading) → ((rest : List Bool) → length rest < least → back rest ≡ None)
    → (bits : List Bool) → length bits < least_bits layout + least → read_both (reads layout) back bits ≡ None
too_short_behind layout least back short bits few = go (reads layout bits) (takes layout bits) where
  go : (r : Reading) → Takes (least_bits layout) bits r → followed r back ≡ None
  go None h = refl
  go (Some x) h = ap (onto x.0) (short x.1 (omega arith))

pub too_short : (layout : Layout) (bits : List Bool) → length bits < least_bits layout → reads layout bits ≡ None
too_short layout bits few = go (reads layout bits) (takes layout bits) where
  go : (r : Reading) → Takes (least_bits layout) bits r → r ≡ None
  go None h = refl
  go (Some x) h = absurd (omega arith)
