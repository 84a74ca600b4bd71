-- The numbers of a payload under a layout.
--
-- The bits of a byte are taken from the high one. A number of more than 8 bits is its bytes, the low one first,
-- wherever it begins. An array of at most N elements has a count in front, of as many bits as hold N; but where it
-- stands at the end of the part that is decoded and an element has 8 bits at least, it has none and takes what is left
-- (UAVCAN v0, "tail array optimization"). At the end stands the last field, and what stands at the end of its type: the
-- last field of that type, or of the last element of an array. So the public generators have it, which hand the mode on
-- from each last field to the next. Fewer than 8 bits may be left behind the last field: padding.
use Rattle.std.specs.Prelude.{◌≡◌, ◌+◌, ◌*◌, ◌/◌, ◌%◌, ℕ, zero, suc, Bool, ◌&&◌, nat_eq, nat_le, nat_lt, if◌then◌else◌, List, [], ◌∷◌, ◌++◌, length, take, drop, flat_map, Option, Some, None}
use Rattle.std.specs.Option.{option_and_then}
use Rattle.std.specs.Borrow.{Bor}
use Rattle.dsdl_text.specs.Layout.{Layout, nothing, void, number, pair, exactly, up_to}

-- a digit of a binary number, counted by its weight
abbrev pub has_bit : ℕ → ℕ → Bool
has_bit weight byte = nat_eq (byte / weight % 2) 1

-- the bits of a byte, from the high one
abbrev pub byte_bits : ℕ → List Bool
byte_bits byte =
    has_bit 128 byte
    ∷ has_bit 64 byte
    ∷ has_bit 32 byte
    ∷ has_bit 16 byte
    ∷ has_bit 8 byte
    ∷ has_bit 4 byte
    ∷ has_bit 2 byte
    ∷ has_bit 1 byte
    ∷ []

-- the bits of a payload
abbrev pub bits_of : List ℕ → List Bool
bits_of payload = flat_map byte_bits payload

-- the number that bits are, behind those of a number
abbrev pub number_onto : ℕ → List Bool → ℕ
number_onto high [] = high
number_onto high (bit ∷ bits) = number_onto (2 * high + (if bit then 1 else 0)) bits

-- the number that bits are: eight at a time are its bytes, the low one first
abbrev pub number_of : List Bool → ℕ
number_of (a ∷ b ∷ c ∷ d ∷ e ∷ f ∷ g ∷ h ∷ bits) =
    number_onto 0 (a ∷ b ∷ c ∷ d ∷ e ∷ f ∷ g ∷ h ∷ []) + 256 * number_of bits
number_of bits = number_onto 0 bits

-- what is read: numbers, and the bits behind them
abbrev pub Reading : Type 0
Reading = Option (List ℕ × List Bool)

infixl 10 ◌>>=◌
abbrev pub ◌>>=◌ : {A B : Type 0} → Option A → (A → Option B) → Option B
o >>= f = option_and_then f o

abbrev pub read_void : ℕ → List Bool → Reading
read_void width bits = if nat_le width (length bits) then Some ([], drop width bits) else None

abbrev pub read_number : ℕ → List Bool → Reading
read_number width bits =
    if nat_le width (length bits) then Some (number_of (take width bits) ∷ [], drop width bits) else None

-- one reading behind the other
abbrev pub read_both : (List Bool → Reading) → (List Bool → Reading) → List Bool → Reading
read_both front back bits = do
  x ← front bits
  y ← back x.1
  Some (x.0 ++ y.0, y.1)

-- the same thing so often
abbrev pub read_times : ℕ → (List Bool → Reading) → List Bool → Reading
read_times zero read bits = Some ([], bits)
read_times (suc count) read bits = read_both read (read_times count read) bits

-- the bits of a count: the least number of bits that holds it
abbrev pub count_width : ℕ → ℕ
count_width most =
    if nat_lt most 2 then 1
    else if nat_lt most 4 then 2
    else if nat_lt most 8 then 3
    else if nat_lt most 16 then 4
    else if nat_lt most 32 then 5
    else if nat_lt most 64 then 6
    else if nat_lt most 128 then 7
    else 8

-- as many elements as the number says that was read in front of them
abbrev pub read_counted : ℕ → (List Bool → Reading) → List ℕ × List Bool → Reading
read_counted most read (count ∷ [], bits) =
    if nat_le count most then read_both (λ rest. Some (count ∷ [], rest)) (read_times count read) bits else None
read_counted most read (_, bits) = None

-- what bits read as under a layout
abbrev pub reads : Layout → List Bool → Reading
reads nothing bits = Some ([], bits)
reads (void width) bits = read_void width bits
reads (number width) bits = read_number width bits
reads (pair front back) bits = read_both (reads front) (reads back) bits
reads (exactly count element) bits = read_times count (reads element) bits
reads (up_to most element) bits = read_number (count_width most) bits >>= read_counted most (reads element)

-- ---- the part that is decoded

-- the least number of bits that a layout takes
abbrev pub least_bits : Layout → ℕ
least_bits nothing = 0
least_bits (void width) = width
least_bits (number width) = width
least_bits (pair front back) = least_bits front + least_bits back
least_bits (exactly count element) = count * least_bits element
least_bits (up_to most element) = count_width most

-- at most so many elements, up to the end: how many there are, their numbers, and the bits behind them
abbrev pub read_tail : ℕ → (List Bool → Reading) → List Bool → Option (ℕ × List ℕ × List Bool)
read_tail zero read bits = if nat_lt (length bits) 8 then Some (0, [], bits) else None
read_tail (suc most) read bits = if nat_lt (length bits) 8 then Some (0, [], bits) else do
  x ← read bits
  y ← read_tail most read x.1
  Some (y.0 + 1, x.0 ++ y.1, y.2)

-- a tail with its count in front of its numbers
abbrev pub told_tail : Option (ℕ × List ℕ × List Bool) → Reading
told_tail tail = tail >>= λ x. Some (x.0 ∷ x.1, x.2)

-- so many elements, the last of which stands at the end
abbrev pub read_to_last : ℕ → (read last : List Bool → Reading) → List Bool → Reading
read_to_last zero read last bits = Some ([], bits)
read_to_last (suc count) read last bits = read_both (read_times count read) last bits

-- as many as the number says that was read in front of them
abbrev pub read_counted_to_last : ℕ → (read last : List Bool → Reading) → List ℕ × List Bool → Reading
read_counted_to_last most read last (count ∷ [], bits) =
    if nat_le count most then read_both (λ rest. Some (count ∷ [], rest)) (read_to_last count read last) bits else None
read_counted_to_last most read last (_, bits) = None

-- their count, and they
abbrev pub read_array_to_last : ℕ → (read last : List Bool → Reading) → List Bool → Reading
read_array_to_last most read last bits = read_number (count_width most) bits >>= read_counted_to_last most read last

-- what stands at the end
abbrev pub read_last : Layout → List Bool → Reading
read_last (pair front nothing) bits = read_last front bits
read_last (pair front back) bits = read_both (reads front) (read_last back) bits
read_last (exactly count element) bits = read_to_last count (reads element) (read_last element) bits
read_last (up_to most element) bits =
    if nat_le 8 (least_bits element) then told_tail (read_tail most (reads element) bits)
    else read_array_to_last most (reads element) (read_last element) bits
read_last layout bits = reads layout bits

-- the fields of the part
abbrev pub read_part : List Layout → List Bool → Reading
read_part [] bits = Some ([], bits)
read_part (field ∷ []) bits = read_last field bits
read_part (field ∷ next ∷ fields) bits = read_both (reads field) (read_part (next ∷ fields)) bits

-- a reading of all fields is one of the payload where padding is left and there are at most 400 numbers
abbrev pub whole : List ℕ × List Bool → Option (List ℕ)
whole read = if nat_lt (length read.1) 8 && nat_le (length read.0) 400 then Some read.0 else None

-- the numbers of a payload under a part; None where it has no reading
unfoldable pub numbers_of : List Layout → List ℕ → Option (List ℕ)
numbers_of part payload = read_part part (bits_of payload) >>= whole

-- ---- readings one behind the other, as long as there is room

-- the numbers with those of a reading behind them, where there is room for 400, and the bits behind them
abbrev pub behind : List ℕ → Reading → Reading
behind numbers None = None
behind numbers (Some read) =
    if nat_le (length numbers + length read.0) 400 then Some (numbers ++ read.0, read.1) else None

-- what a reader answers that puts numbers behind those that are there: the bits behind a reading for which there is
-- room
abbrev pub Gives : Option (Bor (List Bool)) → List ℕ → List ℕ → Reading → Type 0
Gives None old new read = behind old read ≡ None
Gives (Some rest) old new read = behind old read ≡ Some (new, rest.now)

-- the elements of a tail without their count
abbrev pub elements : Option (ℕ × List ℕ × List Bool) → Reading
elements None = None
elements (Some tail) = Some (tail.1, tail.2)

abbrev pub tail_count : Option (ℕ × List ℕ × List Bool) → Option ℕ
tail_count None = None
tail_count (Some tail) = Some tail.0

-- the same of a reader that counts the elements of a tail
abbrev pub GivesTail : Option (ℕ × Bor (List Bool)) → List ℕ → List ℕ
    → Option (ℕ × List ℕ × List Bool) → Type 0
GivesTail None old new tail = behind old (elements tail) ≡ None
GivesTail (Some found) old new tail =
    (behind old (elements tail) ≡ Some (new, found.1.now)) × (tail_count tail ≡ Some found.0)
