-- The bits of numbers under a layout: the other way round from `Numbers`, and without reading anything in order.
-- Bits of no meaning may be any, so it is a relation.
use Rattle.std.specs.Prelude.{◌≡◌, ◌<◌, ◌≤◌, ℕ, zero, suc, Bool, true, false, nat_le, List, [], ◌∷◌, ◌++◌, length}
use Rattle.dsdl_text.specs.Layout.{Layout, nothing, void, number, pair, exactly, up_to}
use Rattle.dsdl_text.specs.Numbers.{bits_of, count_width, least_bits, number_of}

-- no numbers, in no bits
abbrev pub IsEmpty : List ℕ → List Bool → Type 0
IsEmpty numbers bits = (numbers ≡ []) × (bits ≡ [])

-- numbers and bits of one thing, and those of another behind them
pub record HasBoth (First Second : List ℕ → List Bool → Type 0)
    (numbers : List ℕ) (bits : List Bool) : Type 0 where
  pub front : List ℕ
  pub back : List ℕ
  pub front_bits : List Bool
  pub back_bits : List Bool
  pub numbers_are : numbers ≡ front ++ back
  pub bits_are : bits ≡ front_bits ++ back_bits
  pub first : First front front_bits
  pub second : Second back back_bits

-- the same thing so often
abbrev pub HasTimes : ℕ → (List ℕ → List Bool → Type 0) → List ℕ → List Bool → Type 0
HasTimes zero One numbers bits = IsEmpty numbers bits
HasTimes (suc count) One numbers bits = HasBoth One (HasTimes count One) numbers bits

-- the same thing so often, with another one in place of the last
abbrev pub HasTimesToLast : ℕ → (One Last : List ℕ → List Bool → Type 0) → List ℕ → List Bool → Type 0
HasTimesToLast zero One Last numbers bits = IsEmpty numbers bits
HasTimesToLast (suc count) One Last numbers bits = HasBoth (HasTimes count One) Last numbers bits

-- a count, and so many elements behind it
pub record HasCount (most : ℕ) (Elements : ℕ → List ℕ → List Bool → Type 0)
    (numbers : List ℕ) (bits : List Bool) : Type 0 where
  pub count : ℕ
  pub rest : List ℕ
  pub count_bits : List Bool
  pub rest_bits : List Bool
  pub numbers_are : numbers ≡ count ∷ rest
  pub bits_are : bits ≡ count_bits ++ rest_bits
  pub width : length count_bits ≡ count_width most
  pub is : count ≡ number_of count_bits
  pub within : count ≤ most
  pub elements : Elements count rest rest_bits

-- so many elements with no count in front of their bits
pub record HasTail (most : ℕ) (One : List ℕ → List Bool → Type 0)
    (numbers : List ℕ) (bits : List Bool) : Type 0 where
  pub count : ℕ
  pub rest : List ℕ
  pub numbers_are : numbers ≡ count ∷ rest
  pub within : count ≤ most
  pub elements : HasTimes count One rest bits

-- the one form of an array, or the other
abbrev pub InForm : Bool → (Tail Counted : List ℕ → List Bool → Type 0) → List ℕ → List Bool → Type 0
InForm true Tail Counted numbers bits = Tail numbers bits
InForm false Tail Counted numbers bits = Counted numbers bits

-- the bits of numbers under a layout
abbrev pub Writes : Layout → List ℕ → List Bool → Type 0
Writes nothing numbers bits = IsEmpty numbers bits
Writes (void width) numbers bits = (numbers ≡ []) × (length bits ≡ width)
Writes (number width) numbers bits = (numbers ≡ number_of bits ∷ []) × (length bits ≡ width)
Writes (pair front back) numbers bits = HasBoth (Writes front) (Writes back) numbers bits
Writes (exactly count element) numbers bits = HasTimes count (Writes element) numbers bits
Writes (up_to most element) numbers bits = HasCount most (λ count. HasTimes count (Writes element)) numbers bits

-- the same of what stands at the end
abbrev pub WritesLast : Layout → List ℕ → List Bool → Type 0
WritesLast (pair front nothing) numbers bits = WritesLast front numbers bits
WritesLast (pair front back) numbers bits = HasBoth (Writes front) (WritesLast back) numbers bits
WritesLast (exactly count element) numbers bits =
    HasTimesToLast count (Writes element) (WritesLast element) numbers bits
WritesLast (up_to most element) numbers bits = InForm (nat_le 8 (least_bits element)) (HasTail most (Writes element))
    (HasCount most (λ count. HasTimesToLast count (Writes element) (WritesLast element))) numbers bits
WritesLast layout numbers bits = Writes layout numbers bits

-- the fields of a part
abbrev pub WritesPart : List Layout → List ℕ → List Bool → Type 0
WritesPart [] numbers bits = IsEmpty numbers bits
WritesPart (field ∷ []) numbers bits = WritesLast field numbers bits
WritesPart (field ∷ next ∷ fields) numbers bits = HasBoth (Writes field) (WritesPart (next ∷ fields)) numbers bits

-- the payload has the bits of these numbers, at most 400, and fewer than 8 bits of padding behind them
pub record HasNumbers (part : List Layout) (payload numbers : List ℕ) : Type 0 where
  pub bits : List Bool
  pub padding : List Bool
  pub payload_is : bits_of payload ≡ bits ++ padding
  pub short : length padding < 8
  pub writes : WritesPart part numbers bits
  pub few : length numbers ≤ 400
