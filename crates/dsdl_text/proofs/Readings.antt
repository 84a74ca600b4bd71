-- Readings one behind the other, behind numbers that are there.
use Rattle.std.proofs.Common.{◌≡◌, ◌<◌, ◌≤◌, ◌+◌, ◌-◌, ℕ, zero, suc, List, [], ◌∷◌, ◌++◌, length, Bool, true, false, cond, nat_le, Option, Some, None, Bor, refl, unwrap_or, insert, ap, sym, ◌∙◌, arith, append_assoc, length-append}
use Rattle.std.proofs.lemmas.Bool.{le-leb, le-ltb, leb-false, lt-leb, lt-ltb}
use Rattle.std.proofs.Math.Seq.{take-append_seam, drop-append_seam}
use Rattle.std.specs.Prelude.{◌&&◌, nat_lt}
use Rattle.dsdl_text.specs.declared.section.Field.{Field}
use Rattle.dsdl_text.specs.Layout.{DataType, Layout, joined}
use Rattle.dsdl_text.specs.Sections.{field_layout, part_layout}
use Rattle.dsdl_text.specs.Numbers.{◌>>=◌, Gives, Reading, behind, bits_of, elements, numbers_of, read_both, read_counted, read_counted_to_last, read_last, read_number, read_part, read_tail, read_times, read_to_last, reads, tail_count, whole}

-- a reading, and another behind it
abbrev pub then : Reading → (List Bool → Reading) → Reading
then first next = first >>= λ x. next x.1 >>= λ y. Some (x.0 ++ y.0, y.1)

abbrev pub numbers_read : Reading → List ℕ
numbers_read None = []
numbers_read (Some x) = x.0

abbrev pub bits_left : Reading → List Bool
bits_left None = []
bits_left (Some x) = x.1

-- where the first is none, or has no room, neither has the two
pub after_none : (old : List ℕ) (first : Reading) (next : List Bool → Reading) → behind old first ≡ None → behind old (then first next) ≡ None
after_none old None next none = refl
after_none old (Some x) next none = go (nat_le (length old + length x.0) 400) refl (next x.1) where
  go : (b : Bool) → nat_le (length old + length x.0) 400 ≡ b → (second : Reading) → behind old (second >>= λ y. Some (x.0 ++ y.0, y.1)) ≡ None
  go b e None = refl
  go true e (Some y) = absurd (let h = rw e at none in cc)
  go false e (Some y) =
      let more = leb-false (length old + length x.0) 400 e in
      rw (lt-leb (length old + length (x.0 ++ y.0)) 400 (omega (arith, length-append x.0 y.0))) refl

-- where it has room, the second stands behind its numbers
pub after_some : (old mid : List ℕ) (rest : List Bool) (first : Reading) (next : List Bool → Reading) → behind old first ≡ Some (mid, rest)
    → behind old (then first next) ≡ behind mid (next rest)
after_some old mid rest None next some = absurd (cc)
after_some old mid rest (Some x) next some = go (nat_le (length old + length x.0) 400) refl where
  told : (second : Reading) → behind old (second >>= λ y. Some (x.0 ++ y.0, y.1)) ≡ behind (old ++ x.0) second
  told None = refl
  told (Some y) =
      let size : length old + length (x.0 ++ y.0) ≡ length (old ++ x.0) + length y.0 = omega (arith, length-append x.0 y.0, length-append old x.0) in
      rw (size, append_assoc old x.0 y.0) refl

  go : (b : Bool) → nat_le (length old + length x.0) 400 ≡ b → behind old (next x.1 >>= λ y. Some (x.0 ++ y.0, y.1)) ≡ behind mid (next rest)
  go true e =
      let h = rw e at some in
      let front : old ++ x.0 ≡ mid = ap numbers_read h in
      let back : x.1 ≡ rest = ap bits_left h in
      told (next x.1) ∙ rw (front, back) refl
  go false e = absurd (let h = rw e at some in cc)

pub gives_after : (r : Option (Bor (List Bool))) (old mid new : List ℕ) (a b : Reading) → behind old a ≡ behind mid b → Gives r mid new b → Gives r old new a
gives_after None old mid new a b same gives = same ∙ gives
gives_after (Some rest) old mid new a b same gives = same ∙ gives

-- one more element
pub times_more : (n : ℕ) (read : List Bool → Reading) (bits : List Bool) → 0 < n → read_times n read bits ≡ then (read bits) (read_times (n - 1) read)
times_more zero read bits filled = absurd (omega arith)
times_more (suc n) read bits filled = let less : suc n - 1 ≡ n = omega arith in rw less refl

pub times_none : (n : ℕ) (read : List Bool → Reading) (bits : List Bool) → n ≡ 0 → read_times n read bits ≡ Some ([], bits)
times_none n read bits is = rw is refl

pub gives_is : (r : Option (Bor (List Bool))) (old new : List ℕ) (a b : Reading) → a ≡ b → Gives r old new b → Gives r old new a
gives_is None old new a b same gives = rw same gives
gives_is (Some rest) old new a b same gives = rw same gives

-- a count that is not too high, and its elements
pub counted : (most count : ℕ) (width : ℕ) (read : List Bool → Reading) (bits rest : List Bool) → read_number width bits ≡ Some (count ∷ [], rest) → count ≤ most
    → (read_number width bits >>= read_counted most read) ≡ then (Some (count ∷ [], rest)) (read_times count read)
counted most count width read bits rest is within = rw (is, le-leb count most within) refl

pub one_more : (old new : List ℕ) (count : ℕ) (rest : List Bool) → new ≡ old ++ count ∷ [] → length old < 400 → behind old (Some (count ∷ [], rest)) ≡ Some (new, rest)
one_more old new count rest is room = rw (le-leb (length old + 1) 400 (omega arith), is) refl

-- ---- the tail

pub tail_more : (most : ℕ) (read : List Bool → Reading) (bits : List Bool) → 0 < most → 8 ≤ length bits
    → read_tail most read bits ≡ (read bits >>= λ x. read_tail (most - 1) read x.1 >>= λ y. Some (y.0 + 1, x.0 ++ y.1, y.2))
tail_more zero read bits filled long = absurd (omega arith)
tail_more (suc most) read bits filled long = let less : suc most - 1 ≡ most = omega arith in rw (le-ltb (length bits) 8 long, less) refl

pub elements_more : (first : Reading) (tail : List Bool → Option (ℕ × List ℕ × List Bool))
    → elements (first >>= λ x. tail x.1 >>= λ y. Some (y.0 + 1, x.0 ++ y.1, y.2)) ≡ then first (λ rest. elements (tail rest))
elements_more None tail = refl
elements_more (Some x) tail = go (tail x.1) where
  go : (t : Option (ℕ × List ℕ × List Bool)) → elements (t >>= λ y. Some (y.0 + 1, x.0 ++ y.1, y.2)) ≡ (elements t >>= λ y. Some (x.0 ++ y.0, y.1))
  go None = refl
  go (Some y) = refl

pub count_more : (old mid : List ℕ) (rest : List Bool) (count : ℕ) (first : Reading) (tail : List Bool → Option (ℕ × List ℕ × List Bool))
    → behind old first ≡ Some (mid, rest) → tail_count (tail rest) ≡ Some count
    → tail_count (first >>= λ x. tail x.1 >>= λ y. Some (y.0 + 1, x.0 ++ y.1, y.2)) ≡ Some (count + 1)
count_more old mid rest count None tail some counts = absurd (cc)
count_more old mid rest count (Some x) tail some counts = go (nat_le (length old + length x.0) 400) refl where
  told : (t : Option (ℕ × List ℕ × List Bool)) → tail_count t ≡ Some count
      → tail_count (t >>= λ y. Some (y.0 + 1, x.0 ++ y.1, y.2)) ≡ Some (count + 1)
  told None is = absurd (cc)
  told (Some y) is = ap (λ o. Some (unwrap_or o 0 + 1)) is

  go : (b : Bool) → nat_le (length old + length x.0) 400 ≡ b
      → tail_count (tail x.1 >>= λ y. Some (y.0 + 1, x.0 ++ y.1, y.2)) ≡ Some (count + 1)
  go true e =
      let h = rw e at some in
      let back : x.1 ≡ rest = ap bits_left h in
      told (tail x.1) (rw back counts)
  go false e = absurd (let h = rw e at some in cc)

-- a field with more behind it is not the last one
pub part_more : (types : List DataType) (field : Field) (fields : List Field) (bits : List Bool) → 0 < length fields
    → read_part (part_layout types (field ∷ fields)) bits ≡ then (reads (field_layout types field) bits) (read_part (part_layout types fields))
part_more types field [] bits filled = absurd (omega arith)
part_more types field (next ∷ fields) bits filled = refl

-- the fields of a type that stands at the end
pub part_joined : (layouts : List Layout) → read_last (joined layouts) ≡ read_part layouts
part_joined [] = refl
part_joined (layout ∷ []) = refl
part_joined (layout ∷ next ∷ layouts) = λ i bits. read_both (reads layout) (part_joined (next ∷ layouts) i) bits

pub to_last_none : (n : ℕ) (read last : List Bool → Reading) (bits : List Bool) → n ≡ 0 → read_to_last n read last bits ≡ Some ([], bits)
to_last_none n read last bits is = rw is refl

pub to_last_more : (n : ℕ) (read last : List Bool → Reading) (bits : List Bool) → 0 < n
    → read_to_last n read last bits ≡ then (read_times (n - 1) read bits) last
to_last_more zero read last bits filled = absurd (omega arith)
to_last_more (suc n) read last bits filled = let less : suc n - 1 ≡ n = omega arith in rw less refl

pub counted_to_last : (most count width : ℕ) (read last : List Bool → Reading) (bits rest : List Bool) → read_number width bits ≡ Some (count ∷ [], rest)
    → count ≤ most
    → (read_number width bits >>= read_counted_to_last most read last) ≡ then (Some (count ∷ [], rest)) (read_to_last count read last)
counted_to_last most count width read last bits rest is within = rw (is, le-leb count most within) refl

-- ---- the whole payload

and-false : (b : Bool) → (b && false) ≡ false
and-false true = refl
and-false false = refl

whole_none : (read : Reading) → behind [] read ≡ None → (read >>= whole) ≡ None
whole_none None none = refl
whole_none (Some x) none = go (nat_le (length x.0) 400) refl where
  go : (b : Bool) → nat_le (length x.0) 400 ≡ b → whole x ≡ None
  go true e =
      let same : 0 + length x.0 ≡ length x.0 = omega arith in
      absurd (let h = rw (same, e) at none in cc)
  go false e = rw (e, and-false (nat_lt (length x.1) 8)) refl

whole_some : (read : Reading) (numbers : List ℕ) (rest : List Bool) → behind [] read ≡ Some (numbers, rest) → (read >>= whole) ≡ cond (nat_lt (length rest) 8) (Some numbers) None
whole_some None numbers rest some = absurd (cc)
whole_some (Some x) numbers rest some = go (nat_le (length x.0) 400) refl where
  and-true : (b : Bool) → (b && true) ≡ b
  and-true true = refl
  and-true false = refl

  go : (b : Bool) → nat_le (length x.0) 400 ≡ b → whole x ≡ cond (nat_lt (length rest) 8) (Some numbers) None
  go true e =
      let same : 0 + length x.0 ≡ length x.0 = omega arith in
      let h = rw (same, e) at some in
      let front : x.0 ≡ numbers = ap numbers_read h in
      let back : x.1 ≡ rest = ap bits_left h in
      rw (e, and-true (nat_lt (length x.1) 8), front, back) refl
  go false e =
      let same : 0 + length x.0 ≡ length x.0 = omega arith in
      absurd (let h = rw (same, e) at some in cc)

pub payload_none : (part : List Layout) (payload : List ℕ) → behind [] (read_part part (bits_of payload)) ≡ None → None ≡ numbers_of part payload
unfolding numbers_of
payload_none part payload none = sym (whole_none (read_part part (bits_of payload)) none)

pub payload_some : (part : List Layout) (payload numbers : List ℕ) (rest : List Bool) → behind [] (read_part part (bits_of payload)) ≡ Some (numbers, rest)
    → length rest < 8 → Some numbers ≡ numbers_of part payload
unfolding numbers_of
payload_some part payload numbers rest some short =
    sym (whole_some (read_part part (bits_of payload)) numbers rest some ∙ rw (lt-ltb (length rest) 8 short) refl)

pub payload_long : (part : List Layout) (payload numbers : List ℕ) (rest : List Bool) → behind [] (read_part part (bits_of payload)) ≡ Some (numbers, rest)
    → 8 ≤ length rest → None ≡ numbers_of part payload
unfolding numbers_of
payload_long part payload numbers rest some long =
    sym (whole_some (read_part part (bits_of payload)) numbers rest some ∙ rw (le-ltb (length rest) 8 long) refl)
