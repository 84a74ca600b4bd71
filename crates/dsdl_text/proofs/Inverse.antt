-- What is read is what was written, and nothing else.
use Rattle.std.proofs.Common.{◌≡◌, ◌<◌, ◌≤◌, ◌+◌, ◌*◌, ℕ, zero, suc, List, [], ◌∷◌, ◌++◌, length, Bool, true, false, nat_le, Option, Some, None, take, drop, refl, ap, subst, sym, ◌∙◌, inl, inr, arith, append_assoc, length-append}
use Rattle.std.specs.Prelude.{◌&&◌, nat_lt, if◌then◌else◌, ⊤}
use Rattle.std.proofs.lemmas.Bool.{le-leb, le-ltb, leb-true, lt-ltb}
use Rattle.std.proofs.lemmas.Bool.Decides.{leb_tells}
use Rattle.std.proofs.lemmas.List.{length-drop, length-take-le, take-append-drop}
use Rattle.std.proofs.lemmas.Option.{none-some, same_Some}
use Rattle.std.proofs.Math.Seq.{take-append_seam, drop-append_seam}
use Rattle.dsdl_text.specs.Layout.{Layout, nothing, void, number, pair, exactly, up_to}
use Rattle.dsdl_text.specs.Numbers.{◌>>=◌, Reading, bits_of, count_width, least_bits, number_of, number_onto, numbers_of, read_array_to_last, read_both, read_counted, read_counted_to_last, read_last, read_number, read_part, read_tail, read_times, read_to_last, read_void, reads, told_tail, whole}
use Rattle.dsdl_text.specs.Writing.{HasBoth, HasCount, HasNumbers, HasTail, HasTimes, HasTimesToLast, InForm, IsEmpty, Writes, WritesLast, WritesPart}
use Rattle.dsdl_text.proofs.BytesOfBits.{number-short, number-split, read-front}
use Rattle.dsdl_text.proofs.Readings.{bits_left, numbers_read}

-- a reader, the numbers and bits that it reads, and what may stand behind them
pub record Inverts (May : List Bool → Type 0) (read : List Bool → Reading) (Is : List ℕ → List Bool → Type 0) : Type 0 where
  pub sound : (bits rest : List Bool) (numbers : List ℕ) → read bits ≡ Some (numbers, rest)
      → (front : List Bool) × (bits ≡ front ++ rest) × Is numbers front
  pub complete : (front rest : List Bool) (numbers : List ℕ) → May rest → Is numbers front → read (front ++ rest) ≡ Some (numbers, rest)

-- numbers, and the bits behind them
abbrev got : List ℕ → List Bool → Reading
got numbers rest = Some (numbers, rest)

abbrev pub Any : List Bool → Type 0
Any rest = ⊤

abbrev pub Short : List Bool → Type 0
Short rest = length rest < 8

none_some : {X A : Type 0} (x : A) → None ≡ Some x → X
none_some x e = absurd (cc (e))

-- ---- nothing, bits of no meaning, a number

module _ {May : List Bool → Type 0} where
  empty : Inverts May (λ bits. Some ([], bits)) IsEmpty
  empty = record {
    sound = λ bits rest numbers e. ([], ap bits_left e, (sym (ap numbers_read e), refl));
    complete = λ front rest numbers may is. rw (is.0, is.1) refl;
  }

  voids : (width : ℕ) → Inverts May (read_void width) (λ numbers bits. (numbers ≡ []) × (length bits ≡ width))
  voids width = record { sound = λ bits rest numbers e. by (nat_le width (length bits)) refl e; complete = λ front rest numbers may is. whole_front front rest numbers is }
    where
      by : {bits rest : List Bool} {numbers : List ℕ} (b : Bool) → nat_le width (length bits) ≡ b → (if b then got [] (drop width bits) else None) ≡ Some (numbers, rest)
          → (front : List Bool) × (bits ≡ front ++ rest) × ((numbers ≡ []) × (length front ≡ width))
      by {bits = bits} {rest = rest} true fits e =
          let enough : width ≤ length bits = leb-true width (length bits) fits in
          (take width bits, sym (take-append-drop width bits) ∙ ap (λ (l : List Bool). take width bits ++ l) (ap bits_left e), (sym (ap numbers_read e), length-take-le width bits enough))
      by false fits e = none_some _ e

      whole_front : (front rest : List Bool) (numbers : List ℕ) → (numbers ≡ []) × (length front ≡ width) → read_void width (front ++ rest) ≡ Some (numbers, rest)
      whole_front front rest numbers is =
          let enough : width ≤ length (front ++ rest) = omega (arith, length-append front rest, is.1) in
          rw (le-leb width (length (front ++ rest)) enough, ← is.1, drop-append_seam front rest, is.0) refl

  number_is : (width : ℕ) → Inverts May (read_number width) (λ numbers bits. (numbers ≡ number_of bits ∷ []) × (length bits ≡ width))
  number_is width = record { sound = λ bits rest numbers e. by (nat_le width (length bits)) refl e; complete = λ front rest numbers may is. rw (is.0) (read-front front rest width is.1) }
    where
      by : {bits rest : List Bool} {numbers : List ℕ} (b : Bool) → nat_le width (length bits) ≡ b
          → (if b then got (number_of (take width bits) ∷ []) (drop width bits) else None) ≡ Some (numbers, rest)
          → (front : List Bool) × (bits ≡ front ++ rest) × ((numbers ≡ number_of front ∷ []) × (length front ≡ width))
      by {bits = bits} {rest = rest} true fits e =
          let enough : width ≤ length bits = leb-true width (length bits) fits in
          (take width bits, sym (take-append-drop width bits) ∙ ap (λ (l : List Bool). take width bits ++ l) (ap bits_left e), (sym (ap numbers_read e), length-take-le width bits enough))
      by false fits e = none_some _ e

-- ---- one behind the other

module _ {May : List Bool → Type 0} (first second : List Bool → Reading) {First Second : List ℕ → List Bool → Type 0} (f : Inverts Any first First) (s : Inverts May second Second) where
  both : Inverts May (read_both first second) (HasBoth First Second)
  both = record { sound = λ bits rest numbers e. by bits rest numbers (first bits) refl e; complete = found }
    where
      behind : (bits rest : List Bool) (numbers : List ℕ) (x : List ℕ × List Bool) → first bits ≡ Some x → (o : Reading) → second x.1 ≡ o
          → (o >>= λ y. got (x.0 ++ y.0) y.1) ≡ Some (numbers, rest) → (front : List Bool) × (bits ≡ front ++ rest) × HasBoth First Second numbers front
      behind bits rest numbers x h None k e = none_some _ e
      behind bits rest numbers x h (Some y) k e =
          let a = f.sound bits x.1 x.0 h in
          let b = s.sound x.1 y.1 y.0 k in (
            a.0 ++ b.0,
            a.1 ∙ ap (λ (l : List Bool). a.0 ++ l) (b.1 ∙ ap (λ (l : List Bool). b.0 ++ l) (ap bits_left e)) ∙ sym (append_assoc a.0 b.0 rest),
            record {
              front = x.0;
              back = y.0;
              front_bits = a.0;
              back_bits = b.0;
              numbers_are = sym (ap numbers_read e);
              bits_are = refl;
              first = a.2;
              second = b.2;
            },
          )

      by : (bits rest : List Bool) (numbers : List ℕ) (o : Reading) → first bits ≡ o → (o >>= λ x. second x.1 >>= λ y. got (x.0 ++ y.0) y.1) ≡ Some (numbers, rest)
          → (front : List Bool) × (bits ≡ front ++ rest) × HasBoth First Second numbers front
      by bits rest numbers None h e = none_some _ e
      by bits rest numbers (Some x) h e = behind bits rest numbers x h (second x.1) refl e

      found : (front rest : List Bool) (numbers : List ℕ) → May rest → HasBoth First Second numbers front → read_both first second (front ++ rest) ≡ Some (numbers, rest)
      found front rest numbers may is =
          let seam : front ++ rest ≡ is.front_bits ++ (is.back_bits ++ rest) =
          ap (λ (l : List Bool). l ++ rest) is.bits_are ∙ append_assoc is.front_bits is.back_bits rest in
          ap (read_both first second) seam
          ∙ ap (λ (o : Reading). o >>= λ x. second x.1 >>= λ y. got (x.0 ++ y.0) y.1) (f.complete is.front_bits (is.back_bits ++ rest) is.front tt is.first)
          ∙ ap (λ (o : Reading). o >>= λ y. got (is.front ++ y.0) y.1) (s.complete is.back_bits rest is.back may is.second)
          ∙ ap (λ (l : List ℕ). got l rest) (sym is.numbers_are)

module _ (one : List Bool → Reading) {One : List ℕ → List Bool → Type 0} (o : Inverts Any one One) where
  times : {May : List Bool → Type 0} (count : ℕ) → Inverts May (read_times count one) (HasTimes count One)
  times zero = empty
  times (suc count) = both one (read_times count one) o (times count)

  to_last : {May : List Bool → Type 0} (count : ℕ) (last : List Bool → Reading) {Last : List ℕ → List Bool → Type 0} → Inverts May last Last
      → Inverts May (read_to_last count one last) (HasTimesToLast count One Last)
  to_last zero last l = empty
  to_last (suc count) last l = both (read_times count one) last (times count) l

-- ---- a count in front

abbrev behind_count : ℕ → Reading → Reading
behind_count count None = None
behind_count count (Some y) = Some (count ∷ y.0, y.1)

-- as many as the number says in front, whatever the elements are
abbrev count_first : ℕ → (ℕ → List Bool → Reading) → List Bool → Reading
count_first most elements bits = if nat_le (count_width most) (length bits)
    then (if nat_le (number_of (take (count_width most) bits)) most
    then behind_count (number_of (take (count_width most) bits)) (elements (number_of (take (count_width most) bits)) (drop (count_width most) bits)) else None)
    else None

abbrev FoundCount : ℕ → (ℕ → List ℕ → List Bool → Type 0) → (bits rest : List Bool) (numbers : List ℕ) → Type 0
FoundCount most Elements bits rest numbers = (front : List Bool) × (bits ≡ front ++ rest) × HasCount most Elements numbers front

module _ {May : List Bool → Type 0} (most : ℕ) (elements : ℕ → List Bool → Reading) {Elements : ℕ → List ℕ → List Bool → Type 0} (e : (count : ℕ) → Inverts May (elements count) (Elements count)) where
  counts : Inverts May (count_first most elements) (HasCount most Elements)
  counts = record { sound = λ bits rest numbers h. by bits rest numbers (nat_le (count_width most) (length bits)) refl h; complete = found }
    where
      told : (bits rest : List Bool) (numbers : List ℕ) → count_width most ≤ length bits → number_of (take (count_width most) bits) ≤ most
          → (o : Reading) → elements (number_of (take (count_width most) bits)) (drop (count_width most) bits) ≡ o
          → behind_count (number_of (take (count_width most) bits)) o ≡ Some (numbers, rest) → FoundCount most Elements bits rest numbers
      told bits rest numbers enough within None k h = none_some _ h
      told bits rest numbers enough within (Some y) k h =
          let w : ℕ = count_width most in
          let found = (e (number_of (take w bits))).sound (drop w bits) y.1 y.0 k in (
            take w bits ++ found.0,
            sym (take-append-drop w bits) ∙ ap (λ (l : List Bool). take w bits ++ l) (found.1 ∙ ap (λ (l : List Bool). found.0 ++ l) (ap bits_left h))
                ∙ sym (append_assoc (take w bits) found.0 rest),
            record {
              count = number_of (take w bits);
              rest = y.0;
              count_bits = take w bits;
              rest_bits = found.0;
              numbers_are = sym (ap numbers_read h);
              bits_are = refl;
              width = length-take-le w bits enough;
              is = refl;
              within = within;
              elements = found.2;
            },
          )

      by_most : (bits rest : List Bool) (numbers : List ℕ) (b : Bool) → count_width most ≤ length bits → nat_le (number_of (take (count_width most) bits)) most ≡ b
          → (if b then behind_count (number_of (take (count_width most) bits)) (elements (number_of (take (count_width most) bits)) (drop (count_width most) bits)) else None) ≡ Some (numbers, rest)
          → FoundCount most Elements bits rest numbers
      by_most bits rest numbers true enough k h = told bits rest numbers enough (leb-true (number_of (take (count_width most) bits)) most k) (elements (number_of (take (count_width most) bits)) (drop (count_width most) bits)) refl h
      by_most bits rest numbers false enough k h = none_some _ h

      by : (bits rest : List Bool) (numbers : List ℕ) (b : Bool) → nat_le (count_width most) (length bits) ≡ b
          → (if b then (if nat_le (number_of (take (count_width most) bits)) most
          then behind_count (number_of (take (count_width most) bits)) (elements (number_of (take (count_width most) bits)) (drop (count_width most) bits)) else None) else None) ≡ Some (numbers, rest)
          → FoundCount most Elements bits rest numbers
      by bits rest numbers true k h = by_most bits rest numbers (nat_le (number_of (take (count_width most) bits)) most) (leb-true (count_width most) (length bits) k) refl h
      by bits rest numbers false k h = none_some _ h

      found : (front rest : List Bool) (numbers : List ℕ) → May rest → HasCount most Elements numbers front → count_first most elements (front ++ rest) ≡ Some (numbers, rest)
      found front rest numbers may is =
          let w : ℕ = count_width most in
          let seam : front ++ rest ≡ is.count_bits ++ (is.rest_bits ++ rest) = ap (λ (l : List Bool). l ++ rest) is.bits_are ∙ append_assoc is.count_bits is.rest_bits rest in
          let enough : w ≤ length (is.count_bits ++ (is.rest_bits ++ rest)) = omega (arith, length-append is.count_bits (is.rest_bits ++ rest), is.width) in
          let front_is : take w (is.count_bits ++ (is.rest_bits ++ rest)) ≡ is.count_bits =
          ap (λ (n : ℕ). take n (is.count_bits ++ (is.rest_bits ++ rest))) (sym is.width) ∙ take-append_seam is.count_bits (is.rest_bits ++ rest) in
          let back_is : drop w (is.count_bits ++ (is.rest_bits ++ rest)) ≡ is.rest_bits ++ rest =
          ap (λ (n : ℕ). drop n (is.count_bits ++ (is.rest_bits ++ rest))) (sym is.width) ∙ drop-append_seam is.count_bits (is.rest_bits ++ rest) in
          rw (
            seam,
            le-leb w (length (is.count_bits ++ (is.rest_bits ++ rest))) enough,
            front_is,
            back_is,
            ← is.is,
            le-leb is.count most is.within,
            (e is.count).complete is.rest_bits rest is.rest may is.elements,
            is.numbers_are,
          ) refl

-- ---- a layout

array_is : (most : ℕ) (element : List Bool → Reading) (bits : List Bool) → (read_number (count_width most) bits >>= read_counted most element) ≡ count_first most (λ count. read_times count element) bits
array_is most element bits = by (nat_le (count_width most) (length bits)) where
  counted : (count : ℕ) (rest : List Bool) → read_counted most element (count ∷ [], rest) ≡ (if nat_le count most then behind_count count (read_times count element rest) else None)
  counted count rest = ap (λ (o : Reading). if nat_le count most then o else None) (told (read_times count element rest)) where
    told : (o : Reading) → (o >>= λ y. got (count ∷ [] ++ y.0) y.1) ≡ behind_count count o
    told None = refl
    told (Some y) = refl

  by : (b : Bool) → ((if b then got (number_of (take (count_width most) bits) ∷ []) (drop (count_width most) bits) else None) >>= read_counted most element)
      ≡ (if b then (if nat_le (number_of (take (count_width most) bits)) most
      then behind_count (number_of (take (count_width most) bits)) (read_times (number_of (take (count_width most) bits)) element (drop (count_width most) bits)) else None) else None)
  by true = counted (number_of (take (count_width most) bits)) (drop (count_width most) bits)
  by false = refl

array_to_last_is : (most : ℕ) (element last : List Bool → Reading) (bits : List Bool) → read_array_to_last most element last bits ≡ count_first most (λ count. read_to_last count element last) bits
array_to_last_is most element last bits = by (nat_le (count_width most) (length bits)) where
  counted : (count : ℕ) (rest : List Bool) → read_counted_to_last most element last (count ∷ [], rest) ≡ (if nat_le count most then behind_count count (read_to_last count element last rest) else None)
  counted count rest = ap (λ (o : Reading). if nat_le count most then o else None) (told (read_to_last count element last rest)) where
    told : (o : Reading) → (o >>= λ y. got (count ∷ [] ++ y.0) y.1) ≡ behind_count count o
    told None = refl
    told (Some y) = refl

  by : (b : Bool) → ((if b then got (number_of (take (count_width most) bits) ∷ []) (drop (count_width most) bits) else None) >>= read_counted_to_last most element last)
      ≡ (if b then (if nat_le (number_of (take (count_width most) bits)) most
      then behind_count (number_of (take (count_width most) bits)) (read_to_last (number_of (take (count_width most) bits)) element last (drop (count_width most) bits)) else None) else None)
  by true = counted (number_of (take (count_width most) bits)) (drop (count_width most) bits)
  by false = refl

-- the same reader, by its values
same : {May : List Bool → Type 0} {Is : List ℕ → List Bool → Type 0} (a b : List Bool → Reading) → ((bits : List Bool) → a bits ≡ b bits) → Inverts May b Is → Inverts May a Is
same a b e i = record {
  sound = λ bits rest numbers h. i.sound bits rest numbers (sym (e bits) ∙ h);
  complete = λ front rest numbers may is. e (front ++ rest) ∙ i.complete front rest numbers may is;
}

pub layouts : {May : List Bool → Type 0} (layout : Layout) → Inverts May (reads layout) (Writes layout)
layouts nothing = empty
layouts (void width) = voids width
layouts (number width) = number_is width
layouts (pair front back) = both (reads front) (reads back) (layouts front) (layouts back)
layouts (exactly count element) = times (reads element) (layouts element) count
layouts (up_to most element) = same (reads (up_to most element)) (count_first most (λ count. read_times count (reads element))) (array_is most (reads element))
    (counts most (λ count. read_times count (reads element)) (λ count. times (reads element) (layouts element) count))

-- ---- its least length

times_long : (least : ℕ) {One : List ℕ → List Bool → Type 0} → ((numbers : List ℕ) (bits : List Bool) → One numbers bits → least ≤ length bits)
    → (count : ℕ) (numbers : List ℕ) (bits : List Bool) → HasTimes count One numbers bits → count * least ≤ length bits
times_long least long zero numbers bits is = omega arith
times_long least long (suc count) numbers bits is =
    let first = long is.front is.front_bits is.first in
    let rest = times_long least long count is.back is.back_bits is.second in
    let more : suc count * least ≡ least + count * least = grind arith in
    omega (arith, first, rest, more, ap length is.bits_are, length-append is.front_bits is.back_bits)

long_enough : (layout : Layout) (numbers : List ℕ) (bits : List Bool) → Writes layout numbers bits → least_bits layout ≤ length bits
long_enough nothing numbers bits is = omega arith
long_enough (void width) numbers bits is = omega (arith, is.1)
long_enough (number width) numbers bits is = omega (arith, is.1)
long_enough (pair front back) numbers bits is =
    let a = long_enough front is.front is.front_bits is.first in
    let b = long_enough back is.back is.back_bits is.second in
    omega (arith, a, b, ap length is.bits_are, length-append is.front_bits is.back_bits)
long_enough (exactly count element) numbers bits is = times_long (least_bits element) (long_enough element) count numbers bits is
long_enough (up_to most element) numbers bits is = omega (arith, is.width, ap length is.bits_are, length-append is.count_bits is.rest_bits)

-- ---- a tail

abbrev Tail : Type 0
Tail = Option (ℕ × List ℕ × List Bool)

abbrev got_tail : ℕ → List ℕ → List Bool → Tail
got_tail count numbers rest = Some (count, numbers, rest)

abbrev tail_numbers : Tail → List ℕ
tail_numbers None = []
tail_numbers (Some x) = x.1

abbrev tail_rest : Tail → List Bool
tail_rest None = []
tail_rest (Some x) = x.2

abbrev tail_length : Tail → ℕ
tail_length None = 0
tail_length (Some x) = x.0

none_tail : {X : Type 0} (x : ℕ × List ℕ × List Bool) → None ≡ Some x → X
none_tail x e = absurd (cc (e))

module _ (one : List Bool → Reading) {One : List ℕ → List Bool → Type 0} (o : Inverts Any one One) where
  abbrev FoundTail : ℕ → List Bool → List Bool → ℕ → List ℕ → Type 0
  FoundTail most bits rest count numbers = (front : List Bool) × (bits ≡ front ++ rest) × (count ≤ most) × HasTimes count One numbers front

  ended : (most : ℕ) (bits rest : List Bool) (count : ℕ) (numbers : List ℕ) → got_tail 0 [] bits ≡ got_tail count numbers rest → FoundTail most bits rest count numbers
  ended most bits rest count numbers e =
      let zero_is : 0 ≡ count = ap tail_length e in
      ([], ap tail_rest e, omega (arith, zero_is), subst (λ (n : ℕ). HasTimes n One numbers []) zero_is (sym (ap tail_numbers e), refl))

  -- one element, and a tail behind it
  abbrev more_tail : ℕ → Reading → Tail
  more_tail most first = first >>= λ x. read_tail most one x.1 >>= λ y. got_tail (y.0 + 1) (x.0 ++ y.1) y.2

  abbrev Sound : ℕ → Type 0
  Sound most = (bits rest : List Bool) (count : ℕ) (numbers : List ℕ) → read_tail most one bits ≡ got_tail count numbers rest → FoundTail most bits rest count numbers

  module _ (most : ℕ) (again : Sound most) (bits rest : List Bool) (count : ℕ) (numbers : List ℕ) where
    behind : (x : List ℕ × List Bool) → one bits ≡ Some x → (t : Tail) → read_tail most one x.1 ≡ t → (t >>= λ y. got_tail (y.0 + 1) (x.0 ++ y.1) y.2) ≡ got_tail count numbers rest
        → FoundTail (suc most) bits rest count numbers
    behind x h None k e = none_tail _ e
    behind x h (Some y) k e =
        let a = o.sound bits x.1 x.0 h in
        let b = again x.1 y.2 y.0 y.1 k in
        let more : suc y.0 ≡ count = omega (arith, ap tail_length e) in
        let all : HasTimes (suc y.0) One numbers (a.0 ++ b.0) = record {
          front = x.0;
          back = y.1;
          front_bits = a.0;
          back_bits = b.0;
          numbers_are = sym (ap tail_numbers e);
          bits_are = refl;
          first = a.2;
          second = b.3;
        } in (
          a.0 ++ b.0,
          a.1 ∙ ap (λ (l : List Bool). a.0 ++ l) (b.1 ∙ ap (λ (l : List Bool). b.0 ++ l) (ap tail_rest e)) ∙ sym (append_assoc a.0 b.0 rest),
          omega (arith, b.2, more),
          subst (λ (n : ℕ). HasTimes n One numbers (a.0 ++ b.0)) more all,
        )

    by_one : (r : Reading) → one bits ≡ r → more_tail most r ≡ got_tail count numbers rest → FoundTail (suc most) bits rest count numbers
    by_one None h e = none_tail _ e
    by_one (Some x) h e = behind x h (read_tail most one x.1) refl e

    by_length : (b : Bool) → (if b then got_tail 0 [] bits else more_tail most (one bits)) ≡ got_tail count numbers rest → FoundTail (suc most) bits rest count numbers
    by_length true e = ended (suc most) bits rest count numbers e
    by_length false e = by_one (one bits) refl e

  at_most_none : (b : Bool) (bits rest : List Bool) (count : ℕ) (numbers : List ℕ) → (if b then got_tail 0 [] bits else None) ≡ got_tail count numbers rest → FoundTail 0 bits rest count numbers
  at_most_none true bits rest count numbers e = ended 0 bits rest count numbers e
  at_most_none false bits rest count numbers e = none_tail _ e

  tail_sound : (most : ℕ) → Sound most
  tail_sound zero = λ bits rest count numbers e. at_most_none (nat_lt (length bits) 8) bits rest count numbers e
  tail_sound (suc most) = λ bits rest count numbers e. by_length most (tail_sound most) bits rest count numbers (nat_lt (length bits) 8) e

  module _ (long : (numbers : List ℕ) (bits : List Bool) → One numbers bits → 8 ≤ length bits) where
    tail_complete : (most : ℕ) (front rest : List Bool) (count : ℕ) (numbers : List ℕ) → length rest < 8 → count ≤ most → HasTimes count One numbers front
        → read_tail most one (front ++ rest) ≡ Some (count, numbers, rest)
    tail_complete zero front rest zero numbers short within is = rw (is.0, is.1, lt-ltb (length rest) 8 short) refl
    tail_complete zero front rest (suc count) numbers short within is = absurd (omega (arith, within))
    tail_complete (suc most) front rest zero numbers short within is = rw (is.0, is.1, lt-ltb (length rest) 8 short) refl
    tail_complete (suc most) front rest (suc count) numbers short within is =
        let seam : front ++ rest ≡ is.front_bits ++ (is.back_bits ++ rest) = ap (λ (l : List Bool). l ++ rest) is.bits_are ∙ append_assoc is.front_bits is.back_bits rest in
        let enough : 8 ≤ length (is.front_bits ++ (is.back_bits ++ rest)) = omega (arith, long is.front is.front_bits is.first, length-append is.front_bits (is.back_bits ++ rest)) in
        let more : count + 1 ≡ suc count = omega arith in
        rw (
          seam,
          le-ltb (length (is.front_bits ++ (is.back_bits ++ rest))) 8 enough,
          o.complete is.front_bits (is.back_bits ++ rest) is.front tt is.first,
          tail_complete most is.back_bits rest count is.back short (omega (arith, within)) is.second,
          more,
          is.numbers_are,
        ) refl

    tails : (most : ℕ) → Inverts Short (λ bits. told_tail (read_tail most one bits)) (HasTail most One)
    tails most = record { sound = λ bits rest numbers e. by bits rest numbers (read_tail most one bits) refl e; complete = found }
      where
        by : (bits rest : List Bool) (numbers : List ℕ) (t : Tail) → read_tail most one bits ≡ t → told_tail t ≡ Some (numbers, rest)
            → (front : List Bool) × (bits ≡ front ++ rest) × HasTail most One numbers front
        by bits rest numbers None h e = none_some _ e
        by bits rest numbers (Some x) h e =
            let f = tail_sound most bits x.2 x.0 x.1 h in
            (f.0, f.1 ∙ ap (λ (l : List Bool). f.0 ++ l) (ap bits_left e), record { count = x.0; rest = x.1; numbers_are = sym (ap numbers_read e); within = f.2; elements = f.3 })

        found : (front rest : List Bool) (numbers : List ℕ) → length rest < 8 → HasTail most One numbers front → told_tail (read_tail most one (front ++ rest)) ≡ Some (numbers, rest)
        found front rest numbers short is = ap told_tail (tail_complete most front rest is.count is.rest short is.within is.elements) ∙ ap (λ (l : List ℕ). got l rest) (sym is.numbers_are)

-- ---- what stands at the end

array_last : (most : ℕ) (element : Layout) → Inverts Short (read_last element) (WritesLast element) → (b : Bool) → nat_le 8 (least_bits element) ≡ b
    → Inverts Short (λ bits. if b then told_tail (read_tail most (reads element) bits) else read_array_to_last most (reads element) (read_last element) bits)
    (InForm b (HasTail most (Writes element)) (HasCount most (λ count. HasTimesToLast count (Writes element) (WritesLast element))))
array_last most element last true e = tails (reads element) (layouts element)
    (λ numbers bits is. let long = long_enough element numbers bits is in let eight = leb-true 8 (least_bits element) e in omega (arith, long, eight)) most
array_last most element last false e =
    same (read_array_to_last most (reads element) (read_last element)) (count_first most (λ count. read_to_last count (reads element) (read_last element)))
    (array_to_last_is most (reads element) (read_last element))
    (counts most (λ count. read_to_last count (reads element) (read_last element)) (λ count. to_last (reads element) (layouts element) count (read_last element) last))

lasts : (layout : Layout) → Inverts Short (read_last layout) (WritesLast layout)
lasts nothing = empty
lasts (void width) = voids width
lasts (number width) = number_is width
lasts (pair front nothing) = lasts front
lasts (pair front (void width)) = both (reads front) (read_last (void width)) (layouts front) (lasts (void width))
lasts (pair front (number width)) = both (reads front) (read_last (number width)) (layouts front) (lasts (number width))
lasts (pair front (pair a b)) = both (reads front) (read_last (pair a b)) (layouts front) (lasts (pair a b))
lasts (pair front (exactly count element)) = both (reads front) (read_last (exactly count element)) (layouts front) (lasts (exactly count element))
lasts (pair front (up_to most element)) = both (reads front) (read_last (up_to most element)) (layouts front) (lasts (up_to most element))
lasts (exactly count element) = to_last (reads element) (layouts element) count (read_last element) (lasts element)
lasts (up_to most element) = array_last most element (lasts element) (nat_le 8 (least_bits element)) refl

parts : (part : List Layout) → Inverts Short (read_part part) (WritesPart part)
parts [] = empty
parts (field ∷ []) = lasts field
parts (field ∷ next ∷ fields) = both (reads field) (read_part (next ∷ fields)) (layouts field) (parts (next ∷ fields))

-- ---- a payload

numbers_some : (o : Option (List ℕ)) → List ℕ
numbers_some None = []
numbers_some (Some numbers) = numbers

pub read_is_written : (part : List Layout) (payload numbers : List ℕ) → numbers_of part payload ≡ Some numbers → HasNumbers part payload numbers
unfolding numbers_of
read_is_written part payload numbers e = by (read_part part (bits_of payload)) refl e where
  told : (x : List ℕ × List Bool) → read_part part (bits_of payload) ≡ Some x → (a b : Bool) → nat_lt (length x.1) 8 ≡ a → nat_le (length x.0) 400 ≡ b
      → (if a && b then Some x.0 else None) ≡ Some numbers → HasNumbers part payload numbers
  told x h true true short few e =
      let found = (parts part).sound (bits_of payload) x.1 x.0 h in
      let is : x.0 ≡ numbers = same_Some x.0 numbers e in
      record {
        bits = found.0;
        padding = x.1;
        payload_is = found.1;
        short = omega (arith, leb-true (suc (length x.1)) 8 short);
        writes = subst (λ (l : List ℕ). WritesPart part l found.0) is found.2;
        few = subst (λ (l : List ℕ). length l ≤ 400) is (leb-true (length x.0) 400 few);
      }
  told x h true false short few e = absurd (none-some numbers e)
  told x h false b short few e = absurd (none-some numbers e)

  by : (o : Reading) → read_part part (bits_of payload) ≡ o → (o >>= whole) ≡ Some numbers → HasNumbers part payload numbers
  by None h e = absurd (none-some numbers e)
  by (Some x) h e = told x h (nat_lt (length x.1) 8) (nat_le (length x.0) 400) refl refl e

pub written_is_read : (part : List Layout) (payload numbers : List ℕ) → HasNumbers part payload numbers → numbers_of part payload ≡ Some numbers
unfolding numbers_of
written_is_read part payload numbers has =
    ap (λ (bits : List Bool). read_part part bits >>= whole) has.payload_is
    ∙ ap (λ (o : Reading). o >>= whole) ((parts part).complete has.bits has.padding numbers has.short has.writes)
    ∙ rw (lt-ltb (length has.padding) 8 has.short, le-leb (length numbers) 400 has.few) refl

-- ---- numbers have one list of bits

onto_apart : (a b : List Bool) (h k : ℕ) → length a ≡ length b → number_onto h a ≡ number_onto k b → (h ≡ k) × (a ≡ b)
onto_apart [] [] h k size e = (e, refl)
onto_apart [] (y ∷ b) h k size e = absurd (omega (arith, size))
onto_apart (x ∷ a) [] h k size e = absurd (omega (arith, size))
onto_apart (x ∷ a) (y ∷ b) h k size e =
    let rest = onto_apart a b (2 * h + (if x then 1 else 0)) (2 * k + (if y then 1 else 0)) (omega (arith, size)) e in
    let first = bit_apart x y h k rest.0 in
    (first.0, ap (λ (bit : Bool). bit ∷ a) first.1 ∙ ap (λ (l : List Bool). y ∷ l) rest.1)
  where
    bit_apart : (x y : Bool) (h k : ℕ) → 2 * h + (if x then 1 else 0) ≡ 2 * k + (if y then 1 else 0) → (h ≡ k) × (x ≡ y)
    bit_apart true true h k e = (omega (arith, e), refl)
    bit_apart false false h k e = (omega (arith, e), refl)
    bit_apart true false h k e = absurd (omega (arith, e))
    bit_apart false true h k e = absurd (omega (arith, e))

bit_small : (x : Bool) → (if x then 1 else 0) ≤ 1
bit_small true = omega arith
bit_small false = omega arith

byte_small : (bits : List Bool) → length bits ≡ 8 → number_onto 0 bits < 256
byte_small (a ∷ b ∷ c ∷ d ∷ e ∷ f ∷ g ∷ h ∷ []) size =
    omega (arith, bit_small a, bit_small b, bit_small c, bit_small d, bit_small e, bit_small f, bit_small g, bit_small h)
byte_small (a ∷ b ∷ c ∷ d ∷ e ∷ f ∷ g ∷ h ∷ i ∷ bits) size = absurd (omega (arith, size))
byte_small [] size = absurd (omega (arith, size))
byte_small (a ∷ []) size = absurd (omega (arith, size))
byte_small (a ∷ b ∷ []) size = absurd (omega (arith, size))
byte_small (a ∷ b ∷ c ∷ []) size = absurd (omega (arith, size))
byte_small (a ∷ b ∷ c ∷ d ∷ []) size = absurd (omega (arith, size))
byte_small (a ∷ b ∷ c ∷ d ∷ e ∷ []) size = absurd (omega (arith, size))
byte_small (a ∷ b ∷ c ∷ d ∷ e ∷ f ∷ []) size = absurd (omega (arith, size))
byte_small (a ∷ b ∷ c ∷ d ∷ e ∷ f ∷ g ∷ []) size = absurd (omega (arith, size))

apart_within : (most : ℕ) (a b : List Bool) → length a ≤ most → length a ≡ length b → number_of a ≡ number_of b → a ≡ b
apart_within zero a b within size e = shorter a b (omega (arith, within)) size e where
  shorter : (a b : List Bool) → length a < 8 → length a ≡ length b → number_of a ≡ number_of b → a ≡ b
  shorter a b short size e =
      (onto_apart a b 0 0 size (sym (number-short a short) ∙ e ∙ number-short b (omega (arith, short, size)))).1
apart_within (suc most) a b within size e = elim (leb_tells 8 (length a)) [
  | inr short ↦ (onto_apart a b 0 0 size (sym (number-short a short.1) ∙ e ∙ number-short b (omega (arith, short.1, size)))).1
  | inl long ↦
      let first : length (take 8 a) ≡ 8 = length-take-le 8 a long.1 in
      let first_b : length (take 8 b) ≡ 8 = length-take-le 8 b (omega (arith, long.1, size)) in
      let split : number_onto 0 (take 8 a) + 256 * number_of (drop 8 a) ≡ number_onto 0 (take 8 b) + 256 * number_of (drop 8 b) =
      sym (number-split a long.1) ∙ e ∙ number-split b (omega (arith, long.1, size)) in
      let x = byte_small (take 8 a) first in
      let y = byte_small (take 8 b) first_b in
      let front : take 8 a ≡ take 8 b = (onto_apart (take 8 a) (take 8 b) 0 0 (first ∙ sym first_b) (omega (arith, split, x, y))).1 in
      let back : drop 8 a ≡ drop 8 b = apart_within most (drop 8 a) (drop 8 b) (omega (arith, within, long.1, length-drop 8 a)) (omega (arith, size, length-drop 8 a, length-drop 8 b))
      (omega (arith, split, x, y)) in
      sym (take-append-drop 8 a) ∙ ap (λ (l : List Bool). l ++ drop 8 a) front ∙ ap (λ (l : List Bool). take 8 b ++ l) back ∙ take-append-drop 8 b
]

pub one_list : (a b : List Bool) → length a ≡ length b → number_of a ≡ number_of b → a ≡ b
one_list a b size e = apart_within (length a) a b (omega arith) size e
