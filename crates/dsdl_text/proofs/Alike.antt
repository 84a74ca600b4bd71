-- Types without the fields that take no bits give the same numbers.
use Rattle.std.proofs.Common.{◌≡◌, ◌<◌, ◌≤◌, ◌+◌, ◌*◌, ℕ, zero, suc, List, [], ◌∷◌, ◌++◌, length, Bool, true, false, ◌&&◌, cond, filter, not, min, nat_eq, nat_le, get_or, take, Some, None, refl, ap, sym, ◌∙◌, arith, subst}
use Rattle.std.specs.Prelude.{slice_get}
use Rattle.std.proofs.Math.Path.{fun_ext}
use Rattle.std.proofs.lemmas.Bool.{eqb-true}
use Rattle.std.proofs.lemmas.List.{take_all, take_more}
use Rattle.dsdl_text.specs.declared.line.Shape.TheVariants.{One, Exactly, UpTo}
use Rattle.dsdl_text.specs.declared.section.Kind.{Kind}
use Rattle.dsdl_text.specs.declared.section.Kind.TheVariants.{Number, Section as Earlier}
use Rattle.dsdl_text.specs.declared.section.Field.{Field}
use Rattle.dsdl_text.specs.declared.section.Field.TheVariants.{Void, Data}
use Rattle.dsdl_text.specs.declared.section.Section.{Section}
use Rattle.dsdl_text.specs.Layout.{DataType, Layout, nothing, void, number, pair, exactly, up_to, joined}
use Rattle.dsdl_text.specs.Numbers.{◌>>=◌, Reading, bits_of, count_width, least_bits, numbers_of, read_both, read_counted, read_counted_to_last, read_last, read_number, read_part, read_tail, read_times, read_to_last, read_void, reads, told_tail, whole}
use Rattle.dsdl_text.specs.Sections.{field_layout, first_layout, kind_layout, part_layout, type_of, types_of}
use Rattle.dsdl_text.specs.Sizes.{IsCompact, has_bits, has_no_number, size_of, sizes_in, takes_bits, with_bits}
use Rattle.dsdl_text.proofs.Sizes.{blank, both, void_none}
use Rattle.dsdl_text.proofs.Types.{types_of_push}

-- all bits read the same under both, and their values are as long
pub record Alike (a b : Layout) : Type 0 where
  pub same : reads a ≡ reads b
  pub last : read_last a ≡ read_last b
  pub least : least_bits a ≡ least_bits b
  pub empty : has_no_number a ≡ has_no_number b

itself : (a : Layout) → Alike a a
itself a = record { same = refl; last = refl; least = refl; empty = refl }

-- a last field
ends : {a b : Layout} → Alike a b → Alike (pair a nothing) (pair b nothing)
ends h = record {
  same = λ i bits. read_both (h.same i) (reads nothing) bits;
  last = h.last;
  least = λ i. h.least i + 0;
  empty = λ i. h.empty i && true;
}

-- a field, and more behind it
abbrev IsMore : Layout → Type 0
IsMore a = (front back : Layout) × (a ≡ pair front back)

behind_more : (a b : Layout) → IsMore b → read_last (pair a b) ≡ read_both (reads a) (read_last b)
behind_more a b more = rw more.2 refl

pairs : {a b c d : Layout} → Alike a b → Alike c d → IsMore c → IsMore d → Alike (pair a c) (pair b d)
pairs {a = a} {b = b} {c = c} {d = d} front back more others = record {
  same = λ i bits. read_both (front.same i) (back.same i) bits;
  last = let ahead : read_both (reads a) (read_last c) ≡ read_both (reads b) (read_last d) = λ i bits. read_both (front.same i) (back.last i) bits in
      behind_more a c more ∙ ahead ∙ sym (behind_more b d others);
  least = λ i. front.least i + back.least i;
  empty = λ i. front.empty i && back.empty i;
}

so_many : {a b : Layout} → (count : ℕ) → Alike a b → Alike (exactly count a) (exactly count b)
so_many count h = record {
  same = λ i bits. read_times count (h.same i) bits;
  last = λ i bits. read_to_last count (h.same i) (h.last i) bits;
  least = λ i. count * h.least i;
  empty = h.empty;
}

at_most : {a b : Layout} → (most : ℕ) → Alike a b → Alike (up_to most a) (up_to most b)
at_most most h = record {
  same = λ i bits. read_number (count_width most) bits >>= read_counted most (h.same i);
  last = λ i bits. cond (nat_le 8 (h.least i))
      (told_tail (read_tail most (h.same i) bits))
      (read_number (count_width most) bits >>= read_counted_to_last most (h.same i) (h.last i));
  least = refl;
  empty = refl;
}

-- ---- what takes no bits

is_true : (b : Bool) → not b ≡ false → b ≡ true
is_true true e = refl
is_true false e = absurd (cc)

record IsNothing (a : Layout) : Type 0 where
  same : reads a ≡ reads nothing
  least : least_bits a ≡ 0
  empty : has_no_number a ≡ true

is_nothing : (a : Layout) → takes_bits (size_of a) ≡ false → IsNothing a
is_nothing a none =
    let capped = min 4096 (least_bits a) in
    let parts = both (has_no_number a) (nat_eq capped 0) (is_true (has_no_number a && nat_eq capped 0) none) in
    let zero_bits : capped ≡ 0 = eqb-true capped 0 parts.1 in
    let least : least_bits a ≡ 0 = omega arith in
    record {
      same = fun_ext (λ bits. blank a parts.0 bits ∙ ap (λ n. read_void n bits) least ∙ void_none bits);
      least = least;
      empty = parts.0;
    }

behind_nothing : {a b c : Layout} → IsNothing a → Alike b c → IsMore b → Alike (pair a b) c
behind_nothing {a = a} {b = b} none h more =
    let same : read_both (reads a) (reads b) ≡ read_both (reads nothing) (reads b) = λ i bits. read_both (none.same i) (reads b) bits in
    let last : read_both (reads a) (read_last b) ≡ read_both (reads nothing) (read_last b) = λ i bits. read_both (none.same i) (read_last b) bits in
    let alone : read_both (reads nothing) (reads b) ≡ reads b = fun_ext (λ bits. go (reads b bits)) in
    let alone_last : read_both (reads nothing) (read_last b) ≡ read_last b = fun_ext (λ bits. go (read_last b bits)) in
    let sum : least_bits a + least_bits b ≡ least_bits b = omega (arith, none.least) in
    record {
      same = same ∙ alone ∙ h.same;
      last = behind_more a b more ∙ last ∙ alone_last ∙ h.last;
      least = sum ∙ h.least;
      empty = ap (λ e. e && has_no_number b) none.empty ∙ h.empty;
    }
  where
    go : (o : Reading) → (o >>= λ y. Some ([] ++ y.0, y.1)) ≡ o
    go None = refl
    go (Some y) = refl

-- ---- the last field is kept

pub with_bits_last : (types : List DataType) (front : List Field) (last : Field)
    → with_bits types (front ++ last ∷ []) ≡ filter (has_bits types) front ++ last ∷ []
with_bits_last types [] last = refl
with_bits_last types (field ∷ []) last = go (has_bits types field) refl where
  go : (b : Bool) → has_bits types field ≡ b → with_bits types (field ∷ last ∷ []) ≡ filter (has_bits types) (field ∷ []) ++ last ∷ []
  go true e = rw e refl
  go false e = rw e refl
with_bits_last types (field ∷ next ∷ front) last = go (has_bits types field) refl (with_bits_last types (next ∷ front) last) where
  go : (b : Bool) → has_bits types field ≡ b → with_bits types (next ∷ (front ++ last ∷ [])) ≡ filter (has_bits types) (next ∷ front) ++ last ∷ []
      → with_bits types (field ∷ next ∷ (front ++ last ∷ [])) ≡ filter (has_bits types) (field ∷ next ∷ front) ++ last ∷ []
  go true e later = rw e (ap (λ kept. field ∷ kept) later)
  go false e later = rw e later

-- ---- types one behind the other

abbrev pub AreAlike : List DataType → List DataType → Type 0
AreAlike [] [] = Unit {0}
AreAlike (a ∷ types) (b ∷ others) = Alike (joined a.first) (joined b.first) × AreAlike types others
AreAlike types others = ⊥

push : (types others : List DataType) (a b : DataType) → AreAlike types others
    → Alike (joined a.first) (joined b.first) → AreAlike (types ++ a ∷ []) (others ++ b ∷ [])
push [] [] a b alike h = (h, tt)
push [] (y ∷ others) a b alike h = absurd alike
push (x ∷ types) [] a b alike h = absurd alike
push (x ∷ types) (y ∷ others) a b alike h = (alike.0, push types others a b alike.1 h)

at_place : (types others : List DataType) → AreAlike types others → (place : ℕ)
    → Alike (first_layout (slice_get types place)) (first_layout (slice_get others place))
at_place [] [] alike place = itself nothing
at_place [] (y ∷ others) alike place = absurd alike
at_place (x ∷ types) [] alike place = absurd alike
at_place (x ∷ types) (y ∷ others) alike zero = alike.0
at_place (x ∷ types) (y ∷ others) alike (suc place) = at_place types others alike.1 place

alike_sizes : (types others : List DataType) → AreAlike types others → sizes_in types ≡ sizes_in others
alike_sizes [] [] alike = refl
alike_sizes [] (y ∷ others) alike = absurd alike
alike_sizes (x ∷ types) [] alike = absurd alike
alike_sizes (x ∷ types) (y ∷ others) alike =
    let first = alike.0 in
    let size : size_of (joined x.first) ≡ size_of (joined y.first) =
    λ i. record { bits = min 4096 (first.least i); blank = first.empty i } in
    λ i. size i ∷ alike_sizes types others alike.1 i

module _ (types others : List DataType) (alike : AreAlike types others) where
  alike_kind : (kind : Kind) → Alike (kind_layout types kind) (kind_layout others kind)
  alike_kind (Number width) = itself (number width.bits)
  alike_kind (Earlier place) = at_place types others alike place

  alike_field : (field : Field) → Alike (field_layout types field) (field_layout others field)
  alike_field (Void width) = itself (void width)
  alike_field (Data kind One) = alike_kind kind
  alike_field (Data kind (Exactly count)) = so_many count (alike_kind kind)
  alike_field (Data kind (UpTo most)) = at_most most (alike_kind kind)

  abbrev whole_part : List Field → Layout
  whole_part fields = joined (part_layout types fields)

  abbrev compact_part : List Field → Layout
  compact_part fields = joined (part_layout others (with_bits types fields))

  -- one field at least is kept
  some_kept : (field : Field) (fields : List Field) → IsMore (compact_part (field ∷ fields))
  some_kept field [] = (field_layout others field, nothing, refl)
  some_kept field (next ∷ fields) = go (has_bits types field) (some_kept next fields) where
    go : (b : Bool) → IsMore (compact_part (next ∷ fields))
        → IsMore (joined (part_layout others (cond b (field ∷ with_bits types (next ∷ fields)) (with_bits types (next ∷ fields)))))
    go true more = (field_layout others field, compact_part (next ∷ fields), refl)
    go false more = more

  alike_parts : (fields : List Field) → Alike (whole_part fields) (compact_part fields)
  alike_parts [] = itself nothing
  alike_parts (field ∷ []) = ends (alike_field field)
  alike_parts (field ∷ next ∷ fields) = go (takes_bits (size_of layout)) refl (alike_parts (next ∷ fields)) where
    layout : Layout
    layout = field_layout types field

    kept : Bool → List Field
    kept b = cond b (field ∷ with_bits types (next ∷ fields)) (with_bits types (next ∷ fields))

    more : IsMore (whole_part (next ∷ fields))
    more = (field_layout types next, whole_part fields, refl)

    go : (b : Bool) → takes_bits (size_of layout) ≡ b → Alike (whole_part (next ∷ fields)) (compact_part (next ∷ fields))
        → Alike (pair layout (whole_part (next ∷ fields))) (joined (part_layout others (kept b)))
    go true e later = pairs (alike_field field) later more (some_kept next fields)
    go false e later = behind_nothing (is_nothing layout e) later more

  alike_reading : (part : List Field) (bits : List Bool)
      → read_part (part_layout types part) bits ≡ read_part (part_layout others part) bits
  alike_reading [] bits = refl
  alike_reading (field ∷ []) bits = ap (λ read. read bits) (alike_field field).last
  alike_reading (field ∷ next ∷ fields) bits =
      let front = alike_field field in
      λ i. read_both (front.same i) (λ rest. alike_reading (next ∷ fields) rest i) bits

  alike_numbers : (part : List Field) (payload : List ℕ)
      → numbers_of (part_layout types part) payload ≡ numbers_of (part_layout others part) payload
  unfolding numbers_of
  alike_numbers part payload = ap (λ read. read >>= whole) (alike_reading part (bits_of payload))

-- ---- the types of sections

module _ (sections compact : List Section) (is : IsCompact sections compact) where
  abbrev AlikeInFront : ℕ → Type 0
  AlikeInFront n = AreAlike (types_of (take n sections)) (types_of (take n compact))

  one_more : (d : Section) (n : ℕ) → n < length sections → AlikeInFront n → AlikeInFront (n + 1)
  one_more d n within before =
      let types = types_of (take n sections) in
      let others = types_of (take n compact) in
      let section = get_or sections n d in
      let other = get_or compact n d in
      let more = take_more sections n d within in
      let and_more = take_more compact n d (omega (arith, is.count)) in
      rw (more, and_more, types_of_push (take n sections) section, types_of_push (take n compact) other)
      (push types others (type_of types section) (type_of others other) before
      (rw (is.fields n d d within) (alike_parts types others before section.first.items)))

  in_front : (d : Section) (n : ℕ) → n ≤ length sections → AlikeInFront n
  in_front d zero within = tt
  in_front d (suc n) within =
      let more : n + 1 ≡ suc n = omega arith in
      subst AlikeInFront more (one_more d n (omega arith) (in_front d n (omega arith)))

compact_alike : (sections compact : List Section) → IsCompact sections compact
    → AreAlike (types_of sections) (types_of compact)
compact_alike [] [] is = tt
compact_alike [] (other ∷ compact) is = absurd (omega (arith, is.count))
compact_alike (section ∷ sections) compact is =
    let all = section ∷ sections in
    let front = in_front all compact is section (length all) (omega arith) in
    rw (take_all (length all) all (omega arith), take_all (length all) compact (omega (arith, is.count))) at front

pub compact_sizes : (sections compact : List Section) → IsCompact sections compact
    → sizes_in (types_of sections) ≡ sizes_in (types_of compact)
compact_sizes sections compact is =
    alike_sizes (types_of sections) (types_of compact) (compact_alike sections compact is)

pub compact_numbers : (sections compact : List Section) → IsCompact sections compact
    → (part : List Field) (payload : List ℕ)
    → numbers_of (part_layout (types_of compact) part) payload
    ≡ numbers_of (part_layout (types_of sections) part) payload
compact_numbers sections compact is part payload =
    sym (alike_numbers (types_of sections) (types_of compact) (compact_alike sections compact is) part payload)
