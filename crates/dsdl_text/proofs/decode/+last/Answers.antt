use Rattle.std.proofs.Common.{◌≡◌, ◌<◌, ◌≤◌, ◌-◌, Some, List, [], ◌∷◌, Bool, take, length, length-take, arith, sym, ◌∙◌, ap, refl}
use Rattle.std.proofs.lemmas.Grind.{common_steps}
use Rattle.dsdl_text.specs.Layout.{joined}
use Rattle.dsdl_text.specs.Numbers.{◌>>=◌, Reading, behind, count_width, read_counted_to_last, read_last, read_number, read_part, read_times, read_to_last, reads}
use Rattle.dsdl_text.specs.Sections.{field_layout, kind_layout, part_layout, types_of}
use Rattle.dsdl_text.proofs.Readings.{after_none, after_some, counted_to_last, gives_after, gives_is, one_more, part_joined, part_more, to_last_more, to_last_none}
use Rattle.dsdl_text.proofs.Sizes.{length-sizes, sizes_before}
use Rattle.dsdl_text.proofs.Types.{layout_at, layout_beyond}
use Rattle.dsdl_text.proofs.decode.+last.Goals as goal

pub read_part-returns : goal.read_part-returns
read_part-returns t c =
    let types = types_of c.args.earlier.now in
    let old = c.args.numbers.now.items in
    let filled : 0 < length c.in-Some.fields.now = grind (arith, common_steps) in
    let same = ap (λ part. behind old (read_part (part_layout types part) c.args.bits.now)) c.in-Some.ensures.cases.0
    ∙ ap (behind old) (part_more types c.in-Some.field.now c.in-Some.fields.now c.args.bits.now filled)
    ∙ after_some old c.read_field.new.numbers.items c.in_ok-bits.bits.now (reads (field_layout types c.in-Some.field.now) c.args.bits.now) (read_part (part_layout types c.in-Some.fields.now)) c.in_ok-bits.ensures in
    gives_after c.read_part.result old c.read_field.new.numbers.items c.read_part.new.numbers.items
    (read_part (part_layout types c.args.part.now) c.args.bits.now) (read_part (part_layout types c.in-Some.fields.now) c.in_ok-bits.bits.now) same c.read_part.ensures

pub read_to_last-returns-then-count-eq0 : goal.read_to_last-returns-then-count-eq0
read_to_last-returns-then-count-eq0 t c =
    let layout = kind_layout (types_of c.args.earlier.now) c.args.kind in
    gives_is c.keep.result c.args.numbers.now.items c.args.numbers.now.items
    (read_to_last c.args.count (reads layout) (read_last layout) c.args.bits.now) (Some ([], c.args.bits.now))
    (to_last_none c.args.count (reads layout) (read_last layout) c.args.bits.now c.if-count-eq0.true)
    c.keep.ensures

pub read_to_last-returns : goal.read_to_last-returns
read_to_last-returns t c =
    let layout = kind_layout (types_of c.args.earlier.now) c.args.kind in
    let element : List Bool → Reading = reads layout in
    let last : List Bool → Reading = read_last layout in
    let front : Reading = read_times (c.args.count - 1) element c.args.bits.now in
    let old = c.args.numbers.now.items in
    let same = ap (behind old) (to_last_more c.args.count element last c.args.bits.now (omega arith))
    ∙ after_some old c.read_times.new.numbers.items c.in_ok-bits.bits.now front last c.in_ok-bits.ensures in
    gives_after c.read_last_kind.result old c.read_times.new.numbers.items c.read_last_kind.new.numbers.items
    (read_to_last c.args.count element last c.args.bits.now) (last c.in_ok-bits.bits.now) same c.read_last_kind.ensures

pub read_to_last-returns-in_err-bits : goal.read_to_last-returns-in_err-bits
read_to_last-returns-in_err-bits t c =
    let layout = kind_layout (types_of c.args.earlier.now) c.args.kind in
    let front : Reading = read_times (c.args.count - 1) (reads layout) c.args.bits.now in
    let none = ap (behind c.args.numbers.now.items) (to_last_more c.args.count (reads layout) (read_last layout) c.args.bits.now (omega arith))
    ∙ after_none c.args.numbers.now.items front (read_last layout) c.in_err-bits.ensures in
    rw c.from_residual.ensures none

pub read_counted_to_last-returns-in-Ok : goal.read_counted_to_last-returns-in-Ok
read_counted_to_last-returns-in-Ok t c =
    let layout = kind_layout (types_of c.args.earlier.now) c.args.kind in
    let element : List Bool → Reading = reads layout in
    let last : List Bool → Reading = read_last layout in
    let read : read_number (count_width c.args.most) c.args.bits.now ≡ Some (c.in_ok-count.count ∷ [], c.in_ok-count.rest.now) =
    ap (λ width. read_number width c.args.bits.now) (sym c.count_width.ensures.value) ∙ c.in_ok-count.ensures in
    let within : c.in_ok-count.count ≤ c.args.most = omega (arith, c.from.ensures) in
    let same = ap (behind c.args.numbers.now.items) (counted_to_last c.args.most c.in_ok-count.count (count_width c.args.most) element last c.args.bits.now c.in_ok-count.rest.now read within)
    ∙ after_some c.args.numbers.now.items c.try_push.new.self.items c.in_ok-count.rest.now (Some (c.in_ok-count.count ∷ [], c.in_ok-count.rest.now)) (read_to_last c.in_ok-count.count element last)
    (one_more c.args.numbers.now.items c.try_push.new.self.items c.in_ok-count.count c.in_ok-count.rest.now c.in-Ok.ensures.ok (c.in-Ok.ensures.variant.0 refl)) in
    gives_after c.read_to_last.result c.args.numbers.now.items c.try_push.new.self.items c.read_to_last.new.numbers.items
    (read_number (count_width c.args.most) c.args.bits.now >>= read_counted_to_last c.args.most element last) (read_to_last c.in_ok-count.count element last c.in_ok-count.rest.now) same c.read_to_last.ensures

pub read_last_kind-returns-then-place-earlier : goal.read_last_kind-returns-then-place-earlier
read_last_kind-returns-then-place-earlier t c =
    gives_is c.keep.result c.args.numbers.now.items c.args.numbers.now.items
    (read_last (kind_layout (types_of c.args.earlier.now) c.args.kind) c.args.bits.now) (Some ([], c.args.bits.now))
    (ap (λ layout. read_last layout c.args.bits.now)
    (ap (kind_layout (types_of c.args.earlier.now)) c.in-Section.is ∙ layout_beyond c.args.earlier.now c.in-Section.place c.if-place-earlier.true))
    c.keep.ensures

pub read_last_kind-returns-else-place-earlier : goal.read_last_kind-returns-else-place-earlier
read_last_kind-returns-else-place-earlier t c =
    let behind_types = types_of (take c.in-Section.place c.args.earlier.now) in
    gives_is c.read_part.result c.args.numbers.now.items c.read_part.new.numbers.items
    (read_last (kind_layout (types_of c.args.earlier.now) c.args.kind) c.args.bits.now)
    (read_part (part_layout behind_types c.deref.result.now) c.args.bits.now)
    (ap (λ layout. read_last layout c.args.bits.now)
    (ap (kind_layout (types_of c.args.earlier.now)) c.in-Section.is
    ∙ layout_at c.args.earlier.now c.in-Section.place c.index-earlier-place.result c.if-place-earlier.false
    ∙ ap (λ fields. joined (part_layout behind_types fields)) (sym c.deref.ensures.0))
    ∙ ap (λ read. read c.args.bits.now) (part_joined (part_layout behind_types c.deref.result.now)))
    c.read_part.ensures

-- the sizes of the types in front

pub read_last_kind-slice_bounds-read_part-end-in-Section : goal.read_last_kind-slice_bounds-read_part-end-in-Section
read_last_kind-slice_bounds-read_part-end-in-Section t c =
    let count = ap length c.requires ∙ length-sizes c.args.earlier.now in
    omega (arith, c.if-place-earlier.false, count, length-take c.in-Section.place c.args.sizes.now)

pub read_last_kind-read_part-requires : goal.read_last_kind-read_part-requires
read_last_kind-read_part-requires t c = (
  omega (arith, length-take c.in-Section.place c.args.earlier.now, c.if-place-earlier.false, c.deref.ensures.1, c.decreases),
  ap (take c.in-Section.place) c.requires ∙ sizes_before c.args.earlier.now c.in-Section.place,
)
