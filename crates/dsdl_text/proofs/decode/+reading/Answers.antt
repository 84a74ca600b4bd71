use Rattle.std.proofs.Common.{◌≡◌, ◌≤◌, ◌-◌, Some, List, [], ◌∷◌, Bool, take, length, length-take, arith, sym, ◌∙◌, ap, refl}
use Rattle.dsdl_text.specs.Layout.{exactly, joined}
use Rattle.dsdl_text.specs.Numbers.{◌>>=◌, Reading, behind, count_width, read_counted, read_number, reads, read_times, read_void}
use Rattle.dsdl_text.specs.Sections.{kind_layout, part_layout, types_of}
use Rattle.dsdl_text.specs.Sizes.{size_of}
use Rattle.dsdl_text.proofs.Readings.{after_none, after_some, counted, gives_after, gives_is, one_more, times_more, times_none}
use Rattle.dsdl_text.proofs.Sizes.{length-sizes, passed_over, sizes_before}
use Rattle.dsdl_text.proofs.Types.{layout_at, layout_beyond}
use Rattle.dsdl_text.proofs.decode.+reading.Goals as goal

pub read_times-returns-then-count-eq0 : goal.read_times-returns-then-count-eq0
read_times-returns-then-count-eq0 t c =
    gives_is c.keep.result c.args.numbers.now.items c.args.numbers.now.items
    (read_times c.args.count (reads (kind_layout (types_of c.args.earlier.now) c.args.kind)) c.args.bits.now) (Some ([], c.args.bits.now))
    (times_none c.args.count (reads (kind_layout (types_of c.args.earlier.now) c.args.kind)) c.args.bits.now c.if-count-eq0.true)
    c.keep.ensures

pub read_times-returns : goal.read_times-returns
read_times-returns t c =
    let element : List Bool → Reading = reads (kind_layout (types_of c.args.earlier.now) c.args.kind) in
    let same = ap (behind c.args.numbers.now.items) (times_more c.args.count element c.args.bits.now (omega arith))
    ∙ after_some c.args.numbers.now.items c.read_kind.new.numbers.items c.in_ok-bits.bits.now (element c.args.bits.now) (read_times (c.args.count - 1) element) c.in_ok-bits.ensures in
    gives_after c.read_times.result c.args.numbers.now.items c.read_kind.new.numbers.items c.read_times.new.numbers.items
    (read_times c.args.count element c.args.bits.now) (read_times (c.args.count - 1) element c.in_ok-bits.bits.now) same c.read_times.ensures

pub read_times-returns-in_err-bits : goal.read_times-returns-in_err-bits
read_times-returns-in_err-bits t c =
    let element : List Bool → Reading = reads (kind_layout (types_of c.args.earlier.now) c.args.kind) in
    let none = ap (behind c.args.numbers.now.items) (times_more c.args.count element c.args.bits.now (omega arith))
    ∙ after_none c.args.numbers.now.items (element c.args.bits.now) (read_times (c.args.count - 1) element) c.in_err-bits.ensures in
    rw c.from_residual.ensures none

pub read_kind-returns-then-place-earlier : goal.read_kind-returns-then-place-earlier
read_kind-returns-then-place-earlier t c =
    gives_is c.keep.result c.args.numbers.now.items c.args.numbers.now.items
    (reads (kind_layout (types_of c.args.earlier.now) c.args.kind) c.args.bits.now) (Some ([], c.args.bits.now))
    (ap (λ layout. reads layout c.args.bits.now)
    (ap (kind_layout (types_of c.args.earlier.now)) c.in-Section.is ∙ layout_beyond c.args.earlier.now c.in-Section.place c.if-place-earlier.true))
    c.keep.ensures

pub read_kind-returns-else-is_passed_over : goal.read_kind-returns-else-is_passed_over
read_kind-returns-else-is_passed_over t c =
    let behind_types = types_of (take c.in-Section.place c.args.earlier.now) in
    gives_is c.read_fields.result c.args.numbers.now.items c.read_fields.new.numbers.items
    (reads (kind_layout (types_of c.args.earlier.now) c.args.kind) c.args.bits.now)
    (reads (joined (part_layout behind_types c.deref.result.now)) c.args.bits.now)
    (ap (λ layout. reads layout c.args.bits.now)
    (ap (kind_layout (types_of c.args.earlier.now)) c.in-Section.is
    ∙ layout_at c.args.earlier.now c.in-Section.place c.index-earlier-place.result c.if-place-earlier.false
    ∙ ap (λ fields. joined (part_layout behind_types fields)) (sym c.deref.ensures.0)))
    c.read_fields.ensures

pub read_counted-returns-in-Ok : goal.read_counted-returns-in-Ok
read_counted-returns-in-Ok t c =
    let element : List Bool → Reading = reads (kind_layout (types_of c.args.earlier.now) c.args.kind) in
    let read : read_number (count_width c.args.most) c.args.bits.now ≡ Some (c.in_ok-count.count ∷ [], c.in_ok-count.rest.now) =
    ap (λ width. read_number width c.args.bits.now) (sym c.count_width.ensures.value) ∙ c.in_ok-count.ensures in
    let within : c.in_ok-count.count ≤ c.args.most = omega (arith, c.from.ensures) in
    let same = ap (behind c.args.numbers.now.items) (counted c.args.most c.in_ok-count.count (count_width c.args.most) element c.args.bits.now c.in_ok-count.rest.now read within)
    ∙ after_some c.args.numbers.now.items c.try_push.new.self.items c.in_ok-count.rest.now (Some (c.in_ok-count.count ∷ [], c.in_ok-count.rest.now)) (read_times c.in_ok-count.count element)
    (one_more c.args.numbers.now.items c.try_push.new.self.items c.in_ok-count.count c.in_ok-count.rest.now c.in-Ok.ensures.ok (c.in-Ok.ensures.variant.0 refl)) in
    gives_after c.read_times.result c.args.numbers.now.items c.try_push.new.self.items c.read_times.new.numbers.items
    (read_number (count_width c.args.most) c.args.bits.now >>= read_counted c.args.most element) (read_times c.in_ok-count.count element c.in_ok-count.rest.now) same c.read_times.ensures

-- what has no number is passed over

pub read_kind-returns-then-is_passed_over : goal.read_kind-returns-then-is_passed_over
read_kind-returns-then-is_passed_over t c =
    let types = types_of c.args.earlier.now in
    let layout = kind_layout types c.args.kind in
    gives_is c.skip.result c.args.numbers.now.items c.args.numbers.now.items (reads layout c.args.bits.now) (read_void c.size_of_kind-size.result.bits c.args.bits.now)
    (passed_over c.size_of_kind-size.result layout
    (c.size_of_kind-size.ensures types c.requires ∙ ap (λ kind. size_of (kind_layout types kind)) (sym c.in-Section.is)) (c.is_passed_over.ensures.blank c.if-is_passed_over.true)
    (c.is_passed_over.ensures.counted c.if-is_passed_over.true) c.args.bits.now)
    c.skip.ensures

pub read_times-returns-then-is_passed_over : goal.read_times-returns-then-is_passed_over
read_times-returns-then-is_passed_over t c =
    let types = types_of c.args.earlier.now in
    let element = kind_layout types c.args.kind in
    let layout = exactly c.args.count element in
    gives_is c.skip.result c.args.numbers.now.items c.args.numbers.now.items (reads layout c.args.bits.now) (read_void c.times-size.result.bits c.args.bits.now)
    (passed_over c.times-size.result layout (c.times-size.ensures element (c.size_of_kind.ensures types c.requires)) (c.is_passed_over.ensures.blank c.if-is_passed_over.true)
    (c.is_passed_over.ensures.counted c.if-is_passed_over.true) c.args.bits.now)
    c.skip.ensures

-- the sizes of the types in front

pub read_kind-slice_bounds-read_fields-end-in-Section : goal.read_kind-slice_bounds-read_fields-end-in-Section
read_kind-slice_bounds-read_fields-end-in-Section t c =
    let count = ap length c.requires ∙ length-sizes c.args.earlier.now in
    omega (arith, c.if-place-earlier.false, count, length-take c.in-Section.place c.args.sizes.now)

pub read_kind-read_fields-requires : goal.read_kind-read_fields-requires
read_kind-read_fields-requires t c = (
  omega (arith, length-take c.in-Section.place c.args.earlier.now, c.if-place-earlier.false, c.deref.ensures.1, c.decreases),
  ap (take c.in-Section.place) c.requires ∙ sizes_before c.args.earlier.now c.in-Section.place,
)
