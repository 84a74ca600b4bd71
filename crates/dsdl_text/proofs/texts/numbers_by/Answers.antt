use Rattle.dsdl_text.specs.Sections.{part_layout, types_of}
use Rattle.dsdl_text.proofs.Readings.{payload_long, payload_none, payload_some}
use Rattle.dsdl_text.proofs.texts.numbers_by.Goals as goal

pub returns-in_err-rest : goal.returns-in_err-rest
returns-in_err-rest c =
    let part = part_layout (types_of c.args.types.now) c.args.part.now.items in
    let none =
    rw (c.new-numbers.ensures, c.deref.ensures.0, c.deref-2.ensures.0, c.bits_of-bits.ensures) at c.in_err-rest.ensures in
    rw c.from_residual.ensures (payload_none part c.args.payload.now none)

pub returns-then-rest-lt8 : goal.returns-then-rest-lt8
returns-then-rest-lt8 c =
    let part = part_layout (types_of c.args.types.now) c.args.part.now.items in
    let some =
    rw (c.new-numbers.ensures, c.deref.ensures.0, c.deref-2.ensures.0, c.bits_of-bits.ensures) at c.in_ok-rest.ensures in
    payload_some part c.args.payload.now c.read_part.new.numbers.items c.in_ok-rest.rest.now some c.if-rest-lt8.true

pub returns-else-rest-lt8 : goal.returns-else-rest-lt8
returns-else-rest-lt8 c =
    let part = part_layout (types_of c.args.types.now) c.args.part.now.items in
    let some =
    rw (c.new-numbers.ensures, c.deref.ensures.0, c.deref-2.ensures.0, c.bits_of-bits.ensures) at c.in_ok-rest.ensures in
    payload_long part c.args.payload.now c.read_part.new.numbers.items c.in_ok-rest.rest.now some c.if-rest-lt8.false
