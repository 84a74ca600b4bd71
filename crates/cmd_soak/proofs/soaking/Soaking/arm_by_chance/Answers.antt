use Rattle.cmd_soak.specs.Rounds.{draws, drawn}
use Rattle.cmd_soak.proofs.Standing.{drawn_below, drawn_room, drawn_stands, is_armed, is_number, is_other, not_armed}
use Rattle.cmd_soak.proofs.soaking.Soaking.arm_by_chance.Goals as goal

pub arm-requires-clause-room : goal.arm-requires-clause-room
arm-requires-clause-room g c = drawn_room 1 1 c.args.self.now c.below.new.self c.requires.room c.below.ensures.moved

pub returns-then-below-eq0-clause-stands : goal.returns-then-below-eq0-clause-stands
returns-then-below-eq0-clause-stands g c = λ s is.
    let start = c.args.self.now in
    let number = drawn_below start s 64 c.below.new.self c.below.result is c.below.ensures.moved c.below.ensures.drawn in
    is_armed c.arm.new.self c.args.size s (is_number c.below.result (drawn 64 s) 0 number c.if-below-eq0.true)
    (c.arm.ensures.stands (draws s) (drawn_stands start s c.below.new.self is c.below.ensures.moved))

pub returns-else-below-eq0-clause-stands : goal.returns-else-below-eq0-clause-stands
returns-else-below-eq0-clause-stands g c = λ s is.
    let start = c.args.self.now in
    let number = drawn_below start s 64 c.below.new.self c.below.result is c.below.ensures.moved c.below.ensures.drawn in
    not_armed (record start { chance = c.below.new.self }) c.args.size s (is_other c.below.result (drawn 64 s) 0 number c.if-below-eq0.false)
    (drawn_stands start s c.below.new.self is c.below.ensures.moved)
