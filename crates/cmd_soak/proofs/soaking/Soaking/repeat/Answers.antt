use Rattle.cmd_soak.specs.Rounds.{draws, drawn}
use Rattle.cmd_soak.proofs.Standing.{drawn_below, drawn_room, drawn_stands, is_number, is_other, is_repeated, not_repeated}
use Rattle.cmd_soak.proofs.soaking.Soaking.repeat.Goals as goal

pub give-requires-clause-room : goal.give-requires-clause-room
give-requires-clause-room g c = drawn_room 1 1 c.args.self.now c.below.new.self c.requires.room c.below.ensures.moved

pub returns-then-below-eq0-clause-stands : goal.returns-then-below-eq0-clause-stands
returns-then-below-eq0-clause-stands g c = λ s is.
    let start = c.args.self.now in
    let number = drawn_below start s 16 c.below.new.self c.below.result is c.below.ensures.moved c.below.ensures.drawn in
    is_repeated c.give.new.self c.args.row.now s (is_number c.below.result (drawn 16 s) 0 number c.if-below-eq0.true)
    (c.give.ensures.stands (draws s) (drawn_stands start s c.below.new.self is c.below.ensures.moved))

pub returns-else-below-eq0-clause-stands : goal.returns-else-below-eq0-clause-stands
returns-else-below-eq0-clause-stands g c = λ s is.
    let start = c.args.self.now in
    let number = drawn_below start s 16 c.below.new.self c.below.result is c.below.ensures.moved c.below.ensures.drawn in
    not_repeated (record start { chance = c.below.new.self }) c.args.row.now s (is_other c.below.result (drawn 16 s) 0 number c.if-below-eq0.false)
    (drawn_stands start s c.below.new.self is c.below.ensures.moved)
