use Rattle.std.proofs.Common.{sym, ◌∙◌, arith}
use Rattle.bus_rows.specs.declared.row.Row.TheVariants.{Rx}
use Rattle.cmd_soak.specs.Rounds.{draws, drawn, gives}
use Rattle.cmd_soak.proofs.Growing.{drawn_first, gives_grows}
use Rattle.cmd_soak.proofs.Standing.{drawn_below, drawn_room, drawn_stands, hears_not, hears_now, is_number, is_other, less_room, loses, room_after}
use Rattle.cmd_soak.proofs.soaking.Soaking.hear_frame.Goals as goal

pub returns-then-below-eq0-clause-stands : goal.returns-then-below-eq0-clause-stands
returns-then-below-eq0-clause-stands g c = λ s is.
    let start = c.args.self.now in
    let number = drawn_below start s 16 c.below.new.self c.below.result is c.below.ensures.moved c.below.ensures.drawn in
    loses (record start { chance = c.below.new.self }) c.args.n c.args.k s (is_number c.below.result (drawn 16 s) 0 number c.if-below-eq0.true)
    (drawn_stands start s c.below.new.self is c.below.ensures.moved)

pub returns-then-not-shows-clause-stands : goal.returns-then-not-shows-clause-stands
returns-then-not-shows-clause-stands g c = λ s is.
    let start = c.args.self.now in
    let number = drawn_below start s 16 c.below.new.self c.below.result is c.below.ensures.moved c.below.ensures.drawn in
    let drew = drawn_stands start s c.below.new.self is c.below.ensures.moved in
    hears_not (record start { chance = c.below.new.self }) c.args.n c.args.k s (is_other c.below.result (drawn 16 s) 0 number c.if-below-eq0.false)
    (sym (c.shows.ensures (draws s) drew) ∙ c.if-not-shows.true) drew

pub give-requires-clause-room : goal.give-requires-clause-room
give-requires-clause-room g c =
    less_room 1 2 1 1 (record c.args.self.now { chance = c.below.new.self }) (omega arith) (omega arith)
    (drawn_room 1 2 c.args.self.now c.below.new.self c.requires.room c.below.ensures.moved)

pub repeat-requires-clause-room : goal.repeat-requires-clause-room
repeat-requires-clause-room g c =
    let start = c.args.self.now in
    let row = Rx c.args.n c.args.k start.moment in
    let room = c.requires.room in
    let drew = drawn_stands start room.now c.below.new.self room.stands c.below.ensures.moved in
    room_after start c.give.new.self 1 2 0 1 1 1 room.now (gives row (draws room.now)) (c.give.ensures.stands (draws room.now) drew)
    c.give.ensures.keeps.room room.fits (drawn_first 0 1 room.now (gives row (draws room.now)) (gives_grows row (draws room.now)))
    (omega arith) (omega arith)

pub returns-clause-stands : goal.returns-clause-stands
returns-clause-stands g c = λ s is.
    let start = c.args.self.now in
    let row = Rx c.args.n c.args.k start.moment in
    let number = drawn_below start s 16 c.below.new.self c.below.result is c.below.ensures.moved c.below.ensures.drawn in
    let drew = drawn_stands start s c.below.new.self is c.below.ensures.moved in
    hears_now c.repeat.new.self c.args.n c.args.k s start.moment (is_other c.below.result (drawn 16 s) 0 number c.if-below-eq0.false)
    (sym (c.shows.ensures (draws s) drew) ∙ c.if-not-shows.false) is.moment
    (c.repeat.ensures.stands (gives row (draws s)) (c.give.ensures.stands (draws s) drew))
