use Rattle.std.proofs.Common.{◌≡◌, ◌+◌, ◌%◌, subst}
use Rattle.cmd_io.specs.Draws.{word_at}
use Rattle.bus_rows.specs.declared.row.Row.TheVariants.{Crash}
use Rattle.cmd_soak.specs.Rounds.{draws, gives}
use Rattle.cmd_soak.specs.Soaking.{StandsFor}
use Rattle.cmd_soak.proofs.Standing.{arms_stop, drawn_below, drawn_room, drawn_stands}
use Rattle.cmd_soak.proofs.soaking.Soaking.arm.Goals as goal

pub give-requires-clause-room : goal.give-requires-clause-room
give-requires-clause-room g c =
    let start = c.args.self.now in
    let first = record start { chance = c.below-place.new.self } in
    let second = record start { chance = c.below-call.new.self } in
    drawn_room 1 1 second c.below-byte.new.self (drawn_room 1 1 first c.below-call.new.self (drawn_room 1 1 start c.below-place.new.self c.requires.room
    c.below-place.ensures.moved) c.below-call.ensures.moved) c.below-byte.ensures.moved

pub returns-clause-stands : goal.returns-clause-stands
returns-clause-stands g c = λ s is.
    let start = c.args.self.now in
    let first = record start { chance = c.below-place.new.self } in
    let second = record start { chance = c.below-call.new.self } in
    let is_first = drawn_stands start s c.below-place.new.self is c.below-place.ensures.moved in
    let is_second = drawn_stands first (draws s) c.below-call.new.self is_first c.below-call.ensures.moved in
    let is_third = drawn_stands second (draws (draws s)) c.below-byte.new.self is_second c.below-byte.ensures.moved in
    let place : c.below-place.result ≡ word_at c.below-place.new.self % c.args.size =
    subst (λ b. c.below-place.result ≡ word_at c.below-place.new.self % b) c.from.ensures c.below-place.ensures.drawn in
    arms_stop c.give.new.self c.args.size s c.below-place.result c.below-call.result c.below-byte.result
    (drawn_below start s c.args.size c.below-place.new.self c.below-place.result is c.below-place.ensures.moved place)
    (drawn_below first (draws s) 30 c.below-call.new.self c.below-call.result is_first c.below-call.ensures.moved c.below-call.ensures.drawn)
    (drawn_below second (draws (draws s)) 256 c.below-byte.new.self c.below-byte.result is_second c.below-byte.ensures.moved c.below-byte.ensures.drawn)
    (subst (λ p. StandsFor c.give.new.self (gives (Crash (c.below-place.result + 1) (c.below-call.result + 1) p) (draws (draws (draws s)))))
    c.byte_pattern.ensures (c.give.ensures.stands (draws (draws (draws s))) is_third))
