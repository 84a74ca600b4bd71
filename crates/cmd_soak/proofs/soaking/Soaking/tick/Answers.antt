use Rattle.std.proofs.Common.{sym, ◌∙◌}
use Rattle.cmd_soak.specs.Rounds.{draws}
use Rattle.cmd_soak.proofs.Standing.{drawn_room, drawn_stands, drawn_word, ticks_not, ticks_now}
use Rattle.cmd_soak.proofs.soaking.Soaking.tick.Goals as goal

pub returns-then-not-shows-clause-stands : goal.returns-then-not-shows-clause-stands
returns-then-not-shows-clause-stands g c = λ s is. ticks_not c.args.self.now c.args.n s (sym (c.shows.ensures s is) ∙ c.if-not-shows.true) is

pub give-requires-clause-room : goal.give-requires-clause-room
give-requires-clause-room g c = drawn_room 1 1 c.args.self.now c.word-word.new.self c.requires.room c.word-word.ensures.moved

pub returns-clause-stands : goal.returns-clause-stands
returns-clause-stands g c = λ s is.
    let moved = c.word-word.ensures.moved in
    ticks_now c.give.new.self c.args.n s _ _ (sym (c.shows.ensures s is) ∙ c.if-not-shows.false) is.moment
    (drawn_word c.args.self.now s c.word-word.new.self c.word-word.result is moved c.word-word.ensures.word)
    (c.give.ensures.stands (draws s) (drawn_stands c.args.self.now s c.word-word.new.self is moved))
