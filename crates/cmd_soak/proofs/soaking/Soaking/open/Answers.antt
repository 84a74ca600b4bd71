use Rattle.std.proofs.Common.{sym, ◌∙◌}
use Rattle.cmd_soak.specs.Rounds.{draws}
use Rattle.cmd_soak.proofs.Standing.{drawn_room, drawn_stands, drawn_word, opens_not, opens_now}
use Rattle.cmd_soak.proofs.soaking.Soaking.open.Goals as goal

pub returns-then-shows-clause-stands : goal.returns-then-shows-clause-stands
returns-then-shows-clause-stands g c = λ s is. opens_not c.args.self.now c.args.n s (sym (c.shows.ensures s is) ∙ c.if-shows.true) is

pub give-requires-clause-room : goal.give-requires-clause-room
give-requires-clause-room g c = drawn_room 1 1 c.args.self.now c.word-word.new.self c.requires.room c.word-word.ensures.moved

pub returns-clause-stands : goal.returns-clause-stands
returns-clause-stands g c = λ s is.
    let moved = c.word-word.ensures.moved in
    opens_now c.give.new.self c.args.n s _ _ _ (sym (c.shows.ensures s is) ∙ c.if-shows.false) is.told is.moment
    (drawn_word c.args.self.now s c.word-word.new.self c.word-word.result is moved c.word-word.ensures.word)
    (c.give.ensures.stands (draws s) (drawn_stands c.args.self.now s c.word-word.new.self is moved))
