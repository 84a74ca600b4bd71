use Rattle.service_elections.proofs.StandingAnewWins.{who_is_furthest_wins}
use Rattle.service_elections.proofs.laws.who_is_furthest_wins.Goals as goal

pub returns : goal.returns
returns c = λ ids rows members harmless. who_is_furthest_wins ids rows (c.who_asks_stands.ensures ids rows members harmless)
    (c.who_wins_has_asked.ensures ids rows members harmless) (c.who_hears_was_called.ensures ids rows members harmless)
    (c.who_stands_alone_wins.ensures ids rows members harmless) (c.what_rounds_stand_on.ensures.wins.rise ids rows)
