use Rattle.service_elections.proofs.InStepBelow.{given_of}
use Rattle.service_elections.proofs.Rounds.{leaders_come}
use Rattle.service_elections.proofs.laws.leaders_come.Goals as goal

pub returns : goal.returns
returns c = λ ids rows members harmless. leaders_come ids rows (given_of c.what_rounds_stand_on.ensures ids members rows harmless (record {
  asks = c.who_asks_stands.ensures ids rows members harmless;
  wins_asked = c.who_wins_has_asked.ensures ids rows members harmless;
  votes_asked = c.who_votes_was_asked.ensures ids rows members harmless;
  hears_called = c.who_hears_was_called.ensures ids rows members harmless;
  furthest_wins = c.who_is_furthest_wins.ensures ids rows members harmless;
  top_wins = c.who_wins_at_the_top.ensures ids rows members harmless;
}))
    (c.somebody_stands_or_leads.ensures ids rows members harmless) (c.standers_learn.ensures ids rows members harmless)
