use Rattle.service_elections.proofs.HeardVotes.{was_asked}
use Rattle.service_elections.proofs.laws.who_votes_was_asked.Goals as goal

pub returns : goal.returns
returns c = let below = c.what_rounds_stand_on.ensures in λ ids rows members harmless group clocks pace start m front rest timed calm in_m gives.
    was_asked below.wins.election.calm ids members (λ list fine. below.requests_read ids list members fine) rows harmless group clocks pace start m front rest
    timed calm in_m gives
