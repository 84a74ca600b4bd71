use Rattle.service_elections.proofs.HeardCalls.{was_called}
use Rattle.service_elections.proofs.laws.who_hears_was_called.Goals as goal

pub returns : goal.returns
returns c = let below = c.what_rounds_stand_on.ensures in λ ids rows members harmless group clocks pace start m front rest timed calm in_m hears.
    was_called below.wins.election.calm ids members (λ list fine. below.calls_read ids list members fine) below.ask rows harmless group
    clocks pace start m front rest timed calm in_m hears
