use Rattle.service_elections.proofs.Silence.{nothing_changes}
use Rattle.service_elections.proofs.laws.nothing_changes_in_silence.Goals as goal

pub returns : goal.returns
returns c ids rows members harmless group clocks pace start since m front rest timed before after calm in_m long silent runs runs_then leads_not stands_not =
    nothing_changes c.what_rounds_stand_on.ensures.wins.election.calm ids members rows harmless group
    clocks pace start since m front rest timed calm in_m long silent before after runs runs_then leads_not stands_not
