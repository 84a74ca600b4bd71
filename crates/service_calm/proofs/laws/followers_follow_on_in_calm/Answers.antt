use Rattle.service_calm.proofs.Calls.{follows_on}
use Rattle.service_calm.proofs.laws.followers_follow_on_in_calm.Goals as goal

pub returns : goal.returns
returns c = λ group clocks pace traffic m moment front rest w since calm may.
    follows_on c.steps_are_in_time.ensures.follows c.followers_follow_on.ensures.frames moment group clocks pace traffic m front rest w since calm may
