use Rattle.raft_model.specs.Runs.{World, initial_world, run}
use Rattle.service_steps.specs.CatchingUp.{AreJoined, two_of}
use Rattle.service_steps.proofs.InRuns.{joined_in}
use Rattle.service_steps.proofs.laws.peers_catch_up_in_runs.Goals as goal

pub returns : goal.returns
returns c = λ members events lawful me you other leads low.
    let world : World = run (initial_world members) events in
    let joined : AreJoined world.members me you (two_of world me you)
    = joined_in world (c.law_every_run.ensures.invariants members events lawful) me you
    (c.law_fit.ensures.run members events me lawful) other leads low in
    (joined, c.peers_catch_up.ensures world.members me you world.steps (two_of world me you) joined)
