use Rattle.alloc_spec.specs.Step.{after_pop}
use Rattle.cmd_node.proofs.Turning.{unchanged}
use Rattle.cmd_node.proofs.runner.Runner.send.Goals as goal

pub returns-in-Err-clause-unsent : goal.returns-in-Err-clause-unsent
returns-in-Err-clause-unsent g c = unchanged (g.L.Link.sent c.args.link.now) (g.L.Link.sent c.send.new.self) c.in-Err.ensures.frames

pub returns-in-Ok-clause-standing : goal.returns-in-Ok-clause-standing
returns-in-Ok-clause-standing g c = λ s. (after_pop s.0, c.pop.ensures.rest s.0 s.1)

pub returns-in-Err-clause-standing : goal.returns-in-Err-clause-standing
returns-in-Err-clause-standing g c = λ s. (after_pop s.0, c.pop.ensures.rest s.0 s.1)

pub returns-in_default-clause-standing : goal.returns-in_default-clause-standing
returns-in_default-clause-standing g c = λ s. (after_pop s.0, c.pop.ensures.rest s.0 s.1)
