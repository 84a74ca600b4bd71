use Rattle.std.proofs.Common.{sym, ◌∙◌}
use Rattle.alloc_server.specs.Server.{durable_of, event_of}
use Rattle.cmd_node.specs.Puts.{step_puts}
use Rattle.cmd_node.specs.declared.fault.Fault.TheVariants.{Disk}
use Rattle.cmd_node.proofs.Lists.{on_ok_always}
use Rattle.cmd_node.proofs.Parts.{leaves_at_once}
use Rattle.cmd_node.proofs.Quiet.{unless_failed}
use Rattle.cmd_node.proofs.runner.Runner.take.Goals as goal

pub returns-in-Some-clause-leaves : goal.returns-in-Some-clause-leaves
returns-in-Some-clause-leaves g c = λ t coming sent is.
    leaves_at_once c.args.self.now.server (step_puts (event_of c.args.event) t) (c.a_state_is_durable.ensures (durable_of c.args.self.now.server) is.running.server.works)

pub returns-clause-disk_quiet : goal.returns-clause-disk_quiet
returns-clause-disk_quiet g c = λ other s. unless_failed c.step.result (Disk c.args.self.now.id) c.step.ensures.failed c.step.ensures.quiet other s

pub returns-clause-uncalled : goal.returns-clause-uncalled
returns-clause-uncalled g c = on_ok_always c.step.result (λ t stands. sym (c.another_log.ensures.another t stands) ∙ c.in_default.is)
