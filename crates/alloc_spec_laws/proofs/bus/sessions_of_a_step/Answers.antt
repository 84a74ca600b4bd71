use Rattle.alloc_spec_laws.proofs.SessionChanges.{after_frame, after_tick}
use Rattle.alloc_spec_laws.proofs.bus.sessions_of_a_step.Goals as goal

pub returns : goal.returns
returns c = let law = c.phases_add_puts.ensures in record {
  frame = after_frame law.ticks law.answers law.ends;
  tick = after_tick law.ticks law.answers law.ends;
}
