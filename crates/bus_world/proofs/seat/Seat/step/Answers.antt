use Rattle.bus_world.proofs.seat.Seat.step.Goals as goal

pub step-outcome-requires-clause-memory : goal.step-outcome-requires-clause-memory
step-outcome-requires-clause-memory g c = (c.requires.receives c.in-Some.device c.in-Some.is).memory

pub step-outcome-requires-clause-callable : goal.step-outcome-requires-clause-callable
step-outcome-requires-clause-callable g c = (c.requires.receives c.in-Some.device c.in-Some.is).callable

pub step-outcome-requires-clause-answers : goal.step-outcome-requires-clause-answers
step-outcome-requires-clause-answers g c = (c.requires.receives c.in-Some.device c.in-Some.is).by_rows
