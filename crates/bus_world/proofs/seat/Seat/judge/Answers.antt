use Rattle.bus_world.proofs.seat.Seat.judge.Goals as goal

pub judge-requires-clause-memory : goal.judge-requires-clause-memory
judge-requires-clause-memory g c = (c.requires.receives c.in-Some.device c.in-Some.is).memory

pub judge-requires-clause-callable : goal.judge-requires-clause-callable
judge-requires-clause-callable g c = (c.requires.receives c.in-Some.device c.in-Some.is).callable

pub judge-requires-clause-answers : goal.judge-requires-clause-answers
judge-requires-clause-answers g c = (c.requires.receives c.in-Some.device c.in-Some.is).by_rows
