use Rattle.std.proofs.Common.{arith}
use Rattle.service_calm.proofs.CallsInTime.{offers_in_time}
use Rattle.service_calm.proofs.laws.leaders_call_in_time.Goals as goal

pub returns : goal.returns
returns c = λ group clocks pace traffic n m moment due whole w running in_n listed other until calm leads late began ticked long.
    offers_in_time c.members_of_a_step.ensures.stay c.what_is_said_of_a_step.ensures.me c.steps_are_in_time.ensures.calls n m moment
    group clocks pace due late whole traffic w in_n
    (record {
      server = running.server;
      up = record { status = running.runs; quiet = record { faults = running.faults; calls = running.disk } };
      waits = record { listed = listed; other = other; until = until };
    })
    calm leads (omega (arith, began)) ticked long
