use Rattle.allocatee.proofs.Waits.{asks_in_time}
use Rattle.allocatee.proofs.times.it_asks_within_1000_ms.Goals as goal

pub returns : goal.returns
returns c = λ o before since number now word left free few late. asks_in_time o before since number now word left free few late
