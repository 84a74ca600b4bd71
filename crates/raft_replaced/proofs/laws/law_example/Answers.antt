use Rattle.std.proofs.Common.{refl}
use Rattle.raft_replaced.proofs.Example.{lawful_stood, lawful_stopped, stood, stopped, where_led, where_not_led}
use Rattle.raft_replaced.proofs.laws.law_example.Goals as goal

pub returns : goal.returns
returns c = record { led = (stopped, lawful_stopped, where_led, refl, refl); stood = (stood, lawful_stood, where_not_led, refl, refl) }
