use Rattle.std.proofs.Common.{◌≡◌}
use Rattle.transfer_rx.specs.Views.{accept_of, setting_of}
use Rattle.bus_tests.proofs.receiver.first_wrong.Given as goal

abbrev pub invariant-loop-place : goal.invariant-loop-place
invariant-loop-place g l = record {
  setting : setting_of l.receiver ≡ setting_of l.fn.receiver;
  accept : accept_of l.receiver ≡ accept_of l.fn.receiver;
}
