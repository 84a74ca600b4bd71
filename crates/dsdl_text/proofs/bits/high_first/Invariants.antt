use Rattle.std.proofs.Common.{◌≡◌, ◌<◌, ◌^◌, drop}
use Rattle.dsdl_text.specs.Numbers.{number_onto}
use Rattle.dsdl_text.proofs.bits.high_first.Given as goal

abbrev pub invariant-loop-bit : goal.invariant-loop-bit
invariant-loop-bit l = record {
  value : number_onto 0 l.bits ≡ number_onto l.number (drop l.bit-index l.bits);
  fits : l.number < 2 ^ l.bit-index;
}
