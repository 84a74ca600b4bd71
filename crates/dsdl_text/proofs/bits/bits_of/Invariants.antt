use Rattle.std.proofs.Common.{◌≡◌, ◌*◌, length, take}
use Rattle.dsdl_text.specs.Numbers as numbers
use Rattle.dsdl_text.proofs.bits.bits_of.Given as goal

abbrev pub invariant-loop-byte : goal.invariant-loop-byte
invariant-loop-byte l = record {
  bits : l.bits.items ≡ numbers.bits_of (take l.byte-index l.payload);
  size : length l.bits.items ≡ 8 * l.byte-index;
}
